use Rattle.pass_renewed_proof.proofs.LateAllocas.{late_slot}
use Rattle.pass_renewed_proof.proofs.late_allocas_stay_beside.Goals as goal

pub returns : goal.returns
returns c = λ m flags roots keeps s t beside a ty align is small marked i x own there func.
    late_slot m flags roots keeps s t beside a ty align is small marked i x own there func
