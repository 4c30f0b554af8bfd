use Rattle.pass_renewed_proof.proofs.OtherAllocas.{instance_slot, own_slot}
use Rattle.pass_renewed_proof.proofs.other_allocas_stay_beside.Goals as goal

pub returns-clause-own : goal.returns-clause-own
returns-clause-own c = λ m flags roots keeps s t beside a ty align is small marked.
    own_slot m flags roots keeps s t beside a ty align is small marked

pub returns-clause-instance : goal.returns-clause-instance
returns-clause-instance c = λ m flags roots keeps s t beside a ty align is small marked i x y at there off.
    instance_slot m flags roots keeps s t beside a ty align is small marked i x y at there off
