use Rattle.std.proofs.Common.{None}
use Rattle.pass_renewed_proof.proofs.Giving.{gives_beside}
use Rattle.pass_renewed_proof.proofs.Leaving.{running_beside}
use Rattle.pass_renewed_proof.proofs.resumers_stay_beside.Goals as goal
use Rattle.pass_kept_proof.specs.run_memory.declared.pointer.Value.{Value}
use Rattle.pass_kept_proof.specs.run_source.State.{next}

pub returns : goal.returns
returns c = λ m flags roots keeps s t beside i giving n x y there suspended there'.
    running_beside m flags roots (next s) (next t) (gives_beside m flags roots keeps s t beside i None giving
    Value.Poison Value.Poison tt) n x y there suspended there'
