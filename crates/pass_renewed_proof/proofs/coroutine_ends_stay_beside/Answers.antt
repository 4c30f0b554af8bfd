use Rattle.pass_renewed_proof.proofs.Closing.{ended_beside}
use Rattle.pass_renewed_proof.proofs.Finishing.{finished_beside}
use Rattle.pass_renewed_proof.proofs.coroutine_ends_stay_beside.Goals as goal

pub returns-clause-finished : goal.returns-clause-finished
returns-clause-finished c = finished_beside

pub returns-clause-goes_on : goal.returns-clause-goes_on
returns-clause-goes_on c = λ m flags roots keeps s t beside i result is owns after e.
    ended_beside m flags roots keeps s t beside i result is owns after e
