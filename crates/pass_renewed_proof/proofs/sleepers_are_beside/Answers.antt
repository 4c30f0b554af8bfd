use Rattle.pass_renewed_proof.proofs.Sleeping.{done_beside, sleeper_beside}
use Rattle.pass_renewed_proof.proofs.sleepers_are_beside.Goals as goal

pub returns-clause-found : goal.returns-clause-found
returns-clause-found c = sleeper_beside

pub returns-clause-done : goal.returns-clause-done
returns-clause-done c = λ m flags roots keeps s t beside i result giving g h code p q stands after e.
    done_beside m flags roots s t beside keeps i result giving g h code p q stands after e
