use Rattle.pass_elide_proof.proofs.Returns.{returns_beside, runs_return}
use Rattle.pass_elide_proof.proofs.returning.returns_stay_beside.Goals as goal

pub returns-clause-caller : goal.returns-clause-caller
returns-clause-caller c = returns_beside

pub returns-clause-run : goal.returns-clause-run
returns-clause-run c = runs_return
