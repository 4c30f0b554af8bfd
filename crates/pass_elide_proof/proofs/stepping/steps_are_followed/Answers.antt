use Rattle.pass_elide_proof.proofs.StepKinds.{followed}
use Rattle.pass_elide_proof.proofs.stepping.steps_are_followed.Goals as goal

pub returns : goal.returns
returns c = followed
