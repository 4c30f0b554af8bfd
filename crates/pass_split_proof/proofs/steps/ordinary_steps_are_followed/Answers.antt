use Rattle.pass_split_proof.proofs.steps.Followed.{ordinary_followed}
use Rattle.pass_split_proof.proofs.steps.ordinary_steps_are_followed.Goals as goal

pub returns : goal.returns
returns c = ordinary_followed
