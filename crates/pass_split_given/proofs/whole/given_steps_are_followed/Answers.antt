use Rattle.pass_split_given.proofs.Runs.{given_step_followed}
use Rattle.pass_split_given.proofs.whole.given_steps_are_followed.Goals as goal

pub returns : goal.returns
returns c = given_step_followed
