use Rattle.pass_frames_steps.proofs.asking.Given.{asked}
use Rattle.pass_frames_steps.proofs.asking.asked_values_are_given.Goals as goal

pub returns : goal.returns
returns c = asked
