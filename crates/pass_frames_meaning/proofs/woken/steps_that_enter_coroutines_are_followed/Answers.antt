use Rattle.pass_frames_meaning.proofs.woken.Entered.{enters_all}
use Rattle.pass_frames_meaning.proofs.woken.steps_that_enter_coroutines_are_followed.Goals as goal

pub returns : goal.returns
returns c = enters_all
