use Rattle.pass_elide.proofs.Unchanged.{function-stays}
use Rattle.pass_elide.proofs.laws.functions_that_give_no_frame_stay.Goals as goal

pub returns : goal.returns
returns c = function-stays
