use Rattle.rule_laws.proofs.frames.woven_shape.Shaped.{suspends_kept}
use Rattle.rule_laws.proofs.frames.woven_shape.suspends_stay_in_woven_functions.Goals as goal

pub returns : goal.returns
returns c = suspends_kept
