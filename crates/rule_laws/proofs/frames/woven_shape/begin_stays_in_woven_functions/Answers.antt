use Rattle.rule_laws.proofs.frames.woven_shape.Shaped.{begin_kept}
use Rattle.rule_laws.proofs.frames.woven_shape.begin_stays_in_woven_functions.Goals as goal

pub returns : goal.returns
returns c = begin_kept
