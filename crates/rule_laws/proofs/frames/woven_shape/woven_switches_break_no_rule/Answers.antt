use Rattle.rule_laws.proofs.frames.woven_shape.Shaped.{switches_kept}
use Rattle.rule_laws.proofs.frames.woven_shape.woven_switches_break_no_rule.Goals as goal

pub returns : goal.returns
returns c = λ w m k f g h keeps. switches_kept w m f g h keeps k
