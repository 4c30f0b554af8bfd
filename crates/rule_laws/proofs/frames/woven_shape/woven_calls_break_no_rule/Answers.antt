use Rattle.rule_laws.proofs.frames.woven_shape.Shaped.{calls_kept}
use Rattle.rule_laws.proofs.frames.woven_shape.woven_calls_break_no_rule.Goals as goal

pub returns : goal.returns
returns c = λ w m k f g h keeps. calls_kept w m f g h keeps k
