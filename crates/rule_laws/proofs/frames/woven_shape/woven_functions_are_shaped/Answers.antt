use Rattle.rule_laws.proofs.frames.woven_shape.Shaped.{shape_kept}
use Rattle.rule_laws.proofs.frames.woven_shape.woven_functions_are_shaped.Goals as goal

pub returns : goal.returns
returns c = λ w m k f g h keeps. shape_kept w m f g h keeps k
