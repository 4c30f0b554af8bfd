use Rattle.rule_laws.proofs.frames.woven_shape.Shaped.{begun_kept}
use Rattle.rule_laws.proofs.frames.woven_shape.woven_functions_have_begun.Goals as goal

pub returns : goal.returns
returns c = λ w m k f g h keeps. begun_kept w m f g h keeps k
