use Rattle.rule_laws.proofs.frames.woven_shape.Shaped.{edges_kept}
use Rattle.rule_laws.proofs.frames.woven_shape.woven_suspends_have_own_edges.Goals as goal

pub returns : goal.returns
returns c = λ w m k f g h keeps. edges_kept w m f g h keeps k
