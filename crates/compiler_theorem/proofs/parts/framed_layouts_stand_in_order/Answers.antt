use Rattle.compiler_theorem.proofs.parts.Ordered.{framed_in_order}
use Rattle.compiler_theorem.proofs.parts.framed_layouts_stand_in_order.Goals as goal

pub returns : goal.returns
returns c = framed_in_order
