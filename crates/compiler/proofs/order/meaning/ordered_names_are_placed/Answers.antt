use Rattle.compiler.proofs.order.meaning.Placed.{ordered_placed}
use Rattle.compiler.proofs.order.meaning.ordered_names_are_placed.Goals as goal

pub returns : goal.returns
returns c = ordered_placed
