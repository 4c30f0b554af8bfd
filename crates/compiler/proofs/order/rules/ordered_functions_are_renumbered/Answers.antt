use Rattle.compiler.proofs.order.rules.Ordered.{ordered}
use Rattle.compiler.proofs.order.rules.ordered_functions_are_renumbered.Goals as goal

pub returns : goal.returns
returns c = ordered
