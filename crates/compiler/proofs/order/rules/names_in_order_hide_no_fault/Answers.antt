use Rattle.compiler.proofs.order.rules.Modules.{order_hides_none}
use Rattle.compiler.proofs.order.rules.names_in_order_hide_no_fault.Goals as goal

pub returns : goal.returns
returns c = order_hides_none
