use Rattle.compiler.proofs.order.rules.Modules.{order_breaks_none}
use Rattle.compiler.proofs.order.rules.names_in_order_break_no_rule.Goals as goal

pub returns : goal.returns
returns c = order_breaks_none
