use Rattle.compiler.proofs.whole.printed_order.Main.{order_corresponds}
use Rattle.compiler.proofs.whole.printed_order.names_in_order_keep_states.Goals as goal

pub returns : goal.returns
returns c = order_corresponds
