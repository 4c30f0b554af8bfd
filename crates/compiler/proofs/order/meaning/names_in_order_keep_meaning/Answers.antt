use Rattle.compiler.proofs.order.meaning.Main.{order_agrees}
use Rattle.compiler.proofs.order.meaning.names_in_order_keep_meaning.Goals as goal

pub returns : goal.returns
returns c = order_agrees
