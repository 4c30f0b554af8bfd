use Rattle.compiler.proofs.whole.printed_order.Printed.{printed_agrees}
use Rattle.compiler.proofs.whole.printed_order.printed_names_keep_meaning.Goals as goal

pub returns : goal.returns
returns c = printed_agrees
