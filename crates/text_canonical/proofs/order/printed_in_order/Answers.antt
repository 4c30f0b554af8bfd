use Rattle.text_canonical.proofs.order.Modules.{stands_in_order}
use Rattle.text_canonical.proofs.order.printed_in_order.Goals as goal

pub returns : goal.returns
returns c = stands_in_order
