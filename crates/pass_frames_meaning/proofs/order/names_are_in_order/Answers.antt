use Rattle.pass_frames_meaning.proofs.order.Order.{names_in_order}
use Rattle.pass_frames_meaning.proofs.order.names_are_in_order.Goals as goal

pub returns : goal.returns
returns c = names_in_order
