use Rattle.pass_frames_meaning.proofs.order.Wheres.{wheres_in_order}
use Rattle.pass_frames_meaning.proofs.order.names_of_accesses_are_in_order.Goals as goal

pub returns : goal.returns
returns c = wheres_in_order
