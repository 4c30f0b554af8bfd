use Rattle.pass_proofs.proofs.frames.begin_order.Sizes.{held_sized}
use Rattle.pass_proofs.proofs.frames.begin_order.held_sizes_are_words.Goals as goal

pub returns : goal.returns
returns c = held_sized
