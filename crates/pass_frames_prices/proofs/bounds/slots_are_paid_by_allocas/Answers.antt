use Rattle.pass_frames_prices.proofs.bounds.Slots.{slots_paid}
use Rattle.pass_frames_prices.proofs.bounds.slots_are_paid_by_allocas.Goals as goal

pub returns : goal.returns
returns c = slots_paid
