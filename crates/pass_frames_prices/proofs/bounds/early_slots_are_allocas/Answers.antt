use Rattle.pass_frames_prices.proofs.bounds.Early.{early_few}
use Rattle.pass_frames_prices.proofs.bounds.early_slots_are_allocas.Goals as goal

pub returns : goal.returns
returns c = early_few
