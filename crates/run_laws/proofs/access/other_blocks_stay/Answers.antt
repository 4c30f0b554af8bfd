use Rattle.run_laws.proofs.access.Blocks.{others_left, slots_left}
use Rattle.run_laws.proofs.access.other_blocks_stay.Goals as goal

pub returns-clause-step : goal.returns-clause-step
returns-clause-step c = others_left

pub returns-clause-slots : goal.returns-clause-slots
returns-clause-slots c = slots_left
