use Rattle.run_laws.proofs.embedded.SlotDeaths.{slots_carried}
use Rattle.run_laws.proofs.embedded.slot_deaths_are_carried.Goals as goal

pub returns : goal.returns
returns c = slots_carried
