use Rattle.run_slots.proofs.Steps.{states_slotted, step_slotted}
use Rattle.run_slots.proofs.slots_of_steps_stay.Goals as goal

pub returns-clause-step : goal.returns-clause-step
returns-clause-step c = λ h s keeps k. step_slotted h keeps s k

pub returns-clause-runs : goal.returns-clause-runs
returns-clause-runs c = λ h entry args n keeps. states_slotted h keeps entry args n
