use Rattle.pass_elide_proof.proofs.SlotStates.{slots_lead_in_runs, slots_lead_on}
use Rattle.pass_elide_proof.proofs.slots.slots_lead_to_blocks.Goals as goal

pub returns-clause-step : goal.returns-clause-step
returns-clause-step c = slots_lead_on

pub returns-clause-runs : goal.returns-clause-runs
returns-clause-runs c = slots_lead_in_runs
