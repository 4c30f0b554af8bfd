use Rattle.pass_renewed_proof.proofs.RampSlots.{no_ramp_slot, renewed_ramp_slot, same_ramp_slot}
use Rattle.pass_renewed_proof.proofs.renewed_slots_are_ramp_slots.Goals as goal

pub returns-clause-first : goal.returns-clause-first
returns-clause-first c = no_ramp_slot

pub returns-clause-second : goal.returns-clause-second
returns-clause-second c = renewed_ramp_slot

pub returns-clause-others : goal.returns-clause-others
returns-clause-others c = same_ramp_slot
