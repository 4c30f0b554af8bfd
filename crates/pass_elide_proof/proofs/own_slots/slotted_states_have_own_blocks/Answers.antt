use Rattle.pass_elide_proof.proofs.UnownedSlots.{own_blocks}
use Rattle.pass_elide_proof.proofs.own_slots.slotted_states_have_own_blocks.Goals as goal

pub returns : goal.returns
returns c = own_blocks
