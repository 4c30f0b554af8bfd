use Rattle.pass_split_proof.proofs.steps.Slots.{blocks_related, slot_related}
use Rattle.pass_split_proof.proofs.steps.blocks_leave_states_related.Goals as goal

pub returns-clause-block : goal.returns-clause-block
returns-clause-block c = blocks_related

pub returns-clause-slot : goal.returns-clause-slot
returns-clause-slot c = slot_related
