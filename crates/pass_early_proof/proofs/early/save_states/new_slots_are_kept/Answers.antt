use Rattle.pass_early_proof.proofs.early.save_states.Acts.{new_slot_saved}
use Rattle.pass_early_proof.proofs.early.save_states.new_slots_are_kept.Goals as goal

pub returns : goal.returns
returns c = new_slot_saved
