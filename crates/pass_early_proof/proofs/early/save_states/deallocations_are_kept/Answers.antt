use Rattle.pass_early_proof.proofs.early.save_states.Acts.{deallocate_saved}
use Rattle.pass_early_proof.proofs.early.save_states.deallocations_are_kept.Goals as goal

pub returns : goal.returns
returns c = deallocate_saved
