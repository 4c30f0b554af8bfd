use Rattle.pass_early_proof.proofs.early.save_states.Calls.{return_saved}
use Rattle.pass_early_proof.proofs.early.save_states.returns_are_kept.Goals as goal

pub returns : goal.returns
returns c = return_saved
