use Rattle.pass_early_proof.proofs.early.save_states.Suspends.{save_for_saved}
use Rattle.pass_early_proof.proofs.early.save_states.saves_are_kept.Goals as goal

pub returns : goal.returns
returns c = save_for_saved
