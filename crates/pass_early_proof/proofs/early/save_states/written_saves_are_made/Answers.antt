use Rattle.pass_early_proof.proofs.early.save_states.Suspends.{written_save_saved}
use Rattle.pass_early_proof.proofs.early.save_states.written_saves_are_made.Goals as goal

pub returns : goal.returns
returns c = written_save_saved
