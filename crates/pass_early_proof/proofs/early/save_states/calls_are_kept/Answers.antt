use Rattle.pass_early_proof.proofs.early.save_states.Calls.{enter_saved}
use Rattle.pass_early_proof.proofs.early.save_states.calls_are_kept.Goals as goal

pub returns : goal.returns
returns c = enter_saved
