use Rattle.pass_early_proof.proofs.early.save_states.Actions.{action_saved}
use Rattle.pass_early_proof.proofs.early.save_states.actions_are_kept.Goals as goal

pub returns : goal.returns
returns c = action_saved
