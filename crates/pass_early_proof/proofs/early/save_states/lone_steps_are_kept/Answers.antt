use Rattle.pass_early_proof.proofs.early.save_states.Performs.{step_kept}
use Rattle.pass_early_proof.proofs.early.save_states.lone_steps_are_kept.Goals as goal

pub returns : goal.returns
returns c = step_kept
