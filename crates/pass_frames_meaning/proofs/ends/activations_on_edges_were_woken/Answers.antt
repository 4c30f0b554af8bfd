use Rattle.pass_frames_meaning.proofs.ends.Fresh.{step_fresh}
use Rattle.pass_frames_meaning.proofs.ends.FreshHooks.{renewed_keeps_fresh}
use Rattle.pass_frames_meaning.proofs.ends.activations_on_edges_were_woken.Goals as goal

pub returns-clause-step : goal.returns-clause-step
returns-clause-step c = step_fresh

pub returns-clause-hooks : goal.returns-clause-hooks
returns-clause-hooks c = renewed_keeps_fresh
