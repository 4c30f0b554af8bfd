use Rattle.pass_frames_meaning.proofs.framed.Renewed.{renewed_keeps_held, renewed_states_held}
use Rattle.pass_frames_meaning.proofs.framed.Steps.{step_held}
use Rattle.pass_frames_meaning.proofs.framed.frames_stay_held.Goals as goal

pub returns-clause-step : goal.returns-clause-step
returns-clause-step c = step_held

pub returns-clause-hooks : goal.returns-clause-hooks
returns-clause-hooks c = renewed_keeps_held

pub returns-clause-renewed : goal.returns-clause-renewed
returns-clause-renewed c = renewed_states_held
