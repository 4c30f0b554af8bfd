use Rattle.pass_frames_meaning.proofs.framed.AllocaHooks.{marks_apart, renewed_keeps_allocas, runs_hold_frames}
use Rattle.pass_frames_meaning.proofs.framed.AllocaHooks.{runs_mark_no_frame}
use Rattle.pass_frames_meaning.proofs.framed.AllocaSteps.{step_allocas}
use Rattle.pass_frames_meaning.proofs.framed.markers_mark_no_frame.Goals as goal

pub returns-clause-step : goal.returns-clause-step
returns-clause-step c = step_allocas

pub returns-clause-hooks : goal.returns-clause-hooks
returns-clause-hooks c = renewed_keeps_allocas

pub returns-clause-marks : goal.returns-clause-marks
returns-clause-marks c = marks_apart

pub returns-clause-renewed : goal.returns-clause-renewed
returns-clause-renewed c = runs_mark_no_frame

pub returns-clause-frames : goal.returns-clause-frames
returns-clause-frames c = runs_hold_frames
