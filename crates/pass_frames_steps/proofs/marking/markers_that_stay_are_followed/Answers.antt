use Rattle.pass_frames_steps.proofs.marking.Kept.{kept_marker_followed, other_marker_followed}
use Rattle.pass_frames_steps.proofs.marking.markers_that_stay_are_followed.Goals as goal

pub returns-clause-other : goal.returns-clause-other
returns-clause-other c = other_marker_followed

pub returns-clause-ramp : goal.returns-clause-ramp
returns-clause-ramp c = kept_marker_followed
