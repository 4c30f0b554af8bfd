use Rattle.pass_frames_proof.proofs.ramps.Markers.{new_unmarked, none_marked}
use Rattle.pass_frames_proof.proofs.ramps.markers_are_of_ramp_slots.Goals as goal

pub returns-clause-others : goal.returns-clause-others
returns-clause-others c = none_marked

pub returns-clause-new : goal.returns-clause-new
returns-clause-new c = new_unmarked
