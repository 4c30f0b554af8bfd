use Rattle.pass_frames_proof.proofs.ramps.Called.{other_ramps_followed, ramps_followed}
use Rattle.pass_frames_proof.proofs.ramps.calls_of_ramps_are_followed.Goals as goal

pub returns-clause-coroutines : goal.returns-clause-coroutines
returns-clause-coroutines c = ramps_followed

pub returns-clause-others : goal.returns-clause-others
returns-clause-others c = other_ramps_followed
