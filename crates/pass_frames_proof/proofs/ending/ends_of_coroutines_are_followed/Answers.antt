use Rattle.pass_frames_proof.proofs.ending.Ends.{ramp_end_followed, resumed_end_followed}
use Rattle.pass_frames_proof.proofs.ending.ends_of_coroutines_are_followed.Goals as goal

pub returns-clause-resumed : goal.returns-clause-resumed
returns-clause-resumed c = resumed_end_followed

pub returns-clause-ramps : goal.returns-clause-ramps
returns-clause-ramps c = ramp_end_followed
