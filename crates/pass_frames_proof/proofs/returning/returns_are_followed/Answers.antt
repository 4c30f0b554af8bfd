use Rattle.pass_frames_proof.proofs.returning.Last.{last_followed}
use Rattle.pass_frames_proof.proofs.returning.Ramps.{ramp_return_followed}
use Rattle.pass_frames_proof.proofs.returning.Returns.{other_return_followed}
use Rattle.pass_frames_proof.proofs.returning.returns_are_followed.Goals as goal

pub returns-clause-others : goal.returns-clause-others
returns-clause-others c = other_return_followed

pub returns-clause-ramps : goal.returns-clause-ramps
returns-clause-ramps c = ramp_return_followed

pub returns-clause-run : goal.returns-clause-run
returns-clause-run c = last_followed
