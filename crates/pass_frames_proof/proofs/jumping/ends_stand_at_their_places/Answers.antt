use Rattle.pass_frames_proof.proofs.jumping.Places.{ends_there, front_there}
use Rattle.pass_frames_proof.proofs.jumping.ends_stand_at_their_places.Goals as goal

pub returns-clause-ends : goal.returns-clause-ends
returns-clause-ends c = ends_there

pub returns-clause-fronts : goal.returns-clause-fronts
returns-clause-fronts c = front_there
