use Rattle.pass_elide_proof.proofs.EdgeMeeting.{meets}
use Rattle.pass_elide_proof.proofs.edges.ways_meet.Goals as goal

pub returns : goal.returns
returns c = λ e s t r label to alike at. meets e s t r alike label to at
