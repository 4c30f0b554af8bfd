use Rattle.pass_elide_edges.proofs.GivenStays.{were_given}
use Rattle.pass_elide_edges.proofs.apart.given_frames_were_given.Goals as goal

pub returns : goal.returns
returns c = were_given
