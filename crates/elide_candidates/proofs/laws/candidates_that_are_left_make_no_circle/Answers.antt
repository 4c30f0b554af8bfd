use Rattle.elide_candidates.proofs.Circles.{no-circle}
use Rattle.elide_candidates.proofs.laws.candidates_that_are_left_make_no_circle.Goals as goal

pub returns : goal.returns
returns c = no-circle
