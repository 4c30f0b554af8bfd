use Rattle.pass_elide_proof.proofs.EdgeFronts.{are_made, is_itself}
use Rattle.pass_elide_proof.proofs.edges.terminators_stand_at_fronts.Goals as goal

pub returns : goal.returns
returns c = λ e s t term r there stands none. (
  is_itself e s t r term there stands none,
  are_made e s t r term there stands none,
)
