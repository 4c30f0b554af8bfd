use Rattle.compiler_theorem.proofs.woken.Rooted.{roots_told}
use Rattle.compiler_theorem.proofs.woken.roots_tell_of_distances.Goals as goal

pub returns : goal.returns
returns c = roots_told
