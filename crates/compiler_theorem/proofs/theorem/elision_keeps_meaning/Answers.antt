use Rattle.compiler_theorem.proofs.theorem.Elided.{elides_calls}
use Rattle.compiler_theorem.proofs.theorem.elision_keeps_meaning.Goals as goal

pub returns : goal.returns
returns g c = elides_calls g.Q.RelatesElided.elided g.Q.RelatesElided.eliding
