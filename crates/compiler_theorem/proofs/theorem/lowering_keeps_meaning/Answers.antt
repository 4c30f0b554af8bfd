use Rattle.compiler_theorem.proofs.theorem.Whole.{keeps_meaning}
use Rattle.compiler_theorem.proofs.theorem.lowering_keeps_meaning.Goals as goal

pub returns : goal.returns
returns c = keeps_meaning
