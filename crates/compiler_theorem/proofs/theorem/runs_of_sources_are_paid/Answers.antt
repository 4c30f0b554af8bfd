use Rattle.compiler_theorem.proofs.theorem.Paying.{runs_paid}
use Rattle.compiler_theorem.proofs.theorem.runs_of_sources_are_paid.Goals as goal

pub returns : goal.returns
returns c = runs_paid
