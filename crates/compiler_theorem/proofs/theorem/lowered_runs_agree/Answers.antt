use Rattle.compiler_theorem.proofs.theorem.Whole.{runs_kept}
use Rattle.compiler_theorem.proofs.theorem.lowered_runs_agree.Goals as goal

pub returns : goal.returns
returns c = runs_kept
