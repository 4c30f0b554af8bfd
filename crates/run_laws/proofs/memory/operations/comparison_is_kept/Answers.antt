use Rattle.run_laws.proofs.memory.Comparisons.{comparisons_kept}
use Rattle.run_laws.proofs.memory.operations.comparison_is_kept.Goals as goal

pub returns : goal.returns
returns c = comparisons_kept
