use Rattle.compiler_theorem.proofs.kinds.Whole.{kinds_kept}
use Rattle.compiler_theorem.proofs.kinds.sources_keep_kinds.Goals as goal

pub returns : goal.returns
returns c = kinds_kept
