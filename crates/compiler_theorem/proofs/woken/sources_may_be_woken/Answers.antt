use Rattle.compiler_theorem.proofs.woken.Keeping.{waking_kept}
use Rattle.compiler_theorem.proofs.woken.sources_may_be_woken.Goals as goal

pub returns : goal.returns
returns c = waking_kept
