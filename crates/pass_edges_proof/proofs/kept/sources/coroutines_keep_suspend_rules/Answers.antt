use Rattle.pass_edges_proof.proofs.kept.sources.Windows.{coroutine_keeps}
use Rattle.pass_edges_proof.proofs.kept.sources.coroutines_keep_suspend_rules.Goals as goal

pub returns : goal.returns
returns c = coroutine_keeps
