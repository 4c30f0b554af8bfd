use Rattle.compiler_theorem.proofs.ends.Asked.{edges_kept}
use Rattle.compiler_theorem.proofs.ends.sources_keep_rules_of_edges.Goals as goal

pub returns : goal.returns
returns c = edges_kept
