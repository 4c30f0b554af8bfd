use Rattle.compiler_theorem.proofs.ends.Asked.{ends_kept}
use Rattle.compiler_theorem.proofs.ends.sources_keep_rules_of_ends.Goals as goal

pub returns : goal.returns
returns c = ends_kept
