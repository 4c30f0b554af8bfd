use Rattle.compiler_theorem.proofs.theorem.Asked.{asked_kept}
use Rattle.compiler_theorem.proofs.theorem.sources_keep_rules_of_frames.Goals as goal

pub returns : goal.returns
returns c = asked_kept
