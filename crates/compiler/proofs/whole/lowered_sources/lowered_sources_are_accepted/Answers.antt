use Rattle.compiler.proofs.whole.lowered_sources.Row.{all_accepted}
use Rattle.compiler.proofs.whole.lowered_sources.lowered_sources_are_accepted.Goals as goal

pub returns : goal.returns
returns c = all_accepted
