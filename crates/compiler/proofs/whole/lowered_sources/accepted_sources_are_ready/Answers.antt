use Rattle.compiler.proofs.whole.lowered_sources.Row.{is_ready}
use Rattle.compiler.proofs.whole.lowered_sources.accepted_sources_are_ready.Goals as goal

pub returns : goal.returns
returns c = is_ready
