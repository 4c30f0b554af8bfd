use Rattle.compiler.proofs.whole.cleanable_sources.Sources.{sources_cleanable}
use Rattle.compiler.proofs.whole.cleanable_sources.accepted_sources_are_cleanable.Goals as goal

pub returns : goal.returns
returns c = sources_cleanable
