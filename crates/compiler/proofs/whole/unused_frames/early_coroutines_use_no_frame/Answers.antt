use Rattle.compiler.proofs.whole.lowered_sources.Sources.{early_unused}
use Rattle.compiler.proofs.whole.unused_frames.early_coroutines_use_no_frame.Goals as goal

pub returns : goal.returns
returns c = early_unused
