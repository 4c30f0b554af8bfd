use Rattle.compiler_theorem.proofs.made.Early.{early_made}
use Rattle.compiler_theorem.proofs.made.slots_used_before_begin_are_made.Goals as goal

pub returns : goal.returns
returns c = early_made
