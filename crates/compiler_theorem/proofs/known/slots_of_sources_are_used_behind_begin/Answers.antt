use Rattle.compiler_theorem.proofs.known.Unused.{slots_behind}
use Rattle.compiler_theorem.proofs.known.slots_of_sources_are_used_behind_begin.Goals as goal

pub returns : goal.returns
returns c = slots_behind
