use Rattle.compiler_theorem.proofs.apart.EarlyApart.{copied_apart}
use Rattle.compiler_theorem.proofs.apart.slots_copied_at_begin_lie_apart.Goals as goal

pub returns : goal.returns
returns c = copied_apart
