use Rattle.compiler_theorem.proofs.apart.Conflicts.{conflict_apart}
use Rattle.compiler_theorem.proofs.apart.slots_that_conflict_lie_apart.Goals as goal

pub returns : goal.returns
returns c = λ l low a r func coroutine. conflict_apart l low a r func coroutine
