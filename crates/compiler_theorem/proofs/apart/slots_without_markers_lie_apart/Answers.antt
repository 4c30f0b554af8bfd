use Rattle.compiler_theorem.proofs.apart.Made.{made_apart}
use Rattle.compiler_theorem.proofs.apart.slots_without_markers_lie_apart.Goals as goal

pub returns : goal.returns
returns c = λ l low few a anew r entered n s beside sized sound coroutine name align ty alloca i x own there.
    made_apart l low few a anew r entered n s beside sized sound coroutine name align ty alloca i x own there
