use Rattle.compiler_theorem.proofs.apart.Started.{started_apart}
use Rattle.compiler_theorem.proofs.apart.slots_that_start_lie_apart.Goals as goal

pub returns : goal.returns
returns c = λ l low few a anew r entered n s beside sized sound coroutine must_tail ty size u name marker i x own there
    here. started_apart l low few a anew r entered n s beside sized sound coroutine must_tail ty size u name marker i x
    own there here
