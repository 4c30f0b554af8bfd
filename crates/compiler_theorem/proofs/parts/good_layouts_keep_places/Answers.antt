use Rattle.compiler_theorem.proofs.parts.Found.{laid_found, promise_found}
use Rattle.compiler_theorem.proofs.parts.good_layouts_keep_places.Goals as goal

pub returns-clause-promise : goal.returns-clause-promise
returns-clause-promise c = promise_found

pub returns-clause-laid : goal.returns-clause-laid
returns-clause-laid c = λ m ls good bytes k f there coroutine. laid_found m ls good k f there coroutine
    (bytes k f there coroutine)
