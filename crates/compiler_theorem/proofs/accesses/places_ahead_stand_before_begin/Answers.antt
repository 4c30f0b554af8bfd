use Rattle.compiler_theorem.proofs.accesses.Places.{place_before}
use Rattle.compiler_theorem.proofs.accesses.places_ahead_stand_before_begin.Goals as goal

pub returns : goal.returns
returns c = λ l low few a anew r entered func block at i coroutine there ahead reached.
    place_before l low few a anew r entered func coroutine block at i there ahead reached
