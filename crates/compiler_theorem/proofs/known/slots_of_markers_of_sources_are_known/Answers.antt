use Rattle.compiler_theorem.proofs.known.InFrames.{marks_left}
use Rattle.compiler_theorem.proofs.known.slots_of_markers_of_sources_are_known.Goals as goal

pub returns : goal.returns
returns c = λ l low few a anew r entered n t built runs coroutine starts left.
    marks_left l low few a anew r entered n t built coroutine runs starts left
