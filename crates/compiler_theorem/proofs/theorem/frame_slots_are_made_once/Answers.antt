use Rattle.std.proofs.Common.{[]}
use Rattle.compiler_theorem.proofs.theorem.frame_slots_are_made_once.Goals as goal
use Rattle.compiler_theorem.proofs.theorem.shown.Fields.{frame_unflagged}

pub returns : goal.returns
returns c = λ l low a anew func is v frame. frame_unflagged l low [] func is a anew v frame
