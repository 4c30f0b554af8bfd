use Rattle.frame_conflicts.specs.Known.{IsFrameAt}
use Rattle.frame_conflicts.specs.Parts.{AreBelow}
use Rattle.frame_conflicts.proofs.parts.frame_slots.Given as goal

abbrev pub invariant-loop-at : goal.invariant-loop-at
invariant-loop-at l = AreBelow (IsFrameAt l.function) l.at l.all
