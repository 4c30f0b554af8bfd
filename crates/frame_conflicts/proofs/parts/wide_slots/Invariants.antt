use Rattle.frame_conflicts.specs.Parts.{AreBelow, IsWideAt}
use Rattle.frame_conflicts.proofs.parts.wide_slots.Given as goal

abbrev pub invariant-loop-at : goal.invariant-loop-at
invariant-loop-at l = AreBelow (IsWideAt l.function) l.at l.all
