use Rattle.std.proofs.Common.{◌≤◌}
use Rattle.frame_conflicts.specs.Parts.{NarrowAt}
use Rattle.frame_conflicts.specs.Pairs.{AreUpTo}
use Rattle.frame_conflicts.proofs.parts.push_slots.Given as goal

abbrev pub invariant-loop-one : goal.invariant-loop-one
invariant-loop-one l = (l.start ≤ l.one) × AreUpTo (NarrowAt l.function) l.one 0 l.pairs
