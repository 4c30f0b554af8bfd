use Rattle.std.proofs.Common.{ℕ}
use Rattle.frame_conflicts.specs.Parts.{NarrowAt}
use Rattle.frame_conflicts.specs.Pairs.{AreUpTo}
use Rattle.frame_conflicts.proofs.parts.push_row.Given as goal

abbrev pub invariant-loop-other : goal.invariant-loop-other
invariant-loop-other l = AreUpTo (NarrowAt l.function) l.one l.other l.pairs
