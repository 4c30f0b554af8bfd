use Rattle.std.proofs.Common.{ℕ}
use Rattle.frame_conflicts.specs.Conflicts.{ConflictAt}
use Rattle.frame_conflicts.specs.Pairs.{AreUpTo}
use Rattle.frame_conflicts.proofs.answer.push_row.Given as goal

abbrev pub invariant-loop-other : goal.invariant-loop-other
invariant-loop-other l = AreUpTo (ConflictAt l.function) l.one l.other l.pairs
