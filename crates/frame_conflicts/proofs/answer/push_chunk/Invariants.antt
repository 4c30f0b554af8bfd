use Rattle.std.proofs.Common.{◌≤◌}
use Rattle.frame_conflicts.specs.Conflicts.{ConflictAt}
use Rattle.frame_conflicts.specs.Pairs.{AreUpTo}
use Rattle.frame_conflicts.proofs.answer.push_chunk.Given as goal

abbrev pub invariant-loop-one : goal.invariant-loop-one
invariant-loop-one l = (l.start ≤ l.one) × AreUpTo (ConflictAt l.function) l.one 0 l.pairs
