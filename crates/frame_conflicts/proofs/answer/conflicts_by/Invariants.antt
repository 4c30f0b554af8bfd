use Rattle.std.proofs.Common.{◌*◌}
use Rattle.std.specs.Prelude.{min}
use Rattle.frame_conflicts.specs.Conflicts.{ConflictAt}
use Rattle.frame_conflicts.specs.Pairs.{AreUpTo}
use Rattle.frame_conflicts.proofs.answer.conflicts_by.Given as goal

abbrev pub invariant-loop-chunk : goal.invariant-loop-chunk
invariant-loop-chunk l = AreUpTo (ConflictAt l.function) (min (l.chunk * 64) l.known.count) 0 l.pairs
