use Rattle.std.proofs.Common.{◌*◌}
use Rattle.std.specs.Prelude.{min}
use Rattle.frame_conflicts.specs.Parts.{NarrowAt}
use Rattle.frame_conflicts.specs.Pairs.{AreUpTo}
use Rattle.frame_conflicts.proofs.parts.narrow_pairs.Given as goal

abbrev pub invariant-loop-chunk : goal.invariant-loop-chunk
invariant-loop-chunk l = AreUpTo (NarrowAt l.function) (min (l.chunk * 64) l.known.count) 0 l.pairs
