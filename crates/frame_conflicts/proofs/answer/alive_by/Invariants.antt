use Rattle.std.proofs.Common.{◌*◌, length}
use Rattle.std.specs.Prelude.{min}
use Rattle.ir_paths.specs.Slots.{allocas_of}
use Rattle.frame_conflicts.specs.Conflicts.{AliveAt}
use Rattle.frame_conflicts.specs.Pairs.{AreUpTo}
use Rattle.frame_conflicts.proofs.answer.alive_by.Given as goal

abbrev pub invariant-loop-chunk : goal.invariant-loop-chunk
invariant-loop-chunk l = AreUpTo (AliveAt l.function) (min (l.chunk * 64) (length (allocas_of l.function))) 0 l.pairs
