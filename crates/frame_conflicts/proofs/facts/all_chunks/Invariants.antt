use Rattle.std.proofs.Common.{◌≡◌, length}
use Rattle.frame_conflicts.specs.Known.{AreChunks}
use Rattle.frame_conflicts.proofs.facts.all_chunks.Given as goal

abbrev pub invariant-loop-chunk : goal.invariant-loop-chunk
invariant-loop-chunk l = (length l.chunks ≡ l.chunk) × AreChunks l.function l.looked l.chunks
