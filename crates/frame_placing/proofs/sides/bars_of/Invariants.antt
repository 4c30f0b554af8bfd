use Rattle.std.proofs.Common.{take}
use Rattle.frame_placing.proofs.Covering.{IsGathered}
use Rattle.frame_placing.proofs.sides.bars_of.Given as goal

abbrev pub invariant-loop-k : goal.invariant-loop-k
invariant-loop-k l = IsGathered l.rooms l.offsets (take l.k-index l.fields) l.bars.items
