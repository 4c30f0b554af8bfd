use Rattle.frame_placing.specs.Bars.{IsFloor}
use Rattle.frame_placing.specs.Placed.{Always}
use Rattle.frame_placing.specs.Steps.{CoverFirst, IsUnderway}
use Rattle.frame_placing.proofs.underway.place_behind.Given as goal

abbrev pub invariant-loop-k : goal.invariant-loop-k
invariant-loop-k l = record {
  underway : IsUnderway l.rooms l.promise Always l.order l.limit l.k-index l.offsets;
  cover : CoverFirst l.rooms l.order l.k-index l.offsets l.bars.items;
  floor : IsFloor l.bars.items l.last.size l.last.align l.last.offset;
}
