use Rattle.std.proofs.Common.{map}
use Rattle.frame_placing.specs.Groups.{CoverSide}
use Rattle.frame_placing.specs.Placed.{AreKeptApart}
use Rattle.frame_placing.specs.Steps.{IsUnderway}
use Rattle.frame_placing.proofs.underway.place_beside.Given as goal

abbrev pub invariant-loop-k : goal.invariant-loop-k
invariant-loop-k l = record {
  underway : IsUnderway l.rooms l.promise (AreKeptApart l.conflicts l.one l.other) l.order l.limit l.k-index l.offsets;
  ones : CoverSide l.rooms l.order l.k-index l.offsets l.one (map (λ bars. bars.items) l.ones.items);
  others : CoverSide l.rooms l.order l.k-index l.offsets l.other (map (λ bars. bars.items) l.others.items);
}
