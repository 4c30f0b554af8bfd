use Rattle.std.proofs.Common.{◌*◌, take}
use Rattle.frame_crossing.specs.Crossing.{CrossedBy}
use Rattle.frame_crossing.proofs.answer.crossing.Given as goal

abbrev pub invariant-loop-chunk : goal.invariant-loop-chunk
invariant-loop-chunk l = CrossedBy l.function (take (l.chunk * 64) l.all.values) l.pairs
