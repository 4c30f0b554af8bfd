use Rattle.std.proofs.Common.{◌≤◌, take}
use Rattle.frame_crossing.specs.Crossing.{CrossedBy}
use Rattle.frame_crossing.proofs.answer.push_chunk.Given as goal

abbrev pub invariant-loop-number : goal.invariant-loop-number
invariant-loop-number l = (l.start ≤ l.number) × CrossedBy l.function (take l.number l.all.values) l.pairs
