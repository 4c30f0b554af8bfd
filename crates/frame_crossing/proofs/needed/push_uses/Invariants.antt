use Rattle.std.proofs.Common.{◌≡◌, ◌++◌, drop, map}
use Rattle.frame_crossing.specs.Words.{use_start}
use Rattle.frame_crossing.proofs.needed.push_uses.Given as goal

abbrev pub invariant-loop-one : goal.invariant-loop-one
invariant-loop-one l = l.starts.items ++ map (use_start l.numbers l.chunk l.stops) (drop l.one-index l.uses) ≡ l.initial.starts.items ++ map (use_start l.numbers l.chunk l.stops) l.uses
