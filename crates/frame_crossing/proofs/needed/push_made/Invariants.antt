use Rattle.std.proofs.Common.{◌≡◌, ◌++◌, drop}
use Rattle.frame_crossing.specs.Words.{made_starts}
use Rattle.frame_crossing.proofs.needed.push_made.Given as goal

abbrev pub invariant-loop-from : goal.invariant-loop-from
invariant-loop-from l = l.starts.items ++ made_starts l.made (drop l.from-index l.edges) ≡ l.initial.starts.items ++ made_starts l.made l.edges
