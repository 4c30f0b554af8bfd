use Rattle.std.proofs.Common.{◌≡◌}
use Rattle.frame_placing.specs.Ends.{end_of_first}
use Rattle.frame_placing.proofs.ends.end_of.Given as goal

abbrev pub invariant-loop-k : goal.invariant-loop-k
invariant-loop-k l = record { is_end : l.end ≡ end_of_first l.rooms l.offsets l.k }
