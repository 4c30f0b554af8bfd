use Rattle.std.proofs.Common.{◌≡◌, ◌++◌, drop, map}
use Rattle.flow_reach.specs.Rows.{made_start}
use Rattle.flow_reach.proofs.reach.push_made.Given as goal

abbrev pub invariant-loop-from : goal.invariant-loop-from
invariant-loop-from l = l.starts.items ++ map (made_start l.made) (drop l.from-index l.edges) ≡ l.initial.starts.items ++ map (made_start l.made) l.edges
