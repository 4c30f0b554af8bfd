use Rattle.std.proofs.Common.{◌≡◌, ◌++◌, drop, filter}
use Rattle.frame_crossing.specs.EdgeUses.{is_behind}
use Rattle.frame_crossing.proofs.plan.on_ways.Given as goal

abbrev pub invariant-loop-one : goal.invariant-loop-one
invariant-loop-one l = l.all ++ filter (is_behind l.ways) (drop l.one-index l.uses) ≡ filter (is_behind l.ways) l.uses
