use Rattle.std.proofs.Common.{◌≡◌, map, take}
use Rattle.frame_crossing.specs.Words.{turned}
use Rattle.frame_crossing.proofs.plan.turned_edges.Given as goal

abbrev pub invariant-loop-from : goal.invariant-loop-from
invariant-loop-from l = l.all ≡ map turned (take l.from-index l.edges)
