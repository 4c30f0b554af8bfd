use Rattle.std.proofs.Common.{◌≡◌, take}
use Rattle.frame_classes.specs.Ways.{edge_fronts}
use Rattle.frame_classes.proofs.ways.edge_fronts.Given as goal

abbrev pub invariant-loop-edge : goal.invariant-loop-edge
invariant-loop-edge l = l.all ≡ edge_fronts (take l.edge-index l.edges)
