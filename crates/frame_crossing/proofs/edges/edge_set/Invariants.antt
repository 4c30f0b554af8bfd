use Rattle.std.proofs.Common.{◌≡◌, ℕ, take}
use Rattle.frame_crossing.specs.EdgeUses.{has_edge}
use Rattle.frame_crossing.proofs.edges.edge_set.Given as goal

abbrev pub invariant-loop-edge : goal.invariant-loop-edge
invariant-loop-edge l = (from to : ℕ) → has_edge l.set.keys from to ≡ has_edge (take l.edge-index l.edges) from to
