use Rattle.std.proofs.Common.{◌≡◌, ◌++◌, drop}
use Rattle.std.specs.Prelude.{filter_map}
use Rattle.pass_edges.specs.EdgeBlocks.{incoming_on}
use Rattle.pass_edges.proofs.phis.all_incoming.Given as goal

abbrev pub invariant-loop-edge : goal.invariant-loop-edge
invariant-loop-edge l = l.all ++ filter_map (incoming_on l.incoming) (drop l.edge-index l.edges) ≡ filter_map (incoming_on l.incoming) l.edges
