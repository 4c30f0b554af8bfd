use Rattle.std.proofs.Common.{◌≡◌, ◌++◌, drop, map}
use Rattle.pass_edges.specs.EdgeBlocks.{edge_block}
use Rattle.pass_edges.proofs.blocks.push_edge_blocks.Given as goal

abbrev pub invariant-loop-edge : goal.invariant-loop-edge
invariant-loop-edge l = l.all ++ map edge_block (drop l.edge-index l.edges) ≡ l.initial.all ++ map edge_block l.edges
