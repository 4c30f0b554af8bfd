use Rattle.std.proofs.Common.{◌≡◌, ◌++◌}
use Rattle.pass_edges.specs.EdgeBlocks.{edge_names}
use Rattle.pass_edges.proofs.pass.push_edge_names.Given as goal

abbrev pub invariant-loop-k : goal.invariant-loop-k
invariant-loop-k l = l.names ≡ l.initial.names ++ edge_names l.k
