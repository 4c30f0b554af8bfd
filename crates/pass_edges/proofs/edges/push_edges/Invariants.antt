use Rattle.std.proofs.Common.{◌≡◌, ◌++◌, drop}
use Rattle.pass_edges.proofs.edges.push_edges.Given as goal

abbrev pub invariant-loop-edge : goal.invariant-loop-edge
invariant-loop-edge l = l.all ++ drop l.edge-index l.edges ≡ l.initial.all ++ l.edges
