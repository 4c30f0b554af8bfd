use Rattle.std.proofs.Common.{◌≡◌, drop}
use Rattle.pass_edges.specs.Edges.{with_edges}
use Rattle.pass_edges.proofs.table.note_all.Given as goal

abbrev pub invariant-loop-edge : goal.invariant-loop-edge
invariant-loop-edge l = with_edges l.table.items (drop l.edge-index l.edges) ≡ with_edges l.initial.table.items l.edges
