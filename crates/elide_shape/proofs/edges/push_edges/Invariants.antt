use Rattle.std.proofs.Common.{◌≡◌, ◌++◌, drop}
use Rattle.elide_shape.specs.Edges.{edges_out}
use Rattle.elide_shape.proofs.edges.push_edges.Given as goal

abbrev pub invariant-loop-label : goal.invariant-loop-label
invariant-loop-label l = l.edges ++ edges_out l.function l.from l.at (drop l.label-index l.labels) ≡ l.initial.edges ++ edges_out l.function l.from 0 l.labels
