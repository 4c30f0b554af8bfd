use Rattle.std.proofs.Common.{◌≡◌, ◌++◌, drop, length}
use Rattle.pass_edges.specs.Edges.{edges_by}
use Rattle.pass_edges.proofs.edges.edges_of.Given as goal

abbrev pub invariant-loop-block : goal.invariant-loop-block
invariant-loop-block l = l.all ++ edges_by l.flags l.next (drop l.block-index l.block-items) ≡ edges_by l.flags (length l.function.names) l.block-items
