use Rattle.std.proofs.Common.{◌≡◌, [], replicate}
use Rattle.pass_edges.proofs.table.no_edges.Given as goal

abbrev pub invariant-loop-at : goal.invariant-loop-at
invariant-loop-at l = l.table.items ≡ replicate l._at []
