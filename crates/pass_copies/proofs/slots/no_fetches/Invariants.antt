use Rattle.std.proofs.Common.{◌≡◌, replicate, None}
use Rattle.pass_copies.proofs.slots.no_fetches.Given as goal

abbrev pub invariant-loop-at : goal.invariant-loop-at
invariant-loop-at l = l.table ≡ replicate l._at None
