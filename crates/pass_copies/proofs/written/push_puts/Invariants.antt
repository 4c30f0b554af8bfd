use Rattle.std.proofs.Common.{◌≡◌, ◌++◌, drop}
use Rattle.pass_copies.specs.BeginCopies.{puts}
use Rattle.pass_copies.proofs.written.push_puts.Given as goal

abbrev pub invariant-loop-slot : goal.invariant-loop-slot
invariant-loop-slot l = l.all ++ puts (drop l.slot-index l.slots) ≡ l.initial.all ++ puts l.slots
