use Rattle.std.proofs.Common.{◌≡◌, ◌++◌, drop}
use Rattle.pass_copies.specs.BeginCopies.{slot_allocas}
use Rattle.pass_copies.proofs.written.push_allocas.Given as goal

abbrev pub invariant-loop-slot : goal.invariant-loop-slot
invariant-loop-slot l = l.all ++ slot_allocas (drop l.slot-index l.slots) ≡ l.initial.all ++ slot_allocas l.slots
