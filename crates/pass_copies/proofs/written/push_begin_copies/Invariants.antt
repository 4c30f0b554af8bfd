use Rattle.std.proofs.Common.{◌≡◌, ◌++◌, drop}
use Rattle.pass_copies.specs.BeginCopies.{begin_copies}
use Rattle.pass_copies.proofs.written.push_begin_copies.Given as goal

abbrev pub invariant-loop-slot : goal.invariant-loop-slot
invariant-loop-slot l = l.all ++ begin_copies (drop l.slot-index l.slots) ≡ l.initial.all ++ begin_copies l.slots
