use Rattle.std.proofs.Common.{◌≡◌, drop}
use Rattle.pass_copies.specs.Slots.{set_fetches}
use Rattle.pass_copies.proofs.slots.set_fetches.Given as goal

abbrev pub invariant-loop-slot : goal.invariant-loop-slot
invariant-loop-slot l = set_fetches l.table (drop l.slot-index l.slots) ≡ set_fetches l.initial.table l.slots
