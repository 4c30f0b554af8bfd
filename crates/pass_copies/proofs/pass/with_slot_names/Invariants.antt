use Rattle.std.proofs.Common.{◌≡◌, ◌++◌}
use Rattle.pass_copies.specs.Slots.{slot_names}
use Rattle.pass_copies.proofs.pass.with_slot_names.Given as goal

abbrev pub invariant-loop-k : goal.invariant-loop-k
invariant-loop-k l = l.all ≡ l.names ++ slot_names l.k
