use Rattle.std.proofs.Common.{◌≡◌, ◌++◌, drop}
use Rattle.pass_addresses.specs.Placing.{slot_fetches}
use Rattle.pass_addresses.proofs.addresses.slot_fetches.Given as goal

abbrev pub invariant-loop-offset : goal.invariant-loop-offset
invariant-loop-offset l = l.all ++ slot_fetches l.begin (drop l.offset-index l.offsets) ≡ slot_fetches l.begin l.offsets
