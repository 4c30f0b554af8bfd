use Rattle.std.proofs.Common.{◌≡◌, drop}
use Rattle.pass_copies.specs.Slots.{set_resumed}
use Rattle.pass_copies.proofs.slots.set_resumed.Given as goal

abbrev pub invariant-loop-point : goal.invariant-loop-point
invariant-loop-point l = set_resumed l.flags (drop l.point-index l.suspends) ≡ set_resumed l.initial.flags l.suspends
