use Rattle.std.proofs.Common.{◌≡◌, filter}
use Rattle.pass_addresses.specs.Placing.{lies_outside}
use Rattle.pass_addresses.proofs.slots.instrs_without_slots.Given as goal

abbrev pub invariant-loop-instr : goal.invariant-loop-instr
invariant-loop-instr l = l.all ≡ filter (lies_outside l.offsets) l.yielded
