use Rattle.std.proofs.Common.{◌≡◌, filter, map}
use Rattle.pass_addresses.specs.Placing.{lies_outside, turned_block}
use Rattle.pass_addresses.proofs.slots.blocks_without_slots.Given as goal

abbrev pub invariant-loop-block : goal.invariant-loop-block
invariant-loop-block l = l.all ≡ map (turned_block (filter (lies_outside l.offsets))) l.yielded
