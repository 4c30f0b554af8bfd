use Rattle.std.proofs.Common.{◌≡◌, ◌++◌, drop, filter, map}
use Rattle.pass_addresses.specs.Placing.{stays, turned_block}
use Rattle.pass_addresses.proofs.markers.marked_blocks.Given as goal

abbrev pub invariant-loop-block : goal.invariant-loop-block
invariant-loop-block l = l.all ++ map (turned_block (filter (stays l.marked))) (drop l.block-index l.blocks) ≡ map (turned_block (filter (stays l.marked))) l.blocks
