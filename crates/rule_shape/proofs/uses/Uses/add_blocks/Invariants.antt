use Rattle.std.proofs.Common.{◌≡◌, drop}
use Rattle.rule_shape.specs.Uses.{counted_blocks}
use Rattle.rule_shape.proofs.uses.Uses.add_blocks.Given as goal

abbrev pub invariant-loop-block : goal.invariant-loop-block
invariant-loop-block l = counted_blocks l.self (drop l.block-index l.blocks) ≡ counted_blocks l.initial.self l.blocks
