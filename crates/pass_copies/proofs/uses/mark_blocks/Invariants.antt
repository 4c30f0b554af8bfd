use Rattle.std.proofs.Common.{◌≡◌, drop}
use Rattle.pass_copies.specs.Uses.{mark_blocks}
use Rattle.pass_copies.proofs.uses.mark_blocks.Given as goal

abbrev pub invariant-loop-block : goal.invariant-loop-block
invariant-loop-block l = mark_blocks l.slots l.before l.used (drop l.block-index l.blocks) ≡ mark_blocks l.slots l.before l.initial.used l.blocks
