use Rattle.std.proofs.Common.{◌≡◌, ◌++◌, drop}
use Rattle.text_canonical.specs.canonical.Blocks.{blocks_text}
use Rattle.text_printer.proofs.blocks.push_blocks.Given as goal

abbrev pub invariant-loop-block : goal.invariant-loop-block
invariant-loop-block l = l.out.items ++ blocks_text l.names (drop l.block-index l.blocks) ≡ l.initial.out.items ++ blocks_text l.names l.blocks
