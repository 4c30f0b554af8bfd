use Rattle.std.proofs.Common.{◌≡◌, ◌++◌, drop, map}
use Rattle.ir_parts.specs.Locals.{locals_in_blocks}
use Rattle.ir_parts.proofs.defined.push_blocks.Given as goal

abbrev pub invariant-loop-block : goal.invariant-loop-block
invariant-loop-block l = l.all ++ locals_in_blocks l.func l.at (drop l.block-index l.blocks) ≡ l.initial.all ++ locals_in_blocks l.func 0 l.blocks
