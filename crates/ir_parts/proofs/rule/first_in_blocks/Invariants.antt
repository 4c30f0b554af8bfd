use Rattle.std.proofs.Common.{◌≡◌, drop}
use Rattle.ir_parts.specs.Parts.{first_in_blocks}
use Rattle.ir_parts.proofs.rule.first_in_blocks.Given as goal

abbrev pub invariant-loop-block : goal.invariant-loop-block
invariant-loop-block g l = first_in_blocks (g.R.FunctionRule.breaks l.rule) l.func 0 l.blocks ≡ first_in_blocks (g.R.FunctionRule.breaks l.rule) l.func l.at (drop l.block-index l.blocks)
