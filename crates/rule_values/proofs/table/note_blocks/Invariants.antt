use Rattle.std.proofs.Common.{◌≡◌, ℕ, drop}
use Rattle.ir_locals.specs.Tables.{first_in, noted, or_first}
use Rattle.rule_values.specs.Kinds.{block_kind}
use Rattle.rule_values.proofs.table.note_blocks.Given as goal

abbrev pub invariant-loop-block : goal.invariant-loop-block
invariant-loop-block l = (n : ℕ) → or_first (noted l.table n) (first_in block_kind (drop l.block-index l.blocks) n) ≡ or_first (noted l.initial.table n) (first_in block_kind l.blocks n)
