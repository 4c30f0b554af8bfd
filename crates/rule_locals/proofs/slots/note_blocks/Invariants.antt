use Rattle.std.proofs.Common.{◌≡◌, ℕ, drop}
use Rattle.ir_locals.specs.Tables.{first_in, noted, or_first}
use Rattle.rule_locals.specs.Slots.{cut_block}
use Rattle.rule_locals.proofs.slots.note_blocks.Given as goal

abbrev pub invariant-loop-block : goal.invariant-loop-block
invariant-loop-block l =
    (n : ℕ) → or_first (noted l.table n) (first_in (cut_block l.sizes.names.now.source.now) (drop l.block-index l.blocks) n) ≡ or_first (noted l.initial.table n) (first_in (cut_block l.sizes.names.now.source.now) l.blocks n)
