use Rattle.std.proofs.Common.{arith, ℕ}
use Rattle.ir_locals.specs.Tables.{first_in, noted, or_first}
use Rattle.ir_locals.proofs.Notes.{one_more, all_noted}
use Rattle.rule_values.specs.Kinds.{block_kind}
use Rattle.rule_values.proofs.table.note_blocks.Goals as goal

pub loop-block-preserved : goal.loop-block-preserved
loop-block-preserved c =
    one_more block_kind c.args.blocks.now c.loop-block.block-index c.block-item.result (noted c.loop-block.table) (noted c.note_block.new.table) (λ (n : ℕ). or_first (noted c.args.table.now n) (first_in block_kind c.args.blocks.now n)) c.loop-block-test.true c.block-item.is c.in_ok-note_block.ensures c.loop-block.invariant

pub returns : goal.returns
returns c =
    all_noted block_kind c.args.blocks.now c.loop-block.block-index (noted c.loop-block.table) (λ (n : ℕ). or_first (noted c.args.table.now n) (first_in block_kind c.args.blocks.now n)) (omega arith) c.loop-block.invariant
