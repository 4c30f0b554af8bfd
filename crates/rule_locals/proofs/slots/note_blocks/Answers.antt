use Rattle.std.proofs.Common.{arith, ℕ}
use Rattle.ir_locals.specs.Tables.{first_in, noted, or_first}
use Rattle.ir_locals.proofs.Notes.{one_more, all_noted}
use Rattle.rule_locals.specs.Slots.{cut_block}
use Rattle.rule_locals.proofs.SlotSizes.{block_noted}
use Rattle.rule_locals.proofs.slots.note_blocks.Goals as goal

pub loop-block-preserved : goal.loop-block-preserved
loop-block-preserved c =
    let m = c.args.sizes.now.names.now.source.now in
    one_more (cut_block m) c.args.blocks.now c.loop-block.block-index c.block-item.result (noted c.loop-block.table) (noted c.note_block.new.table) (λ (n : ℕ). or_first (noted c.args.table.now n) (first_in (cut_block m) c.args.blocks.now n)) c.loop-block-test.true c.block-item.is
    (block_noted m c.block-item.result c.as_slice.result.now (noted c.loop-block.table) (noted c.note_block.new.table) c.as_slice.ensures c.in_ok-note_block.ensures) c.loop-block.invariant

pub returns : goal.returns
returns c =
    let m = c.args.sizes.now.names.now.source.now in
    all_noted (cut_block m) c.args.blocks.now c.loop-block.block-index (noted c.loop-block.table) (λ (n : ℕ). or_first (noted c.args.table.now n) (first_in (cut_block m) c.args.blocks.now n)) (omega arith) c.loop-block.invariant
