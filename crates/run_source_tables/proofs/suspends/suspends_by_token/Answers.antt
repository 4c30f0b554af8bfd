use Rattle.std.proofs.Common.{arith, ◌∙◌, ap, sym}
use Rattle.ir_model.specs.declared.module.Block.{Block}
use Rattle.run_source_tables.proofs.Tokens.{block-noted, none-noted}
use Rattle.run_source_tables.proofs.suspends.suspends_by_token.Goals as goal

pub loop-block-init : goal.loop-block-init
loop-block-init c =
    record {
      within = omega arith;
      noted = none-noted c.as_slice-blocks.result.now _ c.in_ok-table.table c.in_ok-table.ensures;
    }

pub loop-block-preserved : goal.loop-block-preserved
loop-block-preserved c =
    record {
      within = omega arith;
      noted = block-noted c.as_slice-blocks.result.now c.loop-block.block c.loop-block.table c.note_block.new.table c.index-blocks-block.result c.as_slice.result.now c.loop-block-test.true c.loop-block.invariant.within c.index-blocks-block.is (c.as_slice.ensures ∙ ap (λ (b : Block). b.instrs) (sym c.index-blocks-block.is)) c.note_block.ensures c.loop-block.invariant.noted;
    }
