use Rattle.ir_locals.specs.Tables.{noted}
use Rattle.rule_values.proofs.Notings.{block_noted}
use Rattle.rule_values.proofs.table.note_block.Goals as goal

pub returns : goal.returns
returns c =
    block_noted c.args.block.now c.as_slice.result.now c.as_slice-2.result.now (noted c.args.table.now) (noted c.note_phis.new.table) (noted c.note_instrs.new.table) c.as_slice.ensures c.as_slice-2.ensures c.in_ok-note_phis.ensures c.in_ok-note_instrs.ensures
