use Rattle.ir_locals.specs.Tables.{noted}
use Rattle.rule_locals.proofs.SlotSizes.{slots_noted}
use Rattle.rule_locals.proofs.slots.slots_of.Goals as goal

pub returns : goal.returns
returns c =
    slots_noted c.args.sizes.now.names.now.source.now c.args.function.now c.as_slice.result.now (noted c.in_ok-table.table) (noted c.note_blocks.new.table) c.as_slice.ensures c.in_ok-table.ensures.empty c.in_ok-note_blocks.ensures
