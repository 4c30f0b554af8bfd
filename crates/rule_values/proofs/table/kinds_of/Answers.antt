use Rattle.ir_locals.specs.Tables.{noted}
use Rattle.rule_values.proofs.Notings.{function_noted}
use Rattle.rule_values.proofs.table.kinds_of.Goals as goal

pub returns : goal.returns
returns c =
    function_noted c.args.function.now c.as_slice.result.now c.as_slice-2.result.now (noted c.in_ok-table.table) (noted c.note_params.new.table) (noted c.note_blocks.new.table) c.as_slice.ensures c.as_slice-2.ensures c.in_ok-table.ensures.empty c.in_ok-note_params.ensures c.in_ok-note_blocks.ensures
