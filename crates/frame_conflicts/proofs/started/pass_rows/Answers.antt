use Rattle.std.proofs.Common.{◌∙◌}
use Rattle.frame_conflicts.proofs.Marking.{rows_tell}
use Rattle.frame_conflicts.proofs.started.pass_rows.Goals as goal

pub returns : goal.returns
returns c = rows_tell c.args.names.now c.args.function.now c.as_slice.result.now (c.as_slice.ensures ∙ c.requires) c.passes_by.result c.passes_by.ensures
