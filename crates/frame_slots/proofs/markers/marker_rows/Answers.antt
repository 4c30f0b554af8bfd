use Rattle.std.proofs.Common.{◌∙◌}
use Rattle.frame_slots.proofs.Marking.{rows_tell}
use Rattle.frame_slots.proofs.markers.marker_rows.Goals as goal

pub returns : goal.returns
returns c = rows_tell c.args.marker c.args.words.now c.args.function.now c.as_slice.result.now (c.as_slice.ensures ∙ c.requires) c.marked_rows.result c.marked_rows.ensures
