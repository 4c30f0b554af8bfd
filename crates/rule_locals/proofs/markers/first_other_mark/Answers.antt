use Rattle.std.proofs.Common.{◌∙◌}
use Rattle.ir_locals.specs.Tables.{noted}
use Rattle.rule_locals.proofs.SlotSizes.{marks_by_table}
use Rattle.rule_locals.proofs.markers.first_other_mark.Goals as goal

pub returns : goal.returns
returns c = c.in_ok-place.ensures ∙ marks_by_table c.args.sizes.now.names.now.source.now c.args.func c.args.function.now (noted c.in_ok-slots.slots) c.in_ok-slots.ensures
