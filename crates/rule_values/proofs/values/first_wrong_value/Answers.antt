use Rattle.std.proofs.Common.{◌∙◌}
use Rattle.ir_locals.specs.Tables.{noted}
use Rattle.rule_values.proofs.Notings.{wrong_by_table}
use Rattle.rule_values.proofs.values.first_wrong_value.Goals as goal

pub returns : goal.returns
returns c = c.in_ok-place.ensures ∙ wrong_by_table c.args.names.now.source.now c.args.func c.args.function.now (noted c.in_ok-kinds.kinds) c.in_ok-kinds.ensures
