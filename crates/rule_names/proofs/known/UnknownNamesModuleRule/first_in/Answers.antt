use Rattle.std.proofs.Common.{◌∙◌}
use Rattle.rule_names.specs.Numbers.{is_marked}
use Rattle.rule_names.proofs.Marks.{unknown_is}
use Rattle.rule_names.proofs.known.UnknownNamesModuleRule.first_in.Goals as goal

pub returns : goal.returns
returns c =
    c.in_ok-place.ensures
    ∙ unknown_is c.args.self.now.names.now.source.now c.args.func c.args.function.now (is_marked c.in_ok-values.values) (is_marked c.in_ok-labels.labels) c.as_slice.result.now c.as_slice-2.result.now c.in_ok-values.ensures c.in_ok-labels.ensures (c.as_slice.ensures ∙ c.in_ok-locals.ensures) (c.as_slice-2.ensures ∙ c.in_ok-locals.ensures)
