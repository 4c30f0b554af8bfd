use Rattle.std.proofs.Common.{◌∙◌, ap, sym, arith, Some}
use Rattle.std.proofs.lemmas.Option.{slice_get-get_or, slice_get_past}
use Rattle.rule_values.proofs.Parts.{field_is, field_past}
use Rattle.rule_values.proofs.geps.field_at.Goals as goal

pub returns-in-None : goal.returns-in-None
returns-in-None c = sym (slice_get_past c.args.fields.now c.args.at c.in-None.ensures.lookup.3) ∙ field_is c.args.fields.now c.args.at

pub returns-in-Some : goal.returns-in-Some
returns-in-Some c =
    sym (slice_get-get_or c.args.fields.now c.args.at c.in-Some.field.now c.in-Some.ensures.lookup.3.0 ∙ ap Some (sym c.in-Some.ensures.lookup.1)) ∙ field_is c.args.fields.now c.args.at

pub returns-else-at-fields : goal.returns-else-at-fields
returns-else-at-fields c = field_past c.args.fields.now c.args.at (omega arith)
