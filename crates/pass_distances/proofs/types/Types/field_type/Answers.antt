use Rattle.std.proofs.Common.{◌∙◌, ap, sym, arith, Some}
use Rattle.std.proofs.lemmas.Option.{slice_get-get_or}
use Rattle.pass_distances.proofs.Parts.{field_there, field_past}
use Rattle.pass_distances.proofs.types.Types.field_type.Goals as goal

pub returns-in-Some : goal.returns-in-Some
returns-in-Some c =
    field_there c.args.fields.now c.args.at c.in-Some.field.now (slice_get-get_or c.args.fields.now c.args.at c.in-Some.field.now c.in-Some.ensures.lookup.3.0 ∙ ap Some (sym c.in-Some.ensures.lookup.1))

pub returns-else-at-fields : goal.returns-else-at-fields
returns-else-at-fields c = c.pointer-else-at-fields.ensures ∙ field_past c.args.fields.now c.args.at (omega arith)
