use Rattle.std.proofs.Common.{◌∙◌}
use Rattle.pass_elide.proofs.Found.{field-found}
use Rattle.pass_elide.proofs.fields.FieldFrames.field_named.Goals as goal

pub returns : goal.returns
returns c =
    let f = c.args.self.now in
    c.item_at.ensures
    ∙ field-found f.fields c.args.name.now c.find.result (c.find.ensures ∙ f.fields_found.first c.args.name.now)
