use Rattle.std.proofs.Common.{◌∙◌}
use Rattle.pass_elide.proofs.Found.{layout-found}
use Rattle.pass_elide.proofs.tables.Tables.layout.Goals as goal

pub returns : goal.returns
returns c =
    let t = c.args.self.now in
    c.item_at.ensures
    ∙ layout-found t.layouts.now c.args.func c.position_of.result (c.position_of.ensures ∙ t.layouts_found.first c.args.func)
