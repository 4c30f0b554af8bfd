use Rattle.std.proofs.Common.{◌≡◌, ◌∙◌, ap, sym, ◌-◌, Some}
use Rattle.std.specs.Prelude.{option_map}
use Rattle.ir_model.specs.Ty.{structure, to_tys}
use Rattle.ir_model.specs.TypeView.{ty_of}
use Rattle.ir_sizes.specs.Cut.{cut_in, cut_fields, cut_padded, cut_start}
use Rattle.ir_sizes.specs.Levels.{known}
use Rattle.ir_sizes.proofs.Cuts.{of_structure}
use Rattle.ir_sizes.proofs.level.+extent.Goals as goal

pub extent_in-returns-in-Some-fields_extent : goal.extent_in-returns-in-Some-fields_extent
extent_in-returns-in-Some-fields_extent t c =
    let K = known c.args.names.now.source.now.types c.args.table.now in
    let is : structure (to_tys c.in-Struct.fields.items) ≡ c.args.ty.now = ap ty_of (sym c.in-Struct.is) ∙ c.node.ensures in
    ap Some c.closed.ensures
    ∙ ap (option_map cut_padded) (c.in-Some-fields_extent.ensures ∙ ap (λ l. cut_fields (cut_in K (c.args.depth - 1)) cut_start (to_tys l)) c.deref-in-Struct.ensures.value)
    ∙ sym (of_structure K c.args.depth c.args.ty.now (to_tys c.in-Struct.fields.items) c.if-depth-eq0.false is)
