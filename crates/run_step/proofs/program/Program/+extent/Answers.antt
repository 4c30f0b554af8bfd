use Rattle.std.proofs.Common.{◌≡◌, ◌∙◌, ap, sym, refl, ◌-◌}
use Rattle.ir_paths.specs.ir_model.Layout.{extent_at, extent_in, fields_extent, no_fields}
use Rattle.ir_paths.specs.ir_model.Ty.{structure, named, to_tys}
use Rattle.ir_paths.specs.ir_model.TypeView.{ty_of}
use Rattle.std.specs.Prelude.{option_map}
use Rattle.run_step.specs.Effects.{capped_extent}
use Rattle.run_step.proofs.Parts.{rest-is}
use Rattle.run_step.proofs.Extents.{struct-none, struct-some, named-none, named-some, fields-some}
use Rattle.run_step.proofs.program.Program.+extent.Goals as goal

pub extent_in-returns-in-None-fields_extent : goal.extent_in-returns-in-None-fields_extent
extent_in-returns-in-None-fields_extent t c =
    let is : structure (to_tys c.in-Struct.fields.items) ≡ c.args.ty.now = ap ty_of (sym c.in-Struct.is) ∙ c.node.ensures in
    struct-none (extent_at c.args.self.now.module.types c.args.names) c.args.depth c.args.ty.now (to_tys c.in-Struct.fields.items) c.if-depth-eq0.false is (c.in-None-fields_extent.ensures no_fields refl ∙ ap (λ l. option_map capped_extent (fields_extent (extent_in (extent_at c.args.self.now.module.types c.args.names) (c.args.depth - 1)) no_fields (to_tys l))) c.deref-in-Struct.ensures.value)

pub extent_in-returns-in-Some-fields_extent : goal.extent_in-returns-in-Some-fields_extent
extent_in-returns-in-Some-fields_extent t c =
    let is : structure (to_tys c.in-Struct.fields.items) ≡ c.args.ty.now = ap ty_of (sym c.in-Struct.is) ∙ c.node.ensures in
    struct-some (extent_at c.args.self.now.module.types c.args.names) c.args.depth c.args.ty.now (to_tys c.in-Struct.fields.items) c.in-Some-fields_extent.e c.closed.result c.if-depth-eq0.false is (c.in-Some-fields_extent.ensures no_fields refl ∙ ap (λ l. option_map capped_extent (fields_extent (extent_in (extent_at c.args.self.now.module.types c.args.names) (c.args.depth - 1)) no_fields (to_tys l))) c.deref-in-Struct.ensures.value) c.closed.ensures

pub extent_in-returns-in-None-type_named : goal.extent_in-returns-in-None-type_named
extent_in-returns-in-None-type_named t c =
    let is : named c.in-Named.name ≡ c.args.ty.now = ap ty_of (sym c.in-Named.is) ∙ c.node.ensures in
    named-none c.args.self.now.module.types c.args.names c.args.depth c.args.ty.now c.in-Named.name c.if-depth-eq0.false c.if-names-eq0.false is c.in-None-type_named.ensures

pub extent_in-returns-in-Some-type_named : goal.extent_in-returns-in-Some-type_named
extent_in-returns-in-Some-type_named t c =
    let is : named c.in-Named.name ≡ c.args.ty.now = ap ty_of (sym c.in-Named.is) ∙ c.node.ensures in
    named-some c.args.self.now.module.types c.args.names c.args.depth c.args.ty.now c.in-Named.name c.in-Some-type_named.meant.now c.extent_in-in-Some-type_named.result c.if-depth-eq0.false c.if-names-eq0.false is c.in-Some-type_named.ensures c.extent_in-in-Some-type_named.ensures

pub fields_extent-returns-in-Some : goal.fields_extent-returns-in-Some
fields_extent-returns-in-Some t c = λ e is.
    fields-some (extent_in (extent_at c.args.self.now.module.types c.args.names) c.args.depth) c.args.fields.now c.first-item.result e c.in-Some.e c.add_field.result c.fields_extent.result c.in-len1-up.len_at_least c.first-item.is c.in-Some.ensures (λ f g. c.add_field.ensures e f is g)
    (λ f g. c.fields_extent.ensures f g ∙ ap (λ l. option_map capped_extent (fields_extent (extent_in (extent_at c.args.self.now.module.types c.args.names) c.args.depth) f (to_tys l))) (rest-is c.args.fields.now c.in-len1-up.len_at_least))
