use Rattle.std.proofs.Common.{◌≡◌, ◌∙◌, ap, sym, Some}
use Rattle.std.proofs.lemmas.Option.{slice_get-get_or, slice_get_past}
use Rattle.ir_paths.specs.ir_model.Ty.{array, structure, to_tys}
use Rattle.ir_paths.specs.ir_model.TypeView.{ty_of}
use Rattle.run_step.proofs.Extents.{array-part, struct-some-type, struct-none-type}
use Rattle.run_step.proofs.program.Program.part_at.Goals as goal

pub returns-in-Array-clause-distance : goal.returns-in-Array-clause-distance
returns-in-Array-clause-distance c =
    let is : array c.in-Array.field-0 c.in-Array.element.value ≡ c.args.ty.now = ap ty_of (sym c.in-Array.is) ∙ c.node.ensures in
    array-part c.args.self.now.module c.args.ty.now c.in-Array.element.value c.deref.result.now c.in-Array.field-0 c.size_of.result c.args.index c.times.result is c.times.ensures c.size_of.ensures c.deref.ensures

pub returns-in-Some-clause-ty : goal.returns-in-Some-clause-ty
returns-in-Some-clause-ty c =
    let is : structure (to_tys c.in-Struct.fields.items) ≡ c.args.ty.now = ap ty_of (sym c.in-Struct.is) ∙ c.node.ensures in
    struct-some-type c.args.self.now.module c.args.ty.now c.in-Some.field.now c.in-Struct.fields.items c.deref-in-Struct-2.result.now c.args.index c.unwrap_or-i.result is c.unwrap_or-i.ensures c.deref-in-Struct-2.ensures.value (sym (slice_get-get_or c.deref-in-Struct-2.result.now c.unwrap_or-i.result c.in-Some.field.now c.in-Some.ensures.lookup.3.0 ∙ ap Some (sym c.in-Some.ensures.lookup.1)))

pub returns-in-None-clause-ty : goal.returns-in-None-clause-ty
returns-in-None-clause-ty c =
    let is : structure (to_tys c.in-Struct.fields.items) ≡ c.args.ty.now = ap ty_of (sym c.in-Struct.is) ∙ c.node.ensures in
    struct-none-type c.args.self.now.module c.args.ty.now c.pointer.result.now c.in-Struct.fields.items c.deref-in-Struct-2.result.now c.args.index c.unwrap_or-i.result is c.unwrap_or-i.ensures c.deref-in-Struct-2.ensures.value c.pointer.ensures (sym (slice_get_past c.deref-in-Struct-2.result.now c.unwrap_or-i.result c.in-None.ensures.lookup.3))
