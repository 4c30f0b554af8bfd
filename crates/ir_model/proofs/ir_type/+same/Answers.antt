use Rattle.std.proofs.Common.{◌≡◌, ap, sym, ◌∙◌, List}
use Rattle.ir_model.specs.Ty.{Ty, structure, to_tys}
use Rattle.ir_model.specs.TypeView.{ty_of, to_tys_same}
use Rattle.ir_model.proofs.ir_type.+same.Goals as goal

pub IrType::is_same_type-returns-in-Struct-Struct : goal.IrType::is_same_type-returns-in-Struct-Struct
IrType::is_same_type-returns-in-Struct-Struct t c =
    let a = c.in-Struct-Struct.a.items in
    let b = c.in-Struct-Struct.b.items in
    let self-is : c.args.self.now ≡ structure (to_tys a) = sym c.self.view_is ∙ ap ty_of c.in-Struct-Struct.is-0 in
    let other-is : c.args.other.now ≡ structure (to_tys b) = sym c.other.view_is ∙ ap ty_of c.in-Struct-Struct.is-1 in
    let a-is : c.deref-in-Struct-Struct.result.now ≡ a = c.deref-in-Struct-Struct.ensures.value in
    let b-is : c.deref-in-Struct-Struct-2.result.now ≡ b = c.deref-in-Struct-Struct-2.ensures.value in (
      λ yes. let same : c.deref-in-Struct-Struct.result.now ≡ c.deref-in-Struct-Struct-2.result.now = c.are_same.ensures.0 yes in
          let items : a ≡ b = cc in self-is ∙ ap (λ (l : List Ty). structure (to_tys l)) items ∙ sym other-is,
      λ e. let items : a ≡ b = to_tys_same a b (sym self-is ∙ e ∙ other-is) in
          c.are_same.ensures.1 (cc),
    )
