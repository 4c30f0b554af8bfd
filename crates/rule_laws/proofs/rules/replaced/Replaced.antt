-- Lemmas on replaced, that speak of no pass.
use Rattle.std.proofs.Common.{◌≡◌, true, refl}
use Rattle.ir_laws.specs.ir_model.Ty.{Ty, ptr}
use Rattle.rule_types.specs.Wants.{is_ptr}

pub is_the_ptr : (t : Ty) → is_ptr t ≡ true → t ≡ ptr
is_the_ptr ptr e = refl
is_the_ptr _ e = absurd (cc)
