-- Lemmas on puts, that speak of no pass.
use Rattle.std.proofs.Common.{◌≡◌, ℕ, true, List, refl}
use Rattle.ir_laws.specs.ir_model.Ty.{int, ptr}
use Rattle.ir_laws.specs.ir_model.declared.module.TypeItem.{TypeItem}
use Rattle.rule_types.specs.Depth.{is_shallow}

pub int_shallow : (types : List TypeItem) (w : ℕ) → is_shallow types (int w) ≡ true
unfolding is_shallow
int_shallow types w = refl

pub ptr_shallow : (types : List TypeItem) → is_shallow types ptr ≡ true
unfolding is_shallow
ptr_shallow types = refl
