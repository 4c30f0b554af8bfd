-- Lemmas on cell kinds, that speak of no pass.
use Rattle.std.proofs.Common.{◌≡◌, ℕ, Bool, true, refl, ap}
use Rattle.std.specs.Prelude.{Some, None, if◌then◌else◌}
use Rattle.ir_laws.proofs.facts.Truth.{itself}
use Rattle.ir_laws.specs.ir_model.Ty.{Ty, array, int, named, ptr, structure, token}
use Rattle.rule_values.specs.Fits.{is_integer, is_scalar}
use Rattle.rule_values.specs.Kinds.{kind_if}
use Rattle.rule_values.specs.declared.kinds.Kind.{Kind}

pub own_if : (r : ℕ) (kind : Kind) → kind_if r kind r ≡ Some kind
own_if r kind = ap (λ (b : Bool). if b then Some kind else None) (itself r)

pub integer_scalar : (t : Ty) → is_integer t ≡ true → is_scalar t ≡ true
integer_scalar (int w) h = refl
integer_scalar ptr h = absurd (cc)
integer_scalar token h = absurd (cc)
integer_scalar (array n t) h = absurd (cc)
integer_scalar (structure ts) h = absurd (cc)
integer_scalar (named n) h = absurd (cc)
