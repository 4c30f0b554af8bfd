-- Types are told apart by their test.
use Rattle.std.proofs.Common.{◌≡◌, ℕ, Bool, true, false, ◌&&◌, refl, ap, sym, ◌∙◌}
use Rattle.std.specs.Prelude.{IsTrue, ◌↔◌, ◌==◌}
use Rattle.std.proofs.lemmas.Bool.{eqb-true, eq-eqb}
use Rattle.ir_base.specs.declared.name.Name.{Name}
use Rattle.ir_base.specs.declared.name.Name.TheVariants.{Number, Text}
use Rattle.ir_model.specs.Layout.{same_type, same_types}
use Rattle.ir_model.specs.Names.{same_name}
use Rattle.ir_model.specs.Ty.{Ty, Tys, int, ptr, token, array, structure, named, none, field}
use Rattle.ir_tables.proofs.Tables.{and-left, and-right, same_name-same, same_text-refl}

array-same : (m n : ℕ) (t u : Ty) → m ≡ n → t ≡ u → array m t ≡ array n u
array-same m n t u e f = cc

field-same : (t u : Ty) (ts us : Tys) → t ≡ u → ts ≡ us → field t ts ≡ field u us
field-same t u ts us e f = cc

mutual
  same_type-same : (t u : Ty) → same_type t u ≡ true → t ≡ u
  same_type-same (int v) (int w) e = ap int (eqb-true v w e)
  same_type-same ptr ptr e = refl
  same_type-same token token e = refl
  same_type-same (array m t) (array n u) e =
      array-same m n t u (eqb-true m n (and-left (m == n) (same_type t u) e)) (same_type-same t u (and-right (m == n) (same_type t u) e))
  same_type-same (structure ts) (structure us) e = ap structure (same_types-same ts us e)
  same_type-same (named m) (named n) e = ap named (same_name-same m n e)
  same_type-same t u e = cc

  same_types-same : (ts us : Tys) → same_types ts us ≡ true → ts ≡ us
  same_types-same none none e = refl
  same_types-same (field t ts) (field u us) e =
      field-same t u ts us (same_type-same t u (and-left (same_type t u) (same_types ts us) e)) (same_types-same ts us (and-right (same_type t u) (same_types ts us) e))
  same_types-same ts us e = cc

both-true : (a b : Bool) → a ≡ true → b ≡ true → (a && b) ≡ true
both-true true b e f = f
both-true false b e f = e

same_name-refl : (n : Name) → same_name n n ≡ true
same_name-refl (Number n) = eq-eqb n n refl
same_name-refl (Text t) = same_text-refl t

mutual
  same_type-refl : (t : Ty) → same_type t t ≡ true
  same_type-refl (int w) = eq-eqb w w refl
  same_type-refl ptr = refl
  same_type-refl token = refl
  same_type-refl (array n t) = both-true (n == n) (same_type t t) (eq-eqb n n refl) (same_type-refl t)
  same_type-refl (structure ts) = same_types-refl ts
  same_type-refl (named n) = same_name-refl n

  same_types-refl : (ts : Tys) → same_types ts ts ≡ true
  same_types-refl none = refl
  same_types-refl (field t ts) = both-true (same_type t t) (same_types ts ts) (same_type-refl t) (same_types-refl ts)

decided-by : (r v : Bool) (t u : Ty) → same_type t u ≡ v → (IsTrue r → t ≡ u) → (t ≡ u → IsTrue r) → r ≡ v
decided-by true true t u e f g = refl
decided-by false false t u e f g = refl
decided-by true false t u e f g = sym (sym e ∙ ap (λ x. same_type t x) (sym (f refl)) ∙ same_type-refl t)
decided-by false true t u e f g = g (same_type-same t u e)

pub decided : (r : Bool) (t u : Ty) → IsTrue r ↔ (t ≡ u) → r ≡ same_type t u
decided r t u h = decided-by r (same_type t u) t u refl h.0 h.1
