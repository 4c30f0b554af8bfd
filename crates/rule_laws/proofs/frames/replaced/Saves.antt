-- The number that is beside a save is that of a suspend.
use Rattle.std.proofs.Common.{◌≡◌, ◌⊎◌, inl, inr, ⊎_elim, ℕ, zero, suc, ◌+◌, ◌<◌, List, [], ◌∷◌, length, refl, sym, arith}
use Rattle.std.specs.Prelude.{None, Option, Some, replicate, slice_get, slice_set}
use Rattle.frame_layout.specs.declared.layout.Layout.{Layout}
use Rattle.pass_intrinsics.specs.Lowered.{number_at, number_of_save}
use Rattle.pass_intrinsics.specs.Shapes.{saves_of, shape_of, suspends_of, with_save, with_saves}
use Rattle.pass_intrinsics.specs.declared.shape.SuspendPoint.{SuspendPoint}
use Rattle.ir_laws.specs.ir_model.declared.module.Function.{Function}

-- what stands in a list in which one element is set
pub set_or_there : {A : Type 0} (xs : List A) (n : ℕ) (x : A) (k : ℕ) (y : A) → slice_get (slice_set xs n x) k ≡ Some y → (y ≡ x) ⊎ (slice_get xs k ≡ Some y)
set_or_there [] n x k y e = inr e
set_or_there (a ∷ xs) zero x zero y e = inl (let t : x ≡ y = cc in sym t)
set_or_there (a ∷ xs) zero x (suc k) y e = inr e
set_or_there (a ∷ xs) (suc n) x zero y e = inr e
set_or_there (a ∷ xs) (suc n) x (suc k) y e = set_or_there xs n x k y e

pub all_one : {A : Type 0} (n : ℕ) (x : A) (k : ℕ) (y : A) → slice_get (replicate n x) k ≡ Some y → y ≡ x
all_one zero x k y e = absurd (cc)
all_one (suc n) x zero y e = let t : x ≡ y = cc in sym t
all_one (suc n) x (suc k) y e = all_one n x k y e

-- each number in a table is below a bound
abbrev IsBelow : List (Option ℕ) → ℕ → Type 0
IsBelow table bound = (r i : ℕ) → slice_get table r ≡ Some (Some i) → i < bound

one_below : (table : List (Option ℕ)) (j : ℕ) (o : Option ℕ) → IsBelow table j → IsBelow (with_save table j o) (j + 1)
one_below table j None h r i e = let low : i < j = h r i e in omega (arith, low)
one_below table j (Some save) h r i e =
    ⊎_elim
    (λ (d : Some i ≡ Some j). let same : i ≡ j = cc in omega (arith, same))
    (λ d. let low : i < j = h r i d in omega (arith, low))
    (set_or_there table save (Some j) r (Some i) e)

all_below : (table : List (Option ℕ)) (j : ℕ) (ss : List SuspendPoint) → IsBelow table j → IsBelow (with_saves table j ss) (j + length ss)
all_below table j [] h r i e = let low : i < j = h r i e in omega (arith, low)
all_below table j (s ∷ ss) h r i e =
    let low : i < j + 1 + length ss = all_below (with_save table j s.save) (j + 1) ss (one_below table j s.save h) r i e in
    omega (arith, low)

pub saves_below : (f : Function) (l : Layout) (r : Option ℕ) (j : ℕ) → number_of_save (shape_of f l) r ≡ Some j → j < length (shape_of f l).suspends
saves_below f l None j e = absurd (cc)
saves_below f l (Some r) j e = on (slice_get (saves_of f (suspends_of f)) r) refl e
  where
    none : IsBelow (replicate (length f.names) None) 0
    none k i d = let t : Some i ≡ None = all_one (length f.names) None k (Some i) d in absurd (cc)

    on : (o : Option (Option ℕ)) → slice_get (saves_of f (suspends_of f)) r ≡ o → number_at o ≡ Some j → j < length (suspends_of f)
    on None d e = absurd (cc)
    on (Some None) d e = absurd (cc)
    on (Some (Some i)) d e =
        let same : i ≡ j = cc in
        let low : i < 0 + length (suspends_of f) = all_below (replicate (length f.names) None) 0 (suspends_of f) none r i d in
        omega (arith, same, low)
