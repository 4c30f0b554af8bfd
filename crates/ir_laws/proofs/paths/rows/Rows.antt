-- Rows of numbers, none of which stands twice.
use Rattle.std.proofs.Common.{List, Some, [], arith, refl, suc, ℕ, ⊎_elim, ◌∷◌, ◌≡◌}
use Rattle.std.specs.Prelude.{slice_get}
use Rattle.ir_laws.proofs.paths.source_rules.Locals.{listed_either}
use Rattle.ir_laws.proofs.facts.Lists.{row_of}
use Rattle.run_laws.specs.flow_solver.Paths.{IsListed}
use Rattle.ir_laws.specs.paths.woven_rules.Pairs.{AreDifferent}
use Rattle.ir_laws.proofs.paths.edges.Lists.{joined_different as different_joined}

-- which element has a number of the row
pub record IsInRow {A : Type 0} (g : A → List ℕ) (xs : List A) (n : ℕ) : Type 0 where
  pub index : ℕ
  pub element : A
  pub got : slice_get xs index ≡ Some element
  pub has : IsListed n (g element)

pub in_row_of : {A : Type 0} (g : A → List ℕ) (xs : List A) (n : ℕ) → IsListed n (row_of g xs) → IsInRow g xs n
in_row_of g [] n l = absurd l
in_row_of g (x ∷ xs) n l = ⊎_elim
    (λ (a : IsListed n (g x)). record { index = 0; element = x; got = refl; has = a })
    (λ (b : IsListed n (row_of g xs)). let y = in_row_of g xs n b in record { index = suc y.index; element = y.element; got = y.got; has = y.has })
    (listed_either n (g x) (row_of g xs) l)

-- no number stands twice in a row where it stands twice with no element, and with one element alone
pub row_different : {A : Type 0} (g : A → List ℕ) (xs : List A) → ((k : ℕ) (x : A) → slice_get xs k ≡ Some x → AreDifferent (g x)) → ((k m : ℕ) (x y : A) (n : ℕ) → slice_get xs k ≡ Some x → slice_get xs m ≡ Some y → IsListed n (g x) → IsListed n (g y) → k ≡ m) → AreDifferent (row_of g xs)
row_different g [] own apart = tt
row_different g (x ∷ xs) own apart =
    different_joined (g x) (row_of g xs) (own 0 x refl)
    (row_different g xs (λ k y e. own (suc k) y e) (λ k m y z n d e a b. let same : suc k ≡ suc m = apart (suc k) (suc m) y z n d e a b in omega (arith, same)))
    (λ n a b. let y = in_row_of g xs n b in let same : 0 ≡ suc y.index = apart 0 (suc y.index) x y.element n refl y.got a y.has in absurd (omega (arith, same)))
