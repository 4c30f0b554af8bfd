-- Lemmas on framed, that speak of no pass.
use Rattle.std.proofs.Common.{◌≡◌, inl, inr, ℕ, zero, suc, List, [], ◌∷◌, sym}
use Rattle.std.specs.Prelude.{Some, slice_get}
use Rattle.run_laws.specs.flow_solver.Paths.{IsListed}

-- ---- lists

pub get_listed : {A : Type 0} (xs : List A) (n : ℕ) (x : A) → slice_get xs n ≡ Some x → IsListed x xs
get_listed [] n x e = absurd (cc)
get_listed (y ∷ xs) zero x e = let same : y ≡ x = cc in inl (sym same)
get_listed (y ∷ xs) (suc n) x e = inr (get_listed xs n x e)
