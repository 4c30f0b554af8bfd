-- Lemmas on paths, that speak of no pass.
use Rattle.std.proofs.Common.{◌≡◌, inl, inr, ℕ, zero, suc, List, [], ◌∷◌, refl, sym, ap}
use Rattle.std.specs.Prelude.{Some, map, slice_get}
use Rattle.run_laws.specs.flow_solver.Paths.{IsListed}

-- ---- lists

-- what is listed in what a function makes of a list comes from an element
pub from_mapped : {A B : Type 0} (g : A → B) (xs : List A) (y : B) → IsListed y (map g xs) → (x : A) × (IsListed x xs × (y ≡ g x))
from_mapped g [] y l = absurd l
from_mapped g (x ∷ xs) y (inl e) = (x, (inl refl, e))
from_mapped g (x ∷ xs) y (inr l) = let z = from_mapped g xs y l in (z.0, (inr z.1.0, z.1.1))

-- where an element of a list stands, and what stands in a list is listed
pub place_of : {A : Type 0} (xs : List A) (x : A) → IsListed x xs → (at : ℕ) × (slice_get xs at ≡ Some x)
place_of [] x l = absurd l
place_of (y ∷ xs) x (inl e) = (0, ap (λ z. Some z) (sym e))
place_of (y ∷ xs) x (inr l) = let p = place_of xs x l in (suc p.0, p.1)

pub there_listed : {A : Type 0} (xs : List A) (at : ℕ) (x : A) → slice_get xs at ≡ Some x → IsListed x xs
there_listed [] at x e = absurd (cc)
there_listed (y ∷ xs) zero x e = let same : x ≡ y = cc in inl same
there_listed (y ∷ xs) (suc at) x e = inr (there_listed xs at x e)
