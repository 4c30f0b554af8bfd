-- Lemmas on unbroken, that speak of no pass.
use Rattle.std.proofs.Common.{inl, inr, List, [], ◌∷◌, refl, sym, subst}
use Rattle.run_laws.specs.flow_solver.Paths.{IsListed}
use Rattle.run_laws.specs.changed.Changed.{Each}

-- ---- lists

pub each_listed : {A : Type 0} (P : A → Type 0) (xs : List A) → ((x : A) → IsListed x xs → P x) → Each P xs
each_listed P [] h = tt
each_listed P (x ∷ xs) h = (h x (inl refl), each_listed P xs (λ y l. h y (inr l)))

pub of_listed : {A : Type 0} (P : A → Type 0) (xs : List A) → Each P xs → (x : A) → IsListed x xs → P x
of_listed P [] h x l = absurd l
of_listed P (y ∷ xs) h x (inl e) = subst P (sym e) h.0
of_listed P (y ∷ xs) h x (inr l) = of_listed P xs h.1 x l
