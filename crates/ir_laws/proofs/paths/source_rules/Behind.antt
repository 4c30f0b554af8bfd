-- Lemmas on behind, that speak of no pass.
use Rattle.std.proofs.Common.{inl, inr, List, [], ◌∷◌, refl}
use Rattle.run_laws.specs.flow_solver.Paths.{IsListed}
use Rattle.run_laws.specs.changed.Changed.{Each}

pub each_listed : {A : Type 0} (xs ys : List A) → ((x : A) → IsListed x xs → IsListed x ys) → Each (λ x. IsListed x ys) xs
each_listed [] ys h = tt
each_listed (x ∷ xs) ys h = (h x (inl refl), each_listed xs ys (λ y k. h y (inr k)))
