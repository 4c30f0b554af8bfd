-- Lemmas on shaped, that speak of no pass.
use Rattle.std.proofs.Common.{Bool, List, [], false, inl, inr, refl, true, ◌∷◌, ◌≡◌}
use Rattle.std.specs.List.{list_any}
use Rattle.std.specs.Prelude.{◌||◌}
use Rattle.run_laws.specs.flow_solver.Paths.{IsListed}

-- ---- tests

pub any_there : {A : Type 0} (t : A → Bool) (xs : List A) → list_any t xs ≡ true → (x : A) × (IsListed x xs × (t x ≡ true))
any_there t [] h = absurd (cc)
any_there {A = A} t (x ∷ xs) h = on (t x) refl h (λ k. any_there t xs k)
  where
    on : (b : Bool) → t x ≡ b → (b || list_any t xs) ≡ true → (list_any t xs ≡ true → (y : A) × (IsListed y xs × (t y ≡ true))) → (y : A) × (IsListed y (x ∷ xs) × (t y ≡ true))
    on true e k more = (x, (inl refl, e))
    on false e k more = let y = more k in (y.0, (inr y.1.0, y.1.1))
