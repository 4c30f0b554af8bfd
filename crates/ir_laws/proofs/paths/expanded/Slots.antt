-- Lemmas on slots, that speak of no pass.
use Rattle.std.proofs.Common.{◌≡◌, ℕ, ◌⊎◌, inl, inr, true, List, [], ◌∷◌, subst}
use Rattle.std.specs.Prelude.{◌==◌}
use Rattle.run_laws.specs.ir_paths.Slots.{has_name}
use Rattle.run_laws.specs.changed.Changed.{Each}
use Rattle.run_laws.proofs.ir_paths.Search.{either, eq_from}

pub each_has : (P : ℕ → Type 0) (vs : List ℕ) (a : ℕ) → Each P vs → has_name vs a ≡ true → P a
each_has P [] a h e = absurd (cc)
each_has P (v ∷ vs) a h e = on (either (v == a) (has_name vs a) e) (each_has P vs a h.1)
  where
    on : ((v == a) ≡ true) ⊎ (has_name vs a ≡ true) → (has_name vs a ≡ true → P a) → P a
    on (inl s) again = subst P (eq_from v a s) h.0
    on (inr s) again = again s
