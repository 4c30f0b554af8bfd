-- Lemmas on words, that speak of no pass.
use Rattle.std.proofs.Common.{◌≡◌, inl, inr, Bool, true, false, refl}
use Rattle.std.specs.Prelude.{◌||◌, ◌⊎◌}

pub either : (a b : Bool) → (a || b) ≡ true → (a ≡ true) ⊎ (b ≡ true)
either true b e = inl refl
either false b e = inr e
