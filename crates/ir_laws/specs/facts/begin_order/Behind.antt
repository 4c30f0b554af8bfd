-- Lemmas on behind, that speak of no pass.
use Rattle.std.specs.Prelude.{ℕ, List, ◌^◌, ◌<◌}
use Rattle.run_laws.specs.changed.Changed.{Each}

-- sizes are numbers of 64 bits
abbrev pub AreSizes : List ℕ → Type 0
AreSizes sizes = Each (λ (n : ℕ). n < 2 ^ 64) sizes
