-- Lemmas on pairs, that speak of no pass.
use Rattle.std.specs.Prelude.{ℕ, List, [], ◌∷◌}
use Rattle.run_laws.specs.flow_solver.Paths.{IsListed}

-- no number stands twice
abbrev pub AreDifferent : List ℕ → Type 0
AreDifferent [] = Unit {0}
AreDifferent (n ∷ ns) = (IsListed n ns → ⊥) × AreDifferent ns
