-- Lemmas on moved state, that speak of no pass.
use Rattle.std.specs.Prelude.{ℕ, List, [], length, Some, None, Option, ◌≡◌, ◌∷◌}
use Rattle.ir_laws.specs.run_source.declared.state.Activation.{Activation}
use Rattle.ir_laws.specs.run_source.declared.state.Instance.{Instance}
use Rattle.ir_laws.specs.run_source.declared.state.State.{State}
use Rattle.ir_laws.specs.facts.expanded.Tokens.{IsNamedResult}

-- the name that a return sets is one of the activation's below
abbrev pub IsNamedBelow : Option ℕ → List Activation → Type 0
IsNamedBelow result [] = Unit {0}
IsNamedBelow result (a ∷ below) = IsNamedResult (length a.values) result

-- an instance is one of the topmost activation's function
abbrev pub IsOwnedBy : State → Option (ℕ × Instance) → Type 0
IsOwnedBy s None = Unit {0}
IsOwnedBy s (Some y) = y.1.coroutine ≡ s.top.func
