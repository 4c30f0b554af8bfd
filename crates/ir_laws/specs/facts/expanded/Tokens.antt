-- Lemmas on tokens, that speak of no pass.
use Rattle.std.specs.Prelude.{ℕ, Some, None, Option, ◌<◌}
use Rattle.run_laws.specs.ir_model.declared.operand.Operand.{Operand}

-- a local is one of so many names
abbrev pub IsNamed : ℕ → Operand → Type 0
IsNamed n (Operand.Local v) = v < n
IsNamed n _ = Unit {0}

abbrev pub IsNamedResult : ℕ → Option ℕ → Type 0
IsNamedResult n None = Unit {0}
IsNamedResult n (Some v) = v < n
