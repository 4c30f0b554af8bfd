-- Lemmas on saved state, that speak of no pass.
use Rattle.std.specs.Prelude.{ℕ}
use Rattle.run_laws.specs.ir_model.Names.{function_at}
use Rattle.run_laws.specs.ir_model.declared.module.Module.{Module}
use Rattle.ir_laws.specs.paths.expanded.Tokens.{HasNamedTokens}

-- ---- what is asked of a module and of a state

-- the names that writing saves out looks at are positions of their functions' tables
abbrev pub AreTokensNamed : Module → Type 0
AreTokensNamed m = (func : ℕ) → HasNamedTokens (function_at m func)
