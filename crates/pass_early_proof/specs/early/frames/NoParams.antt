-- Begin's value, which is none of the parameters.
use Rattle.std.specs.Prelude.{◌≡◌, ℕ, true}
use Rattle.rule_laws.specs.rule_uses.Undefined.{params_of}
use Rattle.pass_early.specs.Early.{renaming_of}
use Rattle.rule_laws.specs.flow_solver.Paths.{IsListed}
use Rattle.ir_model.specs.Names.{function_at}
use Rattle.ir_model.specs.declared.module.Module.{Module}

-- no coroutine has a parameter of the name of its begin's value
abbrev pub AreBeginsNoParams : Module → Type 0
AreBeginsNoParams m = (func : ℕ) → (function_at m func).coroutine ≡ true → IsListed (renaming_of (function_at m func)).to (params_of (function_at m func)) → ⊥
