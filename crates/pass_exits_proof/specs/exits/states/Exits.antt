-- The module whose coroutines have blocks on the edges that leave windows, and what that asks of them.
use Rattle.std.specs.Prelude.{◌≡◌, ℕ, true, None, Some, map, slice_get, if◌then◌else◌}
use Rattle.pass_fetch_proof.specs.rule_shape.Switches.{wrong_switch}
use Rattle.pass_fetch_proof.specs.edges.rules.Phis.{ArePhisEnteredByJumps}
use Rattle.pass_fetch_proof.specs.rule_laws.rules.function_rules.Kept.{KeepsFunctionRules}
use Rattle.ir_model.specs.declared.module.Function.{Function}
use Rattle.ir_model.specs.declared.module.Module.{Module}
use Rattle.pass_split.specs.pass_exits.ExitBlocks.{with_exit_blocks}

-- the edges of a coroutine that leave windows have blocks
abbrev pub exit_function : Function → Function
exit_function f = if f.coroutine then with_exit_blocks f else f

abbrev pub exits_split : Module → Module
exits_split m = record { types = m.types; globals = m.globals; declarations = m.declarations; functions = map exit_function m.functions }

-- a coroutine breaks no rule of functions, and not K3, and jumps alone lead to its blocks with phis
pub record KeepsExits (m : Module) (k : ℕ) (f : Function) : Type 0 where
  pub rules : KeepsFunctionRules m k f
  pub switches : wrong_switch k f ≡ None
  pub jumps : ArePhisEnteredByJumps f

abbrev pub AreExitsKept : Module → Type 0
AreExitsKept m = (k : ℕ) (f : Function) → slice_get m.functions k ≡ Some f → f.coroutine ≡ true → KeepsExits m k f
