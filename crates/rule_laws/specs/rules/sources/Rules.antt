-- Modules that break no rule, but for two of them.
use Rattle.std.specs.Prelude.{◌≡◌, ℕ, Some, slice_get}
use Rattle.rule_laws.specs.rules.local_rules.Local.{BreaksNoLocalRule}
use Rattle.rule_laws.specs.rules.path_rules.Paths.{KeepsPaths}
use Rattle.rule_laws.specs.rules.path_rules.Shape.{KeepsShape}
use Rattle.ir_laws.specs.ir_model.declared.module.Function.{Function}
use Rattle.ir_laws.specs.ir_model.declared.module.Module.{Module}

-- no rule of sources is broken but perhaps L1, on the number of things, and N3, on reserved names (K12 is asked of layouts)
pub record BreaksNoOtherRule (m : Module) : Type 0 where
  pub local : BreaksNoLocalRule m
  pub shape : (k : ℕ) (f : Function) → slice_get m.functions k ≡ Some f → KeepsShape k f
  pub paths : (k : ℕ) (f : Function) → slice_get m.functions k ≡ Some f → KeepsPaths k f
