-- Modules in which all that functions define has names.
use Rattle.std.specs.Prelude.{◌≡◌, ℕ, Some, slice_get}
use Rattle.rule_laws.specs.rules.source_rules.Named.{HasTabledLocals}
use Rattle.ir_laws.specs.ir_model.declared.module.Function.{Function}
use Rattle.ir_laws.specs.ir_model.declared.module.Module.{Module}

-- what each function of a module defines are positions of its table of names
abbrev pub AreAllTabled : Module → Type 0
AreAllTabled m = (k : ℕ) (f : Function) → slice_get m.functions k ≡ Some f → HasTabledLocals k f
