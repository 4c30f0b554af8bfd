-- Functions that break none of the rules of functions in modules without coroutines, but that they may be coroutines and call coro intrinsics.
use Rattle.std.specs.Prelude.{ℕ, [], None, Some, slice_get, ◌≡◌}
use Rattle.rule_uses.specs.Undefined.{IsFirstUndefined}
use Rattle.rule_uses.specs.Uses.{uses_of}
use Rattle.rule_laws.specs.rules.local_rules.Local.{BreaksNoLocalRuleAt}
use Rattle.rule_laws.specs.rules.source_rules.Named.{HasTabledLocals}
use Rattle.rule_phis.specs.Edges.{first_wrong_edge}
use Rattle.ir_laws.specs.ir_model.declared.module.Function.{Function}
use Rattle.ir_laws.specs.ir_model.declared.module.Module.{Module}
use Rattle.rule_names.specs.Definitions.{first_twice}
use Rattle.rule_names.specs.Known.{first_unknown}
use Rattle.rule_names.specs.declared.stage.Stage.{Stage}
use Rattle.ir_parts.specs.Locals.{locals_of}
use Rattle.rule_types.specs.Limits.{first_past}
use Rattle.rule_types.specs.Signatures.{first_otherwise}

-- N1, N2, L1 of types, Y1 to Y5, F1 to F3, P1, K1 of sources and K13 have no fault in a function at a position of a module;
-- its allocas are no larger than a stage allows
pub record KeepsFunctionRulesAt (stage : Stage) (m : Module) (k : ℕ) (f : Function) : Type 0 where
  pub tabled : HasTabledLocals k f
  pub definitions : first_twice [] (locals_of k f) ≡ None
  pub known : first_unknown m k f ≡ None
  pub depths : first_past Stage.Plain m k f ≡ None
  pub calls : first_otherwise m k f ≡ None
  pub local : BreaksNoLocalRuleAt stage m k f
  pub edges : first_wrong_edge k f ≡ None
  pub uses : IsFirstUndefined f (uses_of k f) None

-- so it is by the limits of sources
abbrev pub KeepsFunctionRules : Module → ℕ → Function → Type 0
KeepsFunctionRules m k f = KeepsFunctionRulesAt Stage.Source m k f

-- each function of a module, at its position
abbrev pub AllKeepFunctionRules : Module → Type 0
AllKeepFunctionRules m = (k : ℕ) (f : Function) → slice_get m.functions k ≡ Some f → KeepsFunctionRules m k f
