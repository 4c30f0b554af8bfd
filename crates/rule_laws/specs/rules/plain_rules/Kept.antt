-- Functions and modules that break none of the rules of modules without coroutines.
use Rattle.std.specs.Prelude.{ℕ, [], None, Some, slice_get, ◌≡◌}
use Rattle.rule_uses.specs.Undefined.{IsFirstUndefined}
use Rattle.rule_uses.specs.Uses.{uses_of}
use Rattle.rule_phis.specs.Edges.{first_wrong_edge}
use Rattle.ir_parts.specs.Locals.{locals_of}
use Rattle.ir_laws.specs.ir_model.declared.module.Function.{Function}
use Rattle.ir_laws.specs.ir_model.declared.module.Module.{Module}
use Rattle.rule_locals.specs.Calls.{first_closed_call}
use Rattle.rule_locals.specs.Entries.{first_late_alloca}
use Rattle.rule_locals.specs.Extents.{first_past_extent}
use Rattle.rule_locals.specs.Intrinsics.{first_misplaced}
use Rattle.rule_locals.specs.Markers.{first_other_mark}
use Rattle.rule_locals.specs.Transfers.{first_wrong_transfer}
use Rattle.rule_names.specs.Definitions.{first_twice}
use Rattle.rule_names.specs.Known.{first_unknown}
use Rattle.rule_names.specs.declared.stage.Stage.{Stage}
use Rattle.rule_types.specs.Limits.{first_past}
use Rattle.rule_types.specs.Signatures.{first_otherwise}
use Rattle.rule_values.specs.Values.{first_wrong_value}

-- N1, N2, L1 of types, Y1 to Y5, F1 to F3 and K13 have no fault in a function at a position of a module without coroutines
pub record KeepsPlainRules (m : Module) (k : ℕ) (f : Function) : Type 0 where
  pub definitions : first_twice [] (locals_of k f) ≡ None
  pub known : first_unknown m k f ≡ None
  pub depths : first_past Stage.Plain m k f ≡ None
  pub calls : first_otherwise m k f ≡ None
  pub values : first_wrong_value m k f ≡ None
  pub closed_calls : first_closed_call m k f ≡ None
  pub extents : first_past_extent Stage.Plain m k f ≡ None
  pub transfers : first_wrong_transfer Stage.Plain k f ≡ None
  pub edges : first_wrong_edge k f ≡ None
  pub uses : IsFirstUndefined f (uses_of k f) None
  pub allocas : first_late_alloca k f ≡ None
  pub marks : first_other_mark m k f ≡ None

-- each function of a module, at its position
abbrev pub AllKeepPlainRules : Module → Type 0
AllKeepPlainRules m = (k : ℕ) (f : Function) → slice_get m.functions k ≡ Some f → KeepsPlainRules m k f

-- K1: no function is a coroutine, and no coro intrinsic is called or named
abbrev pub HasNoCoroutine : Module → Type 0
HasNoCoroutine m = (k : ℕ) (f : Function) → slice_get m.functions k ≡ Some f → first_misplaced Stage.Plain k f ≡ None
