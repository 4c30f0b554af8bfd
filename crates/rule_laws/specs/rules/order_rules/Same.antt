-- Functions that break each rule of plain functions at the same place.
use Rattle.std.specs.Prelude.{◌≡◌, ◌↔◌, ℕ, [], Option}
use Rattle.ir_laws.specs.ir_base.declared.outcome.Place.{Place}
use Rattle.rule_uses.specs.Undefined.{IsFirstUndefined}
use Rattle.rule_uses.specs.Uses.{uses_of}
use Rattle.rule_phis.specs.Edges.{first_wrong_edge}
use Rattle.ir_parts.specs.Locals.{locals_of}
use Rattle.ir_laws.specs.ir_model.declared.module.Function.{Function}
use Rattle.ir_laws.specs.ir_model.declared.module.Module.{Module}
use Rattle.rule_locals.specs.Calls.{first_closed_call}
use Rattle.rule_locals.specs.Entries.{first_late_alloca}
use Rattle.rule_locals.specs.Extents.{first_past_extent}
use Rattle.rule_locals.specs.Intrinsics.{first_misplaced}
use Rattle.rule_locals.specs.Markers.{first_other_mark}
use Rattle.rule_locals.specs.Transfers.{first_wrong_transfer}
use Rattle.rule_names.specs.Definitions.{first_twice}
use Rattle.rule_names.specs.Known.{first_unknown}
use Rattle.rule_names.specs.declared.stage.Stage.{Stage}
use Rattle.rule_types.specs.Limits.{first_past}
use Rattle.rule_types.specs.Signatures.{first_otherwise}
use Rattle.rule_values.specs.Values.{first_wrong_value}

-- N1, N2, L1 of types, Y1 to Y5, F1 to F3, K1 and K13 have the same first fault in both, at a position of a module
pub record HaveSameFaults (m : Module) (k : ℕ) (f g : Function) : Type 0 where
  pub definitions : first_twice [] (locals_of k g) ≡ first_twice [] (locals_of k f)
  pub known : first_unknown m k g ≡ first_unknown m k f
  pub depths : first_past Stage.Plain m k g ≡ first_past Stage.Plain m k f
  pub calls : first_otherwise m k g ≡ first_otherwise m k f
  pub values : first_wrong_value m k g ≡ first_wrong_value m k f
  pub closed_calls : first_closed_call m k g ≡ first_closed_call m k f
  pub extents : first_past_extent Stage.Plain m k g ≡ first_past_extent Stage.Plain m k f
  pub transfers : first_wrong_transfer Stage.Plain k g ≡ first_wrong_transfer Stage.Plain k f
  pub edges : first_wrong_edge k g ≡ first_wrong_edge k f
  pub uses : (found : Option Place) → IsFirstUndefined f (uses_of k f) found ↔ IsFirstUndefined g (uses_of k g) found
  pub allocas : first_late_alloca k g ≡ first_late_alloca k f
  pub placed : first_misplaced Stage.Plain k g ≡ first_misplaced Stage.Plain k f
  pub marks : first_other_mark m k g ≡ first_other_mark m k f
