-- The rules that speak of no paths, but for those on the number of things and on reserved names.
use Rattle.std.specs.Prelude.{◌≡◌, ℕ, None, Some, slice_get}
use Rattle.ir_laws.specs.ir_model.declared.module.Function.{Function}
use Rattle.ir_laws.specs.ir_model.declared.module.Module.{Module}
use Rattle.rule_locals.specs.Addresses.{first_function_pointer}
use Rattle.rule_locals.specs.Calls.{first_closed_call}
use Rattle.rule_locals.specs.Entries.{first_late_alloca}
use Rattle.rule_locals.specs.Extents.{first_past_extent, misaligned_globals}
use Rattle.rule_locals.specs.Intrinsics.{first_misplaced}
use Rattle.rule_locals.specs.Markers.{first_other_mark}
use Rattle.rule_locals.specs.Transfers.{first_wrong_transfer}
use Rattle.rule_names.specs.Definitions.{second_definitions}
use Rattle.rule_names.specs.Items.{first_place}
use Rattle.rule_names.specs.Known.{unknown_names}
use Rattle.rule_names.specs.declared.stage.Stage.{Stage}
use Rattle.rule_types.specs.Signatures.{other_types}
use Rattle.rule_values.specs.Initials.{wrong_initials}
use Rattle.rule_values.specs.Values.{first_wrong_value}

-- a function breaks none of Y1, Y3, Y4, Y5, F3, P1, K1 and K13, and its allocas are no larger than a stage allows
pub record BreaksNoLocalRuleAt (stage : Stage) (m : Module) (k : ℕ) (f : Function) : Type 0 where
  pub values : first_wrong_value m k f ≡ None
  pub closed_calls : first_closed_call m k f ≡ None
  pub extents : first_past_extent stage m k f ≡ None
  pub transfers : first_wrong_transfer Stage.Source k f ≡ None
  pub allocas : first_late_alloca k f ≡ None
  pub function_pointers : first_function_pointer m k f ≡ None
  pub misplaced : first_misplaced Stage.Source k f ≡ None
  pub marks : first_other_mark m k f ≡ None

-- so it is by the limits of sources
abbrev pub BreaksNoLocalRuleIn : Module → ℕ → Function → Type 0
BreaksNoLocalRuleIn m k f = BreaksNoLocalRuleAt Stage.Source m k f

-- a module breaks none of N1, N2 and Y2, of Y1 and Y4 of globals, and of these
pub record BreaksNoLocalRule (m : Module) : Type 0 where
  pub definitions : first_place (second_definitions m) m ≡ None
  pub known : first_place (unknown_names m) m ≡ None
  pub types : first_place (other_types m) m ≡ None
  pub initials : first_place (wrong_initials m) m ≡ None
  pub alignments : first_place misaligned_globals m ≡ None
  pub functions : (k : ℕ) (f : Function) → slice_get m.functions k ≡ Some f → BreaksNoLocalRuleIn m k f
