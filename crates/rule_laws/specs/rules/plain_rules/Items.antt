-- Modules whose types, globals, declarations and names of functions break no rule.
use Rattle.std.specs.Prelude.{ℕ, false, Some, slice_get, ◌≡◌, ◌&&◌, ◌||◌}
use Rattle.ir_laws.specs.ir_model.declared.module.Declaration.{Declaration}
use Rattle.ir_laws.specs.ir_model.declared.module.Function.{Function}
use Rattle.ir_laws.specs.ir_model.declared.module.GlobalItem.{GlobalItem}
use Rattle.ir_laws.specs.ir_model.declared.module.Module.{Module}
use Rattle.ir_laws.specs.ir_model.declared.module.TypeItem.{TypeItem}
use Rattle.rule_locals.specs.Extents.{misaligned_globals}
use Rattle.rule_names.specs.Definitions.{is_second_function, second_definitions}
use Rattle.rule_names.specs.Items.{Sentence}
use Rattle.rule_names.specs.Known.{unknown_names}
use Rattle.rule_names.specs.Reserved.{is_reserved, is_taken, reserved_names}
use Rattle.rule_names.specs.Stage.{is_source}
use Rattle.rule_names.specs.declared.stage.Stage.{Stage}
use Rattle.rule_types.specs.Limits.{limits}
use Rattle.rule_types.specs.Signatures.{other_types}
use Rattle.rule_values.specs.Initials.{wrong_initials}

-- no type, global or declaration breaks the rule
pub record IsKeptByItems (s : Sentence) (m : Module) : Type 0 where
  pub types : (k : ℕ) (t : TypeItem) → slice_get m.types k ≡ Some t → s.on_type k t ≡ false
  pub globals : (k : ℕ) (g : GlobalItem) → slice_get m.globals k ≡ Some g → s.on_global k g ≡ false
  pub declarations : (k : ℕ) (d : Declaration) → slice_get m.declarations k ≡ Some d → s.on_declaration k d ≡ false

-- the name of each function is its own, and not reserved
pub record AreNamesFree (stage : Stage) (m : Module) : Type 0 where
  pub once : (k : ℕ) (f : Function) → slice_get m.functions k ≡ Some f → is_second_function m k f.name ≡ false
  pub free : (k : ℕ) (f : Function) → slice_get m.functions k ≡ Some f → (is_reserved f.name || (is_source stage && is_taken m f)) ≡ false

-- N1, N2, N3, L1, Y2, and Y1 and Y4 of globals, have no fault in a type, a global, a declaration or the name of a function
pub record KeepsItemRules (stage : Stage) (m : Module) : Type 0 where
  pub names : AreNamesFree stage m
  pub definitions : IsKeptByItems (second_definitions m) m
  pub known : IsKeptByItems (unknown_names m) m
  pub reserved : IsKeptByItems (reserved_names stage m) m
  pub depths : IsKeptByItems (limits stage m) m
  pub types : IsKeptByItems (other_types m) m
  pub initials : IsKeptByItems (wrong_initials m) m
  pub alignments : IsKeptByItems misaligned_globals m
