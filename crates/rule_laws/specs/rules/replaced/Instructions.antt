-- The rules of modules without coroutines that look at the parts of a function one by one.
use Rattle.std.specs.List.{list_all}
use Rattle.std.specs.Prelude.{◌≡◌, ℕ, Bool, true, None, not, ◌&&◌}
use Rattle.ir_laws.specs.ir_base.declared.outcome.Place.{Place}
use Rattle.ir_parts.specs.Contents.{part_labels, part_operands}
use Rattle.ir_parts.specs.Parts.{Part, first_part, parts_of}
use Rattle.ir_laws.specs.ir_model.declared.module.Function.{Function}
use Rattle.ir_laws.specs.ir_model.declared.module.Module.{Module}
use Rattle.ir_laws.specs.ir_model.declared.operand.Operand.{Operand}
use Rattle.rule_locals.specs.Calls.{first_closed_call}
use Rattle.rule_locals.specs.Extents.{first_past_extent}
use Rattle.rule_locals.specs.Transfers.{first_wrong_transfer}
use Rattle.rule_names.specs.Known.{is_label, is_value, names_unknown}
use Rattle.rule_names.specs.declared.stage.Stage.{Stage}
use Rattle.rule_types.specs.Limits.{first_past}
use Rattle.rule_types.specs.Signatures.{first_otherwise}

-- a part of a function names a type, a function or a global that isn't known; what locals it names isn't asked
abbrev pub names_strange : Module → Place → Part → Bool
names_strange n = names_unknown n (λ v. true) (λ l. true)

-- L1 of types, Y2 to Y5, and of N2 what is said of types, functions and globals, have no fault in a function at a position of a module
pub record KeepsRulesOfInstructions (n : Module) (k : ℕ) (f : Function) : Type 0 where
  pub known : first_part (names_strange n) (parts_of k f) ≡ None
  pub depths : first_past Stage.Plain n k f ≡ None
  pub calls : first_otherwise n k f ≡ None
  pub closed_calls : first_closed_call n k f ≡ None
  pub extents : first_past_extent Stage.Plain n k f ≡ None
  pub transfers : first_wrong_transfer Stage.Plain k f ≡ None

-- ---- names of locals

abbrev pub is_there : (ℕ → Bool) → Operand → Bool
is_there values (Operand.Local v) = values v
is_there values x = true

-- a part names a value or a label that its function doesn't define
abbrev pub names_lost : (ℕ → Bool) → (ℕ → Bool) → Place → Part → Bool
names_lost values labels p x = not (list_all (is_there values) (part_operands x) && list_all labels (part_labels x))

-- each value and each label that a function at a position names is defined in it
abbrev pub KnowsItsLocals : ℕ → Function → Type 0
KnowsItsLocals k f = first_part (names_lost (is_value k f) (is_label k f)) (parts_of k f) ≡ None
