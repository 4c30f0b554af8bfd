-- Names that aren't known (rule N2).
use Rattle.std.specs.Prelude.{ℕ, Bool, true, false, not, List, [], Some, None, Option, is_some, option_to_list, ◌&&◌, ◌||◌, ◌∷◌, ◌++◌, ◌==◌}
use Rattle.std.specs.List.{list_all, list_any}
use Rattle.ir_base.specs.declared.name.Name.{Name}
use Rattle.ir_base.specs.declared.outcome.Place.{Place}
use Rattle.ir_parts.specs.Contents.{part_labels, part_operands, part_types}
use Rattle.ir_parts.specs.Locals.{locals_of}
use Rattle.ir_parts.specs.Parts.{Part, OfInstr, first_part, parts_of}
use Rattle.ir_parts.specs.declared.defined.Definition.{Definition}
use Rattle.ir_model.specs.Names.{declaration_named, function_named, global_named}
use Rattle.ir_model.specs.Table.{allocator_word, callee_named}
use Rattle.ir_model.specs.Ty.{Ty, Tys, array, field, int, named, none, ptr, structure, token}
use Rattle.ir_model.specs.declared.instr.Instr.{Instr}
use Rattle.ir_model.specs.declared.module.Function.{Function}
use Rattle.ir_model.specs.declared.module.Module.{Module}
use Rattle.ir_model.specs.declared.operand.Allocator.{Allocator}
use Rattle.ir_model.specs.declared.operand.Callee.{Callee}
use Rattle.ir_model.specs.declared.operand.Operand.{Operand}
use Rattle.rule_names.specs.Definitions.{type_position}
use Rattle.rule_names.specs.Items.{Sentence}

-- ---- types

abbrev mutual
  -- each name in the type is a type's
  pub knows_type : Module → Ty → Bool
  knows_type m (int w) = true
  knows_type m ptr = true
  knows_type m token = true
  knows_type m (array n t) = knows_type m t
  knows_type m (structure ts) = knows_types m ts
  knows_type m (named n) = is_some (type_position m n)

  pub knows_types : Module → Tys → Bool
  knows_types m none = true
  knows_types m (field t ts) = knows_type m t && knows_types m ts

-- ---- functions and globals

abbrev pub knows_name : Module → Name → Bool
knows_name m n = is_some (function_named m n) || (is_some (declaration_named m n) || is_some (global_named m n))

abbrev pub allocator_name : Allocator → Name
allocator_name a = Name.Text (allocator_word a)

-- what is called is known; the intrinsics of the table need no declaration, the allocators do
abbrev pub knows_callee : Module → Callee → Bool
knows_callee m (Callee.Named n) = knows_name m n
knows_callee m (Callee.Allocator a) = knows_name m (allocator_name a)
knows_callee m (Callee.Intrinsic i) = true
knows_callee m (Callee.Local v) = true

-- the name is that of an intrinsic of the table
abbrev pub is_intrinsic : Callee → Bool
is_intrinsic (Callee.Intrinsic i) = true
is_intrinsic _ = false

-- the name whose address is taken is known
abbrev pub knows_address : Module → Name → Bool
knows_address m n = knows_name m n || is_intrinsic (callee_named n)

-- ---- locals

abbrev pub is_kind : Bool → Definition → Bool
is_kind true d = d.is_label
is_kind false d = not d.is_label

-- a label, or a value, with this name is among the definitions
abbrev pub is_defined : Bool → List Definition → ℕ → Bool
is_defined label ds n = list_any (λ d. is_kind label d && (d.name == n)) ds

abbrev pub is_value : ℕ → Function → ℕ → Bool
is_value k f n = is_defined false (locals_of k f) n

abbrev pub is_label : ℕ → Function → ℕ → Bool
is_label k f n = is_defined true (locals_of k f) n

abbrev pub knows_operand : Module → (ℕ → Bool) → Operand → Bool
knows_operand m values (Operand.Local v) = values v
knows_operand m values (Operand.Global n) = knows_address m n
knows_operand m values x = true

abbrev pub knows_called : Module → Part → Bool
knows_called m (OfInstr (Instr.Call r must_tail ty callee args)) = knows_callee m callee
knows_called m x = true

-- ---- the rule

-- a part names what isn't known, given the values and the labels of its function
abbrev pub names_unknown : Module → (ℕ → Bool) → (ℕ → Bool) → Place → Part → Bool
names_unknown m values labels place part =
    not (list_all (knows_type m) (part_types part)
    && (list_all (knows_operand m values) (part_operands part)
    && (list_all labels (part_labels part) && knows_called m part)))

abbrev pub first_unknown : Module → ℕ → Function → Option Place
first_unknown m k f = first_part (names_unknown m (is_value k f) (is_label k f)) (parts_of k f)

-- N2: a type, label, value, function or global name isn't known
abbrev pub unknown_names : Module → Sentence
unknown_names m =
    record {
      on_type = λ k t. not (knows_type m t.ty);
      on_global = λ k g. not (knows_type m g.ty && knows_operand m (λ n. false) g.init);
      on_declaration = λ k d. not (list_all (knows_type m) (option_to_list d.result ++ d.params));
      in_function = first_unknown m;
    }
