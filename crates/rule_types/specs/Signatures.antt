-- Types of calls and of what is called (rule Y2).
use Rattle.std.specs.Prelude.{ℕ, Bool, true, false, not, List, [], map, slice_get, Some, None, Option, ◌&&◌, ◌∷◌}
use Rattle.ir_base.specs.declared.name.Name.{Name}
use Rattle.ir_base.specs.declared.outcome.Place.{Place}
use Rattle.ir_parts.specs.Parts.{Part, OfInstr, first_part, parts_of}
use Rattle.ir_model.specs.Layout.{same_type}
use Rattle.ir_model.specs.Names.{declaration_named, function_named}
use Rattle.ir_model.specs.Table.{callee_named}
use Rattle.ir_model.specs.Ty.{Ty}
use Rattle.ir_model.specs.declared.instr.Instr.{Instr}
use Rattle.ir_model.specs.declared.module.Declaration.{Declaration}
use Rattle.ir_model.specs.declared.module.Function.{Function}
use Rattle.ir_model.specs.declared.module.Module.{Module}
use Rattle.ir_model.specs.declared.operand.Arg.{Arg}
use Rattle.ir_model.specs.declared.operand.Callee.{Callee}
use Rattle.rule_names.specs.Items.{Sentence}
use Rattle.rule_names.specs.Known.{allocator_name}
use Rattle.rule_types.specs.Wants.{allocator_params, allocator_result, intrinsic_params, intrinsic_result, is_basic, meets}
use Rattle.rule_types.specs.declared.wants.Basic.{Basic}
use Rattle.rule_types.specs.declared.wants.Wanted.{Wanted}

-- ---- functions of the module

abbrev pub same_result : Option Ty → Option Ty → Bool
same_result None None = true
same_result (Some t) (Some u) = same_type t u
same_result _ _ = false

-- as many types, and the same
abbrev pub same_list : List Ty → List Ty → Bool
same_list [] [] = true
same_list (t ∷ ts) (u ∷ us) = same_type t u && same_list ts us
same_list _ _ = false

abbrev pub fits_function : Option Ty → List Ty → Option Function → Bool
fits_function ty args None = false
fits_function ty args (Some f) = same_result ty f.result && same_list args (map (λ p. p.ty) f.params)

abbrev pub fits_declared : Option Ty → List Ty → Option Declaration → Bool
fits_declared ty args None = false
fits_declared ty args (Some d) = same_result ty d.result && same_list args d.params

abbrev pub fits_declaration : Module → Option Ty → List Ty → Option ℕ → Bool
fits_declaration m ty args None = false
fits_declaration m ty args (Some k) = fits_declared ty args (slice_get m.declarations k)

abbrev pub fits_position : Module → Option Ty → List Ty → Name → Option ℕ → Bool
fits_position m ty args n (Some k) = fits_function ty args (slice_get m.functions k)
fits_position m ty args n None = fits_declaration m ty args (declaration_named m n)

-- the function that is so named has these types; a global has none
abbrev pub fits_named : Module → Option Ty → List Ty → Name → Bool
fits_named m ty args n = fits_position m ty args n (function_named m n)

-- ---- intrinsics and allocators

abbrev pub is_result : Option Basic → Option Ty → Bool
is_result None None = true
is_result (Some b) (Some t) = is_basic b t
is_result _ _ = false

abbrev pub are_types : List Wanted → List Ty → Bool
are_types [] [] = true
are_types (w ∷ ws) (t ∷ ts) = is_basic w.ty t && are_types ws ts
are_types _ _ = false

abbrev pub are_wanted : List Wanted → List Arg → Bool
are_wanted [] [] = true
are_wanted (w ∷ ws) (a ∷ rest) = (is_basic w.ty a.ty && meets w.value a.value) && are_wanted ws rest
are_wanted _ _ = false

-- ---- calls and declarations

-- a call is of the types of its callee, and of an intrinsic or an allocator by the table, constants included
abbrev pub fits_callee : Module → Option Ty → List Arg → Callee → Bool
fits_callee m ty args (Callee.Named n) = fits_named m ty (map (λ a. a.ty) args) n
fits_callee m ty args (Callee.Allocator a) =
    (is_result (allocator_result a) ty && are_wanted (allocator_params a) args) && fits_named m ty (map (λ x. x.ty) args) (allocator_name a)
fits_callee m ty args (Callee.Intrinsic i) = is_result (intrinsic_result i) ty && are_wanted (intrinsic_params i) args
fits_callee m ty args (Callee.Local v) = true

-- a declaration of an intrinsic or an allocator is by the table
abbrev pub fits_table : Declaration → Callee → Bool
fits_table d (Callee.Intrinsic i) = is_result (intrinsic_result i) d.result && are_types (intrinsic_params i) d.params
fits_table d (Callee.Allocator a) = is_result (allocator_result a) d.result && are_types (allocator_params a) d.params
fits_table d _ = true

abbrev pub calls_otherwise : Module → Place → Part → Bool
calls_otherwise m place (OfInstr (Instr.Call r must_tail ty callee args)) = not (fits_callee m ty args callee)
calls_otherwise m place x = false

abbrev pub first_otherwise : Module → ℕ → Function → Option Place
first_otherwise m k f = first_part (calls_otherwise m) (parts_of k f)

-- Y2: a call's types or count differ from the callee's; a declared or called intrinsic or allocator differs from the table; a call of a global
abbrev pub other_types : Module → Sentence
other_types m =
    record {
      on_type = λ k t. false;
      on_global = λ k g. false;
      on_declaration = λ k d. not (fits_table d (callee_named d.name));
      in_function = first_otherwise m;
    }
