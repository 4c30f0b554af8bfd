-- Calls of functions that are declared only (rule Y3).
use Rattle.std.specs.Prelude.{ℕ, Bool, false, Some, None, Option, codes, option_to_list, slice_get, ◌||◌, ◌++◌}
use Rattle.std.specs.List.{list_any}
use Rattle.ir_base.specs.declared.name.Name.{Name}
use Rattle.ir_base.specs.declared.outcome.Place.{Place}
use Rattle.ir_parts.specs.Parts.{first_part, parts_of}
use Rattle.ir_model.specs.Names.{declaration_named, function_named}
use Rattle.ir_model.specs.declared.instr.Instr.{Instr}
use Rattle.ir_model.specs.declared.module.Declaration.{Declaration}
use Rattle.ir_model.specs.declared.module.Function.{Function}
use Rattle.ir_model.specs.declared.module.Module.{Module}
use Rattle.ir_model.specs.declared.operand.Callee.{Callee}
use Rattle.rule_locals.specs.Instrs.{on_instr}
use Rattle.rule_names.specs.Reserved.{name_begins}
use Rattle.rule_types.specs.Wants.{is_ptr}

-- a pointer among the result and the parameters
abbrev pub has_pointer : Option Declaration → Bool
has_pointer None = false
has_pointer (Some d) = list_any is_ptr (option_to_list d.result ++ d.params)

abbrev pub is_closed_declaration : Module → Name → Option ℕ → Bool
is_closed_declaration m n None = false
is_closed_declaration m n (Some k) = name_begins (codes "llvm.") n || has_pointer (slice_get m.declarations k)

abbrev pub is_closed_at : Module → Name → Option ℕ → Bool
is_closed_at m n (Some k) = false
is_closed_at m n None = is_closed_declaration m n (declaration_named m n)

-- a function that is declared only, and has a pointer parameter or result, or a name that begins with `llvm.`
abbrev pub is_closed : Module → Name → Bool
is_closed m n = is_closed_at m n (function_named m n)

-- Y3: a call of such a function; allocators and the intrinsics of the table are none
abbrev pub calls_closed : Module → Place → Instr → Bool
calls_closed m place (Instr.Call r must_tail ty (Callee.Named n) args) = is_closed m n
calls_closed m place i = false

abbrev pub first_closed_call : Module → ℕ → Function → Option Place
first_closed_call m k f = first_part (on_instr (calls_closed m)) (parts_of k f)
