-- Addresses of functions and indirect calls (rule P1).
use Rattle.std.specs.Prelude.{ℕ, Bool, true, false, not, Option, is_some, ◌||◌}
use Rattle.std.specs.List.{list_all}
use Rattle.ir_base.specs.declared.outcome.Place.{Place}
use Rattle.ir_parts.specs.Contents.{part_operands}
use Rattle.ir_parts.specs.Parts.{Part, OfInstr, first_part, parts_of}
use Rattle.ir_model.specs.Names.{global_named}
use Rattle.ir_model.specs.declared.instr.Instr.{Instr}
use Rattle.ir_model.specs.declared.module.Function.{Function}
use Rattle.ir_model.specs.declared.module.Module.{Module}
use Rattle.ir_model.specs.declared.operand.Callee.{Callee}
use Rattle.ir_model.specs.declared.operand.Operand.{Operand}

-- no function's address: a name that is used as a value is a global's or a function's
abbrev pub is_no_function : Module → Operand → Bool
is_no_function m (Operand.Global n) = is_some (global_named m n)
is_no_function m x = true

abbrev pub is_indirect : Callee → Bool
is_indirect (Callee.Local v) = true
is_indirect c = false

abbrev pub calls_indirectly : Part → Bool
calls_indirectly (OfInstr (Instr.Call r must_tail ty callee args)) = is_indirect callee
calls_indirectly x = false

-- P1: a function's address or an indirect call
abbrev pub points_to_functions : Module → Place → Part → Bool
points_to_functions m place part = not (list_all (is_no_function m) (part_operands part)) || calls_indirectly part

abbrev pub first_function_pointer : Module → ℕ → Function → Option Place
first_function_pointer m k f = first_part (points_to_functions m) (parts_of k f)
