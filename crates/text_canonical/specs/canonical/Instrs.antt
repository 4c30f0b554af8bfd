-- The text of instructions.
use Rattle.std.specs.Prelude.{ℕ, Bool, Option, Some, None, List, [], ◌++◌, codes, decimal, if◌then◌else◌}
use Rattle.ir_base.specs.declared.name.Name.{Name}
use Rattle.ir_model.specs.Ty.{Ty}
use Rattle.ir_model.specs.declared.instr.Instr.{Instr}
use Rattle.ir_model.specs.declared.operand.Operand.{Operand}
use Rattle.text_canonical.specs.canonical.Operands.{arg_text, args_text, callee_text, local_text, more_args_text, operand_text, result_text}
use Rattle.text_canonical.specs.canonical.Types.{type_text}
use Rattle.text_canonical.specs.canonical.Words.{binary_word, cast_word, flag_text, flags_text, pred_word}

-- the name that an instruction sets
abbrev pub set_by : Instr → Option ℕ
set_by (Instr.Binary result op flags ty left right) = Some result
set_by (Instr.Icmp result pred ty left right) = Some result
set_by (Instr.Select result cond then_value else_value) = Some result
set_by (Instr.Cast result op nneg arg to) = Some result
set_by (Instr.Alloca result ty align) = Some result
set_by (Instr.Load result ty address align) = Some result
set_by (Instr.Store arg address align) = None
set_by (Instr.Gep result inbounds ty base indices) = Some result
set_by (Instr.Call result must_tail ty callee args) = result

abbrev pub set_text : List Name → Option ℕ → List ℕ
set_text names None = []
set_text names (Some id) = local_text names id ++ codes " = "

-- a type and two operands of it
abbrev pub pair_text : List Name → Ty → Operand → Operand → List ℕ
pair_text names ty left right = codes " " ++ type_text ty ++ codes " " ++ operand_text names left ++ codes ", " ++ operand_text names right

-- the address of an access
abbrev pub address_text : List Name → Operand → List ℕ
address_text names address = codes ", ptr " ++ operand_text names address

abbrev pub align_text : ℕ → List ℕ
align_text align = codes ", align " ++ decimal align

abbrev pub musttail_text : Bool → List ℕ
musttail_text must_tail = if must_tail then codes "musttail " else []

-- what an instruction does, without the name that it sets
abbrev pub action_text : List Name → Instr → List ℕ
action_text names (Instr.Binary result op flags ty left right) = binary_word op ++ flags_text flags ++ pair_text names ty left right
action_text names (Instr.Icmp result pred ty left right) = codes "icmp " ++ pred_word pred ++ pair_text names ty left right
action_text names (Instr.Select result cond then_value else_value) =
    codes "select i1 " ++ operand_text names cond ++ codes ", " ++ arg_text names then_value ++ codes ", " ++ arg_text names else_value
action_text names (Instr.Cast result op nneg arg to) =
    cast_word op ++ flag_text nneg (codes "nneg") ++ codes " " ++ arg_text names arg ++ codes " to " ++ type_text to
action_text names (Instr.Alloca result ty align) = codes "alloca " ++ type_text ty ++ align_text align
action_text names (Instr.Load result ty address align) = codes "load " ++ type_text ty ++ address_text names address ++ align_text align
action_text names (Instr.Store arg address align) = codes "store " ++ arg_text names arg ++ address_text names address ++ align_text align
action_text names (Instr.Gep result inbounds ty base indices) =
    codes "getelementptr" ++ flag_text inbounds (codes "inbounds") ++ codes " " ++ type_text ty ++ address_text names base ++ more_args_text names indices
action_text names (Instr.Call result must_tail ty callee args) =
    musttail_text must_tail ++ codes "call " ++ result_text ty ++ codes " " ++ callee_text names callee ++ codes "(" ++ args_text names args ++ codes ")"

abbrev pub instr_text : List Name → Instr → List ℕ
instr_text names i = set_text names (set_by i) ++ action_text names i
