-- The symbols of instructions.
use Rattle.std.specs.Prelude.{ℕ, Bool, Option, Some, None, List, [], ◌∷◌, ◌++◌, if◌then◌else◌}
use Rattle.text_canonical.specs.canonical.Instrs.{set_by}
use Rattle.text_canonical.specs.canonical.Marks.{word, equals, comma, open_round, close_round}
use Rattle.text_canonical.specs.canonical.OperandSymbols.{local_symbol, operand_symbol, arg_symbols, args_symbols, more_args_symbols, callee_symbol, result_symbols}
use Rattle.text_canonical.specs.canonical.TypeSymbols.{type_symbols}
use Rattle.ir_base.specs.declared.name.Name.{Name}
use Rattle.ir_base.specs.declared.ops.Flags.{Flags}
use Rattle.ir_model.specs.Ty.{Ty}
use Rattle.ir_model.specs.declared.instr.Instr.{Instr}
use Rattle.ir_model.specs.declared.ir_type.IntWidth.{IntWidth}
use Rattle.ir_model.specs.declared.operand.Operand.{Operand}
use Rattle.text_symbols.specs.declared.sym.Sym.{Sym}
use Rattle.text_symbols.specs.declared.word.Word.{Word}
use Rattle.text_symbols.specs.declared.sym.Sym.TheVariants as syms
use Rattle.text_symbols.specs.declared.word.Word.TheVariants as words

-- a word that stands only where it is set
abbrev pub flag_symbols : Bool → Word → List Sym
flag_symbols is_set w = if is_set then word w ∷ [] else []

abbrev pub flags_symbols : Flags → List Sym
flags_symbols f = flag_symbols f.nuw words.Nuw ++ flag_symbols f.nsw words.Nsw ++ flag_symbols f.exact words.Exact ++ flag_symbols f.disjoint words.Disjoint

abbrev pub set_symbols : List Name → Option ℕ → List Sym
set_symbols names None = []
set_symbols names (Some id) = local_symbol names id ∷ equals ∷ []

-- a type and two operands of it
abbrev pub pair_symbols : List Name → Ty → Operand → Operand → List Sym
pair_symbols names ty left right = type_symbols ty ++ operand_symbol names left ∷ comma ∷ operand_symbol names right ∷ []

-- the address of an access
abbrev pub address_symbols : List Name → Operand → List Sym
address_symbols names address = comma ∷ word words.Ptr ∷ operand_symbol names address ∷ []

abbrev pub align_symbols : ℕ → List Sym
align_symbols align = comma ∷ word words.Align ∷ syms.Int align ∷ []

-- what an instruction does, without the name that it sets
abbrev pub action_symbols : List Name → Instr → List Sym
action_symbols names (Instr.Binary result op flags ty left right) = word (words.Bin op) ∷ flags_symbols flags ++ pair_symbols names ty left right
action_symbols names (Instr.Icmp result pred ty left right) = word words.Icmp ∷ word (words.Pred pred) ∷ pair_symbols names ty left right
action_symbols names (Instr.Select result cond then_value else_value) =
    word words.Select ∷ word (words.Int IntWidth.I1) ∷ operand_symbol names cond ∷ comma ∷ arg_symbols names then_value ++ comma ∷ arg_symbols names else_value
action_symbols names (Instr.Cast result op nneg arg to) =
    word (words.Cast op) ∷ flag_symbols nneg words.Nneg ++ arg_symbols names arg ++ word words.To ∷ type_symbols to
action_symbols names (Instr.Alloca result ty align) = word words.Alloca ∷ type_symbols ty ++ align_symbols align
action_symbols names (Instr.Load result ty address align) = word words.Load ∷ type_symbols ty ++ address_symbols names address ++ align_symbols align
action_symbols names (Instr.Store arg address align) = word words.Store ∷ arg_symbols names arg ++ address_symbols names address ++ align_symbols align
action_symbols names (Instr.Gep result inbounds ty base indices) =
    word words.Getelementptr ∷ flag_symbols inbounds words.Inbounds ++ type_symbols ty ++ address_symbols names base ++ more_args_symbols names indices
action_symbols names (Instr.Call result must_tail ty callee args) =
    flag_symbols must_tail words.Musttail ++ word words.Call ∷ result_symbols ty ++ callee_symbol names callee ∷ open_round ∷ args_symbols names args ++ close_round ∷ []

abbrev pub instr_symbols : List Name → Instr → List Sym
instr_symbols names i = set_symbols names (set_by i) ++ action_symbols names i
