-- The text of phis, terminators and blocks.
use Rattle.std.specs.Prelude.{ℕ, Some, None, List, [], ◌∷◌, ◌++◌, codes}
use Rattle.ir_base.specs.declared.name.Name.{Name}
use Rattle.ir_model.specs.declared.instr.Case.{Case}
use Rattle.ir_model.specs.declared.instr.Incoming.{Incoming}
use Rattle.ir_model.specs.declared.instr.Instr.{Instr}
use Rattle.ir_model.specs.declared.instr.Phi.{Phi}
use Rattle.ir_model.specs.declared.instr.Terminator.{Terminator}
use Rattle.ir_model.specs.declared.module.Block.{Block}
use Rattle.text_canonical.specs.canonical.Instrs.{instr_text}
use Rattle.text_canonical.specs.canonical.Operands.{arg_text, label_text, local_text, name_text, operand_text}
use Rattle.text_canonical.specs.canonical.Types.{type_text}

abbrev pub incoming_text : List Name → Incoming → List ℕ
incoming_text names i = codes "[ " ++ operand_text names i.value ++ codes ", " ++ local_text names i.from ++ codes " ]"

-- those behind the first
abbrev pub more_incoming_text : List Name → List Incoming → List ℕ
more_incoming_text names [] = []
more_incoming_text names (i ∷ rest) = codes ", " ++ incoming_text names i ++ more_incoming_text names rest

abbrev pub all_incoming_text : List Name → List Incoming → List ℕ
all_incoming_text names [] = []
all_incoming_text names (i ∷ rest) = incoming_text names i ++ more_incoming_text names rest

abbrev pub phi_text : List Name → Phi → List ℕ
phi_text names p = local_text names p.result ++ codes " = phi " ++ type_text p.ty ++ codes " " ++ all_incoming_text names p.incoming

abbrev pub phis_text : List Name → List Phi → List ℕ
phis_text names [] = []
phis_text names (p ∷ ps) = codes "  " ++ phi_text names p ++ codes "\n" ++ phis_text names ps

abbrev pub instrs_text : List Name → List Instr → List ℕ
instrs_text names [] = []
instrs_text names (i ∷ rest) = codes "  " ++ instr_text names i ++ codes "\n" ++ instrs_text names rest

abbrev pub case_text : List Name → Case → List ℕ
case_text names c = arg_text names c.arg ++ codes ", " ++ label_text names c.target

abbrev pub cases_text : List Name → List Case → List ℕ
cases_text names [] = []
cases_text names (c ∷ cs) = case_text names c ++ codes " " ++ cases_text names cs

abbrev pub term_text : List Name → Terminator → List ℕ
term_text names (Terminator.Jump target) = codes "br " ++ label_text names target
term_text names (Terminator.Branch cond then_label else_label) =
    codes "br i1 " ++ operand_text names cond ++ codes ", " ++ label_text names then_label ++ codes ", " ++ label_text names else_label
term_text names (Terminator.Switch arg default cases) =
    codes "switch " ++ arg_text names arg ++ codes ", " ++ label_text names default ++ codes " [ " ++ cases_text names cases ++ codes "]"
term_text names (Terminator.Ret None) = codes "ret void"
term_text names (Terminator.Ret (Some a)) = codes "ret " ++ arg_text names a
term_text names Terminator.Unreachable = codes "unreachable"

abbrev pub block_text : List Name → Block → List ℕ
block_text names b =
    name_text names b.label ++ codes ":\n" ++ phis_text names b.phis ++ instrs_text names b.instrs ++ codes "  " ++ term_text names b.term ++ codes "\n"

abbrev pub blocks_text : List Name → List Block → List ℕ
blocks_text names [] = []
blocks_text names (b ∷ bs) = block_text names b ++ blocks_text names bs
