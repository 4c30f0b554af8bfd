-- The symbols of phis, terminators and blocks.
use Rattle.std.specs.Prelude.{Some, None, List, [], ◌∷◌, ◌++◌, slice_get}
use Rattle.text_canonical.specs.canonical.InstrSymbols.{instr_symbols}
use Rattle.text_canonical.specs.canonical.Marks.{word, equals, comma, open_square, close_square}
use Rattle.text_canonical.specs.canonical.OperandSymbols.{local_symbol, operand_symbol, arg_symbols, label_symbols}
use Rattle.text_canonical.specs.canonical.TypeSymbols.{type_symbols}
use Rattle.ir_base.specs.declared.name.Name.{Name}
use Rattle.ir_model.specs.declared.instr.Case.{Case}
use Rattle.ir_model.specs.declared.instr.Incoming.{Incoming}
use Rattle.ir_model.specs.declared.instr.Instr.{Instr}
use Rattle.ir_model.specs.declared.instr.Phi.{Phi}
use Rattle.ir_model.specs.declared.instr.Terminator.{Terminator}
use Rattle.ir_model.specs.declared.ir_type.IntWidth.{IntWidth}
use Rattle.ir_model.specs.declared.module.Block.{Block}
use Rattle.text_symbols.specs.declared.sym.Sym.{Sym}
use Rattle.text_symbols.specs.declared.sym.Sym.TheVariants as syms
use Rattle.text_symbols.specs.declared.word.Word.TheVariants as words

abbrev pub incoming_symbols : List Name → Incoming → List Sym
incoming_symbols names i = open_square ∷ operand_symbol names i.value ∷ comma ∷ local_symbol names i.from ∷ close_square ∷ []

-- those behind the first
abbrev pub more_incoming_symbols : List Name → List Incoming → List Sym
more_incoming_symbols names [] = []
more_incoming_symbols names (i ∷ rest) = comma ∷ incoming_symbols names i ++ more_incoming_symbols names rest

abbrev pub all_incoming_symbols : List Name → List Incoming → List Sym
all_incoming_symbols names [] = []
all_incoming_symbols names (i ∷ rest) = incoming_symbols names i ++ more_incoming_symbols names rest

abbrev pub phi_symbols : List Name → Phi → List Sym
phi_symbols names p = local_symbol names p.result ∷ equals ∷ word words.Phi ∷ type_symbols p.ty ++ all_incoming_symbols names p.incoming

abbrev pub phis_symbols : List Name → List Phi → List Sym
phis_symbols names [] = []
phis_symbols names (p ∷ ps) = phi_symbols names p ++ phis_symbols names ps

abbrev pub instrs_symbols : List Name → List Instr → List Sym
instrs_symbols names [] = []
instrs_symbols names (i ∷ rest) = instr_symbols names i ++ instrs_symbols names rest

abbrev pub case_symbols : List Name → Case → List Sym
case_symbols names c = arg_symbols names c.arg ++ comma ∷ label_symbols names c.target

abbrev pub cases_symbols : List Name → List Case → List Sym
cases_symbols names [] = []
cases_symbols names (c ∷ cs) = case_symbols names c ++ cases_symbols names cs

abbrev pub term_symbols : List Name → Terminator → List Sym
term_symbols names (Terminator.Jump target) = word words.Br ∷ label_symbols names target
term_symbols names (Terminator.Branch cond then_label else_label) =
    word words.Br ∷ word (words.Int IntWidth.I1) ∷ operand_symbol names cond ∷ comma ∷ label_symbols names then_label ++ comma ∷ label_symbols names else_label
term_symbols names (Terminator.Switch arg default cases) =
    word words.Switch ∷ arg_symbols names arg ++ comma ∷ label_symbols names default ++ open_square ∷ cases_symbols names cases ++ close_square ∷ []
term_symbols names (Terminator.Ret None) = word words.Ret ∷ word words.Void ∷ []
term_symbols names (Terminator.Ret (Some a)) = word words.Ret ∷ arg_symbols names a
term_symbols names Terminator.Unreachable = word words.Unreachable ∷ []

abbrev pub block_symbols : List Name → Block → List Sym
block_symbols names b =
    syms.Label (slice_get names b.label) ∷ phis_symbols names b.phis ++ instrs_symbols names b.instrs ++ term_symbols names b.term

abbrev pub blocks_symbols : List Name → List Block → List Sym
blocks_symbols names [] = []
blocks_symbols names (b ∷ bs) = block_symbols names b ++ blocks_symbols names bs
