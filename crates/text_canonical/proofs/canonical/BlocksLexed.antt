-- The tokens of printed phis, terminators and blocks.
use Rattle.std.proofs.Common.{true, false, List, [], ◌∷◌, append_assoc, codes, None, refl}
use Rattle.std.specs.Prelude.{Some, slice_get}
use Rattle.ir_base.specs.declared.name.Name.{Name}
use Rattle.ir_model.specs.declared.instr.Case.{Case}
use Rattle.ir_model.specs.declared.instr.Incoming.{Incoming}
use Rattle.ir_model.specs.declared.instr.Instr.{Instr}
use Rattle.ir_model.specs.declared.instr.Phi.{Phi}
use Rattle.ir_model.specs.declared.instr.Terminator.{Terminator}
use Rattle.ir_model.specs.declared.module.Block.{Block}
use Rattle.text_canonical.specs.canonical.Blocks.{all_incoming_text, block_text, blocks_text, case_text, cases_text, incoming_text, instrs_text, more_incoming_text, phi_text, phis_text, term_text}
use Rattle.text_canonical.specs.canonical.BlockSymbols.{all_incoming_symbols, block_symbols, blocks_symbols, case_symbols, cases_symbols, incoming_symbols, instrs_symbols, more_incoming_symbols, phi_symbols, phis_symbols, term_symbols}
use Rattle.text_canonical.specs.canonical.Operands.{name_text}
use Rattle.text_canonical.proofs.canonical.InstrsLexed.{instr_lexed}
use Rattle.text_canonical.proofs.canonical.Lexed.{Lexed, empty, label, same_symbols, same_text, spaced, then, unfree}
use Rattle.text_canonical.proofs.canonical.OperandsLexed.{arg_lexed, label_lexed, local_lexed, operand_lexed}
use Rattle.text_canonical.proofs.canonical.TypesLexed.{type_lexed}
use Rattle.text_canonical.proofs.canonical.WordsLexed.{br_i1_lexed, br_lexed, comma_space, line, phi_word_lexed, ret_lexed, ret_void_lexed, space, space_square, space_square_space, spaces, square_close, square_space, switch_lexed, unreachable_lexed}

-- ---- phis

incoming_lexed : (names : List Name) (i : Incoming) → Lexed true (incoming_text names i) (incoming_symbols names i)
incoming_lexed names i = then (then (then (then square_space (operand_lexed names i.value) refl) comma_space refl) (local_lexed names i.from) refl) space_square refl

more_incoming_lexed : (names : List Name) (is : List Incoming) → Lexed true (more_incoming_text names is) (more_incoming_symbols names is)
more_incoming_lexed names [] = empty
more_incoming_lexed names (i ∷ is) = then (then comma_space (incoming_lexed names i) refl) (more_incoming_lexed names is) refl

all_incoming_lexed : (names : List Name) (is : List Incoming) → Lexed true (all_incoming_text names is) (all_incoming_symbols names is)
all_incoming_lexed names [] = empty
all_incoming_lexed names (i ∷ is) = then (incoming_lexed names i) (more_incoming_lexed names is) refl

phi_lexed : (names : List Name) (p : Phi) → Lexed true (phi_text names p) (phi_symbols names p)
phi_lexed names p = then (spaced (then (then (local_lexed names p.result) phi_word_lexed refl) (type_lexed p.ty) refl) space refl) (all_incoming_lexed names p.incoming) refl

phis_lexed : (names : List Name) (ps : List Phi) → Lexed true (phis_text names ps) (phis_symbols names ps)
phis_lexed names [] = empty
phis_lexed names (p ∷ ps) = then (spaced (then spaces (phi_lexed names p) refl) line refl) (phis_lexed names ps) refl

instrs_lexed : (names : List Name) (is : List Instr) → Lexed true (instrs_text names is) (instrs_symbols names is)
instrs_lexed names [] = empty
instrs_lexed names (i ∷ is) = then (spaced (then spaces (instr_lexed names i) refl) line refl) (instrs_lexed names is) refl

-- ---- terminators

case_lexed : (names : List Name) (c : Case) → Lexed false (case_text names c) (case_symbols names c)
case_lexed names c = same_symbols (simp append_assoc) (then (then (arg_lexed names c.arg) comma_space refl) (label_lexed names c.target) refl)

cases_lexed : (names : List Name) (cs : List Case) → Lexed true (cases_text names cs) (cases_symbols names cs)
cases_lexed names [] = empty
cases_lexed names (c ∷ cs) = then (spaced (case_lexed names c) space refl) (cases_lexed names cs) refl

term_lexed : (names : List Name) (t : Terminator) → Lexed false (term_text names t) (term_symbols names t)
term_lexed names (Terminator.Jump target) = then br_lexed (label_lexed names target) refl
term_lexed names (Terminator.Branch cond then_label else_label) =
    then (then (then (then (then br_i1_lexed (operand_lexed names cond) refl) comma_space refl) (label_lexed names then_label) refl) comma_space refl) (label_lexed names else_label) refl
term_lexed names (Terminator.Switch arg default cases) =
    same_symbols (simp append_assoc) (unfree (then (then (then (then (then (then switch_lexed (arg_lexed names arg) refl) comma_space refl) (label_lexed names default) refl) space_square_space refl) (cases_lexed names cases) refl) square_close refl))
term_lexed names (Terminator.Ret None) = ret_void_lexed
term_lexed names (Terminator.Ret (Some a)) = then ret_lexed (arg_lexed names a) refl
term_lexed names Terminator.Unreachable = unreachable_lexed

-- ---- blocks

block_lexed : (names : List Name) (b : Block) → Lexed true (block_text names b) (block_symbols names b)
block_lexed names b =
    spaced (then (spaced (then (then (same_text (append_assoc (name_text names b.label) (codes ":") (codes "\n")) (spaced (label (slice_get names b.label)) line refl)) (phis_lexed names b.phis) refl) (instrs_lexed names b.instrs) refl) spaces refl) (term_lexed names b.term) refl) line refl

pub blocks_lexed : (names : List Name) (bs : List Block) → Lexed true (blocks_text names bs) (blocks_symbols names bs)
blocks_lexed names [] = empty
blocks_lexed names (b ∷ bs) = then (block_lexed names b) (blocks_lexed names bs) refl
