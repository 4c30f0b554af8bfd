-- Phis, terminators and blocks as they are printed.
use Rattle.std.proofs.Common.{ℕ, List, [], ◌∷◌, ◌++◌, append_assoc, append-nil, None}
use Rattle.std.specs.Prelude.{Some}
use Rattle.ir_base.specs.declared.name.Name.{Name}
use Rattle.ir_model.specs.declared.instr.Case.{Case}
use Rattle.ir_model.specs.declared.instr.Incoming.{Incoming}
use Rattle.ir_model.specs.declared.instr.Instr.{Instr}
use Rattle.ir_model.specs.declared.instr.Phi.{Phi}
use Rattle.ir_model.specs.declared.instr.Terminator.{Terminator}
use Rattle.ir_model.specs.declared.module.Block.{Block}
use Rattle.ir_model.specs.declared.module.TypeItem.{TypeItem}
use Rattle.text_symbols.specs.declared.sym.Sym.{Sym}
use Rattle.text_canonical.specs.canonical.BlockSymbols.{all_incoming_symbols, block_symbols, blocks_symbols, case_symbols, cases_symbols, incoming_symbols, instrs_symbols, more_incoming_symbols, phi_symbols, phis_symbols, term_symbols}
use Rattle.text_canonical.specs.canonical.InstrSymbols.{instr_symbols}
use Rattle.text_grammar.specs.Attributes.{metadata}
use Rattle.text_grammar.specs.Blocks.{AreBlocks, IsBlock, IsBody, IsCase, IsEntry, IsIncoming, IsLine, IsPhi, IsPhiLine, IsTerminator}
use Rattle.text_grammar.specs.Phrases.{Locals, behind_comma, each, listed, plain}
use Rattle.text_canonical.proofs.grammar.Again.{AgainIn, nothing_in, plain_in, same_in, seq, seq_in}
use Rattle.text_canonical.proofs.grammar.Attributes.{metadata_again}
use Rattle.text_canonical.proofs.grammar.Instructions.{comma_again, instr_again, named_result, typed_again}
use Rattle.text_canonical.proofs.grammar.Names.{entry_label_again, label_again, local_again, mark_again, target_again, value_again, word_again}
use Rattle.text_canonical.proofs.grammar.Types.{AreNarrow, type_again}
use Rattle.ir_model.specs.declared.instr.Terminator.TheVariants as terms
use Rattle.ir_model.specs.declared.ir_type.IntWidth.TheVariants as widths
use Rattle.text_symbols.specs.declared.sym.Mark.TheVariants as marks
use Rattle.text_symbols.specs.declared.word.Word.TheVariants as words

-- metadata isn't printed
metadata_in : (names : List Name) (s end : Locals) → plain metadata s end → AgainIn names (plain metadata) [] s end
metadata_in names s end d = plain_in d.0 (metadata_again s.1 end.1 d.1)

-- ---- phis

incoming_again : (names : List Name) (i : Incoming) (s end : Locals) → IsIncoming i s end → AgainIn names (IsIncoming i) (incoming_symbols names i) s end
incoming_again names i s end d =
    seq_in (plain_in d.1.0 (mark_again marks.OpenSquare s.1 d.0.1 d.1.1))
    (seq_in (value_again names i.value d.0 d.2.0 d.2.1)
    (seq_in (comma_again names d.2.0 d.2.2.0 d.2.2.1)
    (seq_in (local_again names i.from d.2.2.0 d.2.2.2.0 d.2.2.2.1)
    (plain_in d.2.2.2.2.0 (mark_again marks.CloseSquare d.2.2.2.0.1 end.1 d.2.2.2.2.1)))))

more_incoming_again : (names : List Name) (is : List Incoming) (s end : Locals) → each (behind_comma IsIncoming) is s end → AgainIn names (each (behind_comma IsIncoming) is) (more_incoming_symbols names is) s end
more_incoming_again names [] s end d = nothing_in d
more_incoming_again names (i ∷ is) s end d =
    seq_in (seq_in (comma_again names s d.1.0 d.1.1) (incoming_again names i d.1.0 d.0 d.1.2)) (more_incoming_again names is d.0 end d.2)

all_incoming_again : (names : List Name) (is : List Incoming) (s end : Locals) → listed IsIncoming is s end → AgainIn names (listed IsIncoming is) (all_incoming_symbols names is) s end
all_incoming_again names [] s end d = absurd d
all_incoming_again names (i ∷ is) s end d = seq_in (incoming_again names i s d.0 d.1) (more_incoming_again names is d.0 end d.2)

phi_again : (names : List Name) (p : Phi) (s end : Locals) → IsPhi p s end → AgainIn names (IsPhi p) (phi_symbols names p) s end
phi_again names p s end d =
    seq_in (named_result names p.result s d.0 d.1)
    (seq_in (plain_in d.2.1.0 (seq (word_again words.Phi d.0.1 d.2.1.1.0 d.2.1.1.1) (type_again p.ty d.2.1.1.0 d.2.0.1 d.2.1.1.2)))
    (all_incoming_again names p.incoming d.2.0 end d.2.2))

phi_line_again : (names : List Name) (p : Phi) (s end : Locals) → IsPhiLine p s end → AgainIn names (IsPhiLine p) (phi_symbols names p) s end
phi_line_again names p s end d = same_in (append-nil (phi_symbols names p)) (seq_in (phi_again names p s d.0 d.1) (metadata_in names d.0 end d.2))

phis_again : (names : List Name) (ps : List Phi) (s end : Locals) → each IsPhiLine ps s end → AgainIn names (each IsPhiLine ps) (phis_symbols names ps) s end
phis_again names [] s end d = nothing_in d
phis_again names (p ∷ ps) s end d = seq_in (phi_line_again names p s d.0 d.1) (phis_again names ps d.0 end d.2)

-- ---- instructions

line_again : (names : List Name) (types : List TypeItem) (i : Instr) (s end : Locals) → AreNarrow types → IsLine types i s end → AgainIn names (IsLine types i) (instr_symbols names i) s end
line_again names types i s end h d = same_in (append-nil (instr_symbols names i)) (seq_in (instr_again names types i s d.0 h d.1) (metadata_in names d.0 end d.2))

lines_again : (names : List Name) (types : List TypeItem) (is : List Instr) (s end : Locals) → AreNarrow types → each (IsLine types) is s end → AgainIn names (each (IsLine types) is) (instrs_symbols names is) s end
lines_again names types [] s end h d = nothing_in d
lines_again names types (i ∷ is) s end h d = seq_in (line_again names types i s d.0 h d.1) (lines_again names types is d.0 end h d.2)

-- ---- terminators

case_again : (names : List Name) (c : Case) (s end : Locals) → IsCase c s end → AgainIn names (IsCase c) (case_symbols names c) s end
case_again names c s end d =
    seq_in (typed_again names c.arg s d.0 d.1) (seq_in (comma_again names d.0 d.2.0 d.2.1) (target_again names c.target d.2.0 end d.2.2))

cases_again : (names : List Name) (cs : List Case) (s end : Locals) → each IsCase cs s end → AgainIn names (each IsCase cs) (cases_symbols names cs) s end
cases_again names [] s end d = nothing_in d
cases_again names (c ∷ cs) s end d = seq_in (case_again names c s d.0 d.1) (cases_again names cs d.0 end d.2)

term_again : (names : List Name) (t : Terminator) (s end : Locals) → IsTerminator t s end → AgainIn names (IsTerminator t) (term_symbols names t) s end
term_again names (terms.Jump l) s end d = seq_in (plain_in d.1.0 (word_again words.Br s.1 d.0.1 d.1.1)) (target_again names l d.0 end d.2)
term_again names (terms.Branch c x y) s end d =
    seq_in (plain_in d.1.0 (seq (word_again words.Br s.1 d.1.1.0 d.1.1.1) (word_again (words.Int widths.I1) d.1.1.0 d.0.1 d.1.1.2)))
    (seq_in (value_again names c d.0 d.2.0 d.2.1)
    (seq_in (comma_again names d.2.0 d.2.2.0 d.2.2.1)
    (seq_in (target_again names x d.2.2.0 d.2.2.2.0 d.2.2.2.1)
    (seq_in (comma_again names d.2.2.2.0 d.2.2.2.2.0 d.2.2.2.2.1)
    (target_again names y d.2.2.2.2.0 end d.2.2.2.2.2)))))
term_again names (terms.Switch a l cases) s end d =
    same_in (simp append_assoc)
    (seq_in (plain_in d.1.0 (word_again words.Switch s.1 d.0.1 d.1.1))
    (seq_in (typed_again names a d.0 d.2.0 d.2.1)
    (seq_in (comma_again names d.2.0 d.2.2.0 d.2.2.1)
    (seq_in (target_again names l d.2.2.0 d.2.2.2.0 d.2.2.2.1)
    (seq_in (plain_in d.2.2.2.2.1.0 (mark_again marks.OpenSquare d.2.2.2.0.1 d.2.2.2.2.0.1 d.2.2.2.2.1.1))
    (seq_in (cases_again names cases d.2.2.2.2.0 d.2.2.2.2.2.0 d.2.2.2.2.2.1)
    (plain_in d.2.2.2.2.2.2.0 (mark_again marks.CloseSquare d.2.2.2.2.2.0.1 end.1 d.2.2.2.2.2.2.1))))))))
term_again names (terms.Ret None) s end d = plain_in d.0 (seq (word_again words.Ret s.1 d.1.0 d.1.1) (word_again words.Void d.1.0 end.1 d.1.2))
term_again names (terms.Ret (Some a)) s end d = seq_in (plain_in d.1.0 (word_again words.Ret s.1 d.0.1 d.1.1)) (typed_again names a d.0 end d.2)
term_again names terms.Unreachable s end d = plain_in d.0 (word_again words.Unreachable s.1 end.1 d.1)

-- ---- blocks

abbrev body_symbols : List Name → Block → List Sym
body_symbols names b = phis_symbols names b.phis ++ (instrs_symbols names b.instrs ++ term_symbols names b.term)

body_again : (names : List Name) (types : List TypeItem) (b : Block) (s end : Locals) → AreNarrow types → IsBody types b s end → AgainIn names (IsBody types b) (body_symbols names b) s end
body_again names types b s end h d =
    seq_in (phis_again names b.phis s d.0 d.1)
    (seq_in (lines_again names types b.instrs d.0 d.2.0 h d.2.1)
    (same_in (append-nil (term_symbols names b.term)) (seq_in (term_again names b.term d.2.0 d.2.2.0 d.2.2.1) (metadata_in names d.2.2.0 end d.2.2.2))))

block_again : (names : List Name) (types : List TypeItem) (b : Block) (s end : Locals) → AreNarrow types → IsBlock types b s end → AgainIn names (IsBlock types b) (block_symbols names b) s end
block_again names types b s end h d = same_in (simp append_assoc) (seq_in (label_again names b.label s d.0 d.1) (body_again names types b d.0 end h d.2))

entry_again : (names : List Name) (types : List TypeItem) (k : ℕ) (b : Block) (s end : Locals) → AreNarrow types → IsEntry types k b s end → AgainIn names (IsEntry types k b) (block_symbols names b) s end
entry_again names types k b s end h d = same_in (simp append_assoc) (seq_in (entry_label_again names k b.label s d.0 d.1) (body_again names types b d.0 end h d.2))

more_blocks_again : (names : List Name) (types : List TypeItem) (bs : List Block) (s end : Locals) → AreNarrow types → each (IsBlock types) bs s end → AgainIn names (each (IsBlock types) bs) (blocks_symbols names bs) s end
more_blocks_again names types [] s end h d = nothing_in d
more_blocks_again names types (b ∷ bs) s end h d = seq_in (block_again names types b s d.0 h d.1) (more_blocks_again names types bs d.0 end h d.2)

pub blocks_again : (names : List Name) (types : List TypeItem) (k : ℕ) (bs : List Block) (s end : Locals) → AreNarrow types → AreBlocks types k bs s end → AgainIn names (AreBlocks types k bs) (blocks_symbols names bs) s end
blocks_again names types k [] s end h d = absurd d
blocks_again names types k (b ∷ bs) s end h d = seq_in (entry_again names types k b s d.0 h d.1) (more_blocks_again names types bs d.0 end h d.2)
