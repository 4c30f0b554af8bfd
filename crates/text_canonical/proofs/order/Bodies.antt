-- Phis, terminators and blocks with their names in order.
use Rattle.std.proofs.Common.{ℕ, inl, List, [], ◌∷◌, append_assoc, append-nil, None, refl}
use Rattle.std.specs.Prelude.{Some}
use Rattle.ir_base.specs.declared.name.Name.{Name}
use Rattle.ir_model.specs.declared.instr.Case.{Case}
use Rattle.ir_model.specs.declared.instr.Incoming.{Incoming}
use Rattle.ir_model.specs.declared.instr.Instr.{Instr}
use Rattle.ir_model.specs.declared.instr.Phi.{Phi}
use Rattle.ir_model.specs.declared.instr.Terminator.{Terminator}
use Rattle.ir_model.specs.declared.module.Block.{Block}
use Rattle.ir_model.specs.declared.module.TypeItem.{TypeItem}
use Rattle.text_canonical.specs.canonical.BlockSymbols.{all_incoming_symbols, block_symbols, blocks_symbols, case_symbols, cases_symbols, incoming_symbols, instrs_symbols, more_incoming_symbols, phi_symbols, phis_symbols, term_symbols}
use Rattle.text_canonical.specs.canonical.InstrSymbols.{instr_symbols}
use Rattle.text_grammar.specs.Attributes.{metadata}
use Rattle.text_grammar.specs.Blocks.{AreBlocks, IsBlock, IsCase, IsEntry, IsIncoming, IsLine, IsPhi, IsPhiLine, IsTerminator}
use Rattle.text_grammar.specs.Phrases.{behind_comma, each, listed, plain}
use Rattle.text_canonical.specs.order.Order.{block_order, case_order, incoming_order, instr_order, phi_order, term_order}
use Rattle.text_canonical.specs.order.Places.{each_order}
use Rattle.text_canonical.proofs.order.Holds.{Ordered, holds_mark, holds_seq, holds_word, label_ordered, local_ordered, ordered_each, ordered_plain, ordered_same, ordered_seq}
use Rattle.text_canonical.proofs.order.Parts.{comma_ordered, instr_ordered, operand_ordered, result_ordered, target_ordered, type_holds, typed_ordered}
use Rattle.ir_model.specs.declared.instr.Terminator.TheVariants as terms
use Rattle.ir_model.specs.declared.ir_type.IntWidth.TheVariants as widths
use Rattle.text_symbols.specs.declared.sym.Mark.TheVariants as marks
use Rattle.text_symbols.specs.declared.sym.Sym.TheVariants as syms
use Rattle.text_symbols.specs.declared.word.Word.TheVariants as words
use Rattle.text_canonical.specs.order.Shape as shape

metadata_ordered : {ns : List Name} → Ordered (plain metadata) [] ns ns
metadata_ordered = ordered_plain (record { at = λ more. ([], refl) })

-- ---- phis

incoming_ordered : (names : List Name) (i : Incoming) (ns : List Name) → shape.IsIncoming names i → Ordered (IsIncoming (incoming_order names i ns).0) (incoming_symbols names i) ns (incoming_order names i ns).1
incoming_ordered names i ns h =
    ordered_seq (ordered_plain (holds_mark marks.OpenSquare))
    (ordered_seq (operand_ordered names i.value ns h.0)
    (ordered_seq comma_ordered
    (ordered_seq (local_ordered names i.from _ h.1) (ordered_plain (holds_mark marks.CloseSquare)))))

more_incoming_ordered : (names : List Name) (is : List Incoming) (ns : List Name) → shape.Each (shape.IsIncoming names) is → Ordered (each (behind_comma IsIncoming) (each_order (incoming_order names) is ns).0) (more_incoming_symbols names is) ns (each_order (incoming_order names) is ns).1
more_incoming_ordered names is ns h =
    ordered_each (incoming_order names) (behind_comma IsIncoming) (λ i. syms.Mark marks.Comma ∷ incoming_symbols names i) (more_incoming_symbols names) (shape.IsIncoming names) refl (λ i rest. refl)
    (λ i ms k. ordered_seq comma_ordered (incoming_ordered names i ms k)) is ns h

all_incoming_ordered : (names : List Name) (is : List Incoming) (ns : List Name) → shape.Some_of (shape.IsIncoming names) is → Ordered (listed IsIncoming (each_order (incoming_order names) is ns).0) (all_incoming_symbols names is) ns (each_order (incoming_order names) is ns).1
all_incoming_ordered names [] ns h = absurd h
all_incoming_ordered names (i ∷ is) ns h = ordered_seq (incoming_ordered names i ns h.0) (more_incoming_ordered names is (incoming_order names i ns).1 h.1)

phi_ordered : (names : List Name) (p : Phi) (ns : List Name) → shape.IsPhi names p → Ordered (IsPhi (phi_order names p ns).0) (phi_symbols names p) ns (phi_order names p ns).1
phi_ordered names p ns h =
    ordered_seq (result_ordered names p.result ns h.0)
    (ordered_seq (ordered_plain (holds_seq (holds_word words.Phi) (type_holds p.ty h.1))) (all_incoming_ordered names p.incoming _ h.2))

phi_line_ordered : (names : List Name) (p : Phi) (ns : List Name) → shape.IsPhi names p → Ordered (IsPhiLine (phi_order names p ns).0) (phi_symbols names p) ns (phi_order names p ns).1
phi_line_ordered names p ns h = ordered_same (append-nil (phi_symbols names p)) (ordered_seq (phi_ordered names p ns h) metadata_ordered)

phis_ordered : (names : List Name) (ps : List Phi) (ns : List Name) → shape.Each (shape.IsPhi names) ps → Ordered (each IsPhiLine (each_order (phi_order names) ps ns).0) (phis_symbols names ps) ns (each_order (phi_order names) ps ns).1
phis_ordered names ps ns h =
    ordered_each (phi_order names) IsPhiLine (phi_symbols names) (phis_symbols names) (shape.IsPhi names) refl (λ p rest. refl) (λ p ms k. phi_line_ordered names p ms k) ps ns h

-- ---- instructions

line_ordered : (names : List Name) (types : List TypeItem) (i : Instr) (ns : List Name) → shape.IsInstr names i → Ordered (IsLine types (instr_order names i ns).0) (instr_symbols names i) ns (instr_order names i ns).1
line_ordered names types i ns h = ordered_same (append-nil (instr_symbols names i)) (ordered_seq (instr_ordered names types i ns h) metadata_ordered)

lines_ordered : (names : List Name) (types : List TypeItem) (is : List Instr) (ns : List Name) → shape.Each (shape.IsInstr names) is → Ordered (each (IsLine types) (each_order (instr_order names) is ns).0) (instrs_symbols names is) ns (each_order (instr_order names) is ns).1
lines_ordered names types is ns h =
    ordered_each (instr_order names) (IsLine types) (instr_symbols names) (instrs_symbols names) (shape.IsInstr names) refl (λ i rest. refl) (λ i ms k. line_ordered names types i ms k) is ns h

-- ---- terminators

case_ordered : (names : List Name) (c : Case) (ns : List Name) → shape.IsCase names c → Ordered (IsCase (case_order names c ns).0) (case_symbols names c) ns (case_order names c ns).1
case_ordered names c ns h = ordered_seq (typed_ordered names c.arg ns h.0) (ordered_seq comma_ordered (target_ordered names c.target _ h.1))

cases_ordered : (names : List Name) (cs : List Case) (ns : List Name) → shape.Each (shape.IsCase names) cs → Ordered (each IsCase (each_order (case_order names) cs ns).0) (cases_symbols names cs) ns (each_order (case_order names) cs ns).1
cases_ordered names cs ns h =
    ordered_each (case_order names) IsCase (case_symbols names) (cases_symbols names) (shape.IsCase names) refl (λ c rest. refl) (λ c ms k. case_ordered names c ms k) cs ns h

term_ordered : (names : List Name) (t : Terminator) (ns : List Name) → shape.IsTerminator names t → Ordered (IsTerminator (term_order names t ns).0) (term_symbols names t) ns (term_order names t ns).1
term_ordered names (terms.Jump l) ns h = ordered_seq (ordered_plain (holds_word words.Br)) (target_ordered names l ns h)
term_ordered names (terms.Branch c l m) ns h =
    ordered_seq (ordered_plain (holds_seq (holds_word words.Br) (holds_word (words.Int widths.I1))))
    (ordered_seq (operand_ordered names c ns h.0)
    (ordered_seq comma_ordered
    (ordered_seq (target_ordered names l _ h.1) (ordered_seq comma_ordered (target_ordered names m _ h.2)))))
term_ordered names (terms.Switch a l cases) ns h =
    ordered_same (simp append_assoc)
    (ordered_seq (ordered_plain (holds_word words.Switch))
    (ordered_seq (typed_ordered names a ns h.0)
    (ordered_seq comma_ordered
    (ordered_seq (target_ordered names l _ h.1)
    (ordered_seq (ordered_plain (holds_mark marks.OpenSquare))
    (ordered_seq (cases_ordered names cases _ h.2) (ordered_plain (holds_mark marks.CloseSquare))))))))
term_ordered names (terms.Ret None) ns h = ordered_plain (holds_seq (holds_word words.Ret) (holds_word words.Void))
term_ordered names (terms.Ret (Some a)) ns h = ordered_seq (ordered_plain (holds_word words.Ret)) (typed_ordered names a ns h)
term_ordered names terms.Unreachable ns h = ordered_plain (holds_word words.Unreachable)

-- ---- blocks

block_ordered : (names : List Name) (types : List TypeItem) (b : Block) (ns : List Name) → shape.IsBlock names b → Ordered (IsBlock types (block_order names b ns).0) (block_symbols names b) ns (block_order names b ns).1
block_ordered names types b ns h =
    ordered_same (simp (append_assoc, append-nil))
    (ordered_seq (label_ordered names b.label ns h.0)
    (ordered_seq (phis_ordered names b.phis _ h.1)
    (ordered_seq (lines_ordered names types b.instrs _ h.2)
    (ordered_seq (term_ordered names b.term _ h.3) metadata_ordered))))

-- a first block with its label
entry_ordered : (names : List Name) (types : List TypeItem) (k : ℕ) (b : Block) (ns : List Name) → shape.IsBlock names b → Ordered (IsEntry types k (block_order names b ns).0) (block_symbols names b) ns (block_order names b ns).1
entry_ordered names types k b ns h =
    let a = block_ordered names types b ns h in
    record { at = λ more. let d = a.at more in (d.0, inl d.1, d.2) }

pub blocks_ordered : (names : List Name) (types : List TypeItem) (k : ℕ) (bs : List Block) (ns : List Name) → shape.Some_of (shape.IsBlock names) bs → Ordered (AreBlocks types k (each_order (block_order names) bs ns).0) (blocks_symbols names bs) ns (each_order (block_order names) bs ns).1
blocks_ordered names types k [] ns h = absurd h
blocks_ordered names types k (b ∷ bs) ns h =
    ordered_seq (entry_ordered names types k b ns h.0)
    (ordered_each (block_order names) (IsBlock types) (block_symbols names) (blocks_symbols names) (shape.IsBlock names) refl (λ c rest. refl) (λ c ms k. block_ordered names types c ms k) bs (block_order names b ns).1 h.1)
