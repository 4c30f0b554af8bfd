-- Phis, terminators and blocks.
use Rattle.std.specs.Prelude.{◌≡◌, ◌<◌, ◌^◌, ℕ, List, [], ◌∷◌, Some, None}
use Rattle.ir_base.specs.declared.name.Name.{Name}
use Rattle.ir_model.specs.declared.instr.Case.{Case}
use Rattle.ir_model.specs.declared.instr.Incoming.{Incoming}
use Rattle.ir_model.specs.declared.instr.Instr.{Instr}
use Rattle.ir_model.specs.declared.instr.Phi.{Phi}
use Rattle.ir_model.specs.declared.instr.Terminator.{Terminator}
use Rattle.ir_model.specs.declared.instr.Terminator.TheVariants as terms
use Rattle.ir_model.specs.declared.ir_type.IntWidth.TheVariants as widths
use Rattle.ir_model.specs.declared.module.Block.{Block}
use Rattle.ir_model.specs.declared.module.TypeItem.{TypeItem}
use Rattle.text_symbols.specs.declared.sym.Mark.TheVariants as marks
use Rattle.text_symbols.specs.declared.sym.Sym.TheVariants as syms
use Rattle.text_symbols.specs.declared.word.Word.TheVariants as words
use Rattle.text_grammar.specs.Attributes.{metadata}
use Rattle.text_grammar.specs.Instructions.{IsNamed, IsInstr}
use Rattle.text_grammar.specs.Phrases.{Naming, ◌⨾◌, ◌∥◌, never, each, these, mark, word, plain, comma, listed}
use Rattle.text_grammar.specs.Types.{IsType}
use Rattle.text_grammar.specs.Values.{IsPlace, local, IsValue, IsTyped, IsTarget}

-- in = '[' val ',' LOCAL ']'
abbrev pub IsIncoming : Incoming → Naming
IsIncoming i = plain (mark marks.OpenSquare) ⨾ IsValue i.value ⨾ comma ⨾ local i.from ⨾ plain (mark marks.CloseSquare)

-- phi = LOCAL '=' 'phi' type in (',' in)*
abbrev pub IsPhi : Phi → Naming
IsPhi p = IsNamed p.result ⨾ plain (word words.Phi ⨾ IsType p.ty) ⨾ listed IsIncoming p.incoming

-- type val ',' 'label' LOCAL
abbrev pub IsCase : Case → Naming
IsCase c = IsTyped c.arg ⨾ comma ⨾ IsTarget c.target

-- term = 'br' 'label' LOCAL | 'br' 'i1' val ',' 'label' LOCAL ',' 'label' LOCAL
--      | 'switch' type val ',' 'label' LOCAL '[' (type val ',' 'label' LOCAL)* ']'
--      | 'ret' 'void' | 'ret' type val | 'unreachable'
abbrev pub IsTerminator : Terminator → Naming
IsTerminator (terms.Jump l) = plain (word words.Br) ⨾ IsTarget l
IsTerminator (terms.Branch c then_to else_to) =
    plain (word words.Br ⨾ word (words.Int widths.I1)) ⨾ IsValue c ⨾ comma ⨾ IsTarget then_to ⨾ comma ⨾ IsTarget else_to
IsTerminator (terms.Switch a l cases) =
    plain (word words.Switch) ⨾ IsTyped a ⨾ comma ⨾ IsTarget l ⨾ plain (mark marks.OpenSquare) ⨾ each IsCase cases ⨾ plain (mark marks.CloseSquare)
IsTerminator (terms.Ret None) = plain (word words.Ret ⨾ word words.Void)
IsTerminator (terms.Ret (Some a)) = plain (word words.Ret) ⨾ IsTyped a
IsTerminator terms.Unreachable = plain (word words.Unreachable)

-- phi md
abbrev pub IsPhiLine : Phi → Naming
IsPhiLine p = IsPhi p ⨾ plain metadata

-- instr md
abbrev pub IsLine : List TypeItem → Instr → Naming
IsLine types i = IsInstr types i ⨾ plain metadata

-- (phi md)* (instr md)* term md
abbrev pub IsBody : List TypeItem → Block → Naming
IsBody types b = each IsPhiLine b.phis ⨾ each (IsLine types) b.instrs ⨾ IsTerminator b.term ⨾ plain metadata

-- LABEL
abbrev pub label : ℕ → Naming
label i s end = (n : Name) × these (syms.Label (Some n) ∷ []) s.1 end.1 × IsPlace s.0 n i end.0

-- a label that isn't written is a number, which is below 2^32 as every name's is
abbrev pub unwritten_label : ℕ → ℕ → Naming
unwritten_label k i s end = (k < 2 ^ 32) × (s.1 ≡ end.1) × IsPlace s.0 (Name.Number k) i end.0

-- a block with its label
abbrev pub IsBlock : List TypeItem → Block → Naming
IsBlock types b = label b.label ⨾ IsBody types b

-- the first block, in a function in which k parameters have a number as name
abbrev pub IsEntry : List TypeItem → ℕ → Block → Naming
IsEntry types k b = (label b.label ∥ unwritten_label k b.label) ⨾ IsBody types b

-- block+
abbrev pub AreBlocks : List TypeItem → ℕ → List Block → Naming
AreBlocks types k [] = never
AreBlocks types k (b ∷ bs) = IsEntry types k b ⨾ each (IsBlock types) bs
