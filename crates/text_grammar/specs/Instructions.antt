-- Instructions.
use Rattle.std.specs.Prelude.{◌≡◌, ℕ, Bool, true, false, List, [], ◌∷◌, Option, Some, None}
use Rattle.ir_base.specs.declared.name.Name.{Name}
use Rattle.ir_base.specs.declared.ops.BinOp.{BinOp}
use Rattle.ir_base.specs.declared.ops.BinOp.TheVariants as ops
use Rattle.ir_base.specs.declared.ops.CastOp.{CastOp}
use Rattle.ir_base.specs.declared.ops.CastOp.TheVariants as casts
use Rattle.ir_base.specs.declared.ops.Flags.{Flags}
use Rattle.ir_model.specs.Table.{callee_named}
use Rattle.ir_model.specs.Ty.{Ty}
use Rattle.ir_model.specs.declared.instr.Instr.{Instr}
use Rattle.ir_model.specs.declared.instr.Instr.TheVariants as instrs
use Rattle.ir_model.specs.declared.ir_type.IntWidth.TheVariants as widths
use Rattle.ir_model.specs.declared.module.TypeItem.{TypeItem}
use Rattle.ir_model.specs.declared.operand.Arg.{Arg}
use Rattle.ir_model.specs.declared.operand.Callee.{Callee}
use Rattle.ir_model.specs.declared.operand.Callee.TheVariants as callees
use Rattle.text_symbols.specs.declared.sym.Mark.TheVariants as marks
use Rattle.text_symbols.specs.declared.word.Word.TheVariants as words
use Rattle.text_grammar.specs.Attributes.{attributes}
use Rattle.text_grammar.specs.Phrases.{Phrase, Naming, ◌⨾◌, ◌∥◌, nothing, each, some, mark, word, flag, plain, comma, behind_comma, listed}
use Rattle.text_grammar.specs.Types.{IsType, IsResult}
use Rattle.text_grammar.specs.Values.{local, global, IsValue, IsTyped, IsArg, IsAddress, IsAligned}

-- ---- operations and their flags

pub data Wrap : Type 0 where
  nuw : Wrap
  nsw : Wrap

abbrev pub IsWrap : Wrap → Phrase
IsWrap nuw = word words.Nuw
IsWrap nsw = word words.Nsw

abbrev pub has_nuw : List Wrap → Bool
has_nuw [] = false
has_nuw (nuw ∷ ws) = true
has_nuw (nsw ∷ ws) = has_nuw ws

abbrev pub has_nsw : List Wrap → Bool
has_nsw [] = false
has_nsw (nuw ∷ ws) = has_nsw ws
has_nsw (nsw ∷ ws) = true

-- ('nuw' | 'nsw')*
abbrev pub AreWraps : Flags → Phrase
AreWraps f ts rest = (ws : List Wrap) × (f ≡ record { nuw = has_nuw ws; nsw = has_nsw ws; exact = false; disjoint = false }) × each IsWrap ws ts rest

-- ['exact']
abbrev pub MayBeExact : Flags → Phrase
MayBeExact f ts rest = (b : Bool) × (f ≡ record { nuw = false; nsw = false; exact = b; disjoint = false }) × flag words.Exact b ts rest

-- ['disjoint']
abbrev pub MayBeDisjoint : Flags → Phrase
MayBeDisjoint f ts rest = (b : Bool) × (f ≡ record { nuw = false; nsw = false; exact = false; disjoint = b }) × flag words.Disjoint b ts rest

abbrev pub WithoutFlags : Flags → Phrase
WithoutFlags f ts rest = (f ≡ record { nuw = false; nsw = false; exact = false; disjoint = false }) × nothing ts rest

-- the flags that an operation may have
abbrev pub AreFlags : BinOp → Flags → Phrase
AreFlags ops.Add = AreWraps
AreFlags ops.Sub = AreWraps
AreFlags ops.Mul = AreWraps
AreFlags ops.Shl = AreWraps
AreFlags ops.UDiv = MayBeExact
AreFlags ops.SDiv = MayBeExact
AreFlags ops.LShr = MayBeExact
AreFlags ops.AShr = MayBeExact
AreFlags ops.Or = MayBeDisjoint
AreFlags _ = WithoutFlags

-- bin = ('add' | 'sub' | 'mul' | 'shl') ('nuw' | 'nsw')* | ('udiv' | 'sdiv' | 'lshr' | 'ashr') ['exact']
--     | 'or' ['disjoint'] | 'urem' | 'srem' | 'and' | 'xor'
abbrev pub IsOperation : BinOp → Flags → Phrase
IsOperation op f = word (words.Bin op) ⨾ AreFlags op f

abbrev plain_cast : CastOp → Bool → Phrase
plain_cast op nneg ts rest = (nneg ≡ false) × word (words.Cast op) ts rest

-- 'trunc' | 'zext' ['nneg'] | 'sext'
abbrev pub IsCast : CastOp → Bool → Phrase
IsCast casts.Zext nneg = word (words.Cast casts.Zext) ⨾ flag words.Nneg nneg
IsCast op nneg = plain_cast op nneg

-- ---- calls

-- GLOBAL | LOCAL
abbrev pub IsCallee : Callee → Naming
IsCallee (callees.Local i) = local i
IsCallee c = plain (λ ts rest. (n : Name) × (c ≡ callee_named n) × global n ts rest)

-- ['tail' | 'notail' | 'musttail'], of which the last is kept
abbrev pub IsTail : Bool → Phrase
IsTail true = word words.Musttail
IsTail false = word words.Tail ∥ word words.Notail ∥ nothing

-- [arg (',' arg)*]
abbrev pub AreArgs : List Arg → Naming
AreArgs [] = nothing
AreArgs (a ∷ args) = listed IsArg (a ∷ args)

-- ['tail' | 'notail' | 'musttail'] 'call' attr* result (GLOBAL | LOCAL) '(' [arg (',' arg)*] ')' attr*
abbrev pub IsCall : Bool → Option Ty → Callee → List Arg → Naming
IsCall must t callee args =
    plain (IsTail must ⨾ word words.Call ⨾ attributes ⨾ IsResult t)
    ⨾ IsCallee callee ⨾ plain (mark marks.OpenRound) ⨾ AreArgs args ⨾ plain (mark marks.CloseRound ⨾ attributes)

-- ---- any instruction

-- LOCAL '='
abbrev pub IsNamed : ℕ → Naming
IsNamed r = local r ⨾ plain (mark marks.Equals)

-- instr = LOCAL '=' bin type val ',' val
--       | LOCAL '=' 'icmp' pred type val ',' val
--       | LOCAL '=' 'select' 'i1' val ',' type val ',' type val
--       | LOCAL '=' ('trunc' | 'zext' ['nneg'] | 'sext') type val 'to' type
--       | LOCAL '=' 'alloca' type [',' 'align' INT]
--       | LOCAL '=' 'load' type ',' 'ptr' val [',' 'align' INT]
--       | 'store' type val ',' 'ptr' val [',' 'align' INT]
--       | LOCAL '=' 'getelementptr' ['inbounds'] type ',' 'ptr' val (',' type val)+
--       | [LOCAL '='] ['tail' | 'notail' | 'musttail'] 'call' attr* result (GLOBAL | LOCAL) '(' [arg (',' arg)*] ')' attr*
abbrev pub IsInstr : List TypeItem → Instr → Naming
IsInstr types (instrs.Binary r op f t a b) =
    IsNamed r ⨾ plain (IsOperation op f ⨾ IsType t) ⨾ IsValue a ⨾ comma ⨾ IsValue b
IsInstr types (instrs.Icmp r p t a b) =
    IsNamed r ⨾ plain (word words.Icmp ⨾ word (words.Pred p) ⨾ IsType t) ⨾ IsValue a ⨾ comma ⨾ IsValue b
IsInstr types (instrs.Select r c then_to else_to) =
    IsNamed r ⨾ plain (word words.Select ⨾ word (words.Int widths.I1)) ⨾ IsValue c ⨾ comma ⨾ IsTyped then_to ⨾ comma ⨾ IsTyped else_to
IsInstr types (instrs.Cast r op nneg a t) =
    IsNamed r ⨾ plain (IsCast op nneg) ⨾ IsTyped a ⨾ plain (word words.To ⨾ IsType t)
IsInstr types (instrs.Alloca r t n) =
    IsNamed r ⨾ plain (word words.Alloca ⨾ IsType t ⨾ IsAligned types t n)
IsInstr types (instrs.Load r t p n) =
    IsNamed r ⨾ plain (word words.Load ⨾ IsType t) ⨾ IsAddress p ⨾ plain (IsAligned types t n)
IsInstr types (instrs.Store a p n) =
    plain (word words.Store) ⨾ IsTyped a ⨾ IsAddress p ⨾ plain (IsAligned types a.ty n)
IsInstr types (instrs.Gep r inbounds t p is) =
    IsNamed r ⨾ plain (word words.Getelementptr ⨾ flag words.Inbounds inbounds ⨾ IsType t) ⨾ IsAddress p ⨾ some (behind_comma IsTyped) is
IsInstr types (instrs.Call (Some r) must t callee args) = IsNamed r ⨾ IsCall must t callee args
IsInstr types (instrs.Call None must t callee args) = IsCall must t callee args
