-- Types, operands and instructions with their names in order.
use Rattle.std.proofs.Common.{◌≡◌, ℕ, suc, Bool, true, false, inl, inr, List, [], ◌∷◌, ◌++◌, append_assoc, append-nil, Option, None, refl, sym, ap, subst, ◌∙◌}
use Rattle.std.specs.Prelude.{Some, ℤ, pos, negsuc}
use Rattle.ir_base.specs.declared.name.Name.{Name}
use Rattle.ir_base.specs.declared.ops.BinOp.{BinOp}
use Rattle.ir_base.specs.declared.ops.CastOp.{CastOp}
use Rattle.ir_base.specs.declared.ops.Flags.{Flags}
use Rattle.ir_model.specs.Table.{allocator_word, callee_named, intrinsic_word}
use Rattle.ir_model.specs.Ty.{Ty, Tys, int, ptr, token, array, structure, named, none, field}
use Rattle.ir_model.specs.TypeView.{bits_of}
use Rattle.ir_model.specs.declared.instr.Instr.{Instr}
use Rattle.ir_model.specs.declared.ir_type.IntWidth.{IntWidth}
use Rattle.ir_model.specs.declared.module.TypeItem.{TypeItem}
use Rattle.ir_model.specs.declared.operand.Allocator.{Allocator}
use Rattle.ir_model.specs.declared.operand.Arg.{Arg}
use Rattle.ir_model.specs.declared.operand.Callee.{Callee}
use Rattle.ir_model.specs.declared.operand.Intrinsic.{Intrinsic}
use Rattle.ir_model.specs.declared.operand.Operand.{Operand}
use Rattle.text_symbols.specs.declared.sym.Sym.{Sym}
use Rattle.text_symbols.specs.declared.word.Word.{Word}
use Rattle.text_canonical.specs.canonical.InstrSymbols.{address_symbols, align_symbols, flag_symbols, flags_symbols, instr_symbols, set_symbols}
use Rattle.text_canonical.specs.canonical.OperandSymbols.{arg_symbols, args_symbols, callee_symbol, global_symbol, label_symbols, more_args_symbols, number_symbol, operand_symbol, result_symbols}
use Rattle.text_canonical.specs.canonical.TypeSymbols.{int_symbol, type_symbols}
use Rattle.text_grammar.specs.Attributes.{attributes}
use Rattle.text_grammar.specs.Instructions.{AreArgs, AreFlags, AreWraps, IsCall, IsCallee, IsCast, IsInstr, IsNamed, IsOperation, IsTail, MayBeDisjoint, MayBeExact, WithoutFlags, nsw, nuw}
use Rattle.text_grammar.specs.Phrases.{Phrase, Naming, behind_comma, comma, each, flag, plain, some, word}
use Rattle.text_grammar.specs.Types.{AreFields, IsInt, IsResult, IsScalar, IsType}
use Rattle.text_grammar.specs.Values.{IsAddress, IsAligned, IsArg, IsTarget, IsTyped, IsValue, global, integer}
use Rattle.text_canonical.specs.order.Order.{arg_order, callee_order, instr_order, operand_order}
use Rattle.text_canonical.specs.order.Places.{each_order, local_order}
use Rattle.text_canonical.proofs.order.Holds.{Holds, Ordered, holds_mark, holds_nothing, holds_same, holds_seq, holds_these, holds_word, local_ordered, ordered_each, ordered_nothing, ordered_plain, ordered_same, ordered_seq}
use Rattle.text_canonical.proofs.grammar.Names.{minus_suc}
use Rattle.text_canonical.proofs.grammar.Types.{inner_symbols, width_symbol}
use Rattle.ir_base.specs.declared.ops.BinOp.TheVariants as ops
use Rattle.ir_base.specs.declared.ops.CastOp.TheVariants as casts
use Rattle.ir_model.specs.declared.instr.Instr.TheVariants as instrs
use Rattle.ir_model.specs.declared.ir_type.IntWidth.TheVariants as widths
use Rattle.ir_model.specs.declared.operand.Callee.TheVariants as callees
use Rattle.ir_model.specs.declared.operand.Operand.TheVariants as operands
use Rattle.text_symbols.specs.declared.sym.Mark.TheVariants as marks
use Rattle.text_symbols.specs.declared.sym.Sym.TheVariants as syms
use Rattle.text_symbols.specs.declared.word.Word.TheVariants as words
use Rattle.text_canonical.specs.order.Shape as shape

-- ---- types

int_holds : (bits : ℕ) (w : IntWidth) → bits ≡ bits_of w → Holds (IsInt bits) (int_symbol bits ∷ [])
int_holds bits w e =
    let shown : int_symbol bits ≡ syms.Word (words.Int w) = ap int_symbol e ∙ width_symbol w in
    record { at = λ more. (w, e, ap (λ (s : Sym). s ∷ more) shown) }

structure_shown : (fs : Tys) → syms.Mark marks.OpenCurly ∷ inner_symbols fs ++ syms.Mark marks.CloseCurly ∷ [] ≡ type_symbols (structure fs)
structure_shown none = refl
structure_shown (field t fs) = simp append_assoc

mutual
  pub type_holds : (t : Ty) → shape.IsType t → Holds (IsType t) (type_symbols t)
  type_holds (int bits) h = int_holds bits h.0 h.1
  type_holds ptr h = holds_word words.Ptr
  type_holds token h = holds_word words.Token
  type_holds (array n t) h = holds_seq (holds_these (syms.Mark marks.OpenSquare ∷ syms.Int n ∷ syms.Word words.X ∷ [])) (holds_seq (type_holds t h) (holds_mark marks.CloseSquare))
  type_holds (structure fs) h = holds_same (structure_shown fs) (holds_seq (holds_mark marks.OpenCurly) (holds_seq (fields_hold fs h) (holds_mark marks.CloseCurly)))
  type_holds (named n) h = holds_these (syms.Local (Some n) ∷ [])

  fields_hold : (fs : Tys) → shape.AreTypes fs → Holds (AreFields fs) (inner_symbols fs)
  fields_hold none h = holds_nothing
  fields_hold (field t none) h = holds_same (sym (append-nil (type_symbols t))) (type_holds t h.0)
  fields_hold (field t (field u fs)) h = holds_seq (type_holds t h.0) (holds_seq (holds_mark marks.Comma) (fields_hold (field u fs) h.1))

pub scalar_holds : (t : Ty) → shape.IsScalar t → Holds (IsScalar t) (type_symbols t)
scalar_holds (int bits) h = int_holds bits h.0 h.1
scalar_holds ptr h = holds_word words.Ptr
scalar_holds token h = absurd h
scalar_holds (array n t) h = absurd h
scalar_holds (structure fs) h = absurd h
scalar_holds (named n) h = absurd h

pub result_holds : (t : Option Ty) → shape.IsResult t → Holds (IsResult t) (result_symbols t)
result_holds None h = holds_word words.Void
result_holds (Some t) h = type_holds t h

pub aligned_holds : (types : List TypeItem) (t : Ty) (n : ℕ) → Holds (IsAligned types t n) (align_symbols n)
aligned_holds types t n = record { at = λ more. inl refl }

pub attributes_hold : Holds attributes []
attributes_hold = record { at = λ more. ([], refl) }

-- ---- operands

pub integer_holds : (z : ℤ) → Holds (integer z) (number_symbol z ∷ [])
integer_holds (pos n) = record { at = λ more. (n, inl (refl, refl)) }
integer_holds (negsuc n) = record { at = λ more. (suc n, inr (sym (minus_suc n), refl)) }

pub operand_ordered : (names : List Name) (x : Operand) (ns : List Name) → shape.IsOperand names x → Ordered (IsValue (operand_order names x ns).0) (operand_symbol names x ∷ []) ns (operand_order names x ns).1
operand_ordered names (operands.Local i) ns h = local_ordered names i ns h
operand_ordered names (operands.Global n) ns h = ordered_plain (holds_these (syms.Global (Some n) ∷ []))
operand_ordered names (operands.Number z) ns h = ordered_plain (integer_holds z)
operand_ordered names operands.True ns h = ordered_plain (holds_word words.True)
operand_ordered names operands.False ns h = ordered_plain (holds_word words.False)
operand_ordered names operands.Null ns h = ordered_plain (holds_word words.Null)
operand_ordered names operands.None ns h = ordered_plain (holds_word words.None)
operand_ordered names operands.Poison ns h = ordered_plain (holds_word words.Poison)

pub comma_ordered : {ns : List Name} → Ordered comma (syms.Mark marks.Comma ∷ []) ns ns
comma_ordered = ordered_plain (holds_mark marks.Comma)

pub typed_ordered : (names : List Name) (a : Arg) (ns : List Name) → shape.IsArg names a → Ordered (IsTyped (arg_order names a ns).0) (arg_symbols names a) ns (arg_order names a ns).1
typed_ordered names a ns h = ordered_seq (ordered_plain (type_holds a.ty h.0)) (operand_ordered names a.value ns h.1)

arg_ordered : (names : List Name) (a : Arg) (ns : List Name) → shape.IsArg names a → Ordered (IsArg (arg_order names a ns).0) (arg_symbols names a) ns (arg_order names a ns).1
arg_ordered names a ns h =
    ordered_seq (ordered_plain (holds_same (append-nil (type_symbols a.ty)) (holds_seq (type_holds a.ty h.0) attributes_hold))) (operand_ordered names a.value ns h.1)

pub target_ordered : (names : List Name) (i : ℕ) (ns : List Name) → shape.IsPlaced names i → Ordered (IsTarget (local_order names i ns).0) (label_symbols names i) ns (local_order names i ns).1
target_ordered names i ns h = ordered_seq (ordered_plain (holds_word words.Label)) (local_ordered names i ns h)

address_ordered : (names : List Name) (x : Operand) (ns : List Name) → shape.IsOperand names x → Ordered (IsAddress (operand_order names x ns).0) (address_symbols names x) ns (operand_order names x ns).1
address_ordered names x ns h = ordered_seq (ordered_plain (holds_these (syms.Mark marks.Comma ∷ syms.Word words.Ptr ∷ []))) (operand_ordered names x ns h)

more_typed_ordered : (names : List Name) (args : List Arg) (ns : List Name) → shape.Each (shape.IsArg names) args → Ordered (each (behind_comma IsTyped) (each_order (arg_order names) args ns).0) (more_args_symbols names args) ns (each_order (arg_order names) args ns).1
more_typed_ordered names args ns h =
    ordered_each (arg_order names) (behind_comma IsTyped) (λ a. syms.Mark marks.Comma ∷ arg_symbols names a) (more_args_symbols names) (shape.IsArg names) refl (λ a rest. refl)
    (λ a ms k. ordered_seq comma_ordered (typed_ordered names a ms k)) args ns h

indices_ordered : (names : List Name) (args : List Arg) (ns : List Name) → shape.Some_of (shape.IsArg names) args → Ordered (some (behind_comma IsTyped) (each_order (arg_order names) args ns).0) (more_args_symbols names args) ns (each_order (arg_order names) args ns).1
indices_ordered names [] ns h = absurd h
indices_ordered names (a ∷ args) ns h =
    ordered_seq (ordered_seq comma_ordered (typed_ordered names a ns h.0)) (more_typed_ordered names args (arg_order names a ns).1 h.1)

more_args_ordered : (names : List Name) (args : List Arg) (ns : List Name) → shape.Each (shape.IsArg names) args → Ordered (each (behind_comma IsArg) (each_order (arg_order names) args ns).0) (more_args_symbols names args) ns (each_order (arg_order names) args ns).1
more_args_ordered names args ns h =
    ordered_each (arg_order names) (behind_comma IsArg) (λ a. syms.Mark marks.Comma ∷ arg_symbols names a) (more_args_symbols names) (shape.IsArg names) refl (λ a rest. refl)
    (λ a ms k. ordered_seq comma_ordered (arg_ordered names a ms k)) args ns h

args_ordered : (names : List Name) (args : List Arg) (ns : List Name) → shape.Each (shape.IsArg names) args → Ordered (AreArgs (each_order (arg_order names) args ns).0) (args_symbols names args) ns (each_order (arg_order names) args ns).1
args_ordered names [] ns h = ordered_nothing
args_ordered names (a ∷ args) ns h = ordered_seq (arg_ordered names a ns h.0) (more_args_ordered names args (arg_order names a ns).1 h.1)

-- ---- flags

pub flag_holds : (w : Word) (b : Bool) → Holds (flag w b) (flag_symbols b w)
flag_holds w true = holds_word w
flag_holds w false = holds_nothing

abbrev flags_of : Bool → Bool → Bool → Bool → Flags
flags_of n s e d = record { nuw = n; nsw = s; exact = e; disjoint = d }

wraps : (n s : Bool) → Holds (AreWraps (flags_of n s false false)) (flags_symbols (flags_of n s false false))
wraps true true = record { at = λ more. (nuw ∷ nsw ∷ [], refl, (syms.Word words.Nsw ∷ more, refl, (more, refl, refl))) }
wraps true false = record { at = λ more. (nuw ∷ [], refl, (more, refl, refl)) }
wraps false true = record { at = λ more. (nsw ∷ [], refl, (more, refl, refl)) }
wraps false false = record { at = λ more. ([], refl, refl) }

abbrev HoldsFor : (Flags → Phrase) → Flags → Type 0
HoldsFor P f = Holds (P f) (flags_symbols f)

wraps_hold : (f : Flags) → (f.exact ≡ false) × (f.disjoint ≡ false) → HoldsFor AreWraps f
wraps_hold f h =
    let e : flags_of f.nuw f.nsw false false ≡ f = ap (λ (b : Bool). flags_of f.nuw f.nsw b false) (sym h.0) ∙ ap (λ (b : Bool). flags_of f.nuw f.nsw f.exact b) (sym h.1) in
    subst (HoldsFor AreWraps) e (wraps f.nuw f.nsw)

exact_by : (b : Bool) → HoldsFor MayBeExact (flags_of false false b false)
exact_by true = record { at = λ more. (true, refl, refl) }
exact_by false = record { at = λ more. (false, refl, refl) }

exact_holds : (f : Flags) → (f.nuw ≡ false) × (f.nsw ≡ false) × (f.disjoint ≡ false) → HoldsFor MayBeExact f
exact_holds f h =
    let e : flags_of false false f.exact false ≡ f =
    ap (λ (b : Bool). flags_of b false f.exact false) (sym h.0) ∙ ap (λ (b : Bool). flags_of f.nuw b f.exact false) (sym h.1) ∙ ap (λ (b : Bool). flags_of f.nuw f.nsw f.exact b) (sym h.2) in
    subst (HoldsFor MayBeExact) e (exact_by f.exact)

disjoint_by : (b : Bool) → HoldsFor MayBeDisjoint (flags_of false false false b)
disjoint_by true = record { at = λ more. (true, refl, refl) }
disjoint_by false = record { at = λ more. (false, refl, refl) }

disjoint_holds : (f : Flags) → (f.nuw ≡ false) × (f.nsw ≡ false) × (f.exact ≡ false) → HoldsFor MayBeDisjoint f
disjoint_holds f h =
    let e : flags_of false false false f.disjoint ≡ f =
    ap (λ (b : Bool). flags_of b false false f.disjoint) (sym h.0) ∙ ap (λ (b : Bool). flags_of f.nuw b false f.disjoint) (sym h.1) ∙ ap (λ (b : Bool). flags_of f.nuw f.nsw b f.disjoint) (sym h.2) in
    subst (HoldsFor MayBeDisjoint) e (disjoint_by f.disjoint)

without_holds : (f : Flags) → (f.nuw ≡ false) × (f.nsw ≡ false) × (f.exact ≡ false) × (f.disjoint ≡ false) → HoldsFor WithoutFlags f
without_holds f h =
    let e : flags_of false false false false ≡ f =
    ap (λ (b : Bool). flags_of b false false false) (sym h.0) ∙ ap (λ (b : Bool). flags_of f.nuw b false false) (sym h.1) ∙ ap (λ (b : Bool). flags_of f.nuw f.nsw b false) (sym h.2) ∙ ap (λ (b : Bool). flags_of f.nuw f.nsw f.exact b) (sym h.3) in
    subst (HoldsFor WithoutFlags) e (record { at = λ more. (refl, refl) })

flags_hold : (op : BinOp) (f : Flags) → shape.MayHave op f → Holds (AreFlags op f) (flags_symbols f)
flags_hold ops.Add = wraps_hold
flags_hold ops.Sub = wraps_hold
flags_hold ops.Mul = wraps_hold
flags_hold ops.Shl = wraps_hold
flags_hold ops.UDiv = exact_holds
flags_hold ops.SDiv = exact_holds
flags_hold ops.LShr = exact_holds
flags_hold ops.AShr = exact_holds
flags_hold ops.Or = disjoint_holds
flags_hold ops.URem = without_holds
flags_hold ops.SRem = without_holds
flags_hold ops.And = without_holds
flags_hold ops.Xor = without_holds

operation_holds : (op : BinOp) (f : Flags) → shape.MayHave op f → Holds (IsOperation op f) (syms.Word (words.Bin op) ∷ flags_symbols f)
operation_holds op f h = holds_seq (holds_word (words.Bin op)) (flags_hold op f h)

-- ---- casts and calls

cast_by : (op : CastOp) → Holds (λ us end. (false ≡ false) × word (words.Cast op) us end) (syms.Word (words.Cast op) ∷ [])
cast_by op = record { at = λ more. (refl, refl) }

plain_cast_holds : (op : CastOp) (nneg : Bool) → nneg ≡ false → Holds (λ us end. (nneg ≡ false) × word (words.Cast op) us end) (syms.Word (words.Cast op) ∷ flag_symbols nneg words.Nneg)
plain_cast_holds op nneg e = subst (λ (b : Bool). Holds (λ us end. (b ≡ false) × word (words.Cast op) us end) (syms.Word (words.Cast op) ∷ flag_symbols b words.Nneg)) (sym e) (cast_by op)

cast_holds : (op : CastOp) (nneg : Bool) → shape.MayBe op nneg → Holds (IsCast op nneg) (syms.Word (words.Cast op) ∷ flag_symbols nneg words.Nneg)
cast_holds casts.Zext nneg h = holds_seq (holds_word (words.Cast casts.Zext)) (flag_holds words.Nneg nneg)
cast_holds casts.Trunc nneg h = plain_cast_holds casts.Trunc nneg h
cast_holds casts.Sext nneg h = plain_cast_holds casts.Sext nneg h

tail_holds : (must : Bool) → Holds (IsTail must) (flag_symbols must words.Musttail)
tail_holds true = holds_word words.Musttail
tail_holds false = record { at = λ more. inr (inr refl) }

-- a name that is called
abbrev is_called : Callee → Naming
is_called c = plain (λ ts rest. (n : Name) × (c ≡ callee_named n) × global n ts rest)

called : (c : Callee) (n : Name) (ns : List Name) → c ≡ callee_named n → Ordered (is_called c) (global_symbol n ∷ []) ns ns
called c n ns e = record { at = λ more. (refl, (n, e, refl)) }

allocator_is : (a : Allocator) → callees.Allocator a ≡ callee_named (Name.Text (allocator_word a))
allocator_is Allocator.Malloc = refl
allocator_is Allocator.Znwm = refl
allocator_is Allocator.Free = refl
allocator_is Allocator.ZdlPv = refl
allocator_is Allocator.ZdlPvm = refl

intrinsic_is : (i : Intrinsic) → callees.Intrinsic i ≡ callee_named (Name.Text (intrinsic_word i))
intrinsic_is Intrinsic.CoroId = refl
intrinsic_is Intrinsic.CoroSizeI32 = refl
intrinsic_is Intrinsic.CoroSizeI64 = refl
intrinsic_is Intrinsic.CoroAlignI32 = refl
intrinsic_is Intrinsic.CoroAlignI64 = refl
intrinsic_is Intrinsic.CoroAlloc = refl
intrinsic_is Intrinsic.CoroBegin = refl
intrinsic_is Intrinsic.CoroFree = refl
intrinsic_is Intrinsic.CoroFrame = refl
intrinsic_is Intrinsic.CoroSave = refl
intrinsic_is Intrinsic.CoroSuspend = refl
intrinsic_is Intrinsic.CoroEnd = refl
intrinsic_is Intrinsic.CoroResume = refl
intrinsic_is Intrinsic.CoroDestroy = refl
intrinsic_is Intrinsic.CoroDone = refl
intrinsic_is Intrinsic.CoroPromise = refl
intrinsic_is Intrinsic.LifetimeStart = refl
intrinsic_is Intrinsic.LifetimeEnd = refl
intrinsic_is Intrinsic.MemcpyI64 = refl
intrinsic_is Intrinsic.MemcpyI32 = refl

callee_ordered : (names : List Name) (c : Callee) (ns : List Name) → shape.IsCallee names c → Ordered (IsCallee (callee_order names c ns).0) (callee_symbol names c ∷ []) ns (callee_order names c ns).1
callee_ordered names (callees.Local i) ns h = local_ordered names i ns h
callee_ordered names (callees.Named n) ns h = called (callees.Named n) n ns h
callee_ordered names (callees.Allocator a) ns h = called (callees.Allocator a) (Name.Text (allocator_word a)) ns (allocator_is a)
callee_ordered names (callees.Intrinsic i) ns h = called (callees.Intrinsic i) (Name.Text (intrinsic_word i)) ns (intrinsic_is i)

call_ordered : (names : List Name) (must : Bool) (t : Option Ty) (c : Callee) (args : List Arg) (ns : List Name) → shape.IsResult t → shape.IsCallee names c → shape.Each (shape.IsArg names) args
    → Ordered (IsCall must t (callee_order names c ns).0 (each_order (arg_order names) args (callee_order names c ns).1).0)
    (flag_symbols must words.Musttail ++ syms.Word words.Call ∷ result_symbols t ++ callee_symbol names c ∷ syms.Mark marks.OpenRound ∷ args_symbols names args ++ syms.Mark marks.CloseRound ∷ [])
    ns (each_order (arg_order names) args (callee_order names c ns).1).1
call_ordered names must t c args ns h k l =
    ordered_same (simp append_assoc)
    (ordered_seq (ordered_plain (holds_seq (tail_holds must) (holds_seq (holds_word words.Call) (holds_seq attributes_hold (result_holds t h)))))
    (ordered_seq (callee_ordered names c ns k)
    (ordered_seq (ordered_plain (holds_mark marks.OpenRound))
    (ordered_seq (args_ordered names args (callee_order names c ns).1 l)
    (ordered_plain (holds_seq (holds_mark marks.CloseRound) attributes_hold))))))

-- ---- instructions

pub result_ordered : (names : List Name) (r : ℕ) (ns : List Name) → shape.IsPlaced names r → Ordered (IsNamed (local_order names r ns).0) (set_symbols names (Some r)) ns (local_order names r ns).1
result_ordered names r ns h = ordered_seq (local_ordered names r ns h) (ordered_plain (holds_mark marks.Equals))

pub instr_ordered : (names : List Name) (types : List TypeItem) (i : Instr) (ns : List Name) → shape.IsInstr names i → Ordered (IsInstr types (instr_order names i ns).0) (instr_symbols names i) ns (instr_order names i ns).1
instr_ordered names types (instrs.Binary r op f t a b) ns h =
    ordered_same (simp append_assoc)
    (ordered_seq (result_ordered names r ns h.0)
    (ordered_seq (ordered_plain (holds_seq (operation_holds op f h.1) (type_holds t h.2)))
    (ordered_seq (operand_ordered names a _ h.3) (ordered_seq comma_ordered (operand_ordered names b _ h.4)))))
instr_ordered names types (instrs.Icmp r p t a b) ns h =
    ordered_same (simp append_assoc)
    (ordered_seq (result_ordered names r ns h.0)
    (ordered_seq (ordered_plain (holds_seq (holds_word words.Icmp) (holds_seq (holds_word (words.Pred p)) (type_holds t h.1))))
    (ordered_seq (operand_ordered names a _ h.2) (ordered_seq comma_ordered (operand_ordered names b _ h.3)))))
instr_ordered names types (instrs.Select r c a b) ns h =
    ordered_same (simp append_assoc)
    (ordered_seq (result_ordered names r ns h.0)
    (ordered_seq (ordered_plain (holds_seq (holds_word words.Select) (holds_word (words.Int widths.I1))))
    (ordered_seq (operand_ordered names c _ h.1)
    (ordered_seq comma_ordered
    (ordered_seq (typed_ordered names a _ h.2) (ordered_seq comma_ordered (typed_ordered names b _ h.3)))))))
instr_ordered names types (instrs.Cast r op nneg a t) ns h =
    ordered_same (simp append_assoc)
    (ordered_seq (result_ordered names r ns h.0)
    (ordered_seq (ordered_plain (cast_holds op nneg h.1))
    (ordered_seq (typed_ordered names a _ h.2)
    (ordered_plain (holds_seq (holds_word words.To) (type_holds t h.3))))))
instr_ordered names types (instrs.Alloca r t n) ns h =
    ordered_seq (result_ordered names r ns h.0) (ordered_plain (holds_seq (holds_word words.Alloca) (holds_seq (type_holds t h.1) (aligned_holds types t n))))
instr_ordered names types (instrs.Load r t p n) ns h =
    ordered_same (simp append_assoc)
    (ordered_seq (result_ordered names r ns h.0)
    (ordered_seq (ordered_plain (holds_seq (holds_word words.Load) (type_holds t h.1)))
    (ordered_seq (address_ordered names p _ h.2) (ordered_plain (aligned_holds types t n)))))
instr_ordered names types (instrs.Store a p n) ns h =
    ordered_same (simp append_assoc)
    (ordered_seq (ordered_plain (holds_word words.Store))
    (ordered_seq (typed_ordered names a ns h.0)
    (ordered_seq (address_ordered names p _ h.1) (ordered_plain (aligned_holds types a.ty n)))))
instr_ordered names types (instrs.Gep r inbounds t p is) ns h =
    ordered_same (simp append_assoc)
    (ordered_seq (result_ordered names r ns h.0)
    (ordered_seq (ordered_plain (holds_seq (holds_word words.Getelementptr) (holds_seq (flag_holds words.Inbounds inbounds) (type_holds t h.1))))
    (ordered_seq (address_ordered names p _ h.2) (indices_ordered names is _ h.3))))
instr_ordered names types (instrs.Call (Some r) must t c args) ns h =
    ordered_seq (result_ordered names r ns h.0) (call_ordered names must t c args (local_order names r ns).1 h.1 h.2 h.3)
instr_ordered names types (instrs.Call None must t c args) ns h = call_ordered names must t c args ns h.1 h.2 h.3
