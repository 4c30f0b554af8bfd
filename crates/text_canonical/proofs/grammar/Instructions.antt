-- Instructions as they are printed.
use Rattle.std.proofs.Common.{◌≡◌, ℕ, inr, List, [], ◌∷◌, ◌++◌, append_assoc, append-nil, Option, None, refl, sym, ap, subst}
use Rattle.std.specs.Prelude.{Some, Bool, true, false}
use Rattle.ir_base.specs.declared.name.Name.{Name}
use Rattle.ir_base.specs.declared.ops.BinOp.{BinOp}
use Rattle.ir_base.specs.declared.ops.CastOp.{CastOp}
use Rattle.ir_base.specs.declared.ops.Flags.{Flags}
use Rattle.ir_model.specs.Table.{allocator_in, allocator_word, all_allocators, all_intrinsics, callee_named, callee_or, intrinsic_in, intrinsic_word}
use Rattle.ir_model.specs.Ty.{Ty}
use Rattle.ir_model.specs.declared.instr.Instr.{Instr}
use Rattle.ir_model.specs.declared.module.TypeItem.{TypeItem}
use Rattle.ir_model.specs.declared.operand.Allocator.{Allocator}
use Rattle.ir_model.specs.declared.operand.Arg.{Arg}
use Rattle.ir_model.specs.declared.operand.Callee.{Callee}
use Rattle.ir_model.specs.declared.operand.Intrinsic.{Intrinsic}
use Rattle.ir_model.specs.declared.operand.Operand.{Operand}
use Rattle.text_symbols.specs.declared.sym.Sym.{Sym}
use Rattle.text_symbols.specs.declared.word.Word.{Word}
use Rattle.text_canonical.specs.canonical.InstrSymbols.{address_symbols, flag_symbols, flags_symbols, instr_symbols, set_symbols}
use Rattle.text_canonical.specs.canonical.OperandSymbols.{arg_symbols, args_symbols, callee_symbol, global_symbol, more_args_symbols, operand_symbol, result_symbols}
use Rattle.text_canonical.specs.canonical.TypeSymbols.{type_symbols}
use Rattle.text_canonical.specs.canonical.Written.{AreWritten}
use Rattle.text_grammar.specs.Attributes.{attributes}
use Rattle.text_grammar.specs.Instructions.{AreArgs, AreFlags, AreWraps, IsCall, IsCallee, IsCast, IsInstr, IsNamed, IsOperation, IsTail, IsWrap, MayBeDisjoint, MayBeExact, WithoutFlags, Wrap, has_nsw, has_nuw, nsw, nuw}
use Rattle.text_grammar.specs.Phrases.{Naming, Locals, ◌⨾◌, behind_comma, comma, each, flag, plain, some, word}
use Rattle.text_grammar.specs.Types.{IsResult}
use Rattle.text_grammar.specs.Values.{IsAddress, IsArg, IsTyped, IsValue, global}
use Rattle.text_canonical.proofs.grammar.Again.{Again, AgainIn, AreSound, Leaves, fixed, leaves_each, leaves_nothing, leaves_or, leaves_these, left_out, nothing_again, nothing_in, plain_in, same, same_in, seq, seq_in}
use Rattle.text_canonical.proofs.grammar.Attributes.{attributes_again}
use Rattle.text_canonical.proofs.grammar.Names.{global_again, local_again, mark_again, value_again, word_again}
use Rattle.text_canonical.proofs.grammar.Types.{AreNarrow, aligned_again, result_again, type_again, type_narrow}
use Rattle.ir_base.specs.declared.ops.BinOp.TheVariants as ops
use Rattle.ir_base.specs.declared.ops.CastOp.TheVariants as casts
use Rattle.ir_model.specs.declared.instr.Instr.TheVariants as instrs
use Rattle.ir_model.specs.declared.ir_type.IntWidth.TheVariants as widths
use Rattle.ir_model.specs.declared.operand.Callee.TheVariants as callees
use Rattle.text_symbols.specs.declared.sym.Mark.TheVariants as marks
use Rattle.text_symbols.specs.declared.sym.Sym.TheVariants as syms
use Rattle.text_symbols.specs.declared.word.Word.TheVariants as words

-- ---- operands

pub comma_again : (names : List Name) (s end : Locals) → comma s end → AgainIn names comma (syms.Mark marks.Comma ∷ []) s end
comma_again names s end d = plain_in d.0 (mark_again marks.Comma s.1 end.1 d.1)

pub typed_again : (names : List Name) (a : Arg) (s end : Locals) → IsTyped a s end → AgainIn names (IsTyped a) (arg_symbols names a) s end
typed_again names a s end d = seq_in (plain_in d.1.0 (type_again a.ty s.1 d.0.1 d.1.1)) (value_again names a.value d.0 end d.2)

arg_again : (names : List Name) (a : Arg) (s end : Locals) → IsArg a s end → AgainIn names (IsArg a) (arg_symbols names a) s end
arg_again names a s end d =
    seq_in (plain_in d.1.0 (same (append-nil (type_symbols a.ty)) (seq (type_again a.ty s.1 d.1.1.0 d.1.1.1) (attributes_again d.1.1.0 d.0.1 d.1.1.2)))) (value_again names a.value d.0 end d.2)

address_again : (names : List Name) (x : Operand) (s end : Locals) → IsAddress x s end → AgainIn names (IsAddress x) (address_symbols names x) s end
address_again names x s end d =
    seq_in (plain_in d.1.0 (fixed (syms.Mark marks.Comma ∷ syms.Word words.Ptr ∷ []) s.1 d.0.1 (tt, (tt, tt)) d.1.1)) (value_again names x d.0 end d.2)

more_typed_again : (names : List Name) (args : List Arg) (s end : Locals) → each (behind_comma IsTyped) args s end → AgainIn names (each (behind_comma IsTyped) args) (more_args_symbols names args) s end
more_typed_again names [] s end d = nothing_in d
more_typed_again names (a ∷ args) s end d =
    seq_in (seq_in (comma_again names s d.1.0 d.1.1) (typed_again names a d.1.0 d.0 d.1.2)) (more_typed_again names args d.0 end d.2)

indices_again : (names : List Name) (args : List Arg) (s end : Locals) → some (behind_comma IsTyped) args s end → AgainIn names (some (behind_comma IsTyped) args) (more_args_symbols names args) s end
indices_again names [] s end d = absurd d
indices_again names (a ∷ args) s end d =
    seq_in (seq_in (comma_again names s d.1.0 d.1.1) (typed_again names a d.1.0 d.0 d.1.2)) (more_typed_again names args d.0 end d.2)

more_args_again : (names : List Name) (args : List Arg) (s end : Locals) → each (behind_comma IsArg) args s end → AgainIn names (each (behind_comma IsArg) args) (more_args_symbols names args) s end
more_args_again names [] s end d = nothing_in d
more_args_again names (a ∷ args) s end d =
    seq_in (seq_in (comma_again names s d.1.0 d.1.1) (arg_again names a d.1.0 d.0 d.1.2)) (more_args_again names args d.0 end d.2)

args_again : (names : List Name) (args : List Arg) (s end : Locals) → AreArgs args s end → AgainIn names (AreArgs args) (args_symbols names args) s end
args_again names [] s end d = nothing_in d
args_again names (a ∷ args) s end d = seq_in (arg_again names a s d.0 d.1) (more_args_again names args d.0 end d.2)

-- ---- flags

pub flag_written : (b : Bool) (w : Word) → AreWritten (flag_symbols b w)
flag_written true w = (tt, tt)
flag_written false w = tt

pub flag_again : (w : Word) (b : Bool) (ts rest : List Sym) → flag w b ts rest → Again (flag w b) (flag_symbols b w) ts rest
flag_again w true ts rest d = word_again w ts rest d
flag_again w false ts rest d = nothing_again d

abbrev with_wraps : Bool → Bool → Flags
with_wraps n s = record { nuw = n; nsw = s; exact = false; disjoint = false }

wraps : (n s : Bool) (behind : List Sym) → AreWraps (with_wraps n s) (flags_symbols (with_wraps n s) ++ behind) behind
wraps true true behind = (nuw ∷ nsw ∷ [], refl, (syms.Word words.Nsw ∷ behind, refl, (behind, refl, refl)))
wraps true false behind = (nuw ∷ [], refl, (behind, refl, refl))
wraps false true behind = (nsw ∷ [], refl, (behind, refl, refl))
wraps false false behind = ([], refl, refl)

leaves_wrap : (w : Wrap) → Leaves (IsWrap w)
leaves_wrap nuw = leaves_these (syms.Word words.Nuw ∷ [])
leaves_wrap nsw = leaves_these (syms.Word words.Nsw ∷ [])

wraps_written : (n s : Bool) → AreWritten (flags_symbols (with_wraps n s))
wraps_written true true = (tt, (tt, tt))
wraps_written true false = (tt, tt)
wraps_written false true = (tt, tt)
wraps_written false false = tt

wraps_again : (f : Flags) (ts rest : List Sym) → AreWraps f ts rest → Again (AreWraps f) (flags_symbols f) ts rest
wraps_again f ts rest d =
    let here : Again (AreWraps (with_wraps (has_nuw d.0) (has_nsw d.0))) (flags_symbols (with_wraps (has_nuw d.0) (has_nsw d.0))) ts rest =
    record { left = leaves_each IsWrap leaves_wrap d.0 ts rest d.2; written = λ h. wraps_written (has_nuw d.0) (has_nsw d.0); again = wraps (has_nuw d.0) (has_nsw d.0) } in
    subst (λ (g : Flags). Again (AreWraps g) (flags_symbols g) ts rest) (sym d.1) here

abbrev with_exact : Bool → Flags
with_exact b = record { nuw = false; nsw = false; exact = b; disjoint = false }

exact_again : (f : Flags) (ts rest : List Sym) → MayBeExact f ts rest → Again (MayBeExact f) (flags_symbols f) ts rest
exact_again f ts rest d = subst (λ (g : Flags). Again (MayBeExact g) (flags_symbols g) ts rest) (sym d.1) (here d.0 d.2)
  where
    here : (b : Bool) → flag words.Exact b ts rest → Again (MayBeExact (with_exact b)) (flags_symbols (with_exact b)) ts rest
    here true e = let a = flag_again words.Exact true ts rest e in record { left = a.left; written = a.written; again = λ behind. (true, refl, refl) }
    here false e = let a = flag_again words.Exact false ts rest e in record { left = a.left; written = a.written; again = λ behind. (false, refl, refl) }

abbrev with_disjoint : Bool → Flags
with_disjoint b = record { nuw = false; nsw = false; exact = false; disjoint = b }

disjoint_again : (f : Flags) (ts rest : List Sym) → MayBeDisjoint f ts rest → Again (MayBeDisjoint f) (flags_symbols f) ts rest
disjoint_again f ts rest d = subst (λ (g : Flags). Again (MayBeDisjoint g) (flags_symbols g) ts rest) (sym d.1) (here d.0 d.2)
  where
    here : (b : Bool) → flag words.Disjoint b ts rest → Again (MayBeDisjoint (with_disjoint b)) (flags_symbols (with_disjoint b)) ts rest
    here true e = let a = flag_again words.Disjoint true ts rest e in record { left = a.left; written = a.written; again = λ behind. (true, refl, refl) }
    here false e = let a = flag_again words.Disjoint false ts rest e in record { left = a.left; written = a.written; again = λ behind. (false, refl, refl) }

without_again : (f : Flags) (ts rest : List Sym) → WithoutFlags f ts rest → Again (WithoutFlags f) (flags_symbols f) ts rest
without_again f ts rest d = subst (λ (g : Flags). Again (WithoutFlags g) (flags_symbols g) ts rest) (sym d.0) here
  where
    here : Again (WithoutFlags (with_exact false)) (flags_symbols (with_exact false)) ts rest
    here = let a = nothing_again d.1 in record { left = a.left; written = a.written; again = λ behind. (refl, refl) }

flags_again : (op : BinOp) (f : Flags) (ts rest : List Sym) → AreFlags op f ts rest → Again (AreFlags op f) (flags_symbols f) ts rest
flags_again ops.Add = wraps_again
flags_again ops.Sub = wraps_again
flags_again ops.Mul = wraps_again
flags_again ops.Shl = wraps_again
flags_again ops.UDiv = exact_again
flags_again ops.SDiv = exact_again
flags_again ops.LShr = exact_again
flags_again ops.AShr = exact_again
flags_again ops.Or = disjoint_again
flags_again ops.URem = without_again
flags_again ops.SRem = without_again
flags_again ops.And = without_again
flags_again ops.Xor = without_again

operation_again : (op : BinOp) (f : Flags) (ts rest : List Sym) → IsOperation op f ts rest → Again (IsOperation op f) (syms.Word (words.Bin op) ∷ flags_symbols f) ts rest
operation_again op f ts rest d = seq (word_again (words.Bin op) ts d.0 d.1) (flags_again op f d.0 rest d.2)

-- ---- casts and calls

plain_cast_again : (op : CastOp) (nneg : Bool) (ts rest : List Sym) → (nneg ≡ false) × word (words.Cast op) ts rest → Again (λ us end. (nneg ≡ false) × word (words.Cast op) us end) (syms.Word (words.Cast op) ∷ flag_symbols nneg words.Nneg) ts rest
plain_cast_again op nneg ts rest d = subst (λ (b : Bool). Again (λ us end. (b ≡ false) × word (words.Cast op) us end) (syms.Word (words.Cast op) ∷ flag_symbols b words.Nneg) ts rest) (sym d.0) here
  where
    here : Again (λ us end. (false ≡ false) × word (words.Cast op) us end) (syms.Word (words.Cast op) ∷ flag_symbols false words.Nneg) ts rest
    here = let a = word_again (words.Cast op) ts rest d.1 in record { left = a.left; written = a.written; again = λ behind. (refl, refl) }

cast_again : (op : CastOp) (nneg : Bool) (ts rest : List Sym) → IsCast op nneg ts rest → Again (IsCast op nneg) (syms.Word (words.Cast op) ∷ flag_symbols nneg words.Nneg) ts rest
cast_again casts.Zext nneg ts rest d = seq (word_again (words.Cast casts.Zext) ts d.0 d.1) (flag_again words.Nneg nneg d.0 rest d.2)
cast_again casts.Trunc nneg ts rest d = plain_cast_again casts.Trunc nneg ts rest d
cast_again casts.Sext nneg ts rest d = plain_cast_again casts.Sext nneg ts rest d

tail_again : (must : Bool) (ts rest : List Sym) → IsTail must ts rest → Again (IsTail must) (flag_symbols must words.Musttail) ts rest
tail_again true ts rest d = word_again words.Musttail ts rest d
tail_again false ts rest d =
    left_out (leaves_or _ _ (leaves_these (syms.Word words.Tail ∷ [])) (leaves_or _ _ (leaves_these (syms.Word words.Notail ∷ [])) leaves_nothing)) d (λ behind. inr (inr refl))

-- a name that is called
abbrev is_called : Callee → Naming
is_called c = plain (λ ts rest. (n : Name) × (c ≡ callee_named n) × global n ts rest)

-- where a name that is called is printed so
called : (names : List Name) (c : Callee) (n : Name) (s end : Locals) → s.0 ≡ end.0 → (m : Name) → global m s.1 end.1 → c ≡ callee_named n → callee_symbol names c ≡ global_symbol n → (AreSound s.1 → AreWritten (global_symbol n ∷ [])) → AgainIn names (is_called c) (callee_symbol names c ∷ []) s end
called names c n s end e m d is shown written =
    let a = global_again m s.1 end.1 d in
    plain_in e (record {
      left = a.left;
      written = λ h. subst (λ (x : Sym). AreWritten (x ∷ [])) (sym shown) (written h);
      again = λ behind. (n, is, ap (λ (x : Sym). x ∷ behind) shown);
    })

or_named : (n m : Name) (i : Option Intrinsic) (a : Option Allocator) → callees.Named m ≡ callee_or n i a → m ≡ n
or_named n m (Some i) a e = absurd cc
or_named n m None (Some a) e = absurd cc
or_named n m None None e = cc

pub named_is : (m n : Name) → callees.Named m ≡ callee_named n → m ≡ n
named_is m (Name.Number k) e = cc
named_is m (Name.Text t) e = or_named (Name.Text t) m (intrinsic_in all_intrinsics t) (allocator_in all_allocators t) e

named_again : (names : List Name) (m : Name) (s end : Locals) → is_called (callees.Named m) s end → AgainIn names (is_called (callees.Named m)) (global_symbol m ∷ []) s end
named_again names m s end d =
    let same_name : m ≡ d.1.0 = named_is m d.1.0 d.1.1 in
    let a = global_again d.1.0 s.1 end.1 d.1.2 in
    called names (callees.Named m) d.1.0 s end d.0 d.1.0 d.1.2 d.1.1 (ap global_symbol same_name) a.written

allocator_again : (names : List Name) (a : Allocator) (s end : Locals) → is_called (callees.Allocator a) s end → callees.Allocator a ≡ callee_named (Name.Text (allocator_word a)) → AreWritten (global_symbol (Name.Text (allocator_word a)) ∷ []) → AgainIn names (is_called (callees.Allocator a)) (callee_symbol names (callees.Allocator a) ∷ []) s end
allocator_again names a s end d is written = called names (callees.Allocator a) (Name.Text (allocator_word a)) s end d.0 d.1.0 d.1.2 is refl (λ h. written)

intrinsic_again : (names : List Name) (i : Intrinsic) (s end : Locals) → is_called (callees.Intrinsic i) s end → callees.Intrinsic i ≡ callee_named (Name.Text (intrinsic_word i)) → AreWritten (global_symbol (Name.Text (intrinsic_word i)) ∷ []) → AgainIn names (is_called (callees.Intrinsic i)) (callee_symbol names (callees.Intrinsic i) ∷ []) s end
intrinsic_again names i s end d is written = called names (callees.Intrinsic i) (Name.Text (intrinsic_word i)) s end d.0 d.1.0 d.1.2 is refl (λ h. written)

callee_again : (names : List Name) (c : Callee) (s end : Locals) → IsCallee c s end → AgainIn names (IsCallee c) (callee_symbol names c ∷ []) s end
callee_again names (callees.Local i) s end d = local_again names i s end d
callee_again names (callees.Named m) s end d = named_again names m s end d
callee_again names (callees.Allocator Allocator.Malloc) s end d = allocator_again names Allocator.Malloc s end d refl (refl, tt)
callee_again names (callees.Allocator Allocator.Znwm) s end d = allocator_again names Allocator.Znwm s end d refl (refl, tt)
callee_again names (callees.Allocator Allocator.Free) s end d = allocator_again names Allocator.Free s end d refl (refl, tt)
callee_again names (callees.Allocator Allocator.ZdlPv) s end d = allocator_again names Allocator.ZdlPv s end d refl (refl, tt)
callee_again names (callees.Allocator Allocator.ZdlPvm) s end d = allocator_again names Allocator.ZdlPvm s end d refl (refl, tt)
callee_again names (callees.Intrinsic Intrinsic.CoroId) s end d = intrinsic_again names Intrinsic.CoroId s end d refl (refl, tt)
callee_again names (callees.Intrinsic Intrinsic.CoroSizeI32) s end d = intrinsic_again names Intrinsic.CoroSizeI32 s end d refl (refl, tt)
callee_again names (callees.Intrinsic Intrinsic.CoroSizeI64) s end d = intrinsic_again names Intrinsic.CoroSizeI64 s end d refl (refl, tt)
callee_again names (callees.Intrinsic Intrinsic.CoroAlignI32) s end d = intrinsic_again names Intrinsic.CoroAlignI32 s end d refl (refl, tt)
callee_again names (callees.Intrinsic Intrinsic.CoroAlignI64) s end d = intrinsic_again names Intrinsic.CoroAlignI64 s end d refl (refl, tt)
callee_again names (callees.Intrinsic Intrinsic.CoroAlloc) s end d = intrinsic_again names Intrinsic.CoroAlloc s end d refl (refl, tt)
callee_again names (callees.Intrinsic Intrinsic.CoroBegin) s end d = intrinsic_again names Intrinsic.CoroBegin s end d refl (refl, tt)
callee_again names (callees.Intrinsic Intrinsic.CoroFree) s end d = intrinsic_again names Intrinsic.CoroFree s end d refl (refl, tt)
callee_again names (callees.Intrinsic Intrinsic.CoroFrame) s end d = intrinsic_again names Intrinsic.CoroFrame s end d refl (refl, tt)
callee_again names (callees.Intrinsic Intrinsic.CoroSave) s end d = intrinsic_again names Intrinsic.CoroSave s end d refl (refl, tt)
callee_again names (callees.Intrinsic Intrinsic.CoroSuspend) s end d = intrinsic_again names Intrinsic.CoroSuspend s end d refl (refl, tt)
callee_again names (callees.Intrinsic Intrinsic.CoroEnd) s end d = intrinsic_again names Intrinsic.CoroEnd s end d refl (refl, tt)
callee_again names (callees.Intrinsic Intrinsic.CoroResume) s end d = intrinsic_again names Intrinsic.CoroResume s end d refl (refl, tt)
callee_again names (callees.Intrinsic Intrinsic.CoroDestroy) s end d = intrinsic_again names Intrinsic.CoroDestroy s end d refl (refl, tt)
callee_again names (callees.Intrinsic Intrinsic.CoroDone) s end d = intrinsic_again names Intrinsic.CoroDone s end d refl (refl, tt)
callee_again names (callees.Intrinsic Intrinsic.CoroPromise) s end d = intrinsic_again names Intrinsic.CoroPromise s end d refl (refl, tt)
callee_again names (callees.Intrinsic Intrinsic.LifetimeStart) s end d = intrinsic_again names Intrinsic.LifetimeStart s end d refl (refl, tt)
callee_again names (callees.Intrinsic Intrinsic.LifetimeEnd) s end d = intrinsic_again names Intrinsic.LifetimeEnd s end d refl (refl, tt)
callee_again names (callees.Intrinsic Intrinsic.MemcpyI64) s end d = intrinsic_again names Intrinsic.MemcpyI64 s end d refl (refl, tt)
callee_again names (callees.Intrinsic Intrinsic.MemcpyI32) s end d = intrinsic_again names Intrinsic.MemcpyI32 s end d refl (refl, tt)

-- `call`, before what is called
call_front : (must : Bool) (t : Option Ty) (ts rest : List Sym) → (IsTail must ⨾ word words.Call ⨾ attributes ⨾ IsResult t) ts rest
    → Again (IsTail must ⨾ word words.Call ⨾ attributes ⨾ IsResult t) (flag_symbols must words.Musttail ++ syms.Word words.Call ∷ result_symbols t) ts rest
call_front must t ts rest d =
    seq (tail_again must ts d.0 d.1) (seq (word_again words.Call d.0 d.2.0 d.2.1) (seq (attributes_again d.2.0 d.2.2.0 d.2.2.1) (result_again t d.2.2.0 rest d.2.2.2)))

call_again : (names : List Name) (must : Bool) (t : Option Ty) (callee : Callee) (args : List Arg) (s end : Locals) → IsCall must t callee args s end
    → AgainIn names (IsCall must t callee args) (flag_symbols must words.Musttail ++ syms.Word words.Call ∷ result_symbols t ++ callee_symbol names callee ∷ syms.Mark marks.OpenRound ∷ args_symbols names args ++ syms.Mark marks.CloseRound ∷ []) s end
call_again names must t callee args s end d =
    same_in (simp append_assoc)
    (seq_in (plain_in d.1.0 (call_front must t s.1 d.0.1 d.1.1))
    (seq_in (callee_again names callee d.0 d.2.0 d.2.1)
    (seq_in (plain_in d.2.2.1.0 (mark_again marks.OpenRound d.2.0.1 d.2.2.0.1 d.2.2.1.1))
    (seq_in (args_again names args d.2.2.0 d.2.2.2.0 d.2.2.2.1)
    (plain_in d.2.2.2.2.0 (seq (mark_again marks.CloseRound d.2.2.2.0.1 d.2.2.2.2.1.0 d.2.2.2.2.1.1) (attributes_again d.2.2.2.2.1.0 end.1 d.2.2.2.2.1.2)))))))

-- ---- instructions

pub named_result : (names : List Name) (r : ℕ) (s end : Locals) → IsNamed r s end → AgainIn names (IsNamed r) (set_symbols names (Some r)) s end
named_result names r s end d = seq_in (local_again names r s d.0 d.1) (plain_in d.2.0 (mark_again marks.Equals d.0.1 end.1 d.2.1))

-- two values with a comma between
pair_again : (names : List Name) (a b : Operand) (s end : Locals) → (IsValue a ⨾ comma ⨾ IsValue b) s end
    → AgainIn names (IsValue a ⨾ comma ⨾ IsValue b) (operand_symbol names a ∷ syms.Mark marks.Comma ∷ operand_symbol names b ∷ []) s end
pair_again names a b s end d = seq_in (value_again names a s d.0 d.1) (seq_in (comma_again names d.0 d.2.0 d.2.1) (value_again names b d.2.0 end d.2.2))

pub instr_again : (names : List Name) (types : List TypeItem) (i : Instr) (s end : Locals) → AreNarrow types → IsInstr types i s end → AgainIn names (IsInstr types i) (instr_symbols names i) s end
instr_again names types (instrs.Binary r op f t a b) s end h d =
    same_in (simp append_assoc)
    (seq_in (named_result names r s d.0 d.1)
    (seq_in (plain_in d.2.1.0 (seq (operation_again op f d.0.1 d.2.1.1.0 d.2.1.1.1) (type_again t d.2.1.1.0 d.2.0.1 d.2.1.1.2)))
    (pair_again names a b d.2.0 end d.2.2)))
instr_again names types (instrs.Icmp r p t a b) s end h d =
    same_in (simp append_assoc)
    (seq_in (named_result names r s d.0 d.1)
    (seq_in (plain_in d.2.1.0 (seq (word_again words.Icmp d.0.1 d.2.1.1.0 d.2.1.1.1) (seq (word_again (words.Pred p) d.2.1.1.0 d.2.1.1.2.0 d.2.1.1.2.1) (type_again t d.2.1.1.2.0 d.2.0.1 d.2.1.1.2.2))))
    (pair_again names a b d.2.0 end d.2.2)))
instr_again names types (instrs.Select r c x y) s end h d =
    same_in (simp append_assoc)
    (seq_in (named_result names r s d.0 d.1)
    (seq_in (plain_in d.2.1.0 (seq (word_again words.Select d.0.1 d.2.1.1.0 d.2.1.1.1) (word_again (words.Int widths.I1) d.2.1.1.0 d.2.0.1 d.2.1.1.2)))
    (seq_in (value_again names c d.2.0 d.2.2.0 d.2.2.1)
    (seq_in (comma_again names d.2.2.0 d.2.2.2.0 d.2.2.2.1)
    (seq_in (typed_again names x d.2.2.2.0 d.2.2.2.2.0 d.2.2.2.2.1)
    (seq_in (comma_again names d.2.2.2.2.0 d.2.2.2.2.2.0 d.2.2.2.2.2.1)
    (typed_again names y d.2.2.2.2.2.0 end d.2.2.2.2.2.2)))))))
instr_again names types (instrs.Cast r op nneg a t) s end h d =
    same_in (simp append_assoc)
    (seq_in (named_result names r s d.0 d.1)
    (seq_in (plain_in d.2.1.0 (cast_again op nneg d.0.1 d.2.0.1 d.2.1.1))
    (seq_in (typed_again names a d.2.0 d.2.2.0 d.2.2.1)
    (plain_in d.2.2.2.0 (seq (word_again words.To d.2.2.0.1 d.2.2.2.1.0 d.2.2.2.1.1) (type_again t d.2.2.2.1.0 end.1 d.2.2.2.1.2))))))
instr_again names types (instrs.Alloca r t n) s end h d =
    seq_in (named_result names r s d.0 d.1)
    (plain_in d.2.0 (seq (word_again words.Alloca d.0.1 d.2.1.0 d.2.1.1) (seq (type_again t d.2.1.0 d.2.1.2.0 d.2.1.2.1) (aligned_again types t n d.2.1.2.0 end.1 h (type_narrow t d.2.1.0 d.2.1.2.0 d.2.1.2.1) d.2.1.2.2))))
instr_again names types (instrs.Load r t p n) s end h d =
    same_in (simp append_assoc)
    (seq_in (named_result names r s d.0 d.1)
    (seq_in (plain_in d.2.1.0 (seq (word_again words.Load d.0.1 d.2.1.1.0 d.2.1.1.1) (type_again t d.2.1.1.0 d.2.0.1 d.2.1.1.2)))
    (seq_in (address_again names p d.2.0 d.2.2.0 d.2.2.1)
    (plain_in d.2.2.2.0 (aligned_again types t n d.2.2.0.1 end.1 h (type_narrow t d.2.1.1.0 d.2.0.1 d.2.1.1.2) d.2.2.2.1)))))
instr_again names types (instrs.Store a p n) s end h d =
    same_in (simp append_assoc)
    (seq_in (plain_in d.1.0 (word_again words.Store s.1 d.0.1 d.1.1))
    (seq_in (typed_again names a d.0 d.2.0 d.2.1)
    (seq_in (address_again names p d.2.0 d.2.2.0 d.2.2.1)
    (plain_in d.2.2.2.0 (aligned_again types a.ty n d.2.2.0.1 end.1 h (type_narrow a.ty d.0.1 d.2.1.0.1 d.2.1.1.1) d.2.2.2.1)))))
instr_again names types (instrs.Gep r inbounds t p is) s end h d =
    same_in (simp append_assoc)
    (seq_in (named_result names r s d.0 d.1)
    (seq_in (plain_in d.2.1.0 (seq (word_again words.Getelementptr d.0.1 d.2.1.1.0 d.2.1.1.1) (seq (flag_again words.Inbounds inbounds d.2.1.1.0 d.2.1.1.2.0 d.2.1.1.2.1) (type_again t d.2.1.1.2.0 d.2.0.1 d.2.1.1.2.2))))
    (seq_in (address_again names p d.2.0 d.2.2.0 d.2.2.1)
    (indices_again names is d.2.2.0 end d.2.2.2))))
instr_again names types (instrs.Call (Some r) must t callee args) s end h d =
    seq_in (named_result names r s d.0 d.1) (call_again names must t callee args d.0 end d.2)
instr_again names types (instrs.Call None must t callee args) s end h d = call_again names must t callee args s end d
