-- Instructions behind their names, calls apart: what is read is of the grammar, and what is of the grammar is read.
use Rattle.std.proofs.Common.{◌≡◌, ℕ, Bool, true, false, List, [], ◌∷◌, Option, None, refl, sym, ap, ◌∙◌, inl, inr}
use Rattle.std.specs.Prelude.{Some, IfSome}
use Rattle.ir_base.specs.declared.name.Name.{Name}
use Rattle.ir_base.specs.declared.ops.BinOp.{BinOp}
use Rattle.ir_base.specs.declared.ops.CastOp.{CastOp}
use Rattle.ir_base.specs.declared.ops.Flags.{Flags}
use Rattle.ir_base.specs.declared.ops.Pred.{Pred}
use Rattle.ir_model.specs.Ty.{Ty, int, ptr, token, array, structure, named}
use Rattle.ir_model.specs.declared.instr.Instr.{Instr}
use Rattle.ir_model.specs.declared.instr.Instr.TheVariants as instrs
use Rattle.ir_model.specs.declared.ir_type.IntWidth.TheVariants as widths
use Rattle.ir_model.specs.declared.module.TypeItem.{TypeItem}
use Rattle.ir_model.specs.declared.operand.Arg.{Arg}
use Rattle.ir_model.specs.declared.operand.Operand.{Operand}
use Rattle.text_symbols.specs.declared.sym.Mark.TheVariants as marks
use Rattle.text_symbols.specs.declared.sym.Sym.{Sym}
use Rattle.text_symbols.specs.declared.sym.Sym.TheVariants as syms
use Rattle.text_symbols.specs.declared.word.Word.TheVariants as words
use Rattle.text_grammar.specs.Phrases.{Locals, Phrase, ◌⨾◌, each, some, word, flag, plain, comma, behind_comma}
use Rattle.text_grammar.specs.Types.{IsType}
use Rattle.text_grammar.specs.Values.{IsValue, IsTyped, IsAddress, IsAligned}
use Rattle.text_grammar.specs.Instructions.{AreFlags, IsCast, IsNamed, IsInstr}
use Rattle.text_grammar.proofs.Takes.{takes_keeps, left, behind_comma_takes, typed_takes}
use Rattle.text_reader.specs.Many.{after, many_at}
use Rattle.text_reader.specs.Reading.{◌>>=◌, mark_at}
use Rattle.text_reader.specs.Types.{type_at}
use Rattle.text_reader.specs.Values.{value_at, typed_at, align_at}
use Rattle.text_reader.proofs.Binding.{bind_found, bind_again}
use Rattle.text_reader.proofs.Follow.{EndsInstr}
use Rattle.text_reader.proofs.ListsRead.{many_found, many_again}
use Rattle.text_reader.proofs.TypesRead.{type_found, type_again}
use Rattle.text_reader.proofs.ValuesRead.{value_found, value_again, typed_found, typed_again, IsWritten, align_found, no_align}
use Rattle.text_blocks.specs.Instrs.{flags_at, operands_at, binary_at, icmp_at, select_at, nneg_at, to_at, cast_at, align_or, alloca_at, address_at, load_at, store_at, inbounds_at, begins_index, index_at, indices_at, gep_at}
use Rattle.text_blocks.proofs.FlagsRead.{NoFlag, type_no_flag, flags_found, flags_again, cast_flag_found, cast_flag_again, inbounds_found, inbounds_again}
use Rattle.text_blocks.proofs.StepsRead.{mark_step, mark_finds, after_finds, operands_found, operands_again, address_found, address_again}

-- ---- operations

pub binary_found : (types : List TypeItem) (r : ℕ) (op : BinOp) (ns : List Name) (ts : List Sym) (s : Locals) → IsNamed r s (ns, syms.Word (words.Bin op) ∷ ts) → IfSome (binary_at r op ns ts) (λ x. IsInstr types x.0 s (x.1, x.2))
unfolding binary_at
binary_found types r op ns ts s h =
    bind_found (type_at (flags_at op ts).1) _ (λ t. IsType t.0 (flags_at op ts).1 t.1) _ (type_found (flags_at op ts).1)
    (λ t k. bind_found (operands_at ns t.1) _ (λ v. (IsValue v.0.0 ⨾ comma ⨾ IsValue v.0.1) (ns, t.1) (v.1, v.2)) _ (operands_found ns t.1)
    (λ v l. ((ns, syms.Word (words.Bin op) ∷ ts), h, ((ns, t.1), (refl, ((flags_at op ts).1, (ts, refl, flags_found op ts), k)), l))))

abbrev binary_from : ℕ → BinOp → List Name → Flags × List Sym → Option (Instr × List Name × List Sym)
binary_from r op ns f = type_at f.1 >>= λ t. operands_at ns t.1 >>= λ v. Some (instrs.Binary r op f.0 t.0 v.0.0 v.0.1, v.1, v.2)

by_flags : (r : ℕ) (op : BinOp) (ns : List Name) (ts : List Sym) → binary_at r op ns ts ≡ binary_from r op ns (flags_at op ts)
unfolding binary_at
by_flags r op ns ts = refl

pub binary_again : (r : ℕ) (op : BinOp) (f : Flags) (t : Ty) (a b : Operand) (ns : List Name) (ts us : List Sym) (s end : Locals) → AreFlags op f ts us → IsType t us s.1 → ns ≡ s.0 → (IsValue a ⨾ comma ⨾ IsValue b) s end → binary_at r op ns ts ≡ Some (instrs.Binary r op f t a b, end.0, end.1)
binary_again r op f t a b ns ts us s end flags ty e h =
    by_flags r op ns ts
    ∙ ap (binary_from r op ns) (flags_again op f ts us flags (type_no_flag t us s.1 ty))
    ∙ bind_again (type_at us) (t, s.1) _ _ (type_again t us s.1 ty)
    (bind_again (operands_at ns s.1) ((a, b), end.0, end.1) _ _ (ap (λ l. operands_at l s.1) e ∙ operands_again a b s end h) refl)

-- ---- comparisons

pub icmp_found : (types : List TypeItem) (r : ℕ) (ns : List Name) (ts : List Sym) (s : Locals) → IsNamed r s (ns, syms.Word words.Icmp ∷ ts) → IfSome (icmp_at r ns ts) (λ x. IsInstr types x.0 s (x.1, x.2))
unfolding icmp_at
icmp_found types r ns (syms.Word (words.Pred p) ∷ ts) s h =
    bind_found (type_at ts) _ (λ t. IsType t.0 ts t.1) _ (type_found ts)
    (λ t k. bind_found (operands_at ns t.1) _ (λ v. (IsValue v.0.0 ⨾ comma ⨾ IsValue v.0.1) (ns, t.1) (v.1, v.2)) _ (operands_found ns t.1)
    (λ v l. ((ns, syms.Word words.Icmp ∷ syms.Word (words.Pred p) ∷ ts), h, ((ns, t.1), (refl, (syms.Word (words.Pred p) ∷ ts, refl, (ts, refl, k))), l))))
icmp_found types r ns _ s h = tt

pub icmp_again : (r : ℕ) (p : Pred) (t : Ty) (a b : Operand) (ns : List Name) (ts us : List Sym) (s end : Locals) → word (words.Pred p) ts us → IsType t us s.1 → ns ≡ s.0 → (IsValue a ⨾ comma ⨾ IsValue b) s end → icmp_at r ns ts ≡ Some (instrs.Icmp r p t a b, end.0, end.1)
unfolding icmp_at
icmp_again r p t a b ns ts us s end w ty e h =
    ap (icmp_at r ns) w
    ∙ bind_again (type_at us) (t, s.1) _ _ (type_again t us s.1 ty)
    (bind_again (operands_at ns s.1) ((a, b), end.0, end.1) _ _ (ap (λ l. operands_at l s.1) e ∙ operands_again a b s end h) refl)

-- ---- choices

pub select_found : (types : List TypeItem) (r : ℕ) (ns : List Name) (ts : List Sym) (s : Locals) → IsNamed r s (ns, syms.Word words.Select ∷ ts) → IfSome (select_at r ns ts) (λ x. IsInstr types x.0 s (x.1, x.2))
unfolding select_at
select_found types r ns (syms.Word (words.Int widths.I1) ∷ ts) s h =
    bind_found (value_at ns ts) _ (λ c. IsValue c.0 (ns, ts) (c.1, c.2)) _ (value_found ns ts)
    (λ c k. mark_finds marks.Comma c.1 c.2 _ _ (λ more e. bind_found (typed_at c.1 more) _ (λ x. IsTyped x.0 (c.1, more) (x.1, x.2)) _ (typed_found c.1 more)
    (λ x l. mark_finds marks.Comma x.1 x.2 _ _ (λ last f. bind_found (typed_at x.1 last) _ (λ y. IsTyped y.0 (x.1, last) (y.1, y.2)) _ (typed_found x.1 last)
    (λ y m. ((ns, syms.Word words.Select ∷ syms.Word (words.Int widths.I1) ∷ ts), h, ((ns, ts), (refl, (syms.Word (words.Int widths.I1) ∷ ts, refl, refl)), ((c.1, c.2), k, ((c.1, more), e, ((x.1, x.2), l, ((x.1, last), f, m)))))))))))
select_found types r ns _ s h = tt

pub select_again : (r : ℕ) (c : Operand) (x y : Arg) (ns : List Name) (ts : List Sym) (s end : Locals) → word (words.Int widths.I1) ts s.1 → ns ≡ s.0 → (IsValue c ⨾ comma ⨾ IsTyped x ⨾ comma ⨾ IsTyped y) s end → select_at r ns ts ≡ Some (instrs.Select r c x y, end.0, end.1)
unfolding select_at
select_again r c x y ns ts s end w e h =
    ap (select_at r ns) w
    ∙ bind_again (value_at ns s.1) (c, h.0.0, h.0.1) _ _ (ap (λ l. value_at l s.1) e ∙ value_again c s h.0 h.1)
    (mark_step marks.Comma (λ ns ts. typed_at ns ts >>= λ x. mark_at marks.Comma x.2 >>= λ last. typed_at x.1 last >>= λ y. Some (instrs.Select r c x.0 y.0, y.1, y.2)) h.0 h.2.0 _ h.2.1
    (bind_again (typed_at h.2.0.0 h.2.0.1) (x, h.2.2.0.0, h.2.2.0.1) _ _ (typed_again x h.2.0 h.2.2.0 h.2.2.1)
    (mark_step marks.Comma (λ ns ts. typed_at ns ts >>= λ y. Some (instrs.Select r c x y.0, y.1, y.2)) h.2.2.0 h.2.2.2.0 _ h.2.2.2.1
    (bind_again (typed_at h.2.2.2.0.0 h.2.2.2.0.1) (y, end.0, end.1) _ _ (typed_again y h.2.2.2.0 end h.2.2.2.2) refl))))

-- ---- casts

abbrev pub behind_to : Ty → Phrase
behind_to t = word words.To ⨾ IsType t

to_found : (ts : List Sym) → IfSome (to_at ts) (λ t. behind_to t.0 ts t.1)
to_found (syms.Word words.To ∷ ts) = there (type_at ts) (type_found ts)
  where
    there : (o : Option (Ty × List Sym)) → IfSome o (λ t. IsType t.0 ts t.1) → IfSome o (λ t. behind_to t.0 (syms.Word words.To ∷ ts) t.1)
    there None h = tt
    there (Some t) h = (ts, refl, h)
to_found _ = tt

to_again : (t : Ty) (ts rest : List Sym) → behind_to t ts rest → to_at ts ≡ Some (t, rest)
to_again t ts rest h = ap to_at h.1 ∙ type_again t h.0 rest h.2

pub cast_found : (types : List TypeItem) (r : ℕ) (op : CastOp) (ns : List Name) (ts : List Sym) (s : Locals) → IsNamed r s (ns, syms.Word (words.Cast op) ∷ ts) → IfSome (cast_at r op ns ts) (λ x. IsInstr types x.0 s (x.1, x.2))
unfolding cast_at
cast_found types r op ns ts s h =
    bind_found (typed_at ns (nneg_at op ts).1) _ (λ a. IsTyped a.0 (ns, (nneg_at op ts).1) (a.1, a.2)) _ (typed_found ns (nneg_at op ts).1)
    (λ a k. bind_found (to_at a.2) _ (λ t. behind_to t.0 a.2 t.1) _ (to_found a.2)
    (λ t l. ((ns, syms.Word (words.Cast op) ∷ ts), h, ((ns, (nneg_at op ts).1), (refl, cast_flag_found op ts), ((a.1, a.2), k, (refl, l))))))

abbrev cast_from : ℕ → CastOp → List Name → Bool × List Sym → Option (Instr × List Name × List Sym)
cast_from r op ns f = typed_at ns f.1 >>= λ a. to_at a.2 >>= λ t. Some (instrs.Cast r op f.0 a.0 t.0, a.1, t.1)

by_nneg : (r : ℕ) (op : CastOp) (ns : List Name) (ts : List Sym) → cast_at r op ns ts ≡ cast_from r op ns (nneg_at op ts)
unfolding cast_at
by_nneg r op ns ts = refl

typed_no_flag : (a : Arg) (s end : Locals) → IsTyped a s end → NoFlag s.1
typed_no_flag a s end h = type_no_flag a.ty s.1 h.0.1 h.1.1

pub cast_again : (r : ℕ) (op : CastOp) (nneg : Bool) (a : Arg) (t : Ty) (ns : List Name) (us ts : List Sym) (s end : Locals) → IsCast op nneg us s.1 → us ≡ syms.Word (words.Cast op) ∷ ts → ns ≡ s.0 → (IsTyped a ⨾ plain (behind_to t)) s end → cast_at r op ns ts ≡ Some (instrs.Cast r op nneg a t, end.0, end.1)
cast_again r op nneg a t ns us ts s end c w e h =
    by_nneg r op ns ts
    ∙ ap (cast_from r op ns) (cast_flag_again op nneg us ts s.1 c w (typed_no_flag a s h.0 h.1))
    ∙ bind_again (typed_at ns s.1) (a, h.0.0, h.0.1) _ _ (ap (λ l. typed_at l s.1) e ∙ typed_again a s h.0 h.1)
    (bind_again (to_at h.0.1) (t, end.1) _ _ (to_again t h.0.1 end.1 h.2.1) (ap (λ (l : List Name). Some (instrs.Cast r op nneg a t, l, end.1)) h.2.0))

-- ---- alignments

aligned_by : (types : List TypeItem) (t : Ty) (o : Option ℕ) (ts rest : List Sym) → IsWritten o ts rest → IsAligned types t (align_or types t o) ts rest
aligned_by types t None ts rest h = inr (inr (refl, h))
aligned_by types t (Some n) ts rest (inl h) = inl h
aligned_by types t (Some n) ts rest (inr h) = inr (inl h)

pub aligned_found : (types : List TypeItem) (t : Ty) (ts : List Sym) → IsAligned types t (align_or types t (align_at ts).0) ts (align_at ts).1
aligned_found types t ts = aligned_by types t (align_at ts).0 ts (align_at ts).1 (align_found ts)

pub aligned_again : (types : List TypeItem) (t : Ty) (n : ℕ) (ts rest : List Sym) → IsAligned types t n ts rest → EndsInstr rest → ◌≡◌ {A = ℕ × List Sym} (align_or types t (align_at ts).0, (align_at ts).1) (n, rest)
aligned_again types t n ts rest (inl h) ends = ap (λ (l : List Sym). (align_or types t (align_at l).0, (align_at l).1)) h
aligned_again types t n ts rest (inr (inl h)) ends = ap (λ (l : List Sym). (align_or types t (align_at l).0, (align_at l).1)) h.2 ∙ ap (λ (k : ℕ). (k, rest)) (sym h.1)
aligned_again types t n ts rest (inr (inr h)) ends =
    ap (λ (l : List Sym). (align_or types t (align_at l).0, (align_at l).1)) h.1
    ∙ ap (λ (a : Option ℕ × List Sym). (align_or types t a.0, a.1)) (no_align rest ends)
    ∙ ap (λ (k : ℕ). (k, rest)) (sym h.0)

-- ---- slots

pub alloca_found : (types : List TypeItem) (r : ℕ) (ns : List Name) (ts : List Sym) (s : Locals) → IsNamed r s (ns, syms.Word words.Alloca ∷ ts) → IfSome (alloca_at types r ns ts) (λ x. IsInstr types x.0 s (x.1, x.2))
unfolding alloca_at
alloca_found types r ns ts s h =
    bind_found (type_at ts) _ (λ t. IsType t.0 ts t.1) _ (type_found ts)
    (λ t k. ((ns, syms.Word words.Alloca ∷ ts), h, (refl, (ts, refl, (t.1, k, aligned_found types t.0 t.1)))))

pub alloca_again : (types : List TypeItem) (r : ℕ) (t : Ty) (n : ℕ) (ns : List Name) (ts rest : List Sym) → (IsType t ⨾ IsAligned types t n) ts rest → EndsInstr rest → alloca_at types r ns ts ≡ Some (instrs.Alloca r t n, ns, rest)
unfolding alloca_at
alloca_again types r t n ns ts rest h ends =
    bind_again (type_at ts) (t, h.0) _ _ (type_again t ts h.0 h.1)
    (ap (λ (a : ℕ × List Sym). Some (instrs.Alloca r t a.0, ns, a.1)) (aligned_again types t n h.0 rest h.2 ends))

pub load_found : (types : List TypeItem) (r : ℕ) (ns : List Name) (ts : List Sym) (s : Locals) → IsNamed r s (ns, syms.Word words.Load ∷ ts) → IfSome (load_at types r ns ts) (λ x. IsInstr types x.0 s (x.1, x.2))
unfolding load_at
load_found types r ns ts s h =
    bind_found (type_at ts) _ (λ t. IsType t.0 ts t.1) _ (type_found ts)
    (λ t k. bind_found (address_at ns t.1) _ (λ p. IsAddress p.0 (ns, t.1) (p.1, p.2)) _ (address_found ns t.1)
    (λ p l. ((ns, syms.Word words.Load ∷ ts), h, ((ns, t.1), (refl, (ts, refl, k)), ((p.1, p.2), l, (refl, aligned_found types t.0 p.2))))))

pub load_again : (types : List TypeItem) (r : ℕ) (t : Ty) (p : Operand) (n : ℕ) (ns : List Name) (ts : List Sym) (s end : Locals) → IsType t ts s.1 → ns ≡ s.0 → (IsAddress p ⨾ plain (IsAligned types t n)) s end → EndsInstr end.1 → load_at types r ns ts ≡ Some (instrs.Load r t p n, end.0, end.1)
unfolding load_at
load_again types r t p n ns ts s end ty e h ends =
    bind_again (type_at ts) (t, s.1) _ _ (type_again t ts s.1 ty)
    (bind_again (address_at ns s.1) (p, h.0.0, h.0.1) _ _ (ap (λ l. address_at l s.1) e ∙ address_again p s h.0 h.1)
    (ap (λ (a : ℕ × List Sym). Some (instrs.Load r t p a.0, h.0.0, a.1)) (aligned_again types t n h.0.1 end.1 h.2.1 ends)
    ∙ ap (λ (l : List Name). Some (instrs.Load r t p n, l, end.1)) h.2.0))

pub store_found : (types : List TypeItem) (ns : List Name) (ts : List Sym) → IfSome (store_at types ns ts) (λ x. IsInstr types x.0 (ns, syms.Word words.Store ∷ ts) (x.1, x.2))
unfolding store_at
store_found types ns ts =
    bind_found (typed_at ns ts) _ (λ a. IsTyped a.0 (ns, ts) (a.1, a.2)) _ (typed_found ns ts)
    (λ a k. bind_found (address_at a.1 a.2) _ (λ p. IsAddress p.0 (a.1, a.2) (p.1, p.2)) _ (address_found a.1 a.2)
    (λ p l. ((ns, ts), (refl, refl), ((a.1, a.2), k, ((p.1, p.2), l, (refl, aligned_found types a.0.ty p.2))))))

pub store_again : (types : List TypeItem) (a : Arg) (p : Operand) (n : ℕ) (ns : List Name) (s end : Locals) → ns ≡ s.0 → (IsTyped a ⨾ IsAddress p ⨾ plain (IsAligned types a.ty n)) s end → EndsInstr end.1 → store_at types ns s.1 ≡ Some (instrs.Store a p n, end.0, end.1)
unfolding store_at
store_again types a p n ns s end e h ends =
    bind_again (typed_at ns s.1) (a, h.0.0, h.0.1) _ _ (ap (λ l. typed_at l s.1) e ∙ typed_again a s h.0 h.1)
    (bind_again (address_at h.0.0 h.0.1) (p, h.2.0.0, h.2.0.1) _ _ (address_again p h.0 h.2.0 h.2.1)
    (ap (λ (x : ℕ × List Sym). Some (instrs.Store a p x.0, h.2.0.0, x.1)) (aligned_again types a.ty n h.2.0.1 end.1 h.2.2.1 ends)
    ∙ ap (λ (l : List Name). Some (instrs.Store a p n, l, end.1)) h.2.2.0))

-- ---- indices

index_found : (ns : List Name) (ts : List Sym) → IfSome (index_at ns ts) (λ r. behind_comma IsTyped r.0 (ns, ts) (r.1, r.2))
index_found ns ts =
    mark_finds marks.Comma ns ts (typed_at ns) _
    (λ rest c. bound (typed_at ns rest) rest c (typed_found ns rest))
  where
    bound : (o : Option (Arg × List Name × List Sym)) (rest : List Sym) → comma (ns, ts) (ns, rest) → IfSome o (λ r. IsTyped r.0 (ns, rest) (r.1, r.2)) → IfSome o (λ r. behind_comma IsTyped r.0 (ns, ts) (r.1, r.2))
    bound None rest c h = tt
    bound (Some r) rest c h = ((ns, rest), c, h)

index_again : (a : Arg) (s end : Locals) → behind_comma IsTyped a s end → index_at s.0 s.1 ≡ Some (a, end.0, end.1)
index_again a s end h = mark_step marks.Comma typed_at s h.0 _ h.1 (typed_again a h.0 end h.2)

-- a type at the front is no metadata
abbrev NoMeta : List Sym → Type 0
NoMeta (syms.Meta ∷ ts) = ⊥
NoMeta _ = Unit {0}

type_no_meta : (t : Ty) (ts rest : List Sym) → IsType t ts rest → NoMeta ts
type_no_meta (int n) ts rest h = rw h.2 tt
type_no_meta ptr ts rest h = rw h tt
type_no_meta token ts rest h = rw h tt
type_no_meta (array n t) ts rest h = rw h.1 tt
type_no_meta (structure fs) ts rest h = rw h.1 tt
type_no_meta (named n) ts rest h = rw h tt

index_front : (ts : List Sym) → NoMeta ts → begins_index (syms.Mark marks.Comma ∷ ts) ≡ true
index_front (syms.Meta ∷ ts) h = absurd h
index_front _ h = refl

index_begins : (a : Arg) (s end : Locals) → behind_comma IsTyped a s end → begins_index s.1 ≡ true
index_begins a s end h = ap begins_index h.1.1 ∙ index_front h.0.1 (type_no_meta a.ty h.0.1 h.2.0.1 h.2.1.1)

no_index : (ts : List Sym) → EndsInstr ts → begins_index ts ≡ false
no_index (syms.Mark marks.Comma ∷ syms.Meta ∷ ts) h = refl
no_index (syms.Mark marks.Comma ∷ ts) h = absurd h
no_index _ h = refl

indices_found : (ns : List Name) (ts : List Sym) → IfSome (indices_at ns ts) (λ r. some (behind_comma IsTyped) r.0 (ns, ts) (r.1, r.2))
unfolding indices_at
indices_found ns ts =
    bind_found (index_at ns ts) _ (λ r. behind_comma IsTyped r.0 (ns, ts) (r.1, r.2)) _ (index_found ns ts)
    (λ i h. after_finds i.0 (many_at begins_index index_at i.1 i.2) (λ r. each (behind_comma IsTyped) r.0 (i.1, i.2) (r.1, r.2)) _ (many_found (behind_comma IsTyped) begins_index index_at index_found i.1 i.2)
    (λ r k. ((i.1, i.2), h, k)))

indices_again : (is : List Arg) (s end : Locals) → some (behind_comma IsTyped) is s end → EndsInstr end.1 → indices_at s.0 s.1 ≡ Some (is, end.0, end.1)
unfolding indices_at
indices_again [] s end h ends = absurd h
indices_again (i ∷ is) s end h ends =
    bind_again (index_at s.0 s.1) (i, h.0.0, h.0.1) _ _ (index_again i s h.0 h.1)
    (ap (after (i ∷ [])) (many_again (behind_comma IsTyped) begins_index index_at (λ _. Unit {0}) (behind_comma_takes IsTyped (λ a. takes_keeps left (IsTyped a) (typed_takes a))) (λ a s end k _. index_again a s end k) index_begins (λ a s end k. tt) is h.0 end h.2 tt (no_index end.1 ends)))

pub gep_found : (types : List TypeItem) (r : ℕ) (ns : List Name) (ts : List Sym) (s : Locals) → IsNamed r s (ns, syms.Word words.Getelementptr ∷ ts) → IfSome (gep_at r ns ts) (λ x. IsInstr types x.0 s (x.1, x.2))
unfolding gep_at
gep_found types r ns ts s h =
    bind_found (type_at (inbounds_at ts).1) _ (λ t. IsType t.0 (inbounds_at ts).1 t.1) _ (type_found (inbounds_at ts).1)
    (λ t k. bind_found (address_at ns t.1) _ (λ p. IsAddress p.0 (ns, t.1) (p.1, p.2)) _ (address_found ns t.1)
    (λ p l. bind_found (indices_at p.1 p.2) _ (λ r. some (behind_comma IsTyped) r.0 (p.1, p.2) (r.1, r.2)) _ (indices_found p.1 p.2)
    (λ is m. ((ns, syms.Word words.Getelementptr ∷ ts), h, ((ns, t.1), (refl, (ts, refl, ((inbounds_at ts).1, inbounds_found ts, k))), ((p.1, p.2), l, m))))))

abbrev gep_from : ℕ → List Name → Bool × List Sym → Option (Instr × List Name × List Sym)
gep_from r ns f = type_at f.1 >>= λ t. address_at ns t.1 >>= λ p. indices_at p.1 p.2 >>= λ is. Some (instrs.Gep r f.0 t.0 p.0 is.0, is.1, is.2)

by_inbounds : (r : ℕ) (ns : List Name) (ts : List Sym) → gep_at r ns ts ≡ gep_from r ns (inbounds_at ts)
unfolding gep_at
by_inbounds r ns ts = refl

pub gep_again : (r : ℕ) (b : Bool) (t : Ty) (p : Operand) (is : List Arg) (ns : List Name) (ts : List Sym) (s end : Locals) → (flag words.Inbounds b ⨾ IsType t) ts s.1 → ns ≡ s.0 → (IsAddress p ⨾ some (behind_comma IsTyped) is) s end → EndsInstr end.1 → gep_at r ns ts ≡ Some (instrs.Gep r b t p is, end.0, end.1)
gep_again r b t p is ns ts s end f e h ends =
    by_inbounds r ns ts
    ∙ ap (gep_from r ns) (inbounds_again b ts f.0 f.1 (type_no_flag t f.0 s.1 f.2))
    ∙ bind_again (type_at f.0) (t, s.1) _ _ (type_again t f.0 s.1 f.2)
    (bind_again (address_at ns s.1) (p, h.0.0, h.0.1) _ _ (ap (λ l. address_at l s.1) e ∙ address_again p s h.0 h.1)
    (bind_again (indices_at h.0.0 h.0.1) (is, end.0, end.1) _ _ (indices_again is h.0 end h.2 ends) refl))
