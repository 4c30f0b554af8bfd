-- Instructions: what is read is of the grammar, and what is of the grammar is read.
use Rattle.std.proofs.Common.{◌≡◌, ℕ, Bool, true, false, List, ◌∷◌, Option, None, refl, ap, ◌∙◌, inl, inr}
use Rattle.std.specs.Prelude.{Some, IfSome}
use Rattle.ir_base.specs.declared.name.Name.{Name}
use Rattle.ir_base.specs.declared.ops.CastOp.{CastOp}
use Rattle.ir_base.specs.declared.ops.CastOp.TheVariants as casts
use Rattle.ir_model.specs.declared.instr.Instr.{Instr}
use Rattle.ir_model.specs.declared.instr.Instr.TheVariants as instrs
use Rattle.ir_model.specs.declared.module.TypeItem.{TypeItem}
use Rattle.text_symbols.specs.declared.sym.Mark.TheVariants as marks
use Rattle.text_symbols.specs.declared.sym.Sym.{Sym}
use Rattle.text_symbols.specs.declared.sym.Sym.TheVariants as syms
use Rattle.text_symbols.specs.declared.word.Word.{Word}
use Rattle.text_symbols.specs.declared.word.Word.TheVariants as words
use Rattle.text_grammar.specs.Phrases.{Locals}
use Rattle.text_grammar.specs.Values.{IsPlace}
use Rattle.text_grammar.specs.Instructions.{IsCast, IsTail, IsNamed, IsInstr}
use Rattle.text_grammar.specs.Blocks.{IsLine}
use Rattle.text_reader.specs.Reading.{◌>>=◌}
use Rattle.text_reader.specs.Values.{named_at}
use Rattle.text_reader.proofs.Binding.{bind_found, bind_again}
use Rattle.text_reader.proofs.Follow.{EndsLine, EndsInstr, instr_ends_attrs, metadata_found, metadata_again, metadata_starts}
use Rattle.text_reader.proofs.PlacesRead.{named_found, named_again}
use Rattle.text_blocks.specs.Instrs.{store_at}
use Rattle.text_blocks.specs.Calls.{call_at, tail_call_at, assigned_at, effect_at, instr_at, instr_line_at}
use Rattle.text_blocks.proofs.AssignedRead.{binary_found, binary_again, icmp_found, icmp_again, select_found, select_again, cast_found, cast_again, alloca_found, alloca_again, load_found, load_again, store_found, store_again, gep_found, gep_again}
use Rattle.text_blocks.proofs.CallsRead.{call_found, call_again}

-- ---- found

tail_call_found : (types : List TypeItem) (r : ℕ) (must : Bool) (ns : List Name) (us ts : List Sym) (s : Locals) → IsNamed r s (ns, us) → ((vs : List Sym) → ts ≡ syms.Word words.Call ∷ vs → IsTail must us (syms.Word words.Call ∷ vs)) → IfSome (tail_call_at (Some r) must ns ts) (λ x. IsInstr types x.0 s (x.1, x.2))
tail_call_found types r must ns us (syms.Word words.Call ∷ ts) s h tail =
    call_found (Some r) must ns us ts (IsInstrFrom types s) (tail ts refl) (λ t callee args end call. ((ns, us), h, call))
  where
    IsInstrFrom : List TypeItem → Locals → Instr → Locals → Type 0
    IsInstrFrom types s i end = IsInstr types i s end
tail_call_found types r must ns us _ s h tail = tt

effect_call_found : (types : List TypeItem) (must : Bool) (ns : List Name) (us ts : List Sym) → ((vs : List Sym) → ts ≡ syms.Word words.Call ∷ vs → IsTail must us (syms.Word words.Call ∷ vs)) → IfSome (tail_call_at None must ns ts) (λ x. IsInstr types x.0 (ns, us) (x.1, x.2))
effect_call_found types must ns us (syms.Word words.Call ∷ ts) tail =
    call_found None must ns us ts (λ i end. IsInstr types i (ns, us) end) (tail ts refl) (λ t callee args end call. call)
effect_call_found types must ns us _ tail = tt

assigned_found : (types : List TypeItem) (r : ℕ) (w : Word) (ns : List Name) (ts : List Sym) (s : Locals) → IsNamed r s (ns, syms.Word w ∷ ts) → IfSome (assigned_at types r w ns ts) (λ x. IsInstr types x.0 s (x.1, x.2))
unfolding assigned_at
assigned_found types r (words.Bin op) ns ts s h = binary_found types r op ns ts s h
assigned_found types r words.Icmp ns ts s h = icmp_found types r ns ts s h
assigned_found types r words.Select ns ts s h = select_found types r ns ts s h
assigned_found types r (words.Cast op) ns ts s h = cast_found types r op ns ts s h
assigned_found types r words.Alloca ns ts s h = alloca_found types r ns ts s h
assigned_found types r words.Load ns ts s h = load_found types r ns ts s h
assigned_found types r words.Getelementptr ns ts s h = gep_found types r ns ts s h
assigned_found types r words.Call ns ts s h =
    call_found (Some r) false ns (syms.Word words.Call ∷ ts) ts (λ i end. IsInstr types i s end) (inr (inr refl)) (λ t callee args end call. ((ns, syms.Word words.Call ∷ ts), h, call))
assigned_found types r words.Tail ns ts s h = tail_call_found types r false ns (syms.Word words.Tail ∷ ts) ts s h (λ vs e. inl (ap (λ (l : List Sym). syms.Word words.Tail ∷ l) e))
assigned_found types r words.Notail ns ts s h = tail_call_found types r false ns (syms.Word words.Notail ∷ ts) ts s h (λ vs e. inr (inl (ap (λ (l : List Sym). syms.Word words.Notail ∷ l) e)))
assigned_found types r words.Musttail ns ts s h = tail_call_found types r true ns (syms.Word words.Musttail ∷ ts) ts s h (λ vs e. ap (λ (l : List Sym). syms.Word words.Musttail ∷ l) e)
assigned_found types r _ ns ts s h = tt

effect_found : (types : List TypeItem) (w : Word) (ns : List Name) (ts : List Sym) → IfSome (effect_at types w ns ts) (λ x. IsInstr types x.0 (ns, syms.Word w ∷ ts) (x.1, x.2))
unfolding effect_at
effect_found types words.Store ns ts = store_found types ns ts
effect_found types words.Call ns ts =
    call_found None false ns (syms.Word words.Call ∷ ts) ts (λ i end. IsInstr types i (ns, syms.Word words.Call ∷ ts) end) (inr (inr refl)) (λ t callee args end call. call)
effect_found types words.Tail ns ts = effect_call_found types false ns (syms.Word words.Tail ∷ ts) ts (λ vs e. inl (ap (λ (l : List Sym). syms.Word words.Tail ∷ l) e))
effect_found types words.Notail ns ts = effect_call_found types false ns (syms.Word words.Notail ∷ ts) ts (λ vs e. inr (inl (ap (λ (l : List Sym). syms.Word words.Notail ∷ l) e)))
effect_found types words.Musttail ns ts = effect_call_found types true ns (syms.Word words.Musttail ∷ ts) ts (λ vs e. ap (λ (l : List Sym). syms.Word words.Musttail ∷ l) e)
effect_found types _ ns ts = tt

-- a name and `=`
pub named_phrase : (ns : List Name) (o : Option Name) (ts : List Sym) (r : ℕ × List Name) (name : Name) → o ≡ Some name → IsPlace ns name r.0 r.1 → IsNamed r.0 (ns, syms.Local o ∷ syms.Mark marks.Equals ∷ ts) (r.1, ts)
named_phrase ns o ts r name e p =
    ((r.1, syms.Mark marks.Equals ∷ ts), (name, ap (λ (x : Option Name). syms.Local x ∷ syms.Mark marks.Equals ∷ ts) e, p), (refl, refl))

pub instr_found : (types : List TypeItem) (ns : List Name) (ts : List Sym) → IfSome (instr_at types ns ts) (λ x. IsInstr types x.0 (ns, ts) (x.1, x.2))
unfolding instr_at
instr_found types ns (syms.Local n ∷ syms.Mark marks.Equals ∷ syms.Word w ∷ ts) =
    bind_found (named_at ns n) _ (λ r. (name : Name) × (n ≡ Some name) × IsPlace ns name r.0 r.1) _ (named_found ns n)
    (λ r h. assigned_found types r.0 w r.1 ts (ns, syms.Local n ∷ syms.Mark marks.Equals ∷ syms.Word w ∷ ts) (named_phrase ns n (syms.Word w ∷ ts) r h.0 h.1 h.2))
instr_found types ns (syms.Word w ∷ ts) = effect_found types w ns ts
instr_found types ns _ = tt

pub line_found : (types : List TypeItem) (ns : List Name) (ts : List Sym) → IfSome (instr_line_at types ns ts) (λ x. IsLine types x.0 (ns, ts) (x.1, x.2))
unfolding instr_line_at
line_found types ns ts =
    bind_found (instr_at types ns ts) _ (λ x. IsInstr types x.0 (ns, ts) (x.1, x.2)) _ (instr_found types ns ts)
    (λ x h. ((x.1, x.2), h, (refl, metadata_found x.2)))

-- ---- again

-- the step over a name, `=` and a word
named_step : (types : List TypeItem) (r : ℕ) (w : Word) (s m : Locals) (ts : List Sym) → IsNamed r s m → m.1 ≡ syms.Word w ∷ ts → instr_at types s.0 s.1 ≡ assigned_at types r w m.0 ts
unfolding instr_at
named_step types r w s m ts h e =
    ap (instr_at types s.0) (h.1.1 ∙ ap (λ (l : List Sym). syms.Local (Some h.1.0) ∷ l) (h.2.1 ∙ ap (λ (l : List Sym). syms.Mark marks.Equals ∷ l) e))
    ∙ ap (λ o. o >>= λ x. assigned_at types x.0 w x.1 ts) (named_again s.0 h.1.0 r h.0.0 h.1.2)
    ∙ ap (λ (l : List Name). assigned_at types r w l ts) h.2.0

-- a call behind a name, and one without
named_call_step : (types : List TypeItem) (r : ℕ) (must : Bool) (s m : Locals) (us ts : List Sym) → IsNamed r s m → IsTail must m.1 us → us ≡ syms.Word words.Call ∷ ts → instr_at types s.0 s.1 ≡ call_at (Some r) must m.0 ts
unfolding assigned_at
named_call_step types r true s m us ts h tail e =
    named_step types r words.Musttail s m us h tail ∙ ap (tail_call_at (Some r) true m.0) e
named_call_step types r false s m us ts h (inl tail) e = named_step types r words.Tail s m us h tail ∙ ap (tail_call_at (Some r) false m.0) e
named_call_step types r false s m us ts h (inr (inl tail)) e = named_step types r words.Notail s m us h tail ∙ ap (tail_call_at (Some r) false m.0) e
named_call_step types r false s m us ts h (inr (inr tail)) e = named_step types r words.Call s m ts h (tail ∙ e)

call_step : (types : List TypeItem) (must : Bool) (ns : List Name) (us vs ts : List Sym) → IsTail must us vs → vs ≡ syms.Word words.Call ∷ ts → instr_at types ns us ≡ call_at None must ns ts
unfolding instr_at effect_at
call_step types true ns us vs ts tail e = ap (instr_at types ns) tail ∙ ap (tail_call_at None true ns) e
call_step types false ns us vs ts (inl tail) e = ap (instr_at types ns) tail ∙ ap (tail_call_at None false ns) e
call_step types false ns us vs ts (inr (inl tail)) e = ap (instr_at types ns) tail ∙ ap (tail_call_at None false ns) e
call_step types false ns us vs ts (inr (inr tail)) e = ap (instr_at types ns) (tail ∙ e)

store_step : (types : List TypeItem) (s v : Locals) → s.1 ≡ syms.Word words.Store ∷ v.1 → instr_at types s.0 s.1 ≡ store_at types s.0 v.1
unfolding instr_at effect_at
store_step types s v w = ap (instr_at types s.0) w

-- the symbols behind the word of a cast
cast_word : (op : CastOp) (nneg : Bool) (ts rest : List Sym) → IsCast op nneg ts rest → (us : List Sym) × (ts ≡ syms.Word (words.Cast op) ∷ us)
cast_word casts.Zext nneg ts rest h = (h.0, h.1)
cast_word casts.Trunc nneg ts rest h = (rest, h.1)
cast_word casts.Sext nneg ts rest h = (rest, h.1)

pub instr_again : (types : List TypeItem) (i : Instr) (s end : Locals) → IsInstr types i s end → EndsInstr end.1 → instr_at types s.0 s.1 ≡ Some (i, end.0, end.1)
unfolding assigned_at
instr_again types (instrs.Binary r op f t a b) s end (m, h, (v, (e, (u, op_is, ty)), values)) ends =
    named_step types r (words.Bin op) s m op_is.0 h op_is.1 ∙ binary_again r op f t a b m.0 op_is.0 u v end op_is.2 ty e values
instr_again types (instrs.Icmp r p t a b) s end (m, h, (v, (e, (u, w, (x, p_is, ty))), values)) ends =
    named_step types r words.Icmp s m u h w ∙ icmp_again r p t a b m.0 u x v end p_is ty e values
instr_again types (instrs.Select r c x y) s end (m, h, (v, (e, (u, w, ty)), values)) ends =
    named_step types r words.Select s m u h w ∙ select_again r c x y m.0 u v end ty e values
instr_again types (instrs.Cast r op nneg a t) s end (m, h, (v, (e, c), values)) ends =
    let w = cast_word op nneg m.1 v.1 c in
    named_step types r (words.Cast op) s m w.0 h w.1 ∙ cast_again r op nneg a t m.0 m.1 w.0 v end c w.1 e values
instr_again types (instrs.Alloca r t n) s end (m, h, (e, (u, w, ty))) ends =
    named_step types r words.Alloca s m u h w ∙ alloca_again types r t n m.0 u end.1 ty ends ∙ ap (λ (l : List Name). Some (instrs.Alloca r t n, l, end.1)) e
instr_again types (instrs.Load r t p n) s end (m, h, (v, (e, (u, w, ty)), values)) ends =
    named_step types r words.Load s m u h w ∙ load_again types r t p n m.0 u v end ty e values ends
instr_again types (instrs.Store a p n) s end (v, (e, w), values) ends =
    store_step types s v w ∙ store_again types a p n s.0 v end e values ends
instr_again types (instrs.Gep r inbounds t p is) s end (m, h, (v, (e, (u, w, ty)), values)) ends =
    named_step types r words.Getelementptr s m u h w ∙ gep_again r inbounds t p is m.0 u v end ty e values ends
instr_again types (instrs.Call (Some r) must t callee args) s end (m, h, (v, (e, (u, tail, (x, w, result))), values)) ends =
    named_call_step types r must s m u x h tail w ∙ call_again (Some r) must t callee args m.0 x u v end result e values (instr_ends_attrs end.1 ends)
instr_again types (instrs.Call None must t callee args) s end (v, (e, (u, tail, (x, w, result))), values) ends =
    call_step types must s.0 s.1 u x tail w ∙ call_again None must t callee args s.0 x u v end result e values (instr_ends_attrs end.1 ends)

pub line_again : (types : List TypeItem) (i : Instr) (s end : Locals) → IsLine types i s end → EndsLine end.1 → instr_line_at types s.0 s.1 ≡ Some (i, end.0, end.1)
unfolding instr_line_at
line_again types i s end h ends =
    bind_again (instr_at types s.0 s.1) (i, h.0.0, h.0.1) _ _ (instr_again types i s h.0 h.1 (metadata_starts h.0.1 end.1 h.2.1 ends))
    (ap (λ (l : List Sym). Some (i, h.0.0, l)) (metadata_again h.0.1 end.1 h.2.1 ends) ∙ ap (λ (l : List Name). Some (i, l, end.1)) h.2.0)
