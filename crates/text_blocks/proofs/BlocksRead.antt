-- Blocks: what is read is of the grammar, and what is of the grammar is read.
use Rattle.std.proofs.Common.{◌≡◌, ◌<◌, ◌^◌, ℕ, Bool, true, false, cond, nat_lt, List, [], ◌∷◌, Option, None, refl, sym, ap, subst, ◌∙◌, inl, inr}
use Rattle.std.specs.Prelude.{Some, IfSome}
use Rattle.std.proofs.lemmas.Bool.{ltb-true, lt-ltb}
use Rattle.ir_base.specs.declared.name.Name.{Name}
use Rattle.ir_base.specs.declared.ops.CastOp.TheVariants as casts
use Rattle.ir_model.specs.declared.instr.Instr.{Instr}
use Rattle.ir_model.specs.declared.instr.Instr.TheVariants as instrs
use Rattle.ir_model.specs.declared.instr.Phi.{Phi}
use Rattle.ir_model.specs.declared.instr.Terminator.{Terminator}
use Rattle.ir_model.specs.declared.instr.Terminator.TheVariants as terms
use Rattle.ir_model.specs.declared.module.Block.{Block}
use Rattle.ir_model.specs.declared.module.TypeItem.{TypeItem}
use Rattle.text_symbols.specs.declared.sym.Mark.TheVariants as marks
use Rattle.text_symbols.specs.declared.sym.Sym.{Sym}
use Rattle.text_symbols.specs.declared.sym.Sym.TheVariants as syms
use Rattle.text_symbols.specs.declared.word.Word.{Word}
use Rattle.text_symbols.specs.declared.word.Word.TheVariants as words
use Rattle.text_grammar.specs.Phrases.{Locals, ◌⨾◌, each}
use Rattle.text_grammar.specs.Values.{IsPlace}
use Rattle.text_grammar.specs.Instructions.{IsTail, IsNamed, IsInstr}
use Rattle.text_grammar.specs.Blocks.{IsTerminator, IsPhiLine, IsLine, IsBody, IsBlock, IsEntry, AreBlocks}
use Rattle.text_grammar.proofs.LinesTake.{phi_line_takes, line_takes, block_takes}
use Rattle.text_reader.specs.Many.{after, many_at}
use Rattle.text_reader.specs.Reading.{◌>>=◌, mark_at}
use Rattle.text_reader.specs.Values.{named_at}
use Rattle.text_reader.proofs.Binding.{bind_found, bind_again}
use Rattle.text_reader.proofs.Follow.{EndsLine}
use Rattle.text_reader.proofs.ListsRead.{many_found, many_again}
use Rattle.text_reader.proofs.PlacesRead.{named_found, named_again}
use Rattle.text_reader.proofs.ValuesRead.{mark_again}
use Rattle.text_blocks.specs.Blocks.{body_at, labelled_at, begins_label, numbered, entry_at, blocks_at}
use Rattle.text_blocks.specs.Calls.{instr_line_at, begins_instr}
use Rattle.text_blocks.specs.Terminators.{phi_line_at, begins_phi, terminator_at}
use Rattle.text_blocks.proofs.InstrsRead.{line_found, line_again}
use Rattle.text_blocks.proofs.StepsRead.{mark_finds, after_finds}
use Rattle.text_blocks.proofs.TerminatorsRead.{Ended, named_word, phi_found, phi_again, phi_begins, terminator_found, terminator_again}

-- ---- what lines begin with

-- no phi and no label begins here, and whether an instruction does
abbrev Front : Bool → List Sym → Type 0
Front instr ts = (begins_instr ts ≡ instr) × (begins_phi ts ≡ false) × (begins_label ts ≡ false) × EndsLine ts

-- behind a name and `=` no phi
abbrev not_phi : Word → Type 0
not_phi words.Phi = ⊥
not_phi _ = Unit {0}

worded : (n : Option Name) (w : Word) (ts : List Sym) → not_phi w → Front true (syms.Local n ∷ syms.Mark marks.Equals ∷ syms.Word w ∷ ts)
worded n words.Phi ts h = absurd h
worded n _ ts h = (refl, refl, refl, tt)

named_front : (r : ℕ) (w : Word) (s m : Locals) (ts : List Sym) → IsNamed r s m → m.1 ≡ syms.Word w ∷ ts → not_phi w → Front true s.1
named_front r w s m ts h e other = subst (Front true) (sym (named_word r w s m ts h e)) (worded (Some h.1.0) w ts other)

tail_front : (r : ℕ) (must : Bool) (s m : Locals) (us ts : List Sym) → IsNamed r s m → IsTail must m.1 us → us ≡ syms.Word words.Call ∷ ts → Front true s.1
tail_front r true s m us ts h tail e = named_front r words.Musttail s m us h tail tt
tail_front r false s m us ts h (inl tail) e = named_front r words.Tail s m us h tail tt
tail_front r false s m us ts h (inr (inl tail)) e = named_front r words.Notail s m us h tail tt
tail_front r false s m us ts h (inr (inr tail)) e = named_front r words.Call s m ts h (tail ∙ e) tt

effect_front : (must : Bool) (ts us vs : List Sym) → IsTail must ts us → us ≡ syms.Word words.Call ∷ vs → Front true ts
effect_front true ts us vs tail e = rw tail (refl, refl, refl, tt)
effect_front false ts us vs (inl tail) e = rw tail (refl, refl, refl, tt)
effect_front false ts us vs (inr (inl tail)) e = rw tail (refl, refl, refl, tt)
effect_front false ts us vs (inr (inr tail)) e = rw (tail ∙ e) (refl, refl, refl, tt)

instr_front : (types : List TypeItem) (i : Instr) (s end : Locals) → IsInstr types i s end → Front true s.1
instr_front types (instrs.Binary r op f t a b) s end (m, h, (v, (e, (u, w, ty)), values)) = named_front r (words.Bin op) s m w.0 h w.1 tt
instr_front types (instrs.Icmp r p t a b) s end (m, h, (v, (e, (u, w, ty)), values)) = named_front r words.Icmp s m u h w tt
instr_front types (instrs.Select r c x y) s end (m, h, (v, (e, (u, w, ty)), values)) = named_front r words.Select s m u h w tt
instr_front types (instrs.Cast r casts.Zext nneg a t) s end (m, h, (v, (e, c), values)) = named_front r (words.Cast casts.Zext) s m c.0 h c.1 tt
instr_front types (instrs.Cast r casts.Trunc nneg a t) s end (m, h, (v, (e, c), values)) = named_front r (words.Cast casts.Trunc) s m v.1 h c.1 tt
instr_front types (instrs.Cast r casts.Sext nneg a t) s end (m, h, (v, (e, c), values)) = named_front r (words.Cast casts.Sext) s m v.1 h c.1 tt
instr_front types (instrs.Alloca r t n) s end (m, h, (e, (u, w, ty))) = named_front r words.Alloca s m u h w tt
instr_front types (instrs.Load r t p n) s end (m, h, (v, (e, (u, w, ty)), values)) = named_front r words.Load s m u h w tt
instr_front types (instrs.Store a p n) s end (v, (e, w), values) = rw w (refl, refl, refl, tt)
instr_front types (instrs.Gep r inbounds t p is) s end (m, h, (v, (e, (u, w, ty)), values)) = named_front r words.Getelementptr s m u h w tt
instr_front types (instrs.Call (Some r) must t callee args) s end (m, h, (v, (e, (u, tail, (x, w, result))), values)) = tail_front r must s m u x h tail w
instr_front types (instrs.Call None must t callee args) s end (v, (e, (u, tail, (x, w, result))), values) = effect_front must s.1 u x tail w

line_front : (types : List TypeItem) (i : Instr) (s end : Locals) → IsLine types i s end → Front true s.1
line_front types i s end h = instr_front types i s h.0 h.1

bare_front : (t : Terminator) (s end : Locals) → IsTerminator t s end → Front false s.1
bare_front (terms.Jump l) s end (m, (e, w), h) = rw w (refl, refl, refl, tt)
bare_front (terms.Branch c x y) s end (m, (e, (u, w, v)), h) = rw w (refl, refl, refl, tt)
bare_front (terms.Switch a l cases) s end (m, (e, w), h) = rw w (refl, refl, refl, tt)
bare_front (terms.Ret None) s end (e, (u, w, v)) = rw w (refl, refl, refl, tt)
bare_front (terms.Ret (Some a)) s end (m, (e, w), h) = rw w (refl, refl, refl, tt)
bare_front terms.Unreachable s end (e, w) = rw w (refl, refl, refl, tt)

terminator_front : (t : Terminator) (s end : Locals) → Ended t s end → Front false s.1
terminator_front t s end h = bare_front t s h.0 h.1

phi_front : (p : Phi) (s end : Locals) → IsPhiLine p s end → (begins_label s.1 ≡ false) × EndsLine s.1
phi_front p s end (x, (m, h, (v, (e, (u, w, ty)), is)), md) = rw (named_word p.result words.Phi s m u h w) (refl, tt)

-- ---- behind the label

abbrev Lines : List TypeItem → List Instr → Terminator → Locals → Locals → Type 0
Lines types is t = each (IsLine types) is ⨾ Ended t

lines_front : (types : List TypeItem) (is : List Instr) (t : Terminator) (s end : Locals) → Lines types is t s end → (begins_phi s.1 ≡ false) × (begins_label s.1 ≡ false) × EndsLine s.1
lines_front types [] t s end h =
    let f = terminator_front t h.0 end h.2 in
    subst (λ (l : Locals). (begins_phi l.1 ≡ false) × (begins_label l.1 ≡ false) × EndsLine l.1) (sym h.1) (f.1, f.2, f.3)
lines_front types (i ∷ is) t s end h = let f = line_front types i s h.1.0 h.1.1 in (f.1, f.2, f.3)

body_front : (types : List TypeItem) (ps : List Phi) (is : List Instr) (t : Terminator) (s end : Locals) → (each IsPhiLine ps ⨾ Lines types is t) s end → begins_label s.1 ≡ false
body_front types [] is t s end h = subst (λ (l : Locals). begins_label l.1 ≡ false) (sym h.1) (lines_front types is t h.0 end h.2).1
body_front types (p ∷ ps) is t s end h = (phi_front p s h.1.0 h.1.1).0

body_found : (types : List TypeItem) (place : ℕ) (ns : List Name) (ts : List Sym) → IfSome (body_at types place ns ts) (λ r. (r.0.label ≡ place) × IsBody types r.0 (ns, ts) (r.1, r.2))
unfolding body_at
body_found types place ns ts =
    bind_found (many_at begins_phi phi_line_at ns ts) _ (λ r. each IsPhiLine r.0 (ns, ts) (r.1, r.2)) _ (many_found IsPhiLine begins_phi phi_line_at phi_found ns ts) (λ ps h.
    bind_found (many_at begins_instr (instr_line_at types) ps.1 ps.2) _ (λ r. each (IsLine types) r.0 (ps.1, ps.2) (r.1, r.2)) _ (many_found (IsLine types) begins_instr (instr_line_at types) (line_found types) ps.1 ps.2) (λ is k.
    bind_found (terminator_at is.1 is.2) _ (λ t. Ended t.0 (is.1, is.2) (t.1, t.2)) _ (terminator_found is.1 is.2) (λ t l.
    (refl, ((ps.1, ps.2), h, ((is.1, is.2), k, l))))))

body_again : (types : List TypeItem) (b : Block) (s end : Locals) → IsBody types b s end → EndsLine end.1 → body_at types b.label s.0 s.1 ≡ Some (b, end.0, end.1)
unfolding body_at
body_again types b s end (m1, ps, (m2, is, t)) ends =
    let last = terminator_front b.term m2 end t in
    let lines = lines_front types b.instrs b.term m1 end (m2, is, t) in
    bind_again (many_at begins_phi phi_line_at s.0 s.1) (b.phis, m1.0, m1.1) _ _
    (many_again IsPhiLine begins_phi phi_line_at EndsLine phi_line_takes phi_again phi_begins (λ p u v h. (phi_front p u v h).1) b.phis s m1 ps lines.2 lines.0)
    (bind_again (many_at begins_instr (instr_line_at types) m1.0 m1.1) (b.instrs, m2.0, m2.1) _ _
    (many_again (IsLine types) begins_instr (instr_line_at types) EndsLine (line_takes types) (line_again types) (λ i u v h. (line_front types i u v h).0) (λ i u v h. (line_front types i u v h).3) b.instrs m1 m2 is last.3 last.0)
    (bind_again (terminator_at m2.0 m2.1) (b.term, end.0, end.1) _ _ (terminator_again b.term m2 end t ends) refl))

-- ---- blocks with their labels

label_then : (types : List TypeItem) (ns : List Name) (o : Option Name) (ts : List Sym) (r : ℕ × List Name) (name : Name) (b : Block) (end : Locals) → o ≡ Some name → IsPlace ns name r.0 r.1 → b.label ≡ r.0 → IsBody types b (r.1, ts) end → IsBlock types b (ns, syms.Label o ∷ ts) end
label_then types ns o ts r name b end e p same body =
    ((r.1, ts), (name, ap (λ (x : Option Name). syms.Label x ∷ ts) e, subst (λ (i : ℕ). IsPlace ns name i r.1) (sym same) p), body)

block_found : (types : List TypeItem) (ns : List Name) (ts : List Sym) → IfSome (labelled_at types ns ts) (λ r. IsBlock types r.0 (ns, ts) (r.1, r.2))
unfolding labelled_at
block_found types ns (syms.Label n ∷ ts) =
    bind_found (named_at ns n) _ (λ r. (name : Name) × (n ≡ Some name) × IsPlace ns name r.0 r.1) _ (named_found ns n) (λ r h.
    found_is_block (body_at types r.0 r.1 ts) r h (body_found types r.0 r.1 ts))
  where
    found_is_block : (o : Option (Block × List Name × List Sym)) (r : ℕ × List Name) → (name : Name) × (n ≡ Some name) × IsPlace ns name r.0 r.1 → IfSome o (λ b. (b.0.label ≡ r.0) × IsBody types b.0 (r.1, ts) (b.1, b.2)) → IfSome o (λ b. IsBlock types b.0 (ns, syms.Label n ∷ ts) (b.1, b.2))
    found_is_block None r h k = tt
    found_is_block (Some b) r h k = label_then types ns n ts r h.0 b.0 (b.1, b.2) h.1 h.2 k.0 k.1
block_found types ns _ = tt

block_again : (types : List TypeItem) (b : Block) (s end : Locals) → IsBlock types b s end → EndsLine end.1 → labelled_at types s.0 s.1 ≡ Some (b, end.0, end.1)
unfolding labelled_at
block_again types b s end (m, l, body) ends =
    ap (labelled_at types s.0) l.1 ∙ ap (λ o. o >>= λ r. body_at types r.0 r.1 m.1) (named_again s.0 l.0 b.label m.0 l.2) ∙ body_again types b m end body ends

block_front : (types : List TypeItem) (b : Block) (s end : Locals) → IsBlock types b s end → (begins_label s.1 ≡ true) × EndsLine s.1
block_front types b s end (m, l, body) = rw l.1 (refl, tt)

-- ---- the first block

pub numbered_found : (k : ℕ) (name : Name) → numbered k ≡ Some name → (k < 2 ^ 32) × (name ≡ Name.Number k)
numbered_found k name e = split (nat_lt k (2 ^ 32)) refl e
  where
    split : (b : Bool) → nat_lt k (2 ^ 32) ≡ b → cond b (Some (Name.Number k)) None ≡ Some name → (k < 2 ^ 32) × (name ≡ Name.Number k)
    split true f e = (ltb-true k (2 ^ 32) f, cc)
    split false f e = absurd cc

pub numbered_again : (k : ℕ) → k < 2 ^ 32 → numbered k ≡ Some (Name.Number k)
numbered_again k h = ap (λ (b : Bool). cond b (Some (Name.Number k)) None) (lt-ltb k (2 ^ 32) h)

block_entry : (types : List TypeItem) (k : ℕ) (b : Block) (s end : Locals) → IsBlock types b s end → IsEntry types k b s end
block_entry types k b s end (m, l, body) = (m, inl l, body)

labelled_entry : (types : List TypeItem) (k : ℕ) (ns : List Name) (n : Option Name) (ts : List Sym) (o : Option (Block × List Name × List Sym)) → IfSome o (λ r. IsBlock types r.0 (ns, syms.Label n ∷ ts) (r.1, r.2)) → IfSome o (λ r. IsEntry types k r.0 (ns, syms.Label n ∷ ts) (r.1, r.2))
labelled_entry types k ns n ts None h = tt
labelled_entry types k ns n ts (Some r) h = block_entry types k r.0 (ns, syms.Label n ∷ ts) (r.1, r.2) h

unwritten_entry : (types : List TypeItem) (k : ℕ) (ns : List Name) (ts : List Sym) → IfSome {T = Block × List Name × List Sym} (named_at ns (numbered k) >>= λ r. body_at types r.0 r.1 ts) (λ r. IsEntry types k r.0 (ns, ts) (r.1, r.2))
unwritten_entry types k ns ts =
    bind_found (named_at ns (numbered k)) _ (λ r. (name : Name) × (numbered k ≡ Some name) × IsPlace ns name r.0 r.1) _ (named_found ns (numbered k)) (λ r h.
    found_is_entry (body_at types r.0 r.1 ts) r h (body_found types r.0 r.1 ts))
  where
    found_is_entry : (o : Option (Block × List Name × List Sym)) (r : ℕ × List Name) → (name : Name) × (numbered k ≡ Some name) × IsPlace ns name r.0 r.1 → IfSome o (λ b. (b.0.label ≡ r.0) × IsBody types b.0 (r.1, ts) (b.1, b.2)) → IfSome o (λ b. IsEntry types k b.0 (ns, ts) (b.1, b.2))
    found_is_entry None r h l = tt
    found_is_entry (Some b) r h l =
        let n = numbered_found k h.0 h.1 in
        let place : IsPlace ns (Name.Number k) b.0.label r.1 = subst (λ (i : ℕ). IsPlace ns (Name.Number k) i r.1) (sym l.0) (subst (λ (x : Name). IsPlace ns x r.0 r.1) n.1 h.2) in
        ((r.1, ts), inr (n.0, refl, place), l.1)

entry_found : (types : List TypeItem) (k : ℕ) (ns : List Name) (ts : List Sym) → IfSome (entry_at types k ns ts) (λ r. IsEntry types k r.0 (ns, ts) (r.1, r.2))
unfolding entry_at labelled_at
entry_found types k ns (syms.Label n ∷ ts) = labelled_entry types k ns n ts (labelled_at types ns (syms.Label n ∷ ts)) (block_found types ns (syms.Label n ∷ ts))
entry_found types k ns ts = unwritten_entry types k ns ts

by_number : (types : List TypeItem) (k : ℕ) (ns : List Name) (ts : List Sym) → begins_label ts ≡ false → entry_at types k ns ts ≡ (named_at ns (numbered k) >>= λ r. body_at types r.0 r.1 ts)
unfolding entry_at
by_number types k ns (syms.Label n ∷ ts) h = absurd cc
by_number types k ns _ h = refl

entry_again : (types : List TypeItem) (k : ℕ) (b : Block) (s end : Locals) → IsEntry types k b s end → EndsLine end.1 → entry_at types k s.0 s.1 ≡ Some (b, end.0, end.1)
unfolding entry_at
entry_again types k b s end (m, inl l, body) ends =
    ap (entry_at types k s.0) l.1 ∙ ap (λ o. o >>= λ r. body_at types r.0 r.1 m.1) (named_again s.0 l.0 b.label m.0 l.2) ∙ body_again types b m end body ends
entry_again types k b s end (m, inr u, body) ends =
    by_number types k s.0 s.1 (subst (λ (l : List Sym). begins_label l ≡ false) (sym u.1) (body_front types b.phis b.instrs b.term m end body))
    ∙ ap (λ o. named_at s.0 o >>= λ r. body_at types r.0 r.1 s.1) (numbered_again k u.0)
    ∙ ap (λ o. o >>= λ r. body_at types r.0 r.1 s.1) (named_again s.0 (Name.Number k) b.label m.0 u.2)
    ∙ ap (body_at types b.label m.0) u.1
    ∙ body_again types b m end body ends

-- ---- blocks in curly brackets

abbrev pub InBrackets : List TypeItem → ℕ → List Block → Locals → Locals → Type 0
InBrackets types k bs s end = (body : List Sym) × (s.1 ≡ syms.Mark marks.OpenCurly ∷ body) × AreBlocks types k bs (s.0, body) (end.0, syms.Mark marks.CloseCurly ∷ end.1)

pub blocks_found : (types : List TypeItem) (k : ℕ) (ns : List Name) (ts : List Sym) → IfSome (blocks_at types k ns ts) (λ r. InBrackets types k r.0 (ns, ts) (r.1, r.2))
unfolding blocks_at
blocks_found types k ns ts =
    mark_finds marks.OpenCurly ns ts _ _ (λ opened o.
    bind_found (entry_at types k ns opened) _ (λ r. IsEntry types k r.0 (ns, opened) (r.1, r.2)) _ (entry_found types k ns opened) (λ first h.
    bind_found (after (first.0 ∷ []) (many_at begins_label (labelled_at types) first.1 first.2)) _ (λ r. AreBlocks types k r.0 (ns, opened) (r.1, r.2)) _
    (after_finds first.0 (many_at begins_label (labelled_at types) first.1 first.2) (λ r. each (IsBlock types) r.0 (first.1, first.2) (r.1, r.2)) (λ r. AreBlocks types k r.0 (ns, opened) (r.1, r.2)) (many_found (IsBlock types) begins_label (labelled_at types) (block_found types) first.1 first.2) (λ r l. ((first.1, first.2), h, l)))
    (λ all l. mark_finds marks.CloseCurly all.1 all.2 _ _ (λ rest c.
    (opened, o.1, subst (λ (x : List Sym). AreBlocks types k all.0 (ns, opened) (all.1, x)) c.1 l)))))

next_front : (types : List TypeItem) (bs : List Block) (m : Locals) (end : List Name) (rest : List Sym) → each (IsBlock types) bs m (end, syms.Mark marks.CloseCurly ∷ rest) → EndsLine m.1
next_front types [] m end rest h = subst (λ (l : Locals). EndsLine l.1) (sym h) tt
next_front types (b ∷ bs) m end rest h = (block_front types b m h.0 h.1).1

pub blocks_again : (types : List TypeItem) (k : ℕ) (bs : List Block) (s end : Locals) → InBrackets types k bs s end → blocks_at types k s.0 s.1 ≡ Some (bs, end.0, end.1)
unfolding blocks_at
blocks_again types k [] s end h = absurd h.2
blocks_again types k (b ∷ bs) s end (body, o, (m, entry, more)) =
    bind_again (mark_at marks.OpenCurly s.1) body _ _ (mark_again marks.OpenCurly s.1 body o)
    (bind_again (entry_at types k s.0 body) (b, m.0, m.1) _ _ (entry_again types k b (s.0, body) m entry (next_front types bs m end.0 end.1 more))
    (bind_again (after (b ∷ []) (many_at begins_label (labelled_at types) m.0 m.1)) (b ∷ bs, end.0, syms.Mark marks.CloseCurly ∷ end.1) _ _
    (ap (after (b ∷ [])) (many_again (IsBlock types) begins_label (labelled_at types) EndsLine (block_takes types) (block_again types) (λ x u v h. (block_front types x u v h).0) (λ x u v h. (block_front types x u v h).1) bs m (end.0, syms.Mark marks.CloseCurly ∷ end.1) more tt refl))
    refl))
