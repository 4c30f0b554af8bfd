-- Phis and terminators: what is read is of the grammar, and what is of the grammar is read.
use Rattle.std.proofs.Common.{◌≡◌, ℕ, true, false, List, [], ◌∷◌, Option, None, refl, ap, ◌∙◌}
use Rattle.std.specs.Prelude.{Some, IfSome}
use Rattle.ir_base.specs.declared.name.Name.{Name}
use Rattle.ir_model.specs.Ty.{Ty, int, ptr, token, array, structure, named}
use Rattle.ir_model.specs.declared.instr.Case.{Case}
use Rattle.ir_model.specs.declared.instr.Incoming.{Incoming}
use Rattle.ir_model.specs.declared.instr.Phi.{Phi}
use Rattle.ir_model.specs.declared.instr.Terminator.{Terminator}
use Rattle.ir_model.specs.declared.instr.Terminator.TheVariants as terms
use Rattle.ir_model.specs.declared.ir_type.IntWidth.TheVariants as widths
use Rattle.ir_model.specs.declared.operand.Arg.{Arg}
use Rattle.ir_model.specs.declared.operand.Operand.{Operand}
use Rattle.text_symbols.specs.declared.sym.Mark.TheVariants as marks
use Rattle.text_symbols.specs.declared.sym.Sym.{Sym}
use Rattle.text_symbols.specs.declared.sym.Sym.TheVariants as syms
use Rattle.text_symbols.specs.declared.word.Word.{Word}
use Rattle.text_symbols.specs.declared.word.Word.TheVariants as words
use Rattle.text_grammar.specs.Attributes.{metadata}
use Rattle.text_grammar.specs.Phrases.{Locals, Naming, ◌⨾◌, each, mark, plain, comma, behind_comma, listed}
use Rattle.text_grammar.specs.Types.{IsType}
use Rattle.text_grammar.specs.Values.{IsPlace, local, IsValue, IsTyped, IsTarget}
use Rattle.text_grammar.specs.Instructions.{IsNamed}
use Rattle.text_grammar.specs.Blocks.{IsIncoming, IsCase, IsTerminator, IsPhiLine}
use Rattle.text_grammar.proofs.Takes.{takes_keeps, left, behind_comma_takes}
use Rattle.text_grammar.proofs.LinesTake.{incoming_takes, case_takes}
use Rattle.text_reader.specs.Many.{after, many_at}
use Rattle.text_reader.specs.Reading.{◌>>=◌, mark_at, behind_metadata}
use Rattle.text_reader.specs.Types.{type_at}
use Rattle.text_reader.specs.Values.{named_at, local_at, value_at, typed_at, target_at}
use Rattle.text_reader.proofs.Binding.{bind_found, bind_again}
use Rattle.text_reader.proofs.Follow.{EndsLine, EndsInstr, metadata_found, metadata_again, metadata_starts}
use Rattle.text_reader.proofs.ListsRead.{many_found, many_again}
use Rattle.text_reader.proofs.PlacesRead.{named_found, named_again}
use Rattle.text_reader.proofs.TypesRead.{type_found, type_again}
use Rattle.text_reader.proofs.ValuesRead.{local_found, local_again, target_found, target_again, value_found, value_again, typed_found, typed_again}
use Rattle.text_blocks.specs.Terminators.{incoming_at, next_incoming_at, begins_incoming, incomings_at, phi_line_at, begins_phi, branch_at, br_at, case_at, begins_case, switch_at, ret_at, ended_at, terminator_at}
use Rattle.text_blocks.proofs.InstrsRead.{named_phrase}
use Rattle.text_blocks.proofs.StepsRead.{mark_step, mark_finds, after_finds}

-- ---- phis

incoming_found : (ns : List Name) (ts : List Sym) → IfSome (incoming_at ns ts) (λ r. IsIncoming r.0 (ns, ts) (r.1, r.2))
unfolding incoming_at
incoming_found ns ts =
    mark_finds marks.OpenSquare ns ts _ _ (λ opened o.
    bind_found (value_at ns opened) _ (λ v. IsValue v.0 (ns, opened) (v.1, v.2)) _ (value_found ns opened) (λ v h.
    mark_finds marks.Comma v.1 v.2 _ _ (λ more c.
    bind_found (local_at v.1 more) _ (λ l. local l.0 (v.1, more) (l.1, l.2)) _ (local_found v.1 more) (λ l k.
    mark_finds marks.CloseSquare l.1 l.2 _ _ (λ rest e.
    ((ns, opened), o, ((v.1, v.2), h, ((v.1, more), c, ((l.1, l.2), k, e)))))))))

incoming_again : (i : Incoming) (s end : Locals) → IsIncoming i s end → incoming_at s.0 s.1 ≡ Some (i, end.0, end.1)
unfolding incoming_at
incoming_again i s end (m1, o, (m2, v, (m3, c, (m4, l, e)))) =
    mark_step marks.OpenSquare (λ ns ts. value_at ns ts >>= λ v. mark_at marks.Comma v.2 >>= λ more. local_at v.1 more >>= λ l. mark_at marks.CloseSquare l.2 >>= λ closed. Some (record { value = v.0; from = l.0 }, l.1, closed)) s m1 _ o
    (bind_again (value_at m1.0 m1.1) (i.value, m2.0, m2.1) _ _ (value_again i.value m1 m2 v)
    (mark_step marks.Comma (λ ns ts. local_at ns ts >>= λ l. mark_at marks.CloseSquare l.2 >>= λ closed. Some (record { value = i.value; from = l.0 }, l.1, closed)) m2 m3 _ c
    (bind_again (local_at m3.0 m3.1) (i.from, m4.0, m4.1) _ _ (local_again i.from m3 m4 l)
    (mark_step marks.CloseSquare (λ ns rest. Some (record { value = i.value; from = i.from }, ns, rest)) m4 end _ e refl))))

next_incoming_found : (ns : List Name) (ts : List Sym) → IfSome (next_incoming_at ns ts) (λ r. behind_comma IsIncoming r.0 (ns, ts) (r.1, r.2))
next_incoming_found ns ts = mark_finds marks.Comma ns ts (incoming_at ns) _ (λ rest c. bound (incoming_at ns rest) rest c (incoming_found ns rest))
  where
    bound : (o : Option (Incoming × List Name × List Sym)) (rest : List Sym) → comma (ns, ts) (ns, rest) → IfSome o (λ r. IsIncoming r.0 (ns, rest) (r.1, r.2)) → IfSome o (λ r. behind_comma IsIncoming r.0 (ns, ts) (r.1, r.2))
    bound None rest c h = tt
    bound (Some r) rest c h = ((ns, rest), c, h)

next_incoming_again : (i : Incoming) (s end : Locals) → behind_comma IsIncoming i s end → next_incoming_at s.0 s.1 ≡ Some (i, end.0, end.1)
next_incoming_again i s end h = mark_step marks.Comma incoming_at s h.0 _ h.1 (incoming_again i h.0 end h.2)

incoming_begins : (i : Incoming) (s end : Locals) → behind_comma IsIncoming i s end → begins_incoming s.1 ≡ true
incoming_begins i s end h = ap begins_incoming (h.1.1 ∙ ap (λ (l : List Sym). syms.Mark marks.Comma ∷ l) h.2.1.1)

no_incoming : (ts : List Sym) → EndsInstr ts → begins_incoming ts ≡ false
no_incoming (syms.Mark marks.Comma ∷ syms.Meta ∷ ts) h = refl
no_incoming (syms.Mark marks.Comma ∷ ts) h = absurd h
no_incoming _ h = refl

incomings_found : (result : ℕ) (ns : List Name) (ts : List Sym) (s : Locals) → IsNamed result s (ns, syms.Word words.Phi ∷ ts) → IfSome (incomings_at result ns ts) (λ r. IsPhiLine r.0 s (r.1, r.2))
unfolding incomings_at
incomings_found result ns ts s h =
    bind_found (type_at ts) _ (λ t. IsType t.0 ts t.1) _ (type_found ts) (λ t k.
    bind_found (incoming_at ns t.1) _ (λ i. IsIncoming i.0 (ns, t.1) (i.1, i.2)) _ (incoming_found ns t.1) (λ i l.
    bind_found (after (i.0 ∷ []) (many_at begins_incoming next_incoming_at i.1 i.2)) _ (λ r. listed IsIncoming r.0 (ns, t.1) (r.1, r.2)) _
    (after_finds i.0 (many_at begins_incoming next_incoming_at i.1 i.2) (λ r. each (behind_comma IsIncoming) r.0 (i.1, i.2) (r.1, r.2)) (λ r. listed IsIncoming r.0 (ns, t.1) (r.1, r.2)) (many_found (behind_comma IsIncoming) begins_incoming next_incoming_at next_incoming_found i.1 i.2) (λ r m. ((i.1, i.2), l, m)))
    (λ all m. ((all.1, all.2), ((ns, syms.Word words.Phi ∷ ts), h, ((ns, t.1), (refl, (ts, refl, k)), m)), (refl, metadata_found all.2)))))

listed_again : (is : List Incoming) (s end : Locals) → listed IsIncoming is s end → EndsInstr end.1 → (incoming_at s.0 s.1 >>= λ first. after (first.0 ∷ []) (many_at begins_incoming next_incoming_at first.1 first.2)) ≡ Some (is, end.0, end.1)
listed_again [] s end h ends = absurd h
listed_again (i ∷ is) s end h ends =
    bind_again (incoming_at s.0 s.1) (i, h.0.0, h.0.1) _ _ (incoming_again i s h.0 h.1)
    (ap (after (i ∷ [])) (many_again (behind_comma IsIncoming) begins_incoming next_incoming_at (λ _. Unit {0}) (behind_comma_takes IsIncoming (λ j. takes_keeps left (IsIncoming j) (incoming_takes j))) (λ j u v k _. next_incoming_again j u v k) incoming_begins (λ j u v k. tt) is h.0 end h.2 tt (no_incoming end.1 ends)))

bind_bind : {A B C : Type 0} (o : Option A) (f : A → Option B) (g : B → Option C) → (o >>= λ x. f x >>= g) ≡ ((o >>= f) >>= g)
bind_bind None f g = refl
bind_bind (Some x) f g = refl

incomings_again : (p : Phi) (ns : List Name) (ts : List Sym) (s m end : Locals) → IsType p.ty ts s.1 → ns ≡ s.0 → listed IsIncoming p.incoming s m → plain metadata m end → EndsLine end.1 → incomings_at p.result ns ts ≡ Some (p, end.0, end.1)
unfolding incomings_at
incomings_again p ns ts s m end ty e is md ends =
    bind_again (type_at ts) (p.ty, s.1) _ _ (type_again p.ty ts s.1 ty)
    (bind_bind (incoming_at ns s.1) (λ first. after (first.0 ∷ []) (many_at begins_incoming next_incoming_at first.1 first.2)) (λ all. Some (record { result = p.result; ty = p.ty; incoming = all.0 }, all.1, behind_metadata all.2))
    ∙ bind_again (incoming_at ns s.1 >>= λ first. after (first.0 ∷ []) (many_at begins_incoming next_incoming_at first.1 first.2)) (p.incoming, m.0, m.1) _ _
    (ap (λ l. incoming_at l s.1 >>= λ first. after (first.0 ∷ []) (many_at begins_incoming next_incoming_at first.1 first.2)) e ∙ listed_again p.incoming s m is (metadata_starts m.1 end.1 md.1 ends))
    (ap (λ (l : List Sym). Some (p, m.0, l)) (metadata_again m.1 end.1 md.1 ends) ∙ ap (λ (l : List Name). Some (p, l, end.1)) md.0))

pub phi_found : (ns : List Name) (ts : List Sym) → IfSome (phi_line_at ns ts) (λ r. IsPhiLine r.0 (ns, ts) (r.1, r.2))
unfolding phi_line_at
phi_found ns (syms.Local n ∷ syms.Mark marks.Equals ∷ syms.Word words.Phi ∷ ts) =
    bind_found (named_at ns n) _ (λ r. (name : Name) × (n ≡ Some name) × IsPlace ns name r.0 r.1) _ (named_found ns n)
    (λ r h. incomings_found r.0 r.1 ts (ns, syms.Local n ∷ syms.Mark marks.Equals ∷ syms.Word words.Phi ∷ ts) (named_phrase ns n (syms.Word words.Phi ∷ ts) r h.0 h.1 h.2))
phi_found ns _ = tt

pub named_word : (r : ℕ) (w : Word) (s m : Locals) (ts : List Sym) → (h : IsNamed r s m) → m.1 ≡ syms.Word w ∷ ts → s.1 ≡ syms.Local (Some h.1.0) ∷ syms.Mark marks.Equals ∷ syms.Word w ∷ ts
named_word r w s m ts h e = h.1.1 ∙ ap (λ (l : List Sym). syms.Local (Some h.1.0) ∷ l) (h.2.1 ∙ ap (λ (l : List Sym). syms.Mark marks.Equals ∷ l) e)

phi_step : (r : ℕ) (s m : Locals) (ts : List Sym) → IsNamed r s m → m.1 ≡ syms.Word words.Phi ∷ ts → phi_line_at s.0 s.1 ≡ incomings_at r m.0 ts
unfolding phi_line_at
phi_step r s m ts h e =
    ap (phi_line_at s.0) (named_word r words.Phi s m ts h e)
    ∙ ap (λ o. o >>= λ x. incomings_at x.0 x.1 ts) (named_again s.0 h.1.0 r h.0.0 h.1.2)
    ∙ ap (λ (l : List Name). incomings_at r l ts) h.2.0

pub phi_again : (p : Phi) (s end : Locals) → IsPhiLine p s end → EndsLine end.1 → phi_line_at s.0 s.1 ≡ Some (p, end.0, end.1)
phi_again p s end (x, (m, h, (v, (e, (u, w, ty)), is)), md) ends =
    phi_step p.result s m u h w ∙ incomings_again p m.0 u v x end ty e is md ends

pub phi_begins : (p : Phi) (s end : Locals) → IsPhiLine p s end → begins_phi s.1 ≡ true
phi_begins p s end (x, (m, h, (v, (e, (u, w, ty)), is)), md) = ap begins_phi (named_word p.result words.Phi s m u h w)

-- ---- terminators

branch_found : (ns : List Name) (ts : List Sym) → IfSome (branch_at ns ts) (λ r. IsTerminator r.0 (ns, syms.Word words.Br ∷ syms.Word (words.Int widths.I1) ∷ ts) (r.1, r.2))
unfolding branch_at
branch_found ns ts =
    bind_found (value_at ns ts) _ (λ v. IsValue v.0 (ns, ts) (v.1, v.2)) _ (value_found ns ts) (λ v h.
    mark_finds marks.Comma v.1 v.2 _ _ (λ more c.
    bind_found (target_at v.1 more) _ (λ l. IsTarget l.0 (v.1, more) (l.1, l.2)) _ (target_found v.1 more) (λ x k.
    mark_finds marks.Comma x.1 x.2 _ _ (λ last d.
    bind_found (target_at x.1 last) _ (λ l. IsTarget l.0 (x.1, last) (l.1, l.2)) _ (target_found x.1 last) (λ y l.
    ((ns, ts), (refl, (syms.Word (words.Int widths.I1) ∷ ts, refl, refl)), ((v.1, v.2), h, ((v.1, more), c, ((x.1, x.2), k, ((x.1, last), d, l))))))))))

branch_again : (c : Operand) (x y : ℕ) (s end : Locals) → (IsValue c ⨾ comma ⨾ IsTarget x ⨾ comma ⨾ IsTarget y) s end → branch_at s.0 s.1 ≡ Some (terms.Branch c x y, end.0, end.1)
unfolding branch_at
branch_again c x y s end (m1, v, (m2, c1, (m3, l, (m4, c2, k)))) =
    bind_again (value_at s.0 s.1) (c, m1.0, m1.1) _ _ (value_again c s m1 v)
    (mark_step marks.Comma (λ ns ts. target_at ns ts >>= λ then_to. mark_at marks.Comma then_to.2 >>= λ last. target_at then_to.1 last >>= λ else_to. Some (terms.Branch c then_to.0 else_to.0, else_to.1, else_to.2)) m1 m2 _ c1
    (bind_again (target_at m2.0 m2.1) (x, m3.0, m3.1) _ _ (target_again x m2 m3 l)
    (mark_step marks.Comma (λ ns ts. target_at ns ts >>= λ else_to. Some (terms.Branch c x else_to.0, else_to.1, else_to.2)) m3 m4 _ c2
    (bind_again (target_at m4.0 m4.1) (y, end.0, end.1) _ _ (target_again y m4 end k) refl))))

jump_found : (ns : List Name) (ts : List Sym) → IfSome {T = Terminator × List Name × List Sym} (target_at ns ts >>= λ l. Some (terms.Jump l.0, l.1, l.2)) (λ r. IsTerminator r.0 (ns, syms.Word words.Br ∷ ts) (r.1, r.2))
jump_found ns ts = bind_found (target_at ns ts) _ (λ l. IsTarget l.0 (ns, ts) (l.1, l.2)) _ (target_found ns ts) (λ l h. ((ns, ts), (refl, refl), h))

br_found : (ns : List Name) (ts : List Sym) → IfSome (br_at ns ts) (λ r. IsTerminator r.0 (ns, syms.Word words.Br ∷ ts) (r.1, r.2))
unfolding br_at
br_found ns (syms.Word (words.Int widths.I1) ∷ ts) = branch_found ns ts
br_found ns ts = jump_found ns ts

case_found : (ns : List Name) (ts : List Sym) → IfSome (case_at ns ts) (λ r. IsCase r.0 (ns, ts) (r.1, r.2))
unfolding case_at
case_found ns ts =
    bind_found (typed_at ns ts) _ (λ a. IsTyped a.0 (ns, ts) (a.1, a.2)) _ (typed_found ns ts) (λ a h.
    mark_finds marks.Comma a.1 a.2 _ _ (λ more c.
    bind_found (target_at a.1 more) _ (λ l. IsTarget l.0 (a.1, more) (l.1, l.2)) _ (target_found a.1 more) (λ l k.
    ((a.1, a.2), h, ((a.1, more), c, k)))))

case_again : (c : Case) (s end : Locals) → IsCase c s end → case_at s.0 s.1 ≡ Some (c, end.0, end.1)
unfolding case_at
case_again c s end (m1, a, (m2, e, l)) =
    bind_again (typed_at s.0 s.1) (c.arg, m1.0, m1.1) _ _ (typed_again c.arg s m1 a)
    (mark_step marks.Comma (λ ns ts. target_at ns ts >>= λ l. Some (record { arg = c.arg; target = l.0 }, l.1, l.2)) m1 m2 _ e
    (bind_again (target_at m2.0 m2.1) (c.target, end.0, end.1) _ _ (target_again c.target m2 end l) refl))

type_begins_case : (t : Ty) (ts rest : List Sym) → IsType t ts rest → begins_case ts ≡ true
type_begins_case (int n) ts rest h = rw h.2 refl
type_begins_case ptr ts rest h = rw h refl
type_begins_case token ts rest h = rw h refl
type_begins_case (array n t) ts rest h = rw h.1 refl
type_begins_case (structure fs) ts rest h = rw h.1 refl
type_begins_case (named n) ts rest h = rw h refl

switch_found : (ns : List Name) (ts : List Sym) → IfSome (switch_at ns ts) (λ r. IsTerminator r.0 (ns, syms.Word words.Switch ∷ ts) (r.1, r.2))
unfolding switch_at
switch_found ns ts =
    bind_found (case_at ns ts) _ (λ c. IsCase c.0 (ns, ts) (c.1, c.2)) _ (case_found ns ts) (λ c h.
    mark_finds marks.OpenSquare c.1 c.2 _ _ (λ opened o.
    bind_found (many_at begins_case case_at c.1 opened) _ (λ r. each IsCase r.0 (c.1, opened) (r.1, r.2)) _ (many_found IsCase begins_case case_at case_found c.1 opened) (λ all k.
    mark_finds marks.CloseSquare all.1 all.2 _ _ (λ rest e.
    ((ns, ts), (refl, refl), (h.0, h.1, (h.2.0, h.2.1, ((c.1, c.2), h.2.2, ((c.1, opened), o, ((all.1, all.2), k, e))))))))))

switch_again : (a : Arg) (l : ℕ) (cases : List Case) (s end : Locals) → (IsTyped a ⨾ comma ⨾ IsTarget l ⨾ plain (mark marks.OpenSquare) ⨾ each IsCase cases ⨾ plain (mark marks.CloseSquare)) s end → switch_at s.0 s.1 ≡ Some (terms.Switch a l cases, end.0, end.1)
unfolding switch_at
switch_again a l cases s end (m1, h, (m2, c, (m3, k, (m4, o, (m5, all, e))))) =
    bind_again (case_at s.0 s.1) (record { arg = a; target = l }, m3.0, m3.1) _ _ (case_again (record { arg = a; target = l }) s m3 (m1, h, (m2, c, k)))
    (mark_step marks.OpenSquare (λ ns ts. many_at begins_case case_at ns ts >>= λ all. mark_at marks.CloseSquare all.2 >>= λ closed. Some (terms.Switch a l all.0, all.1, closed)) m3 m4 _ o
    (bind_again (many_at begins_case case_at m4.0 m4.1) (cases, m5.0, m5.1) _ _
    (many_again IsCase begins_case case_at (λ _. Unit {0}) case_takes (λ x u v p _. case_again x u v p) (λ x u v p. type_begins_case x.arg.ty u.1 p.1.0.1 p.1.1.1) (λ x u v p. tt) cases m4 m5 all tt (ap begins_case e.1))
    (mark_step marks.CloseSquare (λ ns rest. Some (terms.Switch a l cases, ns, rest)) m5 end _ e refl)))

ret_value_found : (ns : List Name) (ts : List Sym) → IfSome {T = Terminator × List Name × List Sym} (typed_at ns ts >>= λ a. Some (terms.Ret (Some a.0), a.1, a.2)) (λ r. IsTerminator r.0 (ns, syms.Word words.Ret ∷ ts) (r.1, r.2))
ret_value_found ns ts = bind_found (typed_at ns ts) _ (λ a. IsTyped a.0 (ns, ts) (a.1, a.2)) _ (typed_found ns ts) (λ a h. ((ns, ts), (refl, refl), h))

ret_found : (ns : List Name) (ts : List Sym) → IfSome (ret_at ns ts) (λ r. IsTerminator r.0 (ns, syms.Word words.Ret ∷ ts) (r.1, r.2))
unfolding ret_at
ret_found ns (syms.Word words.Void ∷ ts) = (refl, (syms.Word words.Void ∷ ts, refl, refl))
ret_found ns ts = ret_value_found ns ts

ended_found : (w : Word) (ns : List Name) (ts : List Sym) → IfSome (ended_at w ns ts) (λ r. IsTerminator r.0 (ns, syms.Word w ∷ ts) (r.1, r.2))
ended_found words.Br ns ts = br_found ns ts
ended_found words.Switch ns ts = switch_found ns ts
ended_found words.Ret ns ts = ret_found ns ts
ended_found words.Unreachable ns ts = (refl, refl)
ended_found _ ns ts = tt

-- a terminator and its metadata
abbrev pub Ended : Terminator → Naming
Ended t = IsTerminator t ⨾ plain metadata

pub terminator_found : (ns : List Name) (ts : List Sym) → IfSome (terminator_at ns ts) (λ r. Ended r.0 (ns, ts) (r.1, r.2))
unfolding terminator_at
terminator_found ns (syms.Word w ∷ ts) =
    bind_found (ended_at w ns ts) _ (λ t. IsTerminator t.0 (ns, syms.Word w ∷ ts) (t.1, t.2)) _ (ended_found w ns ts) (λ t h. ((t.1, t.2), h, (refl, metadata_found t.2)))
terminator_found ns _ = tt

-- what stands behind `br` and `ret`, where it isn't `i1` and `void`
by_jump : (l : ℕ) (s end : Locals) → IsTarget l s end → br_at s.0 s.1 ≡ (target_at s.0 s.1 >>= λ l. Some (terms.Jump l.0, l.1, l.2))
unfolding br_at
by_jump l s end h = rw h.1.1 refl

by_value : (t : Ty) (ns : List Name) (ts rest : List Sym) → IsType t ts rest → ret_at ns ts ≡ (typed_at ns ts >>= λ a. Some (terms.Ret (Some a.0), a.1, a.2))
unfolding ret_at
by_value (int n) ns ts rest h = rw h.2 refl
by_value ptr ns ts rest h = rw h refl
by_value token ns ts rest h = rw h refl
by_value (array n t) ns ts rest h = rw h.1 refl
by_value (structure fs) ns ts rest h = rw h.1 refl
by_value (named n) ns ts rest h = rw h refl

word_step : (t : Terminator) (ns : List Name) (w : Word) (ts us : List Sym) (end : Locals) → ts ≡ syms.Word w ∷ us → ended_at w ns us ≡ Some (t, end.0, end.1) → terminator_at ns ts ≡ Some (t, end.0, behind_metadata end.1)
unfolding terminator_at
word_step t ns w ts us end e k = ap (terminator_at ns) e ∙ bind_again (ended_at w ns us) (t, end.0, end.1) _ _ k refl

bare_again : (t : Terminator) (s end : Locals) → IsTerminator t s end → terminator_at s.0 s.1 ≡ Some (t, end.0, behind_metadata end.1)
unfolding br_at ret_at
bare_again (terms.Jump l) s end (m, (e, w), h) =
    word_step (terms.Jump l) s.0 words.Br s.1 m.1 end w
    (ap (λ ns. br_at ns m.1) e ∙ by_jump l m end h ∙ bind_again (target_at m.0 m.1) (l, end.0, end.1) _ _ (target_again l m end h) refl)
bare_again (terms.Branch c x y) s end (m, (e, (u, w, v)), h) =
    word_step (terms.Branch c x y) s.0 words.Br s.1 u end w (ap (br_at s.0) v ∙ ap (λ ns. branch_at ns m.1) e ∙ branch_again c x y m end h)
bare_again (terms.Switch a l cases) s end (m, (e, w), h) =
    word_step (terms.Switch a l cases) s.0 words.Switch s.1 m.1 end w (ap (λ ns. switch_at ns m.1) e ∙ switch_again a l cases m end h)
bare_again (terms.Ret None) s end (e, (u, w, v)) =
    word_step (terms.Ret None) s.0 words.Ret s.1 u end w (ap (ret_at s.0) v ∙ ap (λ (l : List Name). Some (terms.Ret None, l, end.1)) e)
bare_again (terms.Ret (Some a)) s end (m, (e, w), h) =
    word_step (terms.Ret (Some a)) s.0 words.Ret s.1 m.1 end w
    (ap (λ ns. ret_at ns m.1) e ∙ by_value a.ty m.0 m.1 h.0.1 h.1.1 ∙ bind_again (typed_at m.0 m.1) (a, end.0, end.1) _ _ (typed_again a m end h) refl)
bare_again terms.Unreachable s end (e, w) =
    word_step terms.Unreachable s.0 words.Unreachable s.1 end.1 end w (ap (λ (l : List Name). Some (terms.Unreachable, l, end.1)) e)

pub terminator_again : (t : Terminator) (s end : Locals) → Ended t s end → EndsLine end.1 → terminator_at s.0 s.1 ≡ Some (t, end.0, end.1)
terminator_again t s end h ends =
    bare_again t s h.0 h.1 ∙ ap (λ (l : List Sym). Some (t, h.0.0, l)) (metadata_again h.0.1 end.1 h.2.1 ends) ∙ ap (λ (l : List Name). Some (t, l, end.1)) h.2.0
