-- Balanced texts and attributes: what is passed over is of the grammar, and what is of the grammar is passed over.
use Rattle.std.proofs.Common.{◌≡◌, ℕ, Bool, true, false, List, [], ◌∷◌, Option, None, refl, sym, ap, subst, ◌∙◌, inl, inr, unwrap_or}
use Rattle.std.specs.Prelude.{Some, IfSome}
use Rattle.text_grammar.specs.Phrases.{mark, perhaps}
use Rattle.text_grammar.specs.Attributes.{is_bracket, Pair, round, square, curly, Balanced, empty, other, nested, round_text, any_integer, Attr, presplit, in_group, plain_attr, IsAttr}
use Rattle.text_reader.specs.Attrs.{behind_close, behind_round, behind_equals, behind_integer, attr_at}
use Rattle.text_reader.specs.Groups.{has_group}
use Rattle.text_symbols.specs.declared.sym.Mark.{Mark}
use Rattle.text_symbols.specs.declared.sym.Mark.TheVariants as marks
use Rattle.text_symbols.specs.declared.sym.Sym.{Sym}
use Rattle.text_symbols.specs.declared.sym.Sym.TheVariants as syms
use Rattle.text_symbols.specs.declared.word.Word.TheVariants as words

-- ---- a balanced text is passed over

plain_step : (t : Sym) (ts : List Sym) (st : List Mark) → is_bracket t ≡ false → behind_close (t ∷ ts) st ≡ behind_close ts st
plain_step (syms.Mark marks.OpenRound) ts st h = absurd cc
plain_step (syms.Mark marks.CloseRound) ts st h = absurd cc
plain_step (syms.Mark marks.OpenSquare) ts st h = absurd cc
plain_step (syms.Mark marks.CloseSquare) ts st h = absurd cc
plain_step (syms.Mark marks.OpenCurly) ts st h = absurd cc
plain_step (syms.Mark marks.CloseCurly) ts st h = absurd cc
plain_step _ ts st h = refl

-- the mark that closes
abbrev closing : {o c : Sym} → Pair o c → Mark
closing round = marks.CloseRound
closing square = marks.CloseSquare
closing curly = marks.CloseCurly

open_step : (o c : Sym) (p : Pair o c) (ts : List Sym) (st : List Mark) → behind_close (o ∷ ts) st ≡ behind_close ts (closing p ∷ st)
open_step o c round ts st = refl
open_step o c square ts st = refl
open_step o c curly ts st = refl

close_step : (o c : Sym) (p : Pair o c) (ts : List Sym) (m : Mark) (st : List Mark) → behind_close (c ∷ ts) (closing p ∷ m ∷ st) ≡ behind_close ts (m ∷ st)
close_step o c round ts m st = refl
close_step o c square ts m st = refl
close_step o c curly ts m st = refl

last_step : (o c : Sym) (p : Pair o c) (ts : List Sym) → behind_close (c ∷ ts) (closing p ∷ []) ≡ Some ts
last_step o c round ts = refl
last_step o c square ts = refl
last_step o c curly ts = refl

balanced_again : (ts rest : List Sym) → Balanced ts rest → (m : Mark) (st : List Mark) → behind_close ts (m ∷ st) ≡ behind_close rest (m ∷ st)
balanced_again ts rest empty m st = refl
balanced_again ts rest (other {t = t} {ts = us} h b) m st = plain_step t us (m ∷ st) h ∙ balanced_again us rest b m st
balanced_again ts rest (nested {o = o} {c = c} {ts = us} {behind = behind} p b d) m st =
    open_step o c p us (m ∷ st)
    ∙ balanced_again us (c ∷ behind) b (closing p) (m ∷ st)
    ∙ close_step o c p behind m st
    ∙ balanced_again behind rest d m st

-- a balanced text and the bracket that closes it
pub closed_again : (o c : Sym) (p : Pair o c) (ts end rest : List Sym) → Balanced ts end → end ≡ c ∷ rest → behind_close ts (closing p ∷ []) ≡ Some rest
closed_again o c p ts end rest b e =
    balanced_again ts end b (closing p) [] ∙ ap (λ (l : List Sym). behind_close l (closing p ∷ [])) e ∙ last_step o c p rest

-- ---- what is passed over is balanced

Balanced-append : (ts mid rest : List Sym) → Balanced ts mid → Balanced mid rest → Balanced ts rest
Balanced-append ts mid rest empty k = k
Balanced-append ts mid rest (other {ts = us} h b) k = other h (Balanced-append us mid rest b k)
Balanced-append ts mid rest (nested {c = c} {ts = us} {behind = behind} p b d) k = nested p b (Balanced-append behind mid rest d k)

-- the symbols from the start up to here stand inside brackets that these close, the innermost first; the outermost was
-- opened before the start
abbrev Inside : Mark → List Mark → List Sym → List Sym → Type 0
Inside m [] start ts = Balanced start ts
Inside m (n ∷ st) start ts = (o : Sym) × (behind mid : List Sym) × Pair o (syms.Mark m) × Inside n st start mid × (mid ≡ o ∷ behind) × Balanced behind ts

Inside-append : (m : Mark) (st : List Mark) (start mid ts : List Sym) → Inside m st start mid → Balanced mid ts → Inside m st start ts
Inside-append m [] start mid ts h k = Balanced-append start mid ts h k
Inside-append m (n ∷ st) start mid ts h k = (h.0, h.1, h.2, h.3, h.4, h.5, Balanced-append h.1 mid ts h.6 k)

Inside-close : (m n : Mark) (st : List Mark) (start ts : List Sym) → Inside m (n ∷ st) start (syms.Mark m ∷ ts) → Inside n st start ts
Inside-close m n st start ts h = Inside-append n st start h.2 ts h.4 (subst (λ (l : List Sym). Balanced l ts) (sym h.5) (nested h.3 h.6 empty))

abbrev outermost : Mark → List Mark → Mark
outermost m [] = m
outermost m (n ∷ st) = outermost n st

-- the symbols from the start on are balanced up to the bracket that closes the outermost
abbrev Closes : Mark → List Sym → Option (List Sym) → Type 0
Closes m start o = IfSome o (λ rest. Balanced start (syms.Mark m ∷ rest))

closes_found : (ts : List Sym) (m : Mark) (st : List Mark) (start : List Sym) → Inside m st start ts → Closes (outermost m st) start (behind_close ts (m ∷ st))
closes_found [] m st start h = tt
closes_found (syms.Mark marks.OpenRound ∷ ts) m st start h = closes_found ts marks.CloseRound (m ∷ st) start (syms.Mark marks.OpenRound, ts, syms.Mark marks.OpenRound ∷ ts, round, h, refl, empty)
closes_found (syms.Mark marks.OpenSquare ∷ ts) m st start h = closes_found ts marks.CloseSquare (m ∷ st) start (syms.Mark marks.OpenSquare, ts, syms.Mark marks.OpenSquare ∷ ts, square, h, refl, empty)
closes_found (syms.Mark marks.OpenCurly ∷ ts) m st start h = closes_found ts marks.CloseCurly (m ∷ st) start (syms.Mark marks.OpenCurly, ts, syms.Mark marks.OpenCurly ∷ ts, curly, h, refl, empty)
closes_found (syms.Mark marks.CloseRound ∷ ts) marks.CloseRound [] start h = h
closes_found (syms.Mark marks.CloseRound ∷ ts) marks.CloseRound (n ∷ st) start h = closes_found ts n st start (Inside-close marks.CloseRound n st start ts h)
closes_found (syms.Mark marks.CloseRound ∷ ts) _ [] start h = tt
closes_found (syms.Mark marks.CloseRound ∷ ts) _ (n ∷ st) start h = tt
closes_found (syms.Mark marks.CloseSquare ∷ ts) marks.CloseSquare [] start h = h
closes_found (syms.Mark marks.CloseSquare ∷ ts) marks.CloseSquare (n ∷ st) start h = closes_found ts n st start (Inside-close marks.CloseSquare n st start ts h)
closes_found (syms.Mark marks.CloseSquare ∷ ts) _ [] start h = tt
closes_found (syms.Mark marks.CloseSquare ∷ ts) _ (n ∷ st) start h = tt
closes_found (syms.Mark marks.CloseCurly ∷ ts) marks.CloseCurly [] start h = h
closes_found (syms.Mark marks.CloseCurly ∷ ts) marks.CloseCurly (n ∷ st) start h = closes_found ts n st start (Inside-close marks.CloseCurly n st start ts h)
closes_found (syms.Mark marks.CloseCurly ∷ ts) _ [] start h = tt
closes_found (syms.Mark marks.CloseCurly ∷ ts) _ (n ∷ st) start h = tt
closes_found (t ∷ ts) m st start h = closes_found ts m st start (Inside-append m st start (t ∷ ts) ts h (other refl empty))

pub closed_found : (ts : List Sym) (m : Mark) → IfSome (behind_close ts (m ∷ [])) (λ rest. Balanced ts (syms.Mark m ∷ rest))
closed_found ts m = closes_found ts m [] ts empty

-- ---- an attribute

round_cases : (ts : List Sym) (o : Option (List Sym)) → IfSome o (λ rest. Balanced ts (syms.Mark marks.CloseRound ∷ rest)) → perhaps round_text (syms.Mark marks.OpenRound ∷ ts) (unwrap_or o (syms.Mark marks.OpenRound ∷ ts))
round_cases ts None h = inr refl
round_cases ts (Some rest) h = inl (ts, refl, (syms.Mark marks.CloseRound ∷ rest, h, refl))

round_found : (ts : List Sym) → perhaps round_text ts (behind_round ts)
round_found (syms.Mark marks.OpenRound ∷ ts) = round_cases ts (behind_close ts (marks.CloseRound ∷ [])) (closed_found ts marks.CloseRound)
round_found _ = inr refl

-- whether an attribute makes a coroutine, where these groups do
abbrev pub makes : List (List ℕ) → Attr → Bool
makes gs presplit = true
makes gs (in_group g) = has_group gs g
makes gs plain_attr = false

abbrev pub Told : List (List ℕ) → Bool → List Sym → List Sym → Type 0
Told gs b ts rest = (a : Attr) × IsAttr a ts rest × (b ≡ makes gs a)

equals_found : (ts : List Sym) → perhaps (mark marks.Equals) ts (behind_equals ts)
equals_found (syms.Mark marks.Equals ∷ ts) = inl refl
equals_found _ = inr refl

integer_found : (gs : List (List ℕ)) (all mid ts : List Sym) → all ≡ syms.Word words.Align ∷ mid → perhaps (mark marks.Equals) mid ts → IfSome (behind_integer ts) (λ r. Told gs r.0 all r.1)
integer_found gs all mid (syms.Int n ∷ ts) e p = (plain_attr, inr (inr (inl (mid, e, (syms.Int n ∷ ts, p, (n, inl refl))))), refl)
integer_found gs all mid (syms.Negative n ∷ ts) e p = (plain_attr, inr (inr (inl (mid, e, (syms.Negative n ∷ ts, p, (n, inr refl))))), refl)
integer_found gs all mid _ e p = tt

pub attr_found : (gs : List (List ℕ)) (ts : List Sym) → IfSome (attr_at gs ts) (λ r. Told gs r.0 ts r.1)
unfolding attr_at
attr_found gs (syms.Word words.Attr ∷ ts) = (plain_attr, inl (ts, refl, round_found ts), refl)
attr_found gs (syms.Word words.Comdat ∷ ts) = (plain_attr, inr (inl (ts, refl, round_found ts)), refl)
attr_found gs (syms.Word words.Align ∷ ts) = integer_found gs (syms.Word words.Align ∷ ts) ts (behind_equals ts) refl (equals_found ts)
attr_found gs (syms.Word words.Presplitcoroutine ∷ ts) = (presplit, refl, refl)
attr_found gs (syms.Group g ∷ ts) = (in_group g, refl, refl)
attr_found gs (syms.Str ∷ syms.Mark marks.Equals ∷ syms.Str ∷ ts) = (plain_attr, inr (inr (inr (syms.Mark marks.Equals ∷ syms.Str ∷ ts, refl, inl refl))), refl)
attr_found gs (syms.Str ∷ ts) = (plain_attr, inr (inr (inr (ts, refl, inr refl))), refl)
attr_found gs _ = tt

-- no bracket and no `=` that would belong to the attribute before
abbrev pub EndsAttr : List Sym → Type 0
EndsAttr (syms.Mark marks.OpenRound ∷ ts) = ⊥
EndsAttr (syms.Mark marks.Equals ∷ ts) = ⊥
EndsAttr _ = Unit {0}

no_round : (ts : List Sym) → EndsAttr ts → behind_round ts ≡ ts
no_round (syms.Mark marks.OpenRound ∷ ts) h = absurd h
no_round _ h = refl

round_again : (ts rest : List Sym) → perhaps round_text ts rest → EndsAttr rest → behind_round ts ≡ rest
round_again ts rest (inl h) ends =
    ap behind_round h.1 ∙ ap (λ o. unwrap_or o (syms.Mark marks.OpenRound ∷ h.0)) (closed_again _ _ round h.0 h.2.0 rest h.2.1 h.2.2)
round_again ts rest (inr h) ends = ap behind_round h ∙ no_round rest ends

behind_integer_again : (mid ts rest : List Sym) → perhaps (mark marks.Equals) mid ts → any_integer ts rest → behind_integer (behind_equals mid) ≡ Some (false, rest)
behind_integer_again mid ts rest (inl e) (n, inl h) = ap (λ l. behind_integer (behind_equals l)) (e ∙ ap (λ l. syms.Mark marks.Equals ∷ l) h)
behind_integer_again mid ts rest (inl e) (n, inr h) = ap (λ l. behind_integer (behind_equals l)) (e ∙ ap (λ l. syms.Mark marks.Equals ∷ l) h)
behind_integer_again mid ts rest (inr e) (n, inl h) = ap (λ l. behind_integer (behind_equals l)) (e ∙ h)
behind_integer_again mid ts rest (inr e) (n, inr h) = ap (λ l. behind_integer (behind_equals l)) (e ∙ h)

string_alone : (gs : List (List ℕ)) (ts : List Sym) → EndsAttr ts → attr_at gs (syms.Str ∷ ts) ≡ Some (false, ts)
unfolding attr_at
string_alone gs (syms.Mark marks.Equals ∷ ts) h = absurd h
string_alone gs _ h = refl

pub attr_again : (gs : List (List ℕ)) (a : Attr) (ts rest : List Sym) → IsAttr a ts rest → EndsAttr rest → attr_at gs ts ≡ Some (makes gs a, rest)
unfolding attr_at
attr_again gs presplit ts rest h ends = ap (attr_at gs) h
attr_again gs (in_group g) ts rest h ends = ap (attr_at gs) h
attr_again gs plain_attr ts rest (inl h) ends = ap (attr_at gs) h.1 ∙ ap (λ l. Some (false, l)) (round_again h.0 rest h.2 ends)
attr_again gs plain_attr ts rest (inr (inl h)) ends = ap (attr_at gs) h.1 ∙ ap (λ l. Some (false, l)) (round_again h.0 rest h.2 ends)
attr_again gs plain_attr ts rest (inr (inr (inl h))) ends = ap (attr_at gs) h.1 ∙ behind_integer_again h.0 h.2.0 rest h.2.1 h.2.2
attr_again gs plain_attr ts rest (inr (inr (inr (mid, e, inl h)))) ends = ap (attr_at gs) (e ∙ ap (λ l. syms.Str ∷ l) h)
attr_again gs plain_attr ts rest (inr (inr (inr (mid, e, inr h)))) ends = ap (attr_at gs) (e ∙ ap (λ l. syms.Str ∷ l) h) ∙ string_alone gs rest ends
