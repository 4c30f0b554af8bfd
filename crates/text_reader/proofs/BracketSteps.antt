-- A turn of the search for a closing bracket.
use Rattle.std.proofs.Common.{◌≡◌, List, [], ◌∷◌, ◌++◌, Bool, true, false, None, sym, ap, ◌∙◌, reverse, cond, ◌==◌}
use Rattle.std.specs.Prelude.{Some}
use Rattle.std.proofs.lemmas.List.{reverse-append}
use Rattle.text_reader.specs.declared.attrs.Bracket.{Bracket}
use Rattle.text_reader.specs.declared.attrs.Bracket.TheVariants as brackets
use Rattle.text_reader.specs.Attrs.{bracket_of, on_bracket, behind_close}
use Rattle.text_symbols.specs.declared.sym.Mark.{Mark}
use Rattle.text_symbols.specs.declared.sym.Sym.{Sym}
use Rattle.text_symbols.specs.Sym.{mark_number}

pub plain_turn : (t : Sym) (ts : List Sym) (st : List Mark) → bracket_of t ≡ brackets.No → behind_close (t ∷ ts) st ≡ behind_close ts st
plain_turn t ts st e = ap (λ (b : Bracket). on_bracket b ts st (behind_close ts)) e

pub open_turn : (t : Sym) (ts : List Sym) (n m : Mark) (xs ys : List Mark) → bracket_of t ≡ brackets.Opens m → ys ≡ xs ++ n ∷ [] → behind_close (t ∷ ts) (n ∷ reverse xs) ≡ behind_close ts (m ∷ reverse ys)
open_turn t ts n m xs ys e items =
    ap (λ (b : Bracket). on_bracket b ts (n ∷ reverse xs) (behind_close ts)) e ∙ ap (λ (l : List Mark). behind_close ts (m ∷ l)) (sym (reverse-append xs (n ∷ [])) ∙ ap reverse (sym items))

-- a bracket that closes another than the innermost
pub other_turn : (t : Sym) (ts : List Sym) (n m : Mark) (st : List Mark) → bracket_of t ≡ brackets.Closes m → (mark_number m == mark_number n) ≡ false → behind_close (t ∷ ts) (n ∷ st) ≡ None
other_turn t ts n m [] e off = ap (λ (b : Bracket). on_bracket b ts (n ∷ []) (behind_close ts)) e ∙ ap (λ (b : Bool). cond b (Some ts) None) off
other_turn t ts n m (o ∷ st) e off = ap (λ (b : Bracket). on_bracket b ts (n ∷ o ∷ st) (behind_close ts)) e ∙ ap (λ (b : Bool). cond b (behind_close ts (o ∷ st)) None) off

-- the outermost
pub last_turn : (t : Sym) (ts : List Sym) (n m : Mark) (xs : List Mark) → bracket_of t ≡ brackets.Closes m → (mark_number m == mark_number n) ≡ true → xs ≡ [] → behind_close (t ∷ ts) (n ∷ reverse xs) ≡ Some ts
last_turn t ts n m xs e same none =
    ap (λ (l : List Mark). behind_close (t ∷ ts) (n ∷ reverse l)) none ∙ ap (λ (b : Bracket). on_bracket b ts (n ∷ []) (behind_close ts)) e ∙ ap (λ (b : Bool). cond b (Some ts) None) same

-- another one
pub close_turn : (t : Sym) (ts : List Sym) (n m o : Mark) (xs ys : List Mark) → bracket_of t ≡ brackets.Closes m → (mark_number m == mark_number n) ≡ true → xs ≡ ys ++ o ∷ [] → behind_close (t ∷ ts) (n ∷ reverse xs) ≡ behind_close ts (o ∷ reverse ys)
close_turn t ts n m o xs ys e same items =
    ap (λ (l : List Mark). behind_close (t ∷ ts) (n ∷ l)) (ap reverse items ∙ reverse-append ys (o ∷ []))
    ∙ ap (λ (b : Bracket). on_bracket b ts (n ∷ o ∷ reverse ys) (behind_close ts)) e ∙ ap (λ (b : Bool). cond b (behind_close ts (o ∷ reverse ys)) None) same
