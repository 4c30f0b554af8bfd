-- Turns of the loop over the tokens of a text.
use Rattle.std.proofs.Common.{◌≡◌, ◌<◌, ◌≤◌, ℕ, Bool, true, false, List, [], ◌∷◌, ◌++◌, append_assoc, length, drop, None, refl, sym, ap, ◌∙◌, arith, eq-eqb}
use Rattle.std.specs.Prelude.{Some}
use Rattle.std.proofs.lemmas.Bool.{ne_eqb}
use Rattle.std.proofs.lemmas.List.{length-drop}
use Rattle.text_lexer.specs.Tokens.{first_token}
use Rattle.text_lexer.specs.Next.{IsBlankFrom, IsNoToken}
use Rattle.text_lexer.specs.declared.token.Kind.{Kind}
use Rattle.text_lexer.proofs.ListSteps.{all_at-some, all_at-none}
use Rattle.text_symbols.specs.declared.listing.Symbols.{Symbols}
use Rattle.text_symbols.specs.declared.sym.Sym.{Sym}
use Rattle.text_symbols.specs.Sym.{sym_of}
use Rattle.text_symbols.specs.Listing.{is_blank, said, symbols_of}

-- symbols before those that are said
abbrev pub before : List Sym → Symbols → Symbols
before xs s = record { symbols = xs ++ s.symbols; whole = s.whole }

abbrev pub said_as : List Sym → Bool → Symbols
said_as l b = record { symbols = l; whole = b }

before-front : (xs ys : List Sym) (x : Sym) (s : Symbols) → ys ≡ xs ++ x ∷ [] → before xs (before (x ∷ []) s) ≡ before ys s
before-front xs ys x s e =
    let same : xs ++ x ∷ s.symbols ≡ ys ++ s.symbols = sym (append_assoc xs (x ∷ []) s.symbols) ∙ ap (λ (l : List Sym). l ++ s.symbols) (sym e) in
    ap (λ (l : List Sym). said_as l s.whole) same

pub said_turn : (text : List ℕ) (at end : ℕ) (xs ys : List Sym) (k : Kind) (w : List ℕ) → symbols_of text ≡ before xs (symbols_of (drop at text)) → first_token (drop at text) ≡ Some ((k, w), drop end text) → at < end → at < length text → ys ≡ xs ++ sym_of (k, w) ∷ [] → symbols_of text ≡ before ys (symbols_of (drop end text))
said_turn text at end xs ys k w inv e less within items =
    let shorter : length (drop end text) < length (drop at text) = omega (arith, length-drop end text, length-drop at text) in
    inv ∙ ap (before xs) (ap said (all_at-some first_token (drop at text) (k, w) (drop end text) e shorter)) ∙ before-front xs ys (sym_of (k, w)) (symbols_of (drop end text)) items

append_none : (xs : List Sym) → xs ++ [] ≡ xs
append_none [] = refl
append_none (x ∷ xs) = ap (λ (l : List Sym). x ∷ l) (append_none xs)

said_none : (text : List ℕ) (at : ℕ) (xs : List Sym) (b : Bool) → symbols_of text ≡ before xs (symbols_of (drop at text)) → first_token (drop at text) ≡ None → is_blank (drop at text) ≡ b → symbols_of text ≡ said_as xs b
said_none text at xs b inv e blank =
    inv ∙ ap (before xs) (ap said (all_at-none first_token (drop at text) e)) ∙ ap (λ (l : List Sym). said_as l (is_blank (drop at text))) (append_none xs) ∙ ap (said_as xs) blank

pub said_end : (text : List ℕ) (at : ℕ) (xs : List Sym) → symbols_of text ≡ before xs (symbols_of (drop at text)) → at ≤ length text → first_token (drop at text) ≡ None → IsBlankFrom text at → symbols_of text ≡ said_as xs true
said_end text at xs inv within e blank = said_none text at xs true inv e (eq-eqb _ _ (omega (arith, length-drop at text)))

pub said_bad : (text : List ℕ) (at place : ℕ) (xs : List Sym) → symbols_of text ≡ before xs (symbols_of (drop at text)) → at ≤ length text → first_token (drop at text) ≡ None → IsNoToken text at place → symbols_of text ≡ said_as xs false
said_bad text at place xs inv within e bad = said_none text at xs false inv e (ne_eqb _ _ (λ same. omega (arith, length-drop at text, bad.first, bad.left)))
