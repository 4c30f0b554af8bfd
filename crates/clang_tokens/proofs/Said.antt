-- Turns of the loop over the tokens of a line.
use Rattle.std.proofs.Common.{◌≡◌, ◌<◌, ◌≤◌, ℕ, Bool, true, false, List, [], ◌∷◌, ◌++◌, append_assoc, length, drop, None, refl, sym, ap, ◌∙◌, arith, eq-eqb}
use Rattle.std.specs.Prelude.{Some}
use Rattle.std.proofs.lemmas.Bool.{ne_eqb}
use Rattle.std.proofs.lemmas.List.{length-drop}
use Rattle.text_lexer.specs.Tokens.{first_token}
use Rattle.text_lexer.specs.Next.{IsBlankFrom, IsNoToken}
use Rattle.text_lexer.specs.declared.token.Kind.{Kind}
use Rattle.text_lexer.proofs.ListSteps.{all_at-some, all_at-none}
use Rattle.clang_tokens.specs.declared.listing.Listed.{Listed}
use Rattle.clang_tokens.specs.Listing.{is_blank, listed, tokens_of}

-- tokens before those of a line
abbrev pub before : List (List ℕ) → Listed → Listed
before xs s = record { tokens = xs ++ s.tokens; whole = s.whole }

abbrev pub listed_as : List (List ℕ) → Bool → Listed
listed_as l b = record { tokens = l; whole = b }

before-front : (xs ys : List (List ℕ)) (x : List ℕ) (s : Listed) → ys ≡ xs ++ x ∷ [] → before xs (before (x ∷ []) s) ≡ before ys s
before-front xs ys x s e =
    let same : xs ++ x ∷ s.tokens ≡ ys ++ s.tokens = sym (append_assoc xs (x ∷ []) s.tokens) ∙ ap (λ (l : List (List ℕ)). l ++ s.tokens) (sym e) in
    ap (λ (l : List (List ℕ)). listed_as l s.whole) same

pub said_turn : (text : List ℕ) (at end : ℕ) (xs ys : List (List ℕ)) (k : Kind) (w : List ℕ) → tokens_of text ≡ before xs (tokens_of (drop at text)) → first_token (drop at text) ≡ Some ((k, w), drop end text) → at < end → at < length text → ys ≡ xs ++ w ∷ [] → tokens_of text ≡ before ys (tokens_of (drop end text))
said_turn text at end xs ys k w inv e less within items =
    let shorter : length (drop end text) < length (drop at text) = omega (arith, length-drop end text, length-drop at text) in
    inv ∙ ap (before xs) (ap listed (all_at-some first_token (drop at text) (k, w) (drop end text) e shorter)) ∙ before-front xs ys w (tokens_of (drop end text)) items

append_none : (xs : List (List ℕ)) → xs ++ [] ≡ xs
append_none [] = refl
append_none (x ∷ xs) = ap (λ (l : List (List ℕ)). x ∷ l) (append_none xs)

said_none : (text : List ℕ) (at : ℕ) (xs : List (List ℕ)) (b : Bool) → tokens_of text ≡ before xs (tokens_of (drop at text)) → first_token (drop at text) ≡ None → is_blank (drop at text) ≡ b → tokens_of text ≡ listed_as xs b
said_none text at xs b inv e blank =
    inv ∙ ap (before xs) (ap listed (all_at-none first_token (drop at text) e)) ∙ ap (λ (l : List (List ℕ)). listed_as l (is_blank (drop at text))) (append_none xs) ∙ ap (listed_as xs) blank

pub said_end : (text : List ℕ) (at : ℕ) (xs : List (List ℕ)) → tokens_of text ≡ before xs (tokens_of (drop at text)) → at ≤ length text → first_token (drop at text) ≡ None → IsBlankFrom text at → tokens_of text ≡ listed_as xs true
said_end text at xs inv within e blank = said_none text at xs true inv e (eq-eqb _ _ (omega (arith, length-drop at text)))

pub said_bad : (text : List ℕ) (at place : ℕ) (xs : List (List ℕ)) → tokens_of text ≡ before xs (tokens_of (drop at text)) → at ≤ length text → first_token (drop at text) ≡ None → IsNoToken text at place → tokens_of text ≡ listed_as xs false
said_bad text at place xs inv within e bad = said_none text at xs false inv e (ne_eqb _ _ (λ same. omega (arith, length-drop at text, bad.first, bad.left)))
