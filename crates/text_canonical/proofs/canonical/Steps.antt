-- A blank or a token at the front of a text.
use Rattle.std.proofs.Common.{◌≡◌, ℕ, zero, suc, not, append_assoc, ◌+◌, ◌<◌, ◌≤◌, Bool, true, false, cond, List, [], ◌∷◌, ◌++◌, length, take, drop, ◌==◌, ◌||◌, refl, sym, ap, ◌∙◌, arith, Option, None}
use Rattle.std.specs.Prelude.{Some}
use Rattle.std.proofs.lemmas.Bool.{and_parts, eqb-true}
use Rattle.std.proofs.lemmas.Bool.Decides.{nat_tests}
use Rattle.std.proofs.lemmas.List.{length-append, length-drop, drop_at}
use Rattle.text_lexer.specs.Bytes.{is_blank as is_blank_byte}
use Rattle.text_lexer.specs.Scan.{blank_len, comment_len, token_at}
use Rattle.text_lexer.specs.Tokens.{cut, first_token}
use Rattle.text_lexer.specs.declared.token.Kind.{Kind}
use Rattle.text_lexer.proofs.ListSteps.{all_at-some, all_at-none}
use Rattle.text_lexer.proofs.Tokens.{longest_token, longest_some}
use Rattle.text_symbols.specs.Listing.{is_blank, said, symbols_of}
use Rattle.text_canonical.specs.canonical.Lines.{lacks}
use Rattle.text_symbols.specs.Sym.{sym_of}
use Rattle.text_symbols.specs.declared.listing.Symbols.{Symbols}
use Rattle.text_symbols.specs.declared.sym.Sym.{Sym}

-- symbols before those that are said
abbrev pub before : List Sym → Symbols → Symbols
before xs s = record { symbols = xs ++ s.symbols; whole = s.whole }

abbrev pub said_as : List Sym → Bool → Symbols
said_as l b = record { symbols = l; whole = b }

-- ---- no blank begins a token

no_token : (b : ℕ) (bs : List ℕ) (blank semicolon : Bool) → is_blank_byte b ≡ blank → (b == 59) ≡ semicolon → (blank || semicolon) ≡ true → token_at (b ∷ bs) ≡ None
no_token b bs blank true e f h = let is : b ≡ 59 = eqb-true b 59 f in rw is refl
no_token b bs true false e f h = split (b == 32) (b == 9) (b == 13) (b == 10) refl refl refl refl e
  where
    split : (p q r s : Bool) → (b == 32) ≡ p → (b == 9) ≡ q → (b == 13) ≡ r → (b == 10) ≡ s → (p || (q || (r || s))) ≡ true → token_at (b ∷ bs) ≡ None
    split true q r s ep eq er es h = let is : b ≡ 32 = eqb-true b 32 ep in rw is refl
    split false true r s ep eq er es h = let is : b ≡ 9 = eqb-true b 9 eq in rw is refl
    split false false true s ep eq er es h = let is : b ≡ 13 = eqb-true b 13 er in rw is refl
    split false false false true ep eq er es h = let is : b ≡ 10 = eqb-true b 10 es in rw is refl
    split false false false false ep eq er es h = absurd cc
no_token b bs false false e f h = absurd cc

-- a text that begins with a token begins with no blank
pub no_blank : (text : List ℕ) (x : Kind × ℕ) → token_at text ≡ Some x → blank_len text ≡ 0
no_blank [] x e = refl
no_blank (b ∷ bs) x e = split (is_blank_byte b) (b == 59) refl refl
  where
    split : (blank semicolon : Bool) → is_blank_byte b ≡ blank → (b == 59) ≡ semicolon → cond blank (1 + blank_len bs) (cond semicolon (1 + comment_len bs) 0) ≡ 0
    split true semicolon eb es = let bad : token_at (b ∷ bs) ≡ None = no_token b bs true semicolon eb es refl in absurd cc
    split false true eb es = let bad : token_at (b ∷ bs) ≡ None = no_token b bs false true eb es refl in absurd cc
    split false false eb es = refl

-- ---- a token

first_is : (w rest : List ℕ) (k : Kind) → token_at (w ++ rest) ≡ Some (k, length w) → first_token (w ++ rest) ≡ Some ((k, w), rest)
unfolding first_token
first_is w rest k e =
    let none : blank_len (w ++ rest) ≡ 0 = no_blank (w ++ rest) (k, length w) e in
    ap (λ (n : ℕ). cut (drop n (w ++ rest)) (token_at (drop n (w ++ rest)))) none
    ∙ ap (cut (w ++ rest)) e
    ∙ ap (λ (l : List ℕ). Some ((k, l), drop (length w) (w ++ rest))) (take_at w rest)
    ∙ ap (λ (l : List ℕ). Some ((k, w), l)) (drop_at w rest (length w) refl)
  where
    take_at : (w rest : List ℕ) → take (length w) (w ++ rest) ≡ w
    take_at [] rest = refl
    take_at (b ∷ bs) rest = ap (λ (l : List ℕ). b ∷ l) (take_at bs rest)

-- a token at the front, and what the text behind it says
pub token_said : (w rest : List ℕ) (k : Kind) → 0 < length w → token_at (w ++ rest) ≡ Some (k, length w) → symbols_of (w ++ rest) ≡ before (sym_of (k, w) ∷ []) (symbols_of rest)
token_said w rest k some e =
    let shorter : length rest < length (w ++ rest) = omega (arith, length-append w rest) in
    ap said (all_at-some first_token (w ++ rest) (k, w) rest (first_is w rest k e) shorter)

-- ---- a blank

found_shorter : (text : List ℕ) (k : Kind) (w rest : List ℕ) (o : Option (Kind × ℕ)) → token_at text ≡ o → cut text o ≡ Some ((k, w), rest) → length rest < length text
found_shorter text k w rest None e c = absurd cc
found_shorter text k w rest (Some x) e c =
    let longest = longest_token text x.0 x.1 e in
    let some : 0 < x.1 = longest_some text x.0 x.1 longest in
    let within : x.1 ≤ length text = longest.within in
    let pairs : ◌≡◌ {A = (Kind × List ℕ) × List ℕ} ((x.0, take x.1 text), drop x.1 text) ((k, w), rest) = cc in
    let is : drop x.1 text ≡ rest = ap (λ (y : (Kind × List ℕ) × List ℕ). y.1) pairs in
    omega (arith, ap length is, length-drop x.1 text)

first_shorter : (text : List ℕ) (k : Kind) (w rest : List ℕ) → first_token text ≡ Some ((k, w), rest) → length rest < length text
unfolding first_token
first_shorter text k w rest e =
    let less = found_shorter (drop (blank_len text) text) k w rest _ refl e in
    omega (arith, length-drop (blank_len text) text, less)

not_true : (t : Bool) → not t ≡ true → t ≡ false
not_true true h = absurd cc
not_true false h = refl

drop_past : (w rest : List ℕ) (n k : ℕ) → k ≡ length w + n → drop k (w ++ rest) ≡ drop n rest
drop_past [] rest n k e = let same : k ≡ n = omega (arith, e) in ap (λ (m : ℕ). drop m rest) same
drop_past (b ∷ bs) rest n zero e = absurd (omega (arith, e))
drop_past (b ∷ bs) rest n (suc k) e = drop_past bs rest n k (omega (arith, e))

-- blanks and comments at the front
skipped_first : (w rest : List ℕ) → blank_len (w ++ rest) ≡ length w + blank_len rest → first_token (w ++ rest) ≡ first_token rest
unfolding first_token
skipped_first w rest e = ap (λ (l : List ℕ). cut l (token_at l)) (drop_past w rest (blank_len rest) (blank_len (w ++ rest)) e)

skipped_same : (w rest : List ℕ) → blank_len (w ++ rest) ≡ length w + blank_len rest → is_blank (w ++ rest) ≡ is_blank rest
skipped_same w rest e = rw (e, length-append w rest) (sums (length w) (blank_len rest) (length rest))
  where
    sums : (k m n : ℕ) → (k + m == k + n) ≡ (m == n)
    sums k m n = grind (arith, nat_tests)

-- they say nothing
pub skipped_said : (w rest : List ℕ) → blank_len (w ++ rest) ≡ length w + blank_len rest → symbols_of (w ++ rest) ≡ symbols_of rest
skipped_said w rest e = split (first_token rest) refl
  where
    split : (o : Option ((Kind × List ℕ) × List ℕ)) → first_token rest ≡ o → symbols_of (w ++ rest) ≡ symbols_of rest
    split None f =
        ap said (all_at-none first_token (w ++ rest) (skipped_first w rest e ∙ f))
        ∙ ap (λ (t : Bool). said_as [] t) (skipped_same w rest e)
        ∙ sym (ap said (all_at-none first_token rest f))
    split (Some x) f =
        let less : length x.1 < length rest = first_shorter rest x.0.0 x.0.1 x.1 f in
        ap said (all_at-some first_token (w ++ rest) x.0 x.1 (skipped_first w rest e ∙ f) (omega (arith, less, length-append w rest)))
        ∙ sym (ap said (all_at-some first_token rest x.0 x.1 f less))

-- a blank at the front says nothing
pub blank_said : (b : ℕ) (rest : List ℕ) → is_blank_byte b ≡ true → symbols_of (b ∷ rest) ≡ symbols_of rest
blank_said b rest e = skipped_said (b ∷ []) rest (rw e (omega arith))

line_len : (line rest : List ℕ) → lacks 10 line ≡ true → comment_len (line ++ 10 ∷ rest) ≡ suc (length line) + blank_len rest
line_len [] rest h = omega arith
line_len (b ∷ bs) rest h =
    let parts = and_parts (not (b == 10)) (lacks 10 bs) h in
    let other : (b == 10) ≡ false = not_true (b == 10) parts.0 in
    rw other (omega (arith, line_len bs rest parts.1))

-- a comment and its line feed say nothing
pub comment_said : (line rest : List ℕ) → lacks 10 line ≡ true → symbols_of ((59 ∷ line ++ 10 ∷ []) ++ rest) ≡ symbols_of rest
comment_said line rest h =
    let len : length (line ++ 10 ∷ []) ≡ length line + 1 = length-append line (10 ∷ []) in
    let same : comment_len ((line ++ 10 ∷ []) ++ rest) ≡ suc (length line) + blank_len rest = ap comment_len (append_assoc line (10 ∷ []) rest) ∙ line_len line rest h in
    skipped_said (59 ∷ line ++ 10 ∷ []) rest (omega (arith, same, len))
