-- A token is of one kind.
use Rattle.std.proofs.Common.{◌≡◌, ℕ, inl, inr, Bool, true, false, cond, List, [], ◌∷◌, ◌++◌, ◌==◌, ◌||◌, refl, sym, ap, ◌∙◌, arith}
use Rattle.std.proofs.lemmas.Bool.{eqb-true}
use Rattle.std.proofs.lemmas.Bool.Decides.{nat_tests}
use Rattle.std.proofs.lemmas.Grind.{common_steps}
use Rattle.text_lexer.specs.Bytes.{is_digit, is_name_byte, is_word_start, is_mark}
use Rattle.text_lexer.specs.Token.{Each, Some, IsQuoted, IsName, IsToken}
use Rattle.text_lexer.specs.Kinds.{ends_colon, kind_begun, kind_of}
use Rattle.text_lexer.specs.declared.token.Kind.{Kind}
use Rattle.text_lexer.specs.declared.token.Kind.TheVariants.{Label, Word, Int, String, Local, Global, Group, Meta, Mark}
use Rattle.text_lexer.proofs.Fronts.{other_byte}

ends_colon-append : (xs : List ℕ) (b : ℕ) → ends_colon (xs ++ b ∷ []) ≡ (b == 58)
ends_colon-append [] b = refl
ends_colon-append (x ∷ []) b = refl
ends_colon-append (x ∷ y ∷ xs) b = ends_colon-append (y ∷ xs) b

ends_colon-each : (p : ℕ → Bool) (bs : List ℕ) → p 58 ≡ false → Each p bs → ends_colon bs ≡ false
ends_colon-each p [] off h = refl
ends_colon-each p (b ∷ []) off h = other_byte p b 58 h.0 off
ends_colon-each p (b ∷ c ∷ bs) off h = ends_colon-each p (c ∷ bs) off h.1

ends_colon-quoted : (w : List ℕ) → IsQuoted w → ends_colon w ≡ false
ends_colon-quoted w q = ap ends_colon q.2 ∙ ends_colon-append (34 ∷ q.0) 34

ends_colon-name : (w : List ℕ) → IsName w → ends_colon w ≡ false
ends_colon-name w (inl h) = ends_colon-each is_name_byte w refl h.1
ends_colon-name w (inr q) = ends_colon-quoted w q

-- what a label's name begins with is followed by more, the colon last
label_kind : (name : List ℕ) → IsName name → kind_of (name ++ 58 ∷ []) ≡ Label
label_kind [] (inl h) = absurd (omega (arith, h.0))
label_kind [] (inr q) = absurd cc
label_kind (b ∷ bs) h = ap (λ (t : Bool). cond t Label (kind_begun b)) (ends_colon-append bs 58)

plain_kind : (b : ℕ) (bs : List ℕ) → ends_colon bs ≡ false → kind_of (b ∷ bs) ≡ kind_begun b
plain_kind b bs e = ap (λ (t : Bool). cond t Label (kind_begun b)) e

word_begun : (b : ℕ) → is_word_start b ≡ true → kind_begun b ≡ Word
word_begun b h = rw h refl

digit_no_word : (b : ℕ) → is_digit b ≡ true → is_word_start b ≡ false
digit_no_word b h = grind (arith, nat_tests, common_steps)

int_begun : (b : ℕ) → is_digit b ≡ true → kind_begun b ≡ Int
int_begun b h = let off : is_word_start b ≡ false = digit_no_word b h in rw (off, h) refl

digits_kind : (w : List ℕ) → Some is_digit w → kind_of w ≡ Int
digits_kind [] h = absurd (omega (arith, h.0))
digits_kind (b ∷ bs) h = plain_kind b bs (ends_colon-each is_digit bs refl h.1.1) ∙ int_begun b h.1.0

or_cases : (p : ℕ → Bool) (b c : ℕ) (t : Bool) → p c ≡ false → (t ≡ true → p b ≡ false) → ((b == c) || t) ≡ true → p b ≡ false
or_cases p b c t at_c later h = split (b == c) refl h
  where
    split : (u : Bool) → (b == c) ≡ u → (u || t) ≡ true → p b ≡ false
    split true e h = ap p (eqb-true b c e) ∙ at_c
    split false e h = later h

-- what isn't so at any mark isn't so at this one
off_marks : (p : ℕ → Bool) (b : ℕ) → p 61 ≡ false → p 44 ≡ false → p 40 ≡ false → p 41 ≡ false → p 91 ≡ false → p 93 ≡ false → p 123 ≡ false → p 125 ≡ false → p 58 ≡ false → p 124 ≡ false → p 42 ≡ false → is_mark b ≡ true → p b ≡ false
off_marks p b e0 e1 e2 e3 e4 e5 e6 e7 e8 e9 e10 h =
    or_cases p b 61 _ e0 (or_cases p b 44 _ e1 (or_cases p b 40 _ e2 (or_cases p b 41 _ e3 (or_cases p b 91 _ e4 (or_cases p b 93 _ e5 (or_cases p b 123 _ e6 (or_cases p b 125 _ e7 (or_cases p b 58 _ e8 (or_cases p b 124 _ e9 (λ last. ap p (eqb-true b 42 last) ∙ e10)))))))))) h

mark_no_word : (b : ℕ) → is_mark b ≡ true → is_word_start b ≡ false
mark_no_word b h = off_marks is_word_start b refl refl refl refl refl refl refl refl refl refl refl h

mark_no_digit : (b : ℕ) → is_mark b ≡ true → is_digit b ≡ false
mark_no_digit b h = off_marks is_digit b refl refl refl refl refl refl refl refl refl refl refl h

mark_begun : (b : ℕ) → is_mark b ≡ true → kind_begun b ≡ Mark
mark_begun b h =
    let no_word = mark_no_word b h in
    let no_digit = mark_no_digit b h in
    rw (no_word, no_digit, other_byte is_mark b 45 h refl, other_byte is_mark b 34 h refl, other_byte is_mark b 37 h refl, other_byte is_mark b 64 h refl, other_byte is_mark b 35 h refl, other_byte is_mark b 33 h refl) refl

pub token_kind : (k : Kind) (w : List ℕ) → IsToken k w → kind_of w ≡ k
token_kind Label w h = ap kind_of h.2 ∙ label_kind h.0 h.1
token_kind Word w h = ap kind_of h.4 ∙ plain_kind h.0 h.1 (ends_colon-each is_name_byte h.1 refl h.3) ∙ word_begun h.0 h.2
token_kind Int w (inl h) = digits_kind w h
token_kind Int w (inr h) = ap kind_of h.2 ∙ plain_kind 45 h.0 (ends_colon-each is_digit h.0 refl h.1.1)
token_kind String w h = ap kind_of h.2 ∙ plain_kind 34 (h.0 ++ 34 ∷ []) (ends_colon-append h.0 34)
token_kind Local w h = ap kind_of h.2 ∙ plain_kind 37 h.0 (ends_colon-name h.0 h.1)
token_kind Global w h = ap kind_of h.2 ∙ plain_kind 64 h.0 (ends_colon-name h.0 h.1)
token_kind Group w h = ap kind_of h.2 ∙ plain_kind 35 h.0 (ends_colon-each is_digit h.0 refl h.1.1)
token_kind Meta w h = ap kind_of h.2 ∙ plain_kind 33 h.0 (ends_colon-each is_name_byte h.0 refl h.1)
token_kind Mark w h = ap kind_of h.2 ∙ mark_begun h.0 h.1

pub same_kind : (j k : Kind) (w : List ℕ) → IsToken j w → IsToken k w → j ≡ k
same_kind j k w a b = sym (token_kind j w a) ∙ token_kind k w b
