-- A token before a byte that can't prolong it is the token at the front.
use Rattle.std.proofs.Common.{◌≡◌, ℕ, suc, ◌+◌, ◌<◌, inl, inr, Bool, true, false, not, ◌&&◌, List, [], ◌∷◌, ◌++◌, length, ◌==◌, nat_lt, ◌||◌, zero, refl, sym, ap, subst, ◌∙◌, append_assoc, arith, Option}
use Rattle.std.specs.Prelude.{Some as Just}
use Rattle.std.specs.List.{prefix_len}
use Rattle.std.proofs.lemmas.Bool.{and_parts, lt-ltb, or_left, or_right, or_parts}
use Rattle.std.proofs.lemmas.Bool.Decides.{nat_tests}
use Rattle.std.proofs.lemmas.Grind.{common_steps}
use Rattle.std.proofs.Math.Dec.{eqb-suc-zero}
use Rattle.std.proofs.lemmas.List.{length-append, drop_at}
use Rattle.text_lexer.specs.Bytes.{is_digit, is_name_byte, is_word_start, is_mark}
use Rattle.text_lexer.specs.Scan.{any_name_len, behind, is_label, plain_token_at, token_at}
use Rattle.text_lexer.specs.Token.{Each, Some, is_inside, IsName}
use Rattle.text_lexer.specs.declared.token.Kind.{Kind}
use Rattle.text_lexer.specs.declared.token.Kind.TheVariants.{Label, Word, Int, Local, Global, Mark}
use Rattle.text_lexer.proofs.Fronts.{other_byte, prefix_len-stop, close_len-append, any_name_len-colon}

-- a byte that prolongs no name, number or word, and makes no label of them
abbrev pub is_stop : ℕ → Bool
is_stop b = not (is_name_byte b) && not (b == 58)

not_true : (t : Bool) → not t ≡ true → t ≡ false
not_true true h = absurd cc
not_true false h = refl

stop_name : (c : ℕ) → is_stop c ≡ true → is_name_byte c ≡ false
stop_name c h = not_true (is_name_byte c) (and_parts (not (is_name_byte c)) (not (c == 58)) h).0

stop_colon : (c : ℕ) → is_stop c ≡ true → (c == 58) ≡ false
stop_colon c h = not_true (c == 58) (and_parts (not (is_name_byte c)) (not (c == 58)) h).1

-- ---- names

plain_not : (b : ℕ) → is_name_byte b ≡ true → (b == 34) ≡ false
plain_not b h = other_byte is_name_byte b 34 h refl

name_len-quoted : (inside rest : List ℕ) → Each is_inside inside → any_name_len (34 ∷ inside ++ 34 ∷ rest) ≡ suc (suc (length inside))
name_len-quoted inside rest h = rw (close_len-append inside rest h, eqb-suc-zero) (omega arith)

name_len-plain : (w : List ℕ) (c : ℕ) (rest : List ℕ) → 0 < length w → Each is_name_byte w → is_stop c ≡ true → any_name_len (w ++ c ∷ rest) ≡ length w
name_len-plain [] c rest some h stop = absurd (omega arith)
name_len-plain (b ∷ bs) c rest some h stop = rw (plain_not b h.0) (prefix_len-stop is_name_byte (b ∷ bs) c rest h (stop_name c stop))

-- a name before a byte that can't prolong it is as long as it is
pub name_len : (w : List ℕ) (c : ℕ) (rest : List ℕ) → IsName w → is_stop c ≡ true → any_name_len (w ++ c ∷ rest) ≡ length w
name_len w c rest (inl h) stop = name_len-plain w c rest h.0 h.1 stop
name_len w c rest (inr q) stop =
    let here : any_name_len ((34 ∷ q.0 ++ 34 ∷ []) ++ c ∷ rest) ≡ length (34 ∷ q.0 ++ 34 ∷ []) =
    ap (λ (l : List ℕ). any_name_len (34 ∷ l)) (append_assoc q.0 (34 ∷ []) (c ∷ rest)) ∙ name_len-quoted q.0 (c ∷ rest) q.1 ∙ omega (arith, length-append q.0 (34 ∷ [])) in
    subst (λ (l : List ℕ). any_name_len (l ++ c ∷ rest) ≡ length l) (sym q.2) here

-- what begins with a plain name that no colon follows is no label
no_label : (w : List ℕ) (c : ℕ) (rest : List ℕ) → 0 < length w → Each is_name_byte w → is_stop c ≡ true → is_label (w ++ c ∷ rest) ≡ false
no_label w c rest some h stop =
    let len : any_name_len (w ++ c ∷ rest) ≡ length w = name_len-plain w c rest some h stop in
    let pos : nat_lt 0 (length w) ≡ true = lt-ltb 0 (length w) some in
    rw (len, pos, drop_at w (c ∷ rest) (length w) refl) (stop_colon c stop)

label_off : (bs : List ℕ) (x : Option (Kind × ℕ)) → is_label bs ≡ false → plain_token_at bs ≡ x → token_at bs ≡ x
label_off bs x e f = rw e f

-- ---- words and numbers

word_start_name : (b : ℕ) → is_word_start b ≡ true → is_name_byte b ≡ true
word_start_name b h = rw h refl

pub word_front : (b : ℕ) (bs : List ℕ) (c : ℕ) (rest : List ℕ) → is_word_start b ≡ true → Each is_name_byte bs → is_stop c ≡ true → token_at ((b ∷ bs) ++ c ∷ rest) ≡ Just (Word, length (b ∷ bs))
word_front b bs c rest h each stop =
    let all : Each is_name_byte (b ∷ bs) = (word_start_name b h, each) in
    let len : prefix_len is_name_byte ((b ∷ bs) ++ c ∷ rest) ≡ length (b ∷ bs) = prefix_len-stop is_name_byte (b ∷ bs) c rest all (stop_name c stop) in
    let plain : plain_token_at ((b ∷ bs) ++ c ∷ rest) ≡ Just (Word, prefix_len is_name_byte ((b ∷ bs) ++ c ∷ rest)) = rw h refl in
    label_off ((b ∷ bs) ++ c ∷ rest) _ (no_label (b ∷ bs) c rest (omega arith) all stop) (plain ∙ ap (λ (n : ℕ). Just (Word, n)) len)

digit_name : (b : ℕ) → is_digit b ≡ true → is_name_byte b ≡ true
digit_name b h = or_left (is_word_start b || is_digit b) (b == 45) (or_right (is_word_start b) (is_digit b) h)

pub digits_are_names : (bs : List ℕ) → Each is_digit bs → Each is_name_byte bs
digits_are_names [] h = tt
digits_are_names (b ∷ bs) h = (digit_name b h.0, digits_are_names bs h.1)

name_no_digit : (c : ℕ) → is_name_byte c ≡ false → is_digit c ≡ false
name_no_digit c h = (or_parts (is_word_start c) (is_digit c) (or_parts (is_word_start c || is_digit c) (c == 45) h).0).1

digit_no_word : (b : ℕ) → is_digit b ≡ true → is_word_start b ≡ false
digit_no_word b h = grind (arith, nat_tests, common_steps)

digits_len : (w : List ℕ) (c : ℕ) (rest : List ℕ) → Each is_digit w → is_stop c ≡ true → prefix_len is_digit (w ++ c ∷ rest) ≡ length w
digits_len w c rest h stop = prefix_len-stop is_digit w c rest h (name_no_digit c (stop_name c stop))

pub digits_front : (w : List ℕ) (c : ℕ) (rest : List ℕ) → Some is_digit w → is_stop c ≡ true → token_at (w ++ c ∷ rest) ≡ Just (Int, length w)
digits_front [] c rest h stop = absurd (omega (arith, h.0))
digits_front (b ∷ bs) c rest h stop =
    let off : is_word_start b ≡ false = digit_no_word b h.1.0 in
    let on : is_digit b ≡ true = h.1.0 in
    let plain : plain_token_at ((b ∷ bs) ++ c ∷ rest) ≡ Just (Int, prefix_len is_digit ((b ∷ bs) ++ c ∷ rest)) = rw (off, on) refl in
    label_off ((b ∷ bs) ++ c ∷ rest) _ (no_label (b ∷ bs) c rest h.0 (digits_are_names (b ∷ bs) h.1) stop) (plain ∙ ap (λ (n : ℕ). Just (Int, n)) (digits_len (b ∷ bs) c rest h.1 stop))

behind_some : (k : Kind) (m n : ℕ) → m ≡ n → 0 < n → behind k m ≡ Just (k, suc n)
behind_some k m n e some = positive n some (ap (behind k) e)
  where
    positive : (n : ℕ) → 0 < n → behind k m ≡ behind k n → behind k m ≡ Just (k, suc n)
    positive zero some e = absurd (omega arith)
    positive (suc n) some e =
        let one : 1 + suc n ≡ suc (suc n) = omega arith in
        let here : behind k (suc n) ≡ Just (k, suc (suc n)) = rw eqb-suc-zero (ap (λ (m : ℕ). Just (k, m)) one) in
        e ∙ here

pub negative_front : (digits : List ℕ) (c : ℕ) (rest : List ℕ) → Some is_digit digits → is_stop c ≡ true → token_at ((45 ∷ digits) ++ c ∷ rest) ≡ Just (Int, length (45 ∷ digits))
negative_front digits c rest h stop =
    label_off ((45 ∷ digits) ++ c ∷ rest) _ (no_label (45 ∷ digits) c rest (omega arith) (refl, digits_are_names digits h.1) stop)
    (behind_some Int (prefix_len is_digit (digits ++ c ∷ rest)) (length digits) (digits_len digits c rest h.1 stop) h.0)

-- ---- locals, globals, labels and marks

name_some : (w : List ℕ) → IsName w → 0 < length w
name_some w (inl h) = h.0
name_some w (inr q) = rw q.2 (omega arith)

pub local_front : (name : List ℕ) (c : ℕ) (rest : List ℕ) → IsName name → is_stop c ≡ true → token_at ((37 ∷ name) ++ c ∷ rest) ≡ Just (Local, length (37 ∷ name))
local_front name c rest h stop = behind_some Local (any_name_len (name ++ c ∷ rest)) (length name) (name_len name c rest h stop) (name_some name h)

pub global_front : (name : List ℕ) (c : ℕ) (rest : List ℕ) → IsName name → is_stop c ≡ true → token_at ((64 ∷ name) ++ c ∷ rest) ≡ Just (Global, length (64 ∷ name))
global_front name c rest h stop = behind_some Global (any_name_len (name ++ c ∷ rest)) (length name) (name_len name c rest h stop) (name_some name h)

pub label_front : (name rest : List ℕ) → IsName name → token_at (name ++ 58 ∷ rest) ≡ Just (Label, length name + 1)
label_front name rest h =
    let len : any_name_len (name ++ 58 ∷ rest) ≡ length name = any_name_len-colon name rest h in
    let pos : nat_lt 0 (length name) ≡ true = lt-ltb 0 (length name) (name_some name h) in
    rw (len, pos, drop_at name (58 ∷ rest) (length name) refl) refl

-- a mark that a printed text has
pub mark_front : (b : ℕ) (rest : List ℕ) → is_word_start b ≡ false → is_digit b ≡ false → is_mark b ≡ true → token_at (b ∷ rest) ≡ Just (Mark, 1)
mark_front b rest word digit h =
    let no_name : is_name_byte b ≡ false = rw (word, digit) (other_byte is_mark b 45 h refl) in
    let no_quote : (b == 34) ≡ false = other_byte is_mark b 34 h refl in
    let len : any_name_len (b ∷ rest) ≡ 0 = rw (no_quote, no_name) refl in
    let off : is_label (b ∷ rest) ≡ false = rw len refl in
    label_off (b ∷ rest) _ off
    (rw (word, digit, other_byte is_mark b 45 h refl, no_quote, other_byte is_mark b 37 h refl, other_byte is_mark b 64 h refl, other_byte is_mark b 35 h refl, other_byte is_mark b 33 h refl, h) refl)
