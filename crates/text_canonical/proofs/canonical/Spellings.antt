-- The canonical spelling of a name is a name of the grammar's tokens, and is read back.
use Rattle.std.proofs.Common.{◌≡◌, ℕ, ◌+◌, ◌-◌, ◌*◌, ◌/◌, ◌%◌, ◌^◌, ◌<◌, ◌≤◌, inl, inr, Bool, true, false, not, ◌||◌, ◌==◌, nat_lt, List, [], ◌∷◌, ◌++◌, length, take, refl, sym, ap, ◌∙◌, arith, decimal}
use Rattle.std.specs.Prelude.{Some as Just}
use Rattle.std.specs.List.{list_all}
use Rattle.std.proofs.lemmas.Bool.{cases_lt, eqb-true, ltb-true, lt-ltb, false≢true, and_parts, or_left, or_parts, ne_eqb}
use Rattle.std.proofs.lemmas.Bool.Decides.{nat_tests}
use Rattle.std.proofs.lemmas.List.{length-append}
use Rattle.ir_base.specs.declared.name.Name.{Name}
use Rattle.text_names.specs.Spelling.{escaped, hex_digit, inside, is_bare, is_name_byte, is_name_text, is_plain, is_start, spelling, text_spelling, IsName}
use Rattle.text_lexer.specs.Bytes.{is_digit, is_name_byte as is_token_byte}
use Rattle.text_lexer.specs.Lists.{all_at, front}
use Rattle.text_lexer.specs.Token.{Each, Some, is_inside, IsName as IsNameToken}
use Rattle.text_lexer.proofs.ListSteps.{all_at-some}
use Rattle.text_symbols.specs.Names.{byte_at, has_zero, hex_value, inside as before_last, is_hex, name_of, number_name, text_name, unescaped}
use Rattle.text_symbols.specs.Numbers.{value_of}
use Rattle.text_canonical.proofs.canonical.Decimals.{Each-append, are_digits-each, decimal_is}
use Rattle.text_canonical.proofs.canonical.Tokens.{digits_are_names}

-- ---- a byte between quotes

digit_below : (d : ℕ) → d < 10 → hex_digit d ≡ 48 + d
digit_below d h = grind (arith, nat_tests)

digit_above : (d : ℕ) → 10 ≤ d → hex_digit d ≡ 55 + d
digit_above d h = grind (arith, nat_tests)

record IsHexOf (h d : ℕ) : Type 0 where
  hex : is_hex h ≡ true
  value : hex_value h ≡ d
  slash : (h == 92) ≡ false
  quote : (h == 34) ≡ false

hex_below : (d : ℕ) → d < 10 → IsHexOf (48 + d) d
hex_below d h = record { hex = grind (arith, nat_tests); value = grind (arith, nat_tests); slash = grind (arith, nat_tests); quote = grind (arith, nat_tests) }

hex_above : (d : ℕ) → 10 ≤ d → d < 16 → IsHexOf (55 + d) d
hex_above d h k = record { hex = grind (arith, nat_tests); value = grind (arith, nat_tests); slash = grind (arith, nat_tests); quote = grind (arith, nat_tests) }

hex_is : (d : ℕ) → d < 16 → IsHexOf (hex_digit d) d
hex_is d h = elim (cases_lt d 10) [
  | inl l ↦ rw (digit_below d l) (hex_below d l)
  | inr l ↦ rw (digit_above d l) (hex_above d l h)
]

two_slashes : (rest : List ℕ) → byte_at (92 ∷ 92 ∷ rest) ≡ Just (92, rest)
two_slashes [] = refl
two_slashes (l ∷ rest) = refl

two_digits : (h l v w : ℕ) (rest : List ℕ) → IsHexOf h v → IsHexOf l w → byte_at (92 ∷ h ∷ l ∷ rest) ≡ Just (v * 16 + w, rest)
two_digits h l v w rest first second = rw (first.slash, first.hex, second.hex, first.value, second.value) refl

plain_byte : (b : ℕ) (rest : List ℕ) → (b == 92) ≡ false → byte_at (b ∷ rest) ≡ Just (b, rest)
plain_byte b rest e = rw e refl

escaped_back : (b : ℕ) (rest : List ℕ) (slash coded : Bool) → (b == 92) ≡ slash → (b == 34 || nat_lt b 32 || nat_lt 126 b) ≡ coded → b < 256 → byte_at (escaped b ++ rest) ≡ Just (b, rest)
escaped_back b rest true coded e f h = rw e (two_slashes rest ∙ ap (λ (x : ℕ). Just (x, rest)) (sym (eqb-true b 92 e)))
escaped_back b rest false true e f h =
    let high : b / 16 < 16 = omega arith in
    let low : b % 16 < 16 = omega arith in
    let whole : b / 16 * 16 + b % 16 ≡ b = omega arith in
    rw (e, f) (two_digits (hex_digit (b / 16)) (hex_digit (b % 16)) (b / 16) (b % 16) rest (hex_is (b / 16) high) (hex_is (b % 16) low)
    ∙ ap (λ (x : ℕ). Just (x, rest)) whole)
escaped_back b rest false false e f h = rw (e, f) (plain_byte b rest e)

-- no quote stands in it
escaped_inside : (b : ℕ) (slash coded : Bool) → (b == 92) ≡ slash → (b == 34 || nat_lt b 32 || nat_lt 126 b) ≡ coded → b < 256 → Each is_inside (escaped b)
escaped_inside b true coded e f h = rw e (refl, (refl, tt))
escaped_inside b false true e f h =
    let high : b / 16 < 16 = omega arith in
    let low : b % 16 < 16 = omega arith in
    rw (e, f) (refl, (ap not (hex_is (b / 16) high).quote, (ap not (hex_is (b % 16) low).quote, tt)))
escaped_inside b false false e f h = rw (e, f) (ap not (or_parts (b == 34) _ (or_parts (b == 34 || nat_lt b 32) _ f).0).0, tt)

escaped_some : (b : ℕ) (slash coded : Bool) → (b == 92) ≡ slash → (b == 34 || nat_lt b 32 || nat_lt 126 b) ≡ coded → 0 < length (escaped b)
escaped_some b true coded e f = rw e (omega arith)
escaped_some b false true e f = rw (e, f) (omega arith)
escaped_some b false false e f = rw (e, f) (omega arith)

byte_small : (b : ℕ) → is_name_byte b ≡ true → b < 256
byte_small b h = ltb-true b 256 (and_parts (nat_lt 0 b) (nat_lt b 256) h).1

inside_back : (bs : List ℕ) → list_all is_name_byte bs ≡ true → all_at byte_at (inside bs) ≡ (bs, [])
inside_back [] h = refl
inside_back (b ∷ bs) h =
    let parts = and_parts (is_name_byte b) (list_all is_name_byte bs) h in
    let small = byte_small b parts.0 in
    let some = escaped_some b (b == 92) (b == 34 || nat_lt b 32 || nat_lt 126 b) refl refl in
    let less : length (inside bs) < length (escaped b ++ inside bs) = omega (arith, length-append (escaped b) (inside bs), some) in
    all_at-some byte_at (escaped b ++ inside bs) b (inside bs) (escaped_back b (inside bs) (b == 92) (b == 34 || nat_lt b 32 || nat_lt 126 b) refl refl small) less
    ∙ ap (front b) (inside_back bs parts.1)

inside_each : (bs : List ℕ) → list_all is_name_byte bs ≡ true → Each is_inside (inside bs)
inside_each [] h = tt
inside_each (b ∷ bs) h =
    let parts = and_parts (is_name_byte b) (list_all is_name_byte bs) h in
    Each-append is_inside (escaped b) (inside bs) (escaped_inside b (b == 92) (b == 34 || nat_lt b 32 || nat_lt 126 b) refl refl (byte_small b parts.0)) (inside_each bs parts.1)

-- ---- texts

-- what stands before the last byte
pub before_last_is : (xs : List ℕ) (b : ℕ) → before_last (xs ++ b ∷ []) ≡ xs
before_last_is xs b =
    let len : length (xs ++ b ∷ []) - 1 ≡ length xs = omega (arith, length-append xs (b ∷ [])) in
    ap (λ (n : ℕ). take n (xs ++ b ∷ [])) len ∙ take_at xs
  where
    take_at : (xs : List ℕ) → take (length xs) (xs ++ b ∷ []) ≡ xs
    take_at [] = refl
    take_at (x ∷ xs) = ap (λ (l : List ℕ). x ∷ l) (take_at xs)

no_zero : (bs : List ℕ) → list_all is_name_byte bs ≡ true → has_zero bs ≡ false
no_zero [] h = refl
no_zero (b ∷ bs) h =
    let parts = and_parts (is_name_byte b) (list_all is_name_byte bs) h in
    let some : 0 < b = ltb-true 0 b (and_parts (nat_lt 0 b) (nat_lt b 256) parts.0).0 in
    let here : (b == 0) ≡ false = ne_eqb b 0 (λ e. omega arith) in
    rw here (no_zero bs parts.1)

text_is : (bs : List ℕ) → is_name_text bs ≡ true → text_name bs ≡ Just (Name.Text bs)
text_is [] h = absurd cc
text_is (b ∷ bs) h = rw (no_zero (b ∷ bs) (and_parts _ (list_all is_name_byte (b ∷ bs)) h).1) refl

start_no_digit : (b : ℕ) → is_start b ≡ true → is_digit b ≡ false
start_no_digit b h = grind (arith, nat_tests)

start_no_quote : (b : ℕ) → is_start b ≡ true → (b == 34) ≡ false
start_no_quote b h = ne_eqb b 34 (λ e. false≢true (sym (ap is_start e) ∙ h))

bare_read : (bs : List ℕ) → is_bare bs ≡ true → name_of bs ≡ text_name bs
bare_read [] h = absurd cc
bare_read (b ∷ bs) h =
    let start = (and_parts (is_start b) (list_all is_plain bs) h).0 in
    rw (start_no_quote b start, start_no_digit b start) refl

text_read : (bs : List ℕ) (bare : Bool) → is_bare bs ≡ bare → is_name_text bs ≡ true → name_of (text_spelling bs) ≡ Just (Name.Text bs)
text_read bs true e h = rw e (bare_read bs e ∙ text_is bs h)
text_read bs false e h =
    let all = (and_parts (not (length bs == 0)) (list_all is_name_byte bs) h).1 in
    rw e (ap (λ (l : List ℕ). text_name (unescaped l)) (before_last_is (inside bs) 34)
    ∙ ap (λ (r : List ℕ × List ℕ). text_name r.0) (inside_back bs all)
    ∙ text_is bs h)

plain_token : (b : ℕ) → is_plain b ≡ true → is_token_byte b ≡ true
plain_token b h = grind (arith, nat_tests)

plain_each : (bs : List ℕ) → list_all is_plain bs ≡ true → Each is_token_byte bs
plain_each [] h = tt
plain_each (b ∷ bs) h =
    let parts = and_parts (is_plain b) (list_all is_plain bs) h in
    (plain_token b parts.0, plain_each bs parts.1)

bare_token : (bs : List ℕ) → is_bare bs ≡ true → Some is_token_byte bs
bare_token [] h = absurd cc
bare_token (b ∷ bs) h =
    let parts = and_parts (is_start b) (list_all is_plain bs) h in
    (omega arith, (plain_token b (or_left (is_start b) (is_digit b) parts.0), plain_each bs parts.1))

text_token : (bs : List ℕ) (bare : Bool) → is_bare bs ≡ bare → is_name_text bs ≡ true → IsNameToken (text_spelling bs)
text_token bs true e h = rw e (inl (bare_token bs e))
text_token bs false e h = rw e (inr (inside bs, inside_each bs (and_parts (not (length bs == 0)) (list_all is_name_byte bs) h).1, refl))

-- ---- numbers

digit_no_quote : (b : ℕ) → is_digit b ≡ true → (b == 34) ≡ false
digit_no_quote b h = ne_eqb b 34 (λ e. false≢true (sym (ap is_digit e) ∙ h))

digits_read : (ds : List ℕ) → Some is_digit ds → name_of ds ≡ number_name ds
digits_read [] h = absurd (omega (arith, h.0))
digits_read (d ∷ ds) h = rw (digit_no_quote d h.1.0, are_digits-each (d ∷ ds) h.1) refl

number_is : (ds : List ℕ) (n : ℕ) → value_of ds ≡ n → n < 2 ^ 32 → number_name ds ≡ Just (Name.Number n)
number_is ds n e h = rw e (rw (lt-ltb n (2 ^ 32) h) refl)

-- ---- names

-- a spelling is read back as its name
pub spelling_read : (n : Name) → IsName n → name_of (spelling n) ≡ Just n
spelling_read (Name.Number n) h =
    let d = decimal_is n (omega arith) in
    digits_read (decimal n) d.0 ∙ number_is (decimal n) n d.1 h
spelling_read (Name.Text bs) h = text_read bs (is_bare bs) refl h

-- and is a name of tokens
pub spelling_token : (n : Name) → IsName n → IsNameToken (spelling n)
spelling_token (Name.Number n) h =
    let d = decimal_is n (omega arith) in
    inl (d.0.0, digits_are_names (decimal n) d.0.1)
spelling_token (Name.Text bs) h = text_token bs (is_bare bs) refl h
