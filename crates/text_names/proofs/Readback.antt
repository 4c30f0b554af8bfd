-- A canonical spelling is read back as what was written.
use Rattle.std.proofs.Common.{◌≡◌, ℕ, ◌+◌, ◌*◌, ◌/◌, ◌%◌, ◌^◌, ◌<◌, ◌≤◌, Bool, true, false, ◌==◌, ◌||◌, nat_lt, nat_le, List, [], ◌∷◌, ◌++◌, refl, sym, ap, inl, inr, ◌∙◌, append_assoc, append-nil, arith, decimal}
use Rattle.std.specs.List.{list_all}
use Rattle.std.specs.Str.Parse.{IsNumeral, digits_value}
use Rattle.std.proofs.lemmas.Bool.{cases_lt, eqb-true, ltb-true, false≢true, or_left, or_parts, and_parts, and_from, le-leb}
use Rattle.std.proofs.lemmas.Bool.Decides.{nat_tests}
use Rattle.std.proofs.lemmas.Fmt.{decimal_is_IsNumeral}
use Rattle.std.proofs.lemmas.Str.Parse.{digit_from_value}
use Rattle.ir_base.specs.declared.name.Name.{Name}
use Rattle.text_names.specs.declared.escape.Escape.{Escape}
use Rattle.text_names.specs.Opened.{opened, gives, after, hex_value}
use Rattle.text_names.specs.Spelling.{is_digit, is_start, is_plain, is_bare, hex_digit, escaped, inside, text_spelling, spelling, IsName, is_name_byte, is_name_text, begins_with_digit}

hex_below : (d : ℕ) → d < 10 → hex_digit d ≡ 48 + d
hex_below d h = grind (arith, nat_tests)

hex_above : (d : ℕ) → 10 ≤ d → hex_digit d ≡ 55 + d
hex_above d h = grind (arith, nat_tests)

value_below : (d : ℕ) → d < 10 → hex_value (48 + d) ≡ d
value_below d h = grind (arith, nat_tests)

value_above : (d : ℕ) → 10 ≤ d → d < 16 → hex_value (55 + d) ≡ d
value_above d h k = grind (arith, nat_tests)

is_no_backslash_below : (d : ℕ) → d < 10 → (48 + d == 92) ≡ false
is_no_backslash_below d h = grind (arith, nat_tests)

is_no_backslash_above : (d : ℕ) → d < 16 → (55 + d == 92) ≡ false
is_no_backslash_above d h = grind (arith, nat_tests)

-- the first digit behind a backslash
after_digit : (h : ℕ) → (h == 92) ≡ false → after Escape.Backslash h ≡ Escape.Digit (hex_value h)
after_digit h e = rw e refl

gives_nothing : (h : ℕ) → (h == 92) ≡ false → gives Escape.Backslash h ≡ []
gives_nothing h e = rw e refl

-- two digits behind a backslash
read_digits : (h l v w : ℕ) (rest : List ℕ) → (h == 92) ≡ false → hex_value h ≡ v → hex_value l ≡ w
    → opened Escape.Outside (92 ∷ h ∷ l ∷ rest) ≡ (v * 16 + w) ∷ opened Escape.Outside rest
read_digits h l v w rest differs first second = rw (gives_nothing h differs, after_digit h differs, first, second) refl

differs_from_backslash : (d : ℕ) → d < 16 → (hex_digit d == 92) ≡ false
differs_from_backslash d h = elim (cases_lt d 10) [
  | inl l ↦ rw (hex_below d l) (is_no_backslash_below d l)
  | inr l ↦ rw (hex_above d l) (is_no_backslash_above d h)
]

value_of_digit : (d : ℕ) → d < 16 → hex_value (hex_digit d) ≡ d
value_of_digit d h = elim (cases_lt d 10) [
  | inl l ↦ rw (hex_below d l) (value_below d l)
  | inr l ↦ rw (hex_above d l) (value_above d l h)
]

-- a byte that stands for itself
plain_back : (b : ℕ) (rest : List ℕ) → (b == 92) ≡ false → (b == 34) ≡ false → opened Escape.Outside (b ∷ rest) ≡ b ∷ opened Escape.Outside rest
plain_back b rest e f = rw (e, f) refl

-- one byte that stands between quotes is read back
escaped_back : (b : ℕ) (rest : List ℕ) (slash coded : Bool) → (b == 92) ≡ slash → (b == 34 || nat_lt b 32 || nat_lt 126 b) ≡ coded → b < 256
    → opened Escape.Outside (escaped b ++ rest) ≡ b ∷ opened Escape.Outside rest
escaped_back b rest true coded e f h = rw e (ap (λ (x : ℕ). x ∷ opened Escape.Outside rest) (sym (eqb-true b 92 e)))
escaped_back b rest false true e f h =
    let high : b / 16 < 16 = omega arith in
    let low : b % 16 < 16 = omega arith in
    let whole : b / 16 * 16 + b % 16 ≡ b = omega arith in
    rw (e, f) (read_digits (hex_digit (b / 16)) (hex_digit (b % 16)) (b / 16) (b % 16) rest (differs_from_backslash (b / 16) high) (value_of_digit (b / 16) high) (value_of_digit (b % 16) low)
    ∙ ap (λ (x : ℕ). x ∷ opened Escape.Outside rest) whole)
escaped_back b rest false false e f h = rw (e, f) (plain_back b rest e (or_parts (b == 34) _ (or_parts (b == 34 || nat_lt b 32) _ f).0).0)

inside_back : (bs rest : List ℕ) → list_all is_name_byte bs ≡ true → opened Escape.Outside (inside bs ++ rest) ≡ bs ++ opened Escape.Outside rest
inside_back [] rest h = refl
inside_back (b ∷ bs) rest h =
    let parts = and_parts (is_name_byte b) _ h in
    let small : b < 256 = ltb-true b 256 (and_parts (nat_lt 0 b) _ parts.0).1 in
    ap (opened Escape.Outside) (append_assoc (escaped b) (inside bs) rest)
    ∙ escaped_back b (inside bs ++ rest) (b == 92) _ refl refl small
    ∙ ap (λ (l : List ℕ). b ∷ l) (inside_back bs rest parts.1)

-- a byte that needs no quotes is no backslash and no quote
plain_differs : (b c : ℕ) (same : Bool) → (b == c) ≡ same → is_plain c ≡ false → is_plain b ≡ true → same ≡ false
plain_differs b c true e f h = absurd (false≢true (sym (ap is_plain (eqb-true b c e) ∙ f) ∙ h))
plain_differs b c false e f h = refl

bare_back : (bs : List ℕ) → list_all is_plain bs ≡ true → opened Escape.Outside bs ≡ bs
bare_back [] h = refl
bare_back (b ∷ bs) h =
    let parts = and_parts (is_plain b) _ h in
    plain_back b bs (plain_differs b 92 (b == 92) refl refl parts.0) (plain_differs b 34 (b == 34) refl refl parts.0)
    ∙ ap (λ (l : List ℕ). b ∷ l) (bare_back bs parts.1)

bare_is_plain : (bs : List ℕ) → is_bare bs ≡ true → list_all is_plain bs ≡ true
bare_is_plain [] h = refl
bare_is_plain (b ∷ bs) h =
    let parts = and_parts (is_start b) _ h in
    and_from (is_plain b) _ (or_left (is_start b) (is_digit b) parts.0) parts.1

-- a text's spelling is read back as the text
pub text_back : (bs : List ℕ) (bare : Bool) → is_bare bs ≡ bare → is_name_text bs ≡ true → opened Escape.Outside (text_spelling bs) ≡ bs
text_back bs true e h = rw e (bare_back bs (bare_is_plain bs e))
text_back bs false e h = rw e (inside_back bs (34 ∷ []) (and_parts _ (list_all is_name_byte bs) h).1 ∙ append-nil bs)

start_is_no_digit : (b : ℕ) → is_start b ≡ true → is_digit b ≡ false
start_is_no_digit b h = grind (arith, nat_tests)

bare_begins : (bs : List ℕ) → is_bare bs ≡ true → begins_with_digit bs ≡ false
bare_begins [] h = refl
bare_begins (b ∷ bs) h = start_is_no_digit b (and_parts (is_start b) _ h).0

-- a text's spelling begins with no digit
pub text_begins : (bs : List ℕ) (bare : Bool) → is_bare bs ≡ bare → begins_with_digit (text_spelling bs) ≡ false
text_begins bs true e = rw e (bare_begins bs e)
text_begins bs false e = rw e refl

numeral_begins : (ds : List ℕ) → IsNumeral 10 ds → begins_with_digit ds ≡ true
numeral_begins [] h = absurd (omega (arith, h.0))
numeral_begins (d ∷ ds) h =
    let range = digit_from_value d h.1.0 in
    and_from (nat_le 48 d) (nat_le d 57) (le-leb 48 d range.0) (le-leb d 57 range.1)

-- a number's spelling begins with a digit
pub number_begins : (n : ℕ) → n < 2 ^ 32 → begins_with_digit (decimal n) ≡ true
number_begins n h = numeral_begins (decimal n) (decimal_is_IsNumeral n (omega arith)).0

-- what doesn't begin with a digit is read as a text
pub named_text : (bytes text : List ℕ) (n : Name) → begins_with_digit bytes ≡ false → text ≡ opened Escape.Outside bytes → IsName n → bytes ≡ spelling n → Name.Text text ≡ n
named_text bytes text (Name.Number m) begins e h s = absurd (false≢true (sym begins ∙ ap begins_with_digit s ∙ number_begins m h))
named_text bytes text (Name.Text bs) begins e h s = ap (λ (l : List ℕ). Name.Text l) (e ∙ ap (opened Escape.Outside) s ∙ text_back bs (is_bare bs) refl h)

-- two names of one spelling are one name
pub spelling-injective : (m n : Name) → IsName m → IsName n → spelling m ≡ spelling n → m ≡ n
spelling-injective (Name.Number a) (Name.Number b) h k e =
    ap (λ (x : ℕ). Name.Number x)
    (sym (decimal_is_IsNumeral a (omega arith)).1 ∙ ap (digits_value 10) e ∙ (decimal_is_IsNumeral b (omega arith)).1)
spelling-injective (Name.Number a) (Name.Text t) h k e =
    absurd (false≢true (sym (text_begins t (is_bare t) refl) ∙ ap begins_with_digit (sym e) ∙ number_begins a h))
spelling-injective (Name.Text s) n h k e = named_text (spelling n) s n (ap begins_with_digit (sym e) ∙ text_begins s (is_bare s) refl) (sym (text_back s (is_bare s) refl h) ∙ ap (opened Escape.Outside) e) k refl
