-- Decimal numbers are digits, and are read back.
use Rattle.std.proofs.Common.{◌≡◌, ℕ, ◌+◌, ◌*◌, ◌/◌, ◌%◌, ◌^◌, ◌<◌, ◌≤◌, Bool, true, nat_le, List, [], ◌∷◌, ◌++◌, length, refl, ◌∙◌, arith, decimal}
use Rattle.std.proofs.lemmas.Bool.{and_from, le-leb}
use Rattle.std.proofs.lemmas.Fmt.{decimal_by_steps}
use Rattle.std.proofs.lemmas.List.{length-append}
use Rattle.text_lexer.specs.Bytes.{is_digit}
use Rattle.text_lexer.specs.Token.{Each, Some}
use Rattle.text_symbols.specs.Numbers.{are_digits, digit_value, value_from, value_of}

pub Each-append : (p : ℕ → Bool) (xs ys : List ℕ) → Each p xs → Each p ys → Each p (xs ++ ys)
Each-append p [] ys h k = k
Each-append p (x ∷ xs) ys h k = (h.0, Each-append p xs ys h.1 k)

value_from-append : (n : ℕ) (xs ys : List ℕ) → value_from n (xs ++ ys) ≡ value_from (value_from n xs) ys
value_from-append n [] ys = refl
value_from-append n (x ∷ xs) ys = value_from-append (n * 10 + digit_value x) xs ys

digit_byte : (d : ℕ) → d < 10 → is_digit (48 + d) ≡ true
digit_byte d h = and_from (nat_le 48 (48 + d)) (nat_le (48 + d) 57) (le-leb 48 (48 + d) (omega arith)) (le-leb (48 + d) 57 (omega arith))

abbrev IsDecimal : ℕ → List ℕ → Type 0
IsDecimal n ds = Some is_digit ds × (value_of ds ≡ n)

one : (n : ℕ) → n < 10 → IsDecimal n ((48 + n) ∷ [])
one n h = ((omega arith, (digit_byte n h, tt)), omega arith)

more : (n : ℕ) (ds : List ℕ) → 10 ≤ n → IsDecimal (n / 10) ds → IsDecimal n (ds ++ ((48 + n % 10) ∷ []))
more n ds h k =
    let last : n % 10 < 10 = omega arith in
    let len : 0 < length (ds ++ ((48 + n % 10) ∷ [])) = omega (arith, length-append ds ((48 + n % 10) ∷ [])) in
    let sum : value_of ds * 10 + digit_value (48 + n % 10) ≡ n = omega (arith, k.1) in
    ((len, Each-append is_digit ds ((48 + n % 10) ∷ []) k.0.1 (digit_byte (n % 10) last, tt)), value_from-append 0 ds ((48 + n % 10) ∷ []) ∙ sum)

-- a number's text is digits, and they are that number
pub decimal_is : (n : ℕ) → n < 2 ^ 64 → Some is_digit (decimal n) × (value_of (decimal n) ≡ n)
decimal_is n h = decimal_by_steps IsDecimal one more n h

pub are_digits-each : (ds : List ℕ) → Each is_digit ds → are_digits ds ≡ true
are_digits-each [] h = refl
are_digits-each (d ∷ ds) h = rw h.0 (are_digits-each ds h.1)
