-- What std reads of digits is what they write, and lists are read part by part.
use Rattle.std.proofs.Common.{◌≡◌, ◌<◌, ℕ, ◌^◌, Bool, true, false, ◌&&◌, ◌==◌, not, nat_lt, List, length, Some, None, Result, Ok, Err, refl, ap, ◌∙◌, arith, rules}
use Rattle.std.specs.Prelude.{IsUtf8}
use Rattle.std.specs.List.{list_all}
use Rattle.std.specs.Result.{result_ok, OkIff}
use Rattle.std.specs.Str.Parse.{digits_value, IsNumeral, ParsesUnsigned}
use Rattle.std.proofs.lemmas.Bool.{and_parts, and_from, lt-ltb, ltb-true}
use Rattle.std.proofs.lemmas.Fmt.{IsAscii-from_digits}
use Rattle.std.proofs.lemmas.Str.{IsUtf8-from_ascii}
use Rattle.std.proofs.lemmas.Str.Parse.{IsNumeralModel, numerals_by_value, parse_digits}
use Rattle.cli_words.specs.Lists.{is_digit, is_numeral, magnitude}

own : IsNumeralModel (λ ds. list_all is_digit ds ≡ true) (digits_value 10)
own = numerals_by_value _ (search rules)

pub digits_are_text : (ds : List ℕ) → list_all is_digit ds ≡ true → IsUtf8 ds
digits_are_text ds h = IsUtf8-from_ascii ds (IsAscii-from_digits ds (own.to ds h))

magnitude_none : (ds : List ℕ) (t : Bool) → (is_numeral ds && nat_lt (digits_value 10 ds) (2 ^ 64)) ≡ t
    → (list_all is_digit ds ≡ true → 0 < length ds → digits_value 10 ds < 2 ^ 64 → ⊥) → None ≡ magnitude ds
magnitude_none ds true e h =
    let parts = and_parts (is_numeral ds) _ e in
    let some = and_parts (not (length ds == 0)) _ parts.0 in
    absurd (h some.1 (grind (arith, some.0)) (ltb-true _ _ parts.1))
magnitude_none ds false e h = rw e refl

magnitude_some : (ds : List ℕ) → list_all is_digit ds ≡ true → 0 < length ds → digits_value 10 ds < 2 ^ 64 → Some (digits_value 10 ds) ≡ magnitude ds
magnitude_some ds h some small =
    let numeral : is_numeral ds ≡ true = and_from (not (length ds == 0)) _ (grind (arith, some)) h in
    rw (and_from (is_numeral ds) _ numeral (lt-ltb _ _ small)) refl

read_magnitude : {E : Type 0} (ds : List ℕ) (r : Result ℕ E) → list_all is_digit ds ≡ true
    → OkIff r ((0 < length ds) × (digits_value 10 ds < 2 ^ 64)) (digits_value 10 ds) → result_ok r ≡ magnitude ds
read_magnitude ds (Ok x) h is = ap (λ (n : ℕ). Some n) is.1 ∙ magnitude_some ds h is.0.0 is.0.1
read_magnitude ds (Err e) h is = magnitude_none ds _ refl (λ all some small. is (some, small))

pub parsed_magnitude : {E : Type 0} (ds text : List ℕ) (r : Result ℕ E) → text ≡ ds → list_all is_digit ds ≡ true → ParsesUnsigned 64 10 text r → result_ok r ≡ magnitude ds
parsed_magnitude ds text r same h is = read_magnitude ds r h (parse_digits own 64 ds r (rw same at is) h)

-- a number, in the words of std's `parse`
pub parsed_number : {E : Type 0} (ds : List ℕ) (r : Result ℕ E) → OkIff r (IsNumeral 10 ds × (digits_value 10 ds < 2 ^ 64)) (digits_value 10 ds) → result_ok r ≡ magnitude ds
parsed_number ds (Ok x) is = ap (λ (n : ℕ). Some n) is.1 ∙ magnitude_some ds (own.from ds is.0.0.1) is.0.0.0 is.0.1
parsed_number ds (Err e) is = magnitude_none ds _ refl (λ all some small. is ((some, own.to ds all), small))
