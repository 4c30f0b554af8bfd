-- The number of digits, as far as it is below 2^64.
use Rattle.std.proofs.Common.{◌≡◌, ℕ, ◌+◌, ◌*◌, ◌^◌, ◌<◌, ◌≤◌, Bool, true, false, List, [], ◌∷◌, None, nat_lt, cond, refl, ap, ◌∙◌, arith}
use Rattle.std.specs.Prelude.{Some}
use Rattle.std.proofs.lemmas.Bool.{lt-ltb, ltb-true}
use Rattle.text_symbols.specs.Numbers.{digit_value, value_from, value_of, fitting}

value_from-le : (n : ℕ) (bs : List ℕ) → n ≤ value_from n bs
value_from-le n [] = omega arith
value_from-le n (b ∷ bs) = omega (arith, value_from-le (n * 10 + digit_value b) bs)

if_fits : (n : ℕ) → n < 2 ^ 64 → fitting n ≡ Some n
if_fits n h = ap (λ (b : Bool). cond b (Some n) None) (lt-ltb n (2 ^ 64) h)

fits_if : (n : ℕ) (b : Bool) → nat_lt n (2 ^ 64) ≡ b → cond b (Some n) None ≡ None → b ≡ false
fits_if n true e h = absurd cc
fits_if n false e h = refl

more_than : (m n : ℕ) → m ≤ n → fitting m ≡ None → fitting n ≡ None
more_than m n le h = split (nat_lt n (2 ^ 64)) refl
  where
    split : (b : Bool) → nat_lt n (2 ^ 64) ≡ b → cond b (Some n) None ≡ None
    split true e =
        let small : n < 2 ^ 64 = ltb-true n (2 ^ 64) e in
        let fits : fitting m ≡ Some m = if_fits m (omega arith) in
        absurd cc
    split false e = refl

pub too_much : (digits : List ℕ) (value b : ℕ) (rest : List ℕ) → value_of digits ≡ value_from value (b ∷ rest) → fitting (value * 10 + digit_value b) ≡ None → fitting (value_of digits) ≡ None
too_much digits value b rest e h =
    ap fitting e ∙ more_than (value * 10 + digit_value b) (value_from (value * 10 + digit_value b) rest) (value_from-le (value * 10 + digit_value b) rest) h

pub at_end : (digits : List ℕ) (value : ℕ) → value_of digits ≡ value → value < 2 ^ 64 → fitting (value_of digits) ≡ Some value
at_end digits value e h = ap fitting e ∙ if_fits value h
