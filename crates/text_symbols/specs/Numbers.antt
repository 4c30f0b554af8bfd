-- Numbers of digits.
use Rattle.std.specs.Prelude.{ℕ, ◌+◌, ◌-◌, ◌*◌, ◌^◌, List, [], ◌∷◌, Option, Some, None, Bool, true, false, ◌&&◌, nat_le, if◌then◌else◌, ◌==◌, nat_lt}

abbrev pub digit_value : ℕ → ℕ
digit_value b = b - 48

-- the number that the digits before these make, gone on with these
abbrev pub value_from : ℕ → List ℕ → ℕ
value_from n [] = n
value_from n (b ∷ bs) = value_from (n * 10 + digit_value b) bs

abbrev pub value_of : List ℕ → ℕ
value_of bs = value_from 0 bs

-- a number below 2^64
abbrev pub fitting : ℕ → Option ℕ
fitting n = if nat_lt n (2 ^ 64) then Some n else None

abbrev pub without_zeros : List ℕ → List ℕ
without_zeros [] = []
without_zeros (b ∷ bs) = if b == 48 then without_zeros bs else b ∷ bs

abbrev pub is_digit : ℕ → Bool
is_digit b = nat_le 48 b && nat_le b 57

abbrev pub are_digits : List ℕ → Bool
are_digits [] = true
are_digits (b ∷ bs) = if is_digit b then are_digits bs else false
