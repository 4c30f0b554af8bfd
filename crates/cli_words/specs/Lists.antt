-- Lists of numbers, as a word writes them.
use Rattle.std.specs.Prelude.{ℕ, ℤ, ◌^◌, pos, neg_ℤ, Bool, ◌&&◌, ◌==◌, not, nat_lt, nat_le, if◌then◌else◌, List, [], ◌∷◌, length, Option, Some, None, option_map, option_and_then}
use Rattle.std.specs.List.{list_all, slice_split}
use Rattle.std.specs.Str.Parse.{digits_value}

-- `0` to `9`
abbrev pub is_digit : ℕ → Bool
is_digit b = nat_le 48 b && nat_le b 57

-- one or more digits
abbrev pub is_numeral : List ℕ → Bool
is_numeral ds = not (length ds == 0) && list_all is_digit ds

-- what one or more digits write, below 2^64
abbrev pub magnitude : List ℕ → Option ℕ
magnitude ds = if is_numeral ds && nat_lt (digits_value 10 ds) (2 ^ 64) then Some (digits_value 10 ds) else None

-- a number after a minus, from -2^63
abbrev pub negated : ℕ → Option ℤ
negated n = if nat_le n (2 ^ 63) then Some (neg_ℤ (pos n)) else None

-- a decimal number from -2^63 to 2^64-1: digits, with a minus before them or none
abbrev pub number : List ℕ → Option ℤ
number [] = None
number (b ∷ bs) = if b == 45 then option_and_then negated (magnitude bs) else option_map (λ n. pos n) (magnitude (b ∷ bs))

-- these parts, each a number
abbrev pub numbers : List (List ℕ) → Option (List ℤ)
numbers [] = Some []
numbers (part ∷ parts) = option_and_then (λ n. option_map (λ ns. n ∷ ns) (numbers parts)) (number part)

-- one or more numbers with commas between
abbrev pub list : List ℕ → Option (List ℤ)
list word = numbers (slice_split (λ b. b == 44) word)
