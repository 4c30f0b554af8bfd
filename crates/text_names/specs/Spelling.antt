-- The canonical spelling of a name, without the sign before it.
use Rattle.std.specs.Prelude.{◌≡◌, ℕ, ◌+◌, ◌/◌, ◌%◌, ◌^◌, ◌<◌, Bool, true, false, not, length, ◌&&◌, ◌||◌, ◌==◌, nat_lt, nat_le, if◌then◌else◌, List, [], ◌∷◌, ◌++◌, decimal}
use Rattle.std.specs.List.{list_all}
use Rattle.ir_base.specs.declared.name.Name.{Name}

-- `0` to `9`
abbrev pub is_digit : ℕ → Bool
is_digit b = nat_le 48 b && nat_le b 57

abbrev pub begins_with_digit : List ℕ → Bool
begins_with_digit [] = false
begins_with_digit (b ∷ bs) = is_digit b

-- a letter, `$`, `.`, `_` or `-`
abbrev pub is_start : ℕ → Bool
is_start b = (nat_le 65 b && nat_le b 90) || (nat_le 97 b && nat_le b 122) || b == 36 || b == 46 || b == 95 || b == 45

-- a byte of the set that names without quotes are made of
abbrev pub is_plain : ℕ → Bool
is_plain b = is_start b || is_digit b

-- whether a text is written without quotes
abbrev pub is_bare : List ℕ → Bool
is_bare [] = false
is_bare (b ∷ bs) = is_start b && list_all is_plain bs

-- an upper case hexadecimal digit
abbrev pub hex_digit : ℕ → ℕ
hex_digit d = if nat_lt d 10 then 48 + d else 55 + d

-- a byte between quotes: two backslashes for a backslash, a backslash and two digits for `"` and bytes outside 32 to 126
abbrev pub escaped : ℕ → List ℕ
escaped b =
    if b == 92 then 92 ∷ 92 ∷ []
    else (if b == 34 || nat_lt b 32 || nat_lt 126 b then 92 ∷ hex_digit (b / 16) ∷ hex_digit (b % 16) ∷ []
    else b ∷ [])

abbrev pub inside : List ℕ → List ℕ
inside [] = []
inside (b ∷ bs) = escaped b ++ inside bs

-- a text is written bare, or between quotes
abbrev pub text_spelling : List ℕ → List ℕ
text_spelling bs = if is_bare bs then bs else 34 ∷ (inside bs ++ 34 ∷ [])

abbrev pub spelling : Name → List ℕ
spelling (Name.Number n) = decimal n
spelling (Name.Text bs) = text_spelling bs

-- a byte that a name may hold: none but zero is left out
abbrev pub is_name_byte : ℕ → Bool
is_name_byte b = nat_lt 0 b && nat_lt b 256

-- a text that is a name: it isn't empty, and has no zero byte
abbrev pub is_name_text : List ℕ → Bool
is_name_text bs = not (length bs == 0) && list_all is_name_byte bs

-- what is a name: a number below 2^32, or such a text
abbrev pub IsName : Name → Type 0
IsName (Name.Number n) = n < 2 ^ 32
IsName (Name.Text bs) = is_name_text bs ≡ true
