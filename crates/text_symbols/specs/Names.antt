-- Names by their spelling.
use Rattle.std.specs.Prelude.{ℕ, ◌+◌, ◌-◌, ◌*◌, ◌^◌, Bool, true, false, List, [], ◌∷◌, Option, Some, None, if◌then◌else◌, ◌==◌, ◌&&◌, ◌||◌, nat_le, nat_lt, take, length}
use Rattle.ir_base.specs.declared.name.Name.{Name}
use Rattle.text_lexer.specs.Lists.{all_at}
use Rattle.text_symbols.specs.Numbers.{are_digits, value_of}

abbrev pub is_hex : ℕ → Bool
is_hex b = ((nat_le 48 b && nat_le b 57) || (nat_le 97 b && nat_le b 102)) || (nat_le 65 b && nat_le b 70)

-- the number of a hexadecimal digit
abbrev pub hex_value : ℕ → ℕ
hex_value b = if nat_le b 57 then b - 48 else (if nat_le b 70 then b - 65 + 10 else b - 97 + 10)

-- behind a backslash: another backslash, two hexadecimal digits, or anything else, before which it stands for itself
abbrev pub escaped_at : List ℕ → ℕ × List ℕ
escaped_at [] = (92, [])
escaped_at (h ∷ []) = if h == 92 then (92, []) else (92, h ∷ [])
escaped_at (h ∷ l ∷ bs) =
    if h == 92 then (92, l ∷ bs)
    else (if is_hex h && is_hex l then (hex_value h * 16 + hex_value l, bs) else (92, h ∷ l ∷ bs))

-- the byte that stands first between quotes, and what stands behind its spelling
abbrev pub byte_at : List ℕ → Option (ℕ × List ℕ)
byte_at [] = None
byte_at (b ∷ bs) = Some (if b == 92 then escaped_at bs else (b, bs))

abbrev pub unescaped : List ℕ → List ℕ
unescaped bs = (all_at byte_at bs).0

abbrev pub has_zero : List ℕ → Bool
has_zero [] = false
has_zero (b ∷ bs) = if b == 0 then true else has_zero bs

abbrev pub is_empty : List ℕ → Bool
is_empty [] = true
is_empty (b ∷ bs) = false

-- a text without bytes or with a zero byte is no name
abbrev pub text_name : List ℕ → Option Name
text_name bs = if is_empty bs || has_zero bs then None else Some (Name.Text bs)

-- digits of 2^32 and more are no name
abbrev pub number_name : List ℕ → Option Name
number_name bs = if nat_lt (value_of bs) (2 ^ 32) then Some (Name.Number (value_of bs)) else None

-- the bytes before the last
abbrev pub inside : List ℕ → List ℕ
inside bs = take (length bs - 1) bs

-- what isn't quoted is a number, where it is of digits alone, or a text
abbrev pub plain_name : List ℕ → Option Name
plain_name bs = if are_digits bs then number_name bs else text_name bs

abbrev pub name_of : List ℕ → Option Name
name_of [] = plain_name []
name_of (b ∷ bs) = if b == 34 then text_name (unescaped (inside bs)) else plain_name (b ∷ bs)
