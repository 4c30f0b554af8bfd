-- Reading what stands between quotes, byte by byte.
use Rattle.std.specs.Prelude.{ℕ, ◌<◌, ◌+◌, ◌-◌, ◌*◌, ◌&&◌, ◌||◌, ◌==◌, nat_le, if◌then◌else◌, List, [], ◌∷◌, ◌++◌}
use Rattle.text_names.specs.declared.escape.Escape.{Escape}
use Rattle.text_names.specs.Spelling.{is_digit}

-- the number of an upper case hexadecimal digit; 0 for other bytes
abbrev pub hex_value : ℕ → ℕ
hex_value b = if is_digit b then b - 48 else (if nat_le 65 b && nat_le b 70 then b - 55 else 0)

-- what a byte is read as
abbrev pub gives : Escape → ℕ → List ℕ
gives Escape.Outside b = if b == 92 || b == 34 then [] else b ∷ []
gives Escape.Backslash b = if b == 92 then 92 ∷ [] else []
gives (Escape.Digit high) b = (high * 16 + hex_value b) ∷ []

-- where the next byte stands
abbrev pub after : Escape → ℕ → Escape
after Escape.Outside b = if b == 92 then Escape.Backslash else Escape.Outside
after Escape.Backslash b = if b == 92 then Escape.Outside else Escape.Digit (hex_value b)
after (Escape.Digit high) b = Escape.Outside

-- the bytes that are read; quotes themselves fall away
abbrev pub opened : Escape → List ℕ → List ℕ
opened at [] = []
opened at (b ∷ bs) = gives at b ++ opened (after at b) bs

-- a first digit is below 16
abbrev pub InRange : Escape → Type 0
InRange Escape.Outside = Unit {0}
InRange Escape.Backslash = Unit {0}
InRange (Escape.Digit high) = high < 16
