-- A token's bytes tell its kind.
use Rattle.std.specs.Prelude.{ℕ, Bool, false, List, [], ◌∷◌, if◌then◌else◌, ◌==◌, ◌||◌}
use Rattle.text_lexer.specs.Bytes.{is_digit, is_word_start}
use Rattle.text_lexer.specs.declared.token.Kind.{Kind}
use Rattle.text_lexer.specs.declared.token.Kind.TheVariants.{Label, Word, Int, String, Local, Global, Group, Meta, Mark}

-- the last byte is a colon
abbrev pub ends_colon : List ℕ → Bool
ends_colon [] = false
ends_colon (b ∷ []) = b == 58
ends_colon (b ∷ c ∷ bs) = ends_colon (c ∷ bs)

-- the kind that a first byte begins
abbrev pub kind_begun : ℕ → Kind
kind_begun b =
    if is_word_start b then Word
    else (if is_digit b || (b == 45) then Int
    else (if b == 34 then String
    else (if b == 37 then Local
    else (if b == 64 then Global
    else (if b == 35 then Group
    else (if b == 33 then Meta
    else Mark))))))

-- a label ends with a colon behind another byte; the others are told by their first byte
abbrev pub kind_of : List ℕ → Kind
kind_of [] = Mark
kind_of (b ∷ bs) = if ends_colon bs then Label else kind_begun b
