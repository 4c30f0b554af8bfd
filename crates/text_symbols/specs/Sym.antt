-- What a token says.
use Rattle.std.specs.Prelude.{ℕ, List, [], ◌∷◌, Option, Some, None, if◌then◌else◌, ◌==◌}
use Rattle.text_lexer.specs.declared.token.Kind.{Kind}
use Rattle.text_lexer.specs.declared.token.Kind.TheVariants as kinds
use Rattle.text_symbols.specs.declared.sym.Mark.{Mark}
use Rattle.text_symbols.specs.declared.sym.Mark.TheVariants as marks
use Rattle.text_symbols.specs.declared.sym.Sym.{Sym}
use Rattle.text_symbols.specs.declared.sym.Sym.TheVariants as syms
use Rattle.text_symbols.specs.Names.{name_of, inside}
use Rattle.text_symbols.specs.Numbers.{value_of, fitting, without_zeros}
use Rattle.text_symbols.specs.Words.{word_of}

abbrev pub mark_number : Mark → ℕ
mark_number marks.Equals = 0
mark_number marks.Comma = 1
mark_number marks.OpenRound = 2
mark_number marks.CloseRound = 3
mark_number marks.OpenSquare = 4
mark_number marks.CloseSquare = 5
mark_number marks.OpenCurly = 6
mark_number marks.CloseCurly = 7
mark_number marks.Colon = 8
mark_number marks.Bar = 9
mark_number marks.Star = 10

-- the mark that a byte is
abbrev pub mark_of_byte : ℕ → Mark
mark_of_byte b =
    if b == 61 then marks.Equals
    else (if b == 44 then marks.Comma
    else (if b == 40 then marks.OpenRound
    else (if b == 41 then marks.CloseRound
    else (if b == 91 then marks.OpenSquare
    else (if b == 93 then marks.CloseSquare
    else (if b == 123 then marks.OpenCurly
    else (if b == 125 then marks.CloseCurly
    else (if b == 58 then marks.Colon
    else (if b == 124 then marks.Bar
    else marks.Star)))))))))

abbrev pub mark_of : List ℕ → Mark
mark_of [] = marks.Star
mark_of (b ∷ bs) = mark_of_byte b

abbrev pub positive : Option ℕ → Sym
positive None = syms.LongInt
positive (Some n) = syms.Int n

abbrev pub negative : Option ℕ → Sym
negative None = syms.LongInt
negative (Some n) = syms.Negative n

abbrev pub integer_of : List ℕ → Sym
integer_of [] = positive (fitting (value_of []))
integer_of (b ∷ bs) = if b == 45 then negative (fitting (value_of bs)) else positive (fitting (value_of (b ∷ bs)))

abbrev pub behind_first : List ℕ → List ℕ
behind_first [] = []
behind_first (b ∷ bs) = bs

-- what a token of a kind says by its bytes
unfoldable pub sym_of : Kind × List ℕ → Sym
sym_of (kinds.Label, bs) = syms.Label (name_of (inside bs))
sym_of (kinds.Word, bs) = syms.Word (word_of bs)
sym_of (kinds.Int, bs) = integer_of bs
sym_of (kinds.String, bs) = syms.Str
sym_of (kinds.Local, bs) = syms.Local (name_of (behind_first bs))
sym_of (kinds.Global, bs) = syms.Global (name_of (behind_first bs))
sym_of (kinds.Group, bs) = syms.Group (without_zeros (behind_first bs))
sym_of (kinds.Meta, bs) = syms.Meta
sym_of (kinds.Mark, bs) = syms.Mark (mark_of bs)
