-- Types.
use Rattle.std.specs.Prelude.{◌≡◌, ℕ, [], ◌∷◌, Option, Some, None}
use Rattle.ir_model.specs.Ty.{Ty, Tys, int, ptr, token, array, structure, named, none, field}
use Rattle.ir_model.specs.TypeView.{bits_of}
use Rattle.ir_model.specs.declared.ir_type.IntWidth.{IntWidth}
use Rattle.text_symbols.specs.declared.sym.Mark.TheVariants as marks
use Rattle.text_symbols.specs.declared.sym.Sym.TheVariants as syms
use Rattle.text_symbols.specs.declared.word.Word.TheVariants as words
use Rattle.text_grammar.specs.Phrases.{Phrase, ◌⨾◌, nothing, never, these, mark, word}

-- 'i1' | 'i8' | 'i16' | 'i32' | 'i64'
abbrev pub IsInt : ℕ → Phrase
IsInt bits ts rest = (w : IntWidth) × (bits ≡ bits_of w) × word (words.Int w) ts rest

-- type = 'i1' | 'i8' | 'i16' | 'i32' | 'i64' | 'ptr' | 'token' | '[' INT 'x' type ']' | struct | LOCAL
-- struct = '{' [type (',' type)*] '}'
abbrev mutual
  pub IsType : Ty → Phrase
  IsType (int bits) = IsInt bits
  IsType ptr = word words.Ptr
  IsType token = word words.Token
  IsType (array n t) = these (syms.Mark marks.OpenSquare ∷ syms.Int n ∷ syms.Word words.X ∷ []) ⨾ IsType t ⨾ mark marks.CloseSquare
  IsType (structure fs) = mark marks.OpenCurly ⨾ AreFields fs ⨾ mark marks.CloseCurly
  IsType (named n) = these (syms.Local (Some n) ∷ [])

  pub AreFields : Tys → Phrase
  AreFields none = nothing
  AreFields (field t none) = IsType t
  AreFields (field t (field u fs)) = IsType t ⨾ mark marks.Comma ⨾ AreFields (field u fs)

-- gtype = 'i1' | 'i8' | 'i16' | 'i32' | 'i64' | 'ptr'
abbrev pub IsScalar : Ty → Phrase
IsScalar (int bits) = IsInt bits
IsScalar ptr = word words.Ptr
IsScalar _ = never

-- result = 'void' | type
abbrev pub IsResult : Option Ty → Phrase
IsResult None = word words.Void
IsResult (Some t) = IsType t
