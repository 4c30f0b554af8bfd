-- The symbols of types.
use Rattle.std.specs.Prelude.{ℕ, Some, List, [], ◌∷◌, ◌++◌, if◌then◌else◌, ◌==◌}
use Rattle.text_canonical.specs.canonical.Marks.{word, comma, open_square, close_square, open_curly, close_curly}
use Rattle.ir_model.specs.Ty.{Ty, Tys, array, field, int, named, none, ptr, structure, token}
use Rattle.ir_model.specs.declared.ir_type.IntWidth.{IntWidth}
use Rattle.text_symbols.specs.declared.sym.Sym.{Sym}
use Rattle.text_symbols.specs.declared.sym.Sym.TheVariants as syms
use Rattle.text_symbols.specs.declared.word.Word.TheVariants as words

-- the word of an integer type; a width that no type has can't be written
abbrev pub int_symbol : ℕ → Sym
int_symbol w =
    if w == 1 then word (words.Int IntWidth.I1)
    else (if w == 8 then word (words.Int IntWidth.I8)
    else (if w == 16 then word (words.Int IntWidth.I16)
    else (if w == 32 then word (words.Int IntWidth.I32)
    else (if w == 64 then word (words.Int IntWidth.I64)
    else syms.LongInt))))

abbrev mutual
  pub type_symbols : Ty → List Sym
  type_symbols (int w) = int_symbol w ∷ []
  type_symbols ptr = word words.Ptr ∷ []
  type_symbols token = word words.Token ∷ []
  type_symbols (array n t) = open_square ∷ syms.Int n ∷ word words.X ∷ type_symbols t ++ close_square ∷ []
  type_symbols (structure none) = open_curly ∷ close_curly ∷ []
  type_symbols (structure (field t ts)) = open_curly ∷ type_symbols t ++ fields_symbols ts ++ close_curly ∷ []
  type_symbols (named n) = syms.Local (Some n) ∷ []

  -- the fields behind the first
  pub fields_symbols : Tys → List Sym
  fields_symbols none = []
  fields_symbols (field t ts) = comma ∷ type_symbols t ++ fields_symbols ts
