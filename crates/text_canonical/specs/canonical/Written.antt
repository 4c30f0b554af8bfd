-- Symbols that can be written.
use Rattle.std.specs.Prelude.{◌<◌, ◌^◌, Option, Some, None, List, [], ◌∷◌}
use Rattle.ir_base.specs.declared.name.Name.{Name}
use Rattle.text_names.specs.Spelling.{IsName}
use Rattle.text_symbols.specs.declared.sym.Sym.{Sym}
use Rattle.text_symbols.specs.declared.sym.Sym.TheVariants as syms

-- there is a name, and it is one
abbrev pub IsNamed : Option Name → Type 0
IsNamed (Some n) = IsName n
IsNamed None = ⊥

-- its name is a name, its number is below 2^64
abbrev pub IsWritten : Sym → Type 0
IsWritten (syms.Label n) = IsNamed n
IsWritten (syms.Word w) = Unit {0}
IsWritten (syms.Int n) = n < 2 ^ 64
IsWritten (syms.Negative n) = n < 2 ^ 64
IsWritten syms.LongInt = ⊥
IsWritten syms.Str = Unit {0}
IsWritten (syms.Local n) = IsNamed n
IsWritten (syms.Global n) = IsNamed n
IsWritten (syms.Group g) = Unit {0}
IsWritten syms.Meta = Unit {0}
IsWritten (syms.Mark m) = Unit {0}

abbrev pub AreWritten : List Sym → Type 0
AreWritten [] = Unit {0}
AreWritten (s ∷ ss) = IsWritten s × AreWritten ss
