-- Reading values, labels and alignments.
use Rattle.std.specs.Prelude.{ℕ, pos, ◌-ℤ◌, List, ◌∷◌, Option, Some, None}
use Rattle.ir_base.specs.declared.name.Name.{Name}
use Rattle.ir_model.specs.declared.operand.Arg.{Arg}
use Rattle.ir_model.specs.declared.operand.Operand.{Operand}
use Rattle.ir_model.specs.declared.operand.Operand.TheVariants as operands
use Rattle.text_symbols.specs.declared.sym.Mark.TheVariants as marks
use Rattle.text_symbols.specs.declared.sym.Sym.{Sym}
use Rattle.text_symbols.specs.declared.sym.Sym.TheVariants as syms
use Rattle.text_symbols.specs.declared.word.Word.{Word}
use Rattle.text_symbols.specs.declared.word.Word.TheVariants as words
use Rattle.text_reader.specs.Attrs.{behind_attrs}
use Rattle.text_reader.specs.Locals.{place_of, with_name}
use Rattle.text_reader.specs.Reading.{◌>>=◌}
use Rattle.text_reader.specs.Types.{type_at}

-- a value of one word
abbrev pub word_value : Word → Option Operand
word_value words.True = Some operands.True
word_value words.False = Some operands.False
word_value words.Null = Some operands.Null
word_value words.None = Some operands.None
word_value words.Poison = Some operands.Poison
word_value _ = None

-- the position of the name that is written, and the names with it
abbrev pub named_at : List Name → Option Name → Option (ℕ × List Name)
named_at ns n = n >>= λ name. Some (place_of ns name, with_name ns name)

-- a local's position among the names
abbrev pub local_at : List Name → List Sym → Option (ℕ × List Name × List Sym)
local_at ns (syms.Local n ∷ ts) = named_at ns n >>= λ r. Some (r.0, r.1, ts)
local_at ns _ = None

abbrev pub global_at : List Sym → Option (Name × List Sym)
global_at (syms.Global n ∷ ts) = n >>= λ name. Some (name, ts)
global_at _ = None

-- a value that holds no local
abbrev pub constant_at : List Sym → Option (Operand × List Sym)
constant_at (syms.Global n ∷ ts) = n >>= λ name. Some (operands.Global name, ts)
constant_at (syms.Int n ∷ ts) = Some (operands.Number (pos n), ts)
constant_at (syms.Negative n ∷ ts) = Some (operands.Number (pos 0 -ℤ pos n), ts)
constant_at (syms.Word w ∷ ts) = word_value w >>= λ value. Some (value, ts)
constant_at _ = None

unfoldable pub value_at : List Name → List Sym → Option (Operand × List Name × List Sym)
value_at ns (syms.Local n ∷ ts) = named_at ns n >>= λ r. Some (operands.Local r.0, r.1, ts)
value_at ns ts = constant_at ts >>= λ v. Some (v.0, ns, v.1)

-- a type and a value
unfoldable pub typed_at : List Name → List Sym → Option (Arg × List Name × List Sym)
typed_at ns ts = do
  t ← type_at ts
  v ← value_at ns t.1
  Some (record { ty = t.0; value = v.0 }, v.1, v.2)

-- an argument of a call
unfoldable pub arg_at : List Name → List Sym → Option (Arg × List Name × List Sym)
arg_at ns ts = do
  t ← type_at ts
  v ← value_at ns (behind_attrs t.1)
  Some (record { ty = t.0; value = v.0 }, v.1, v.2)

-- the label that is branched to
abbrev pub target_at : List Name → List Sym → Option (ℕ × List Name × List Sym)
target_at ns (syms.Word words.Label ∷ ts) = local_at ns ts
target_at ns _ = None

-- an alignment where one is written; a negative one counts as 0
abbrev pub align_at : List Sym → Option ℕ × List Sym
align_at (syms.Mark marks.Comma ∷ syms.Word words.Align ∷ syms.Int n ∷ ts) = (Some n, ts)
align_at (syms.Mark marks.Comma ∷ syms.Word words.Align ∷ syms.Negative n ∷ ts) = (Some 0, ts)
align_at ts = (None, ts)
