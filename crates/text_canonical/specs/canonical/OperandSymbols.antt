-- The symbols of operands.
use Rattle.std.specs.Prelude.{ℕ, suc, ℤ, pos, negsuc, Option, Some, None, List, [], ◌∷◌, ◌++◌, slice_get}
use Rattle.text_canonical.specs.canonical.Marks.{word, comma}
use Rattle.text_canonical.specs.canonical.TypeSymbols.{type_symbols}
use Rattle.ir_base.specs.declared.name.Name.{Name}
use Rattle.ir_model.specs.Table.{allocator_word, intrinsic_word}
use Rattle.ir_model.specs.Ty.{Ty}
use Rattle.ir_model.specs.declared.operand.Arg.{Arg}
use Rattle.ir_model.specs.declared.operand.Callee.{Callee}
use Rattle.ir_model.specs.declared.operand.Operand.{Operand}
use Rattle.text_symbols.specs.declared.sym.Sym.{Sym}
use Rattle.text_symbols.specs.declared.sym.Sym.TheVariants as syms
use Rattle.text_symbols.specs.declared.word.Word.TheVariants as words

-- the local at a position
abbrev pub local_symbol : List Name → ℕ → Sym
local_symbol names id = syms.Local (slice_get names id)

abbrev pub label_symbols : List Name → ℕ → List Sym
label_symbols names id = word words.Label ∷ local_symbol names id ∷ []

abbrev pub global_symbol : Name → Sym
global_symbol n = syms.Global (Some n)

abbrev pub number_symbol : ℤ → Sym
number_symbol (pos n) = syms.Int n
number_symbol (negsuc n) = syms.Negative (suc n)

abbrev pub operand_symbol : List Name → Operand → Sym
operand_symbol names (Operand.Local id) = local_symbol names id
operand_symbol names (Operand.Global n) = global_symbol n
operand_symbol names (Operand.Number z) = number_symbol z
operand_symbol names Operand.True = word words.True
operand_symbol names Operand.False = word words.False
operand_symbol names Operand.Null = word words.Null
operand_symbol names Operand.None = word words.None
operand_symbol names Operand.Poison = word words.Poison

-- an operand behind its type
abbrev pub arg_symbols : List Name → Arg → List Sym
arg_symbols names a = type_symbols a.ty ++ operand_symbol names a.value ∷ []

-- those behind the first
abbrev pub more_args_symbols : List Name → List Arg → List Sym
more_args_symbols names [] = []
more_args_symbols names (a ∷ rest) = comma ∷ arg_symbols names a ++ more_args_symbols names rest

abbrev pub args_symbols : List Name → List Arg → List Sym
args_symbols names [] = []
args_symbols names (a ∷ rest) = arg_symbols names a ++ more_args_symbols names rest

abbrev pub callee_symbol : List Name → Callee → Sym
callee_symbol names (Callee.Named n) = global_symbol n
callee_symbol names (Callee.Allocator a) = global_symbol (Name.Text (allocator_word a))
callee_symbol names (Callee.Intrinsic i) = global_symbol (Name.Text (intrinsic_word i))
callee_symbol names (Callee.Local id) = local_symbol names id

-- a type, or `void`
abbrev pub result_symbols : Option Ty → List Sym
result_symbols None = word words.Void ∷ []
result_symbols (Some t) = type_symbols t
