-- The text of operands. A local is written by the name at its position.
use Rattle.std.specs.Prelude.{ℕ, Option, Some, None, List, [], ◌∷◌, ◌++◌, codes, slice_get}
use Rattle.std.specs.Fmt.{signed_decimal}
use Rattle.ir_base.specs.declared.name.Name.{Name}
use Rattle.text_names.specs.Spelling.{spelling}
use Rattle.ir_model.specs.Table.{allocator_word, intrinsic_word}
use Rattle.ir_model.specs.Ty.{Ty}
use Rattle.ir_model.specs.declared.operand.Arg.{Arg}
use Rattle.ir_model.specs.declared.operand.Callee.{Callee}
use Rattle.ir_model.specs.declared.operand.Operand.{Operand}
use Rattle.text_canonical.specs.canonical.Types.{type_text}

-- a name that may be wanting; then nothing is written
abbrev pub spelled : Option Name → List ℕ
spelled (Some n) = spelling n
spelled None = []

-- the name at a position
abbrev pub name_text : List Name → ℕ → List ℕ
name_text names id = spelled (slice_get names id)

abbrev pub local_text : List Name → ℕ → List ℕ
local_text names id = codes "%" ++ name_text names id

abbrev pub label_text : List Name → ℕ → List ℕ
label_text names id = codes "label " ++ local_text names id

abbrev pub global_text : Name → List ℕ
global_text n = codes "@" ++ spelling n

abbrev pub operand_text : List Name → Operand → List ℕ
operand_text names (Operand.Local id) = local_text names id
operand_text names (Operand.Global n) = global_text n
operand_text names (Operand.Number z) = signed_decimal z
operand_text names Operand.True = codes "true"
operand_text names Operand.False = codes "false"
operand_text names Operand.Null = codes "null"
operand_text names Operand.None = codes "none"
operand_text names Operand.Poison = codes "poison"

-- an operand behind its type
abbrev pub arg_text : List Name → Arg → List ℕ
arg_text names a = type_text a.ty ++ codes " " ++ operand_text names a.value

-- those behind the first
abbrev pub more_args_text : List Name → List Arg → List ℕ
more_args_text names [] = []
more_args_text names (a ∷ rest) = codes ", " ++ arg_text names a ++ more_args_text names rest

abbrev pub args_text : List Name → List Arg → List ℕ
args_text names [] = []
args_text names (a ∷ rest) = arg_text names a ++ more_args_text names rest

abbrev pub callee_text : List Name → Callee → List ℕ
callee_text names (Callee.Named n) = global_text n
callee_text names (Callee.Allocator a) = codes "@" ++ allocator_word a
callee_text names (Callee.Intrinsic i) = codes "@" ++ intrinsic_word i
callee_text names (Callee.Local id) = local_text names id

-- a type, or `void`
abbrev pub result_text : Option Ty → List ℕ
result_text None = codes "void"
result_text (Some t) = type_text t
