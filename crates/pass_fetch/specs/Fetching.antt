-- Values that are fetched anew before each use. A table says for each name how; n is the next new name.
use Rattle.std.specs.Prelude.{ℕ, false, List, [], slice_get, pos, Some, None, Option, ◌+◌, ◌∷◌, ◌++◌}
use Rattle.ir_model.specs.Layout.{bytes_of_width}
use Rattle.ir_model.specs.Ty.{Ty, int}
use Rattle.ir_model.specs.declared.instr.Instr.{Instr}
use Rattle.ir_model.specs.declared.operand.Arg.{Arg}
use Rattle.ir_model.specs.declared.operand.Callee.{Callee}
use Rattle.ir_model.specs.declared.operand.Operand.{Operand}
use Rattle.pass_fetch.specs.declared.fetch.Fetch.{Fetch}

-- how large a value of a type is, in bytes: an integer or a pointer
abbrev pub value_bytes : Ty → ℕ
value_bytes (int w) = bytes_of_width w
value_bytes _ = 8

-- an address so many bytes behind that of a name
abbrev pub address_behind : ℕ → ℕ → ℕ → Instr
address_behind n base distance = Instr.Gep n false (int 8) (Operand.Local base) (record { ty = int 64; value = Operand.Number (pos distance) } ∷ [])

-- the instruction that fetches into a name
abbrev pub fetch_into : ℕ → Fetch → Instr
fetch_into n (Fetch.Load ty cell) = Instr.Load n ty (Operand.Local cell) (value_bytes ty)
fetch_into n (Fetch.Address base distance) = address_behind n base distance

-- ---- one operand

abbrev pub fetch_at : Option (Option Fetch) → Option Fetch
fetch_at None = None
fetch_at (Some f) = f

-- how an operand is fetched, where it is
abbrev pub fetch_of : List (Option Fetch) → Operand → Option Fetch
fetch_of t (Operand.Local v) = fetch_at (slice_get t v)
fetch_of t _ = None

abbrev pub fetches_by : ℕ → Option Fetch → List Instr
fetches_by n None = []
fetches_by n (Some f) = fetch_into n f ∷ []

abbrev pub operand_by : ℕ → Option Fetch → Operand → Operand
operand_by n None x = x
operand_by n (Some f) x = Operand.Local n

abbrev pub next_by : ℕ → Option Fetch → ℕ
next_by n None = n
next_by n (Some f) = n + 1

-- what is fetched for an operand
abbrev pub fetches_of : List (Option Fetch) → ℕ → Operand → List Instr
fetches_of t n x = fetches_by n (fetch_of t x)

-- the operand in its place
abbrev pub fetched_operand : List (Option Fetch) → ℕ → Operand → Operand
fetched_operand t n x = operand_by n (fetch_of t x) x

-- the next new name behind it
abbrev pub next_after : List (Option Fetch) → ℕ → Operand → ℕ
next_after t n x = next_by n (fetch_of t x)

-- ---- operands in order

abbrev pub fetches_of_all : List (Option Fetch) → ℕ → List Operand → List Instr
fetches_of_all t n [] = []
fetches_of_all t n (x ∷ xs) = fetches_of t n x ++ fetches_of_all t (next_after t n x) xs

abbrev pub next_after_all : List (Option Fetch) → ℕ → List Operand → ℕ
next_after_all t n [] = n
next_after_all t n (x ∷ xs) = next_after_all t (next_after t n x) xs

abbrev pub fetched_arg : List (Option Fetch) → ℕ → Arg → Arg
fetched_arg t n a = record { ty = a.ty; value = fetched_operand t n a.value }

abbrev pub fetched_args : List (Option Fetch) → ℕ → List Arg → List Arg
fetched_args t n [] = []
fetched_args t n (a ∷ args) = fetched_arg t n a ∷ fetched_args t (next_after t n a.value) args

-- ---- a callee, which is an operand where it is a local

abbrev pub callee_by : ℕ → Option Fetch → Callee → Callee
callee_by n None c = c
callee_by n (Some f) c = Callee.Local n

abbrev pub fetch_of_callee : List (Option Fetch) → Callee → Option Fetch
fetch_of_callee t (Callee.Local v) = fetch_at (slice_get t v)
fetch_of_callee t _ = None

abbrev pub fetched_callee : List (Option Fetch) → ℕ → Callee → Callee
fetched_callee t n c = callee_by n (fetch_of_callee t c) c
