-- The instructions that sum a distance, wrapping in 64 bits.
use Rattle.std.specs.Prelude.{ℕ, Bool, true, false, List, [], pos, Some, None, Option, ◌+◌, ◌∷◌, ◌++◌, if◌then◌else◌, ◌==◌}
use Rattle.ir_base.specs.declared.ops.BinOp.{BinOp}
use Rattle.ir_base.specs.declared.ops.CastOp.{CastOp}
use Rattle.pass_distances.specs.declared.way.Way.{Way}
use Rattle.pass_intrinsics.specs.Lowered.{no_flags}
use Rattle.ir_model.specs.Ty.{Ty, int}
use Rattle.ir_model.specs.declared.instr.Instr.{Instr}
use Rattle.ir_model.specs.declared.operand.Arg.{Arg}
use Rattle.ir_model.specs.declared.operand.Operand.{Operand}

-- ---- an index as a number of 64 bits; n is the next new name

-- an index of the type is taken as it is
abbrev pub is_wide : Ty → Bool
is_wide (int w) = w == 64
is_wide _ = true

abbrev pub widening : ℕ → Arg → List Instr
widening n a = if is_wide a.ty then [] else Instr.Cast n CastOp.Sext false a (int 64) ∷ []

abbrev pub widened : ℕ → Arg → Operand
widened n a = if is_wide a.ty then a.value else Operand.Local n

-- ---- sums: three names are kept for each way, of which the last is that of the sum

abbrev pub on_number : ℕ → BinOp → Operand → Operand → Instr
on_number r op x y = Instr.Binary r op no_flags (int 64) x y

-- x is the distance so far
abbrev pub way_instrs : ℕ → Operand → Way → List Instr
way_instrs n x (Way.Bytes bytes) = on_number (n + 2) BinOp.Add x (Operand.Number (pos bytes)) ∷ []
way_instrs n x (Way.Elements a size) =
    widening n a
    ++ on_number (n + 1) BinOp.Mul (widened n a) (Operand.Number (pos size))
    ∷ on_number (n + 2) BinOp.Add x (Operand.Local (n + 1))
    ∷ []

abbrev pub sum_instrs : ℕ → Operand → List Way → List Instr
sum_instrs n x [] = []
sum_instrs n x (w ∷ ws) = way_instrs n x w ++ sum_instrs (n + 3) (Operand.Local (n + 2)) ws

abbrev pub sum_value : ℕ → Operand → List Way → Operand
sum_value n x [] = x
sum_value n x (w ∷ ws) = sum_value (n + 3) (Operand.Local (n + 2)) ws

abbrev pub sum_next : ℕ → List Way → ℕ
sum_next n [] = n
sum_next n (w ∷ ws) = sum_next (n + 3) ws

-- ---- a distance, from 0 or from the one that a cell keeps of the base

abbrev pub start_instrs : ℕ → Option ℕ → List Instr
start_instrs n None = []
start_instrs n (Some cell) = Instr.Load n (int 64) (Operand.Local cell) 8 ∷ []

abbrev pub start_value : ℕ → Option ℕ → Operand
start_value n None = Operand.Number (pos 0)
start_value n (Some cell) = Operand.Local n

-- the distance goes into a cell of its own
abbrev pub distance_instrs : ℕ → Option ℕ → ℕ → List Way → List Instr
distance_instrs n from cell ways =
    start_instrs n from
    ++ sum_instrs (n + 1) (start_value n from) ways
    ++ Instr.Store (record { ty = int 64; value = sum_value (n + 1) (start_value n from) ways }) (Operand.Local cell) 8
    ∷ []

abbrev pub distance_next : ℕ → List Way → ℕ
distance_next n ways = sum_next (n + 1) ways
