-- For each value the calls of coro.destroy on it.
use Rattle.std.specs.Prelude.{ℕ, List, [], Some, None, Option, slice_get, ◌≡◌, ◌+◌, ◌∷◌, if◌then◌else◌}
use Rattle.ir_model.specs.declared.instr.Instr.{Instr}
use Rattle.ir_model.specs.declared.module.Block.{Block}
use Rattle.ir_model.specs.declared.module.Function.{Function}
use Rattle.ir_model.specs.declared.operand.Intrinsic.{Intrinsic}
use Rattle.ir_paths.specs.Slots.{local_of}
use Rattle.ir_paths.specs.Windows.{call_operand, is_call_of}
use Rattle.ir_paths.specs.declared.point.Point.{Point}
use Rattle.elide_sites.specs.Sites.{destroys_of}
use Rattle.rule_windows.specs.Tokens.{with_token}

-- each local's row has the calls of coro.destroy on it, in order of the text
pub record AreDestroysOf (f : Function) (rows : List (List Point)) : Type 0 where
  pub each : (v : ℕ) (row : List Point) → slice_get rows v ≡ Some row → row ≡ destroys_of f (Some v)

-- ---- the rows, one call after another

-- the value that an instruction destroys
abbrev pub destroyed_by : Instr → Option ℕ
destroyed_by i = if is_call_of Intrinsic.CoroDestroy i then local_of (call_operand i 0) else None

abbrev pub with_destroys_in : List (List Point) → ℕ → ℕ → List Instr → List (List Point)
with_destroys_in rows block at [] = rows
with_destroys_in rows block at (i ∷ is) = with_destroys_in (with_token rows (destroyed_by i) (record { block = block; at = at })) block (at + 1) is

abbrev pub with_destroys_by : List (List Point) → ℕ → List Block → List (List Point)
with_destroys_by rows block [] = rows
with_destroys_by rows block (b ∷ bs) = with_destroys_by (with_destroys_in rows block 0 b.instrs) (block + 1) bs
