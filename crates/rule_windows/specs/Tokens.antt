-- For each token the suspends that take it.
use Rattle.std.specs.Prelude.{ℕ, List, [], Some, None, Option, slice_get, slice_set, ◌≡◌, ◌<◌, ◌+◌, ◌∷◌, ◌++◌, length, if◌then◌else◌}
use Rattle.ir_parts.specs.ir_model.declared.instr.Instr.{Instr}
use Rattle.ir_parts.specs.ir_model.declared.module.Block.{Block}
use Rattle.ir_parts.specs.ir_model.declared.module.Function.{Function}
use Rattle.ir_parts.specs.ir_model.declared.operand.Intrinsic.{Intrinsic}
use Rattle.flow_points.specs.ir_paths.Slots.{local_of}
use Rattle.flow_points.specs.ir_paths.Windows.{call_operand, is_call_of, is_suspend_of, points_where}
use Rattle.flow_points.specs.ir_paths.declared.point.Point.{Point}
use Rattle.flow_points.specs.Rows.{row_at}

-- each local's row has the suspends that take it as their token, in order of the text
pub record AreTokensOf (f : Function) (rows : List (List Point)) : Type 0 where
  pub each : (v : ℕ) (row : List Point) → slice_get rows v ≡ Some row → row ≡ points_where (is_suspend_of (Some v)) f

-- ---- the rows, one suspend after another

abbrev pub token_in : Instr → Option ℕ
token_in i = local_of (call_operand i 0)

-- the token that an instruction takes as a suspend
abbrev pub taken_by : Instr → Option ℕ
taken_by i = if is_call_of Intrinsic.CoroSuspend i then token_in i else None

abbrev pub with_point : List (List Point) → ℕ → Point → List (List Point)
with_point rows v p = slice_set rows v (row_at rows v ++ p ∷ [])

abbrev pub with_token : List (List Point) → Option ℕ → Point → List (List Point)
with_token rows None p = rows
with_token rows (Some v) p = with_point rows v p

abbrev pub with_tokens_in : List (List Point) → ℕ → ℕ → List Instr → List (List Point)
with_tokens_in rows block at [] = rows
with_tokens_in rows block at (i ∷ is) = with_tokens_in (with_token rows (taken_by i) (record { block = block; at = at })) block (at + 1) is

abbrev pub with_tokens_by : List (List Point) → ℕ → List Block → List (List Point)
with_tokens_by rows block [] = rows
with_tokens_by rows block (b ∷ bs) = with_tokens_by (with_tokens_in rows block 0 b.instrs) (block + 1) bs
