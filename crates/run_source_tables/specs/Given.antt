-- What a run of a source is given, and which suspends are final.
use Rattle.std.specs.Prelude.{ℕ, Bool, true, false, List, [], ℤ, pos, negsuc, slice_get, Some, None, Option, unwrap_or, ◌∷◌, if◌then◌else◌, ◌==◌}
use Rattle.std.specs.List.{list_any}
pub use Rattle.ir_calls.specs.Calls.{is_true}
use Rattle.ir_model.specs.declared.instr.Instr.{Instr}
use Rattle.ir_model.specs.declared.module.Frame.{Frame}
use Rattle.ir_model.specs.declared.module.Function.{Function}
use Rattle.ir_model.specs.declared.module.Module.{Module}
use Rattle.ir_model.specs.declared.operand.Intrinsic.{Intrinsic}
use Rattle.ir_model.specs.declared.operand.Operand.{Operand}
use Rattle.ir_paths.specs.Windows.{call_operand, instr_at, is_call_of, points_where}
use Rattle.ir_paths.specs.declared.point.Facts.{Facts}
use Rattle.ir_paths.specs.declared.point.Point.{Point}

-- ---- what a run is given

-- the module, the sizes of its coroutines' frames, the answers, and the facts of its functions
pub record Given : Type 0 where
  pub code : Module
  pub sizes : List Frame
  pub answers : List ℤ
  pub facts : List Facts

abbrev pub frame_of : List Frame → ℕ → Frame
frame_of [] f = record { coroutine = f; size = 0; align = 0 }
frame_of (x ∷ frames) f = if x.coroutine == f then x else frame_of frames f

abbrev pub facts_at : List Facts → ℕ → Facts
facts_at facts f = unwrap_or (slice_get facts f) (record { windows = []; ramp_slots = [] })

-- ---- final suspends

abbrev pub is_final_call : Option Instr → Bool
is_final_call None = false
is_final_call (Some i) = is_true (call_operand i 1)

-- the second operand of the suspend is true
abbrev pub is_final : Function → Point → Bool
is_final f suspend = is_final_call (instr_at f suspend)

abbrev pub has_final : Function → Bool
has_final f = list_any (is_final f) (points_where (is_call_of Intrinsic.CoroSuspend) f)
