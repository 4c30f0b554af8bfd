-- What is asked of a source's coroutines for frames to show values and distances.
use Rattle.std.specs.Prelude.{◌≡◌, ℕ, ℤ, ◌<◌, ◌^◌, true, List, Some, slice_get}
use Rattle.compiler_theorem.specs.theorem.Anew.{Anew}
use Rattle.compiler_theorem.specs.theorem.Built.{building}
use Rattle.compiler_theorem.specs.theorem.Lowered.{IsLowered, Lowered}
use Rattle.compiler_theorem.specs.theorem.SharedBytes.{HasField, IsInLocalSlot}
use Rattle.compiler_theorem.specs.theorem.Suspended.{IsDistanceKept, IsFieldKept, IsValueKept, kept_place}
use Rattle.compiler.specs.frame_crossing.Crossing.{Crosses}
use Rattle.compiler.specs.ir_model.Names.{function_at}
use Rattle.compiler.specs.ir_paths.declared.point.Point.{Point}
use Rattle.compiler.specs.pass_cells.declared.plan.KeptValue.{KeptValue}
use Rattle.pass_frames_meaning.specs.pass_frames_proof.Places.{Framing}
use Rattle.pass_frames_meaning.specs.pass_frames_proof.Related.{IsSuspendNumber}
use Rattle.compiler.specs.run_framed.Framed.{layout_of}
use Rattle.compiler.specs.run_memory.declared.pointer.Offset.{Offset}
use Rattle.compiler.specs.run_memory.declared.pointer.Pointer.{Pointer}
use Rattle.compiler.specs.run_memory.declared.pointer.Value.{Value}
use Rattle.compiler.specs.run_source.declared.state.Instance.{Instance}
use Rattle.compiler.specs.run_source.declared.state.State.{State}
use Rattle.compiler.specs.run_source.declared.state.Status.{Status}
use Rattle.compiler.specs.run_step.Values.{Env, value_in}

-- a value that crosses a suspend has a field: of itself, or of its distance where it is an address in a local slot
pub record HasKeptField (a : Anew) (l : Lowered) (x : Framing) (func : ℕ) (p : Point) (v size : ℕ) : Type 0 where
  pub value : KeptValue
  pub kept : IsFieldKept l.source x func p v size value
  pub values : (IsInLocalSlot (function_at l.source func) v → ⊥) → IsValueKept (a.roots func) v value
  pub distances : IsInLocalSlot (function_at l.source func) v → IsDistanceKept (a.roots func) v value

-- of each coroutine of the source
abbrev pub AreFieldsKept : (a : Anew) (l : Lowered) → IsLowered l → List ℤ → Type 0
AreFieldsKept a l low answers =
    (func : ℕ) (p : Point) (j v offset size : ℕ) → (function_at l.source func).coroutine ≡ true
    → IsSuspendNumber ((building l low.is_framed answers).framing func) j (kept_place l.source func p)
    → Crosses (function_at l.source func) v p
    → HasField l.source (function_at l.source func) (layout_of l.layouts.coroutines func) v offset size
    → HasKeptField a l ((building l low.is_framed answers).framing func) func p v size

-- addresses that suspended instances keep have offsets of 64 bits
abbrev pub KeepSmallOffsets : State → Type 0
KeepSmallOffsets s =
    (i : ℕ) (x : Instance) (p : Point) (values : Env) (v at : ℕ) (o : Offset) → slice_get s.instances i ≡ Some x
    → x.status ≡ Status.Suspended p values → value_in values v ≡ Value.Ptr (Pointer.At at o) → o.bits < 2 ^ 64
