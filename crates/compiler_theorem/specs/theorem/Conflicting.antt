-- Which fields of frames conflict in a state of a source: those of what lives or is kept at once.
use Rattle.std.specs.Prelude.{◌≡◌, ◌≢◌, ℕ, Some, slice_get}
use Rattle.compiler.specs.frame_classes.Classes.{IsOf}
use Rattle.compiler.specs.frame_classes.declared.class.SlotClass.{SlotClass}
use Rattle.compiler.specs.frame_contents.Frames.{AreContents}
use Rattle.compiler.specs.frame_contents.Held.{position_of}
use Rattle.compiler.specs.frame_contents.declared.contents.Contents.{Contents}
use Rattle.compiler.specs.frame_crossing.Crossing.{Crosses}
use Rattle.compiler.specs.frame_good.Frames.{AreInConflict}
use Rattle.compiler.specs.ir_model.Names.{function_at}
use Rattle.compiler.specs.ir_model.declared.module.Function.{Function}
use Rattle.compiler.specs.ir_model.declared.module.Module.{Module}
use Rattle.compiler.specs.ir_paths.declared.point.Point.{Point}
use Rattle.compiler.specs.run_source.declared.state.Instance.{Instance}
use Rattle.compiler.specs.run_source.declared.state.State.{State}
use Rattle.compiler.specs.run_source.declared.state.Status.{Status}
use Rattle.compiler.specs.run_step.Values.{Env}
use Rattle.compiler.specs.run_step.declared.world.Slot.{Slot}
use Rattle.pass_frames_meaning.specs.run_hooks.alive.Apart.{IsLiveSlot}

-- two names have fields in a coroutine's frame, which are a pair of its conflicts
pub record HaveConflict (m : Module) (f : Function) (one other : ℕ) : Type 0 where
  pub contents : Contents
  pub contents_are : AreContents m f contents
  pub first : ℕ
  pub first_is : position_of contents.held one ≡ Some first
  pub second : ℕ
  pub second_is : position_of contents.held other ≡ Some second
  pub conflict : AreInConflict f contents first second

pub record HasConflicts (m : Module) (s : State) : Type 0 where
  -- two frame slots of an instance that live at once
  pub slots : (i : ℕ) (x : Instance) (one other : Slot) → slice_get s.instances i ≡ Some x → IsLiveSlot s x one
      → IsLiveSlot s x other → one.alloca ≢ other.alloca
      → IsOf (function_at m x.coroutine) one.alloca SlotClass.Frame
      → IsOf (function_at m x.coroutine) other.alloca SlotClass.Frame
      → HaveConflict m (function_at m x.coroutine) one.alloca other.alloca
  -- two values that cross the suspend where an instance is Suspended
  pub values : (i : ℕ) (x : Instance) (suspend : Point) (values : Env) (one other : ℕ)
      → slice_get s.instances i ≡ Some x → x.status ≡ Status.Suspended suspend values
      → Crosses (function_at m x.coroutine) one suspend → Crosses (function_at m x.coroutine) other suspend
      → one ≢ other → HaveConflict m (function_at m x.coroutine) one other
  -- a live frame slot, and such a value
  pub mixed : (i : ℕ) (x : Instance) (suspend : Point) (values : Env) (slot : Slot) (v : ℕ)
      → slice_get s.instances i ≡ Some x → x.status ≡ Status.Suspended suspend values → IsLiveSlot s x slot
      → IsOf (function_at m x.coroutine) slot.alloca SlotClass.Frame → Crosses (function_at m x.coroutine) v suspend
      → HaveConflict m (function_at m x.coroutine) slot.alloca v
