-- Activations below stand right behind calls, and allocas are made again by instances' activations alone.
use Rattle.std.specs.Prelude.{◌≡◌, ℕ, ◌+◌, false, List, [], ◌∷◌, None, Ok, Option, Result, Err, is_none}
use Rattle.pass_frames_proof.specs.ir_base.declared.cause.Cause.{Cause}
use Rattle.pass_frames_proof.specs.ir_model.Names.{function_at}
use Rattle.pass_frames_proof.specs.ir_model.declared.instr.Instr.{Instr}
use Rattle.pass_frames_proof.specs.ir_model.declared.module.Function.{Function}
use Rattle.pass_frames_proof.specs.ir_model.declared.module.Module.{Module}
use Rattle.pass_frames_proof.specs.ir_model.declared.operand.Callee.{Callee}
use Rattle.pass_frames_proof.specs.ir_model.declared.operand.Intrinsic.{Intrinsic}
use Rattle.pass_frames_proof.specs.ir_parts.Contents.{result_of}
use Rattle.pass_frames_proof.specs.ir_paths.declared.point.Point.{Point}
use Rattle.pass_renewed_meaning.specs.run_hooks.Hooks.{Hooks}
use Rattle.pass_renewed_meaning.specs.run_hooks.Left.{waiting}
use Rattle.pass_frames_proof.specs.run_memory.declared.pointer.Value.{Value}
use Rattle.pass_frames_proof.specs.run_source.State.{function_of}
use Rattle.pass_frames_proof.specs.run_source.declared.state.Activation.{Activation}
use Rattle.pass_frames_proof.specs.run_source.declared.state.Instance.{Instance}
use Rattle.pass_frames_proof.specs.run_source.declared.state.Mode.{Mode}
use Rattle.pass_frames_proof.specs.run_source.declared.state.State.{State}
use Rattle.pass_frames_proof.specs.run_step.Step.{AtInstr, fetch}
use Rattle.pass_frames_proof.specs.run_step.Values.{Env}
use Rattle.pass_frames_proof.specs.run_step.declared.world.Slot.{Slot}

-- a function is called by its name or through a pointer, or a coroutine is resumed or destroyed
abbrev pub Calls : Callee → Type 0
Calls (Callee.Named n) = Unit {0}
Calls (Callee.Local v) = Unit {0}
Calls (Callee.Intrinsic Intrinsic.CoroResume) = Unit {0}
Calls (Callee.Intrinsic Intrinsic.CoroDestroy) = Unit {0}
Calls _ = ⊥

abbrev pub IsCalling : Instr → Type 0
IsCalling (Instr.Call result must_tail ty callee args) = Calls callee
IsCalling _ = ⊥

-- it makes no allocas again, and has no given frame
abbrev pub IsCalm : Mode → Type 0
IsCalm (Mode.Entering from label) = ⊥
IsCalm (Mode.GivenRamp frame) = ⊥
IsCalm _ = Unit {0}

-- what makes allocas again has an instance, and no ramp is given its frame
abbrev pub FitsMode : Option ℕ → Mode → Type 0
FitsMode instance (Mode.Entering from label) = is_none instance ≡ false
FitsMode instance (Mode.GivenRamp frame) = ⊥
FitsMode instance mode = Unit {0}

-- right behind a call, whose result has the name
pub record IsBehindCall (f : Function) (a : Activation) (result : Option ℕ) : Type 0 where
  pub calm : IsCalm a.mode
  pub at : ℕ
  pub behind : a.at ≡ at + 1
  pub call : Instr
  pub there : fetch f a.block at ≡ AtInstr call
  pub gives : result_of call ≡ result
  pub calls : IsCalling call

abbrev pub AreBehindCalls : Module → Option ℕ → List Activation → Type 0
AreBehindCalls m result [] = Unit {0}
AreBehindCalls m result (a ∷ below) =
    IsBehindCall (function_at m a.func) a result × AreBehindCalls m a.result below

pub record IsCalledState (m : Module) (s : State) : Type 0 where
  pub mode : FitsMode s.top.instance s.top.mode
  pub below : AreBehindCalls m s.top.result s.below

abbrev pub StaysCalled : Module → Result State Cause → Type 0
StaysCalled m (Err cause) = Unit {0}
StaysCalled m (Ok s) = IsCalledState m s

-- ---- what it asks of hooks

-- the same activations below, and on top one of the same result
pub record IsOnSame (s t : State) : Type 0 where
  pub below : t.below ≡ s.below
  pub result : t.top.result ≡ s.top.result
  pub mode : FitsMode s.top.instance s.top.mode → FitsMode t.top.instance t.top.mode

-- an activation of an instance is on top, which gives no result
pub record IsResumedOn (s t : State) : Type 0 where
  pub below : t.below ≡ waiting s ∷ s.below
  pub result : t.top.result ≡ None
  pub mode : FitsMode t.top.instance t.top.mode

pub record KeepsCalled (h : Hooks) : Type 0 where
  pub go_on : (s : State) (i : ℕ) (x : Instance) (suspend : Point) (values : Env) (label : ℕ)
      → IsResumedOn s (h.go_on s i x suspend values label)
  pub place : (s : State) (slot : Slot) → IsOnSame s (h.place s slot)
  pub start : (s : State) (result : Option ℕ) (memory : Value) (t : State) → h.start s result memory ≡ Ok t
      → IsOnSame s t
  pub close : (s : State) → IsOnSame s (h.close s)
  -- no call gives a frame
  pub ungiven : (s : State) (block at : ℕ) → h.given_call s (fetch (function_of h.given s) block at) ≡ None
