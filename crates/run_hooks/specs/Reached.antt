-- What is reached in each state of a run by hooks.
use Rattle.std.specs.Prelude.{◌≡◌, ℕ, ◌+◌, true, List, [], ◌∷◌, slice_get, Option, Some, Result, Ok, Err}
use Rattle.pass_renewed_proof.specs.ir_base.declared.cause.Cause.{Cause}
use Rattle.pass_renewed_proof.specs.ir_model.Names.{function_at, position_of}
use Rattle.pass_renewed_proof.specs.ir_model.declared.instr.Instr.{Instr}
use Rattle.pass_renewed_proof.specs.ir_model.declared.module.Function.{Function}
use Rattle.pass_renewed_proof.specs.ir_model.declared.module.Module.{Module}
use Rattle.pass_renewed_proof.specs.ir_model.declared.operand.Intrinsic.{Intrinsic}
use Rattle.pass_renewed_proof.specs.ir_paths.Paths.{Leads}
use Rattle.pass_renewed_proof.specs.ir_paths.Windows.{suspend_of}
use Rattle.pass_renewed_proof.specs.ir_paths.declared.point.Point.{Point}
use Rattle.pass_renewed_proof.specs.pass_kept_proof.Needed.{IsReached}
use Rattle.pass_renewed_proof.specs.pass_kept_proof.Related.{AreSoundInstances, coroutines}
use Rattle.pass_renewed_proof.specs.pass_kept_proof.SuspendRules.{IsCallAt, IsSwitched}
use Rattle.run_hooks.specs.Hooks.{Hooks}
use Rattle.pass_renewed_proof.specs.run_memory.declared.pointer.Value.{Value}
use Rattle.pass_renewed_proof.specs.run_source.State.{function_of}
use Rattle.pass_renewed_proof.specs.run_source.declared.state.Activation.{Activation}
use Rattle.pass_renewed_proof.specs.run_source.declared.state.Instance.{Instance}
use Rattle.pass_renewed_proof.specs.run_source.declared.state.Mode.{Mode}
use Rattle.pass_renewed_proof.specs.run_source.declared.state.State.{State}
use Rattle.pass_renewed_proof.specs.run_source_tables.Given.{Given}
use Rattle.pass_renewed_proof.specs.run_step.Step.{AtInstr, Fetched}
use Rattle.pass_renewed_proof.specs.run_step.Values.{Env}
use Rattle.pass_renewed_proof.specs.run_step.declared.world.Slot.{Slot}

-- ---- states

-- an activation is in the function of its instance, at a reached place; so is a label that it enters behind allocas
pub record IsReachedActivation (g : Given) (cs : List ℕ) (a : Activation) : Type 0 where
  pub own : (i : ℕ) → a.instance ≡ Some i → slice_get cs i ≡ Some a.func
  pub reached : IsReached (function_at g.code a.func) a.block a.at
  pub entered : (from label : ℕ) → a.mode ≡ Mode.Entering from label
      → IsReached (function_at g.code a.func) (position_of (function_at g.code a.func) label) 0

abbrev pub AreReachedActivations : Given → List ℕ → List Activation → Type 0
AreReachedActivations g cs [] = Unit {0}
AreReachedActivations g cs (a ∷ below) = IsReachedActivation g cs a × AreReachedActivations g cs below

-- all activations are at reached places, and instances are suspended at reached suspends
pub record IsReachedState (g : Given) (s : State) : Type 0 where
  pub top : IsReachedActivation g (coroutines s.instances) s.top
  pub below : AreReachedActivations g (coroutines s.instances) s.below
  pub instances : AreSoundInstances g s.instances

-- what a part of a step gives, if it gives a state
abbrev pub Stays : Given → Result State Cause → Type 0
Stays g (Err cause) = Unit {0}
Stays g (Ok s) = IsReachedState g s

-- the place behind that of the topmost activation is reached
abbrev pub IsBehind : Given → State → Type 0
IsBehind g s = IsReached (function_of g s) s.top.block (s.top.at + 1)

-- ---- what it asks

-- a suspend is followed at once by its switch, and a path leads from a save to its suspend
pub record HasSwitches (f : Function) : Type 0 where
  pub switched : (s : Point) → IsCallAt Intrinsic.CoroSuspend f s → IsSwitched f s
  pub leads : (k s : Point) → IsCallAt Intrinsic.CoroSave f k → suspend_of f k ≡ Some s → Leads f [] k s

abbrev pub AllHaveSwitches : Module → Type 0
AllHaveSwitches m = (func : ℕ) → HasSwitches (function_at m func)

-- an instruction, and no terminator
abbrev pub IsAnInstr : Fetched → Type 0
IsAnInstr x = (i : Instr) × (x ≡ AtInstr i)

-- a way to go on that comes to reached states, from the instruction of a resume or destroy
abbrev pub GoesOnReached : Hooks → State → Type 0
GoesOnReached h s =
    (i : ℕ) (x : Instance) (suspend : Point) (values : Env) (label : ℕ)
    → slice_get s.instances i ≡ Some x
    → IsReached (function_at h.given.code x.coroutine) (position_of (function_at h.given.code x.coroutine) label) 0
    → IsReachedState h.given (h.go_on s i x suspend values label)

-- hooks that come from reached states to reached states
pub record KeepsReached (h : Hooks) : Type 0 where
  pub go_on : (s : State) → IsReachedState h.given s → IsBehind h.given s → GoesOnReached h s
  pub place : (s : State) (slot : Slot) → IsReachedState h.given s → IsReachedState h.given (h.place s slot)
  pub start : (s : State) (result : Option ℕ) (memory : Value)
      → IsReachedState h.given s → IsBehind h.given s → Stays h.given (h.start s result memory)
  pub close : (s : State) → IsReachedState h.given s → IsReachedState h.given (h.close s)
  -- the topmost activation stays as it is
  pub closed : (s : State) → (h.close s).top ≡ s.top
  pub call : (s : State) (x : Fetched) (r : Result State Cause)
      → IsReachedState h.given s → IsBehind h.given s → h.given_call s x ≡ Some r → Stays h.given r
  -- a call and a marker are instructions
  pub called : (s : State) (x : Fetched) (r : Result State Cause) → h.given_call s x ≡ Some r → IsAnInstr x
  pub idle : (s : State) (x : Fetched) → h.is_idle s x ≡ true → IsAnInstr x
