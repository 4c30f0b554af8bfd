-- Until an activation has an instance no begin lies behind it, and a coroutine's activation stands on another one.
use Rattle.std.specs.Prelude.{◌≡◌, ℕ, true, false, List, [], ◌∷◌, None, Some, Ok, Option, Result, Err}
use Rattle.pass_frames_proof.specs.ir_base.declared.cause.Cause.{Cause}
use Rattle.pass_frames_proof.specs.ir_model.Names.{function_at}
use Rattle.pass_frames_proof.specs.ir_model.declared.instr.Instr.{Instr}
use Rattle.pass_frames_proof.specs.ir_model.declared.module.Function.{Function}
use Rattle.pass_frames_proof.specs.ir_model.declared.module.Module.{Module}
use Rattle.pass_frames_proof.specs.ir_paths.declared.point.Point.{Point}
use Rattle.pass_frames_meaning.specs.Called.{FitsMode}
use Rattle.pass_frames_meaning.specs.Led.{IsBegin, IsBegunOnce}
use Rattle.pass_frames_proof.specs.pass_kept_proof.Crossing.{IsReachedWithout}
use Rattle.pass_frames_proof.specs.run_framed.Framed.{begin_name}
use Rattle.pass_renewed_meaning.specs.run_hooks.Away.{point_in}
use Rattle.pass_renewed_meaning.specs.run_hooks.Hooks.{Hooks}
use Rattle.pass_renewed_meaning.specs.run_hooks.Left.{waiting}
use Rattle.pass_frames_proof.specs.run_memory.declared.pointer.Value.{Value}
use Rattle.pass_frames_proof.specs.run_source.State.{function_of}
use Rattle.pass_frames_proof.specs.run_source.declared.state.Activation.{Activation}
use Rattle.pass_frames_proof.specs.run_source.declared.state.Instance.{Instance}
use Rattle.pass_frames_proof.specs.run_source.declared.state.Mode.{Mode}
use Rattle.pass_frames_proof.specs.run_source.declared.state.State.{State}
use Rattle.pass_frames_proof.specs.run_step.Step.{AtInstr, Fetched, fetch}
use Rattle.pass_frames_proof.specs.run_step.Values.{Env}
use Rattle.pass_frames_proof.specs.run_step.declared.world.Slot.{Slot}

-- of a coroutine's activation
abbrev pub IsOwnMode : Mode → Type 0
IsOwnMode Mode.Plain = ⊥
IsOwnMode _ = Unit {0}

-- a path without begin leads to the point
abbrev pub IsBeginAhead : Function → Point → Type 0
IsBeginAhead f p = (v : ℕ) → begin_name f ≡ Some v → IsReachedWithout f v p.block p.at

pub record IsBased (f : Function) (a : Activation) : Type 0 where
  pub mode : f.coroutine ≡ true → IsOwnMode a.mode
  pub ahead : a.instance ≡ None → IsBeginAhead f (point_in a)

abbrev pub AreBased : Module → List Activation → Type 0
AreBased m [] = Unit {0}
AreBased m (a ∷ below) = IsBased (function_at m a.func) a × AreBased m below

-- the last one, below all others, is of no coroutine
abbrev pub StandsOnPlain : Module → ℕ → List Activation → Type 0
StandsOnPlain m func [] = (function_at m func).coroutine ≡ false
StandsOnPlain m func (a ∷ below) = StandsOnPlain m a.func below

pub record IsBasedState (m : Module) (s : State) : Type 0 where
  pub top : IsBased (function_at m s.top.func) s.top
  pub below : AreBased m s.below
  pub last : StandsOnPlain m s.top.func s.below

-- what a part of a step gives, if it gives a state
abbrev pub StaysBased : Module → Result State Cause → Type 0
StaysBased m (Err cause) = Unit {0}
StaysBased m (Ok s) = IsBasedState m s

-- N1 and K2: begin alone gives its name
abbrev pub AreBegunOnce : Module → Type 0
AreBegunOnce m = (func v : ℕ) → begin_name (function_at m func) ≡ Some v → IsBegunOnce (function_at m func) v

-- ---- what it asks of hooks

-- On top is an activation of the same function; if it has no instance it stands where it did.
pub record IsOnPlace (s t : State) : Type 0 where
  pub func : t.top.func ≡ s.top.func
  pub below : t.below ≡ s.below
  pub mode : IsOwnMode s.top.mode → IsOwnMode t.top.mode
  pub place : t.top.instance ≡ None → (s.top.instance ≡ None) × (point_in t.top ≡ point_in s.top)

-- an activation of an instance is on top
pub record IsWokenOn (s t : State) : Type 0 where
  pub below : t.below ≡ waiting s ∷ s.below
  pub mode : IsOwnMode t.top.mode
  pub owned : t.top.instance ≡ None → ⊥

-- an instruction that is no begin
pub record IsNoBegin (x : Fetched) : Type 0 where
  pub instr : Instr
  pub stands : x ≡ AtInstr instr
  pub other : IsBegin instr → ⊥

pub record KeepsBased (h : Hooks) : Type 0 where
  pub go_on : (s : State) (i : ℕ) (x : Instance) (suspend : Point) (values : Env) (label : ℕ)
      → IsWokenOn s (h.go_on s i x suspend values label)
  pub place : (s : State) (slot : Slot) → FitsMode s.top.instance s.top.mode → IsOnPlace s (h.place s slot)
  -- behind begin it has an instance
  pub start : (s : State) (result : Option ℕ) (memory : Value) (t : State) → h.start s result memory ≡ Ok t
      → IsOnPlace s t × (t.top.instance ≡ None → ⊥)
  pub close : (s : State) → IsOnPlace s (h.close s)
  -- no call gives a frame
  pub ungiven : (s : State) (block at : ℕ) → h.given_call s (fetch (function_of h.given s) block at) ≡ None
  pub idle : (s : State) (x : Fetched) → h.is_idle s x ≡ true → IsNoBegin x
