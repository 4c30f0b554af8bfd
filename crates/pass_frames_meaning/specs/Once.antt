-- An alloca makes one slot among those that an activation or its instance has.
use Rattle.std.specs.Prelude.{◌≡◌, ◌≢◌, ◌<◌, ℕ, List, [], ◌∷◌, length, None, Ok, Option, Some, Result, Err, slice_get}
use Rattle.pass_frames_proof.specs.ir_base.declared.cause.Cause.{Cause}
use Rattle.pass_frames_proof.specs.ir_model.Names.{function_at, position_of}
use Rattle.pass_frames_proof.specs.ir_model.Ty.{Ty}
use Rattle.pass_frames_proof.specs.ir_model.declared.instr.Instr.{Instr}
use Rattle.pass_frames_proof.specs.ir_model.declared.module.Function.{Function}
use Rattle.pass_frames_proof.specs.ir_model.declared.module.Module.{Module}
use Rattle.pass_frames_proof.specs.ir_paths.declared.point.Point.{Point}
use Rattle.pass_frames_meaning.specs.Executed.{IsFirstMode}
use Rattle.pass_frames_proof.specs.pass_renewed_proof.SlotRules.{IsMadeOnce}
use Rattle.pass_renewed_meaning.specs.run_hooks.Hooks.{Hooks}
use Rattle.pass_frames_proof.specs.run_memory.declared.pointer.Value.{Value}
use Rattle.pass_frames_proof.specs.run_source.State.{function_of, settled}
use Rattle.pass_frames_proof.specs.run_source.declared.state.Activation.{Activation}
use Rattle.pass_frames_proof.specs.run_source.declared.state.Instance.{Instance}
use Rattle.pass_frames_proof.specs.run_source.declared.state.Mode.{Mode}
use Rattle.pass_frames_proof.specs.run_source.declared.state.State.{State}
use Rattle.pass_frames_proof.specs.run_step.Step.{AtInstr, Work, fetch}
use Rattle.pass_frames_proof.specs.run_step.Values.{Env}
use Rattle.pass_frames_proof.specs.run_step.declared.world.Slot.{Slot}

-- no slot is of the alloca
abbrev pub AreOfOthers : ℕ → List Slot → Type 0
AreOfOthers name [] = Unit {0}
AreOfOthers name (s ∷ ss) = (s.alloca ≢ name) × AreOfOthers name ss

-- no two slots are of one alloca
abbrev pub AreOnce : List Slot → Type 0
AreOnce [] = Unit {0}
AreOnce (s ∷ ss) = AreOfOthers s.alloca ss × AreOnce ss

-- an alloca of the entry block stands before the point
abbrev pub IsPassed : Function → (block at : ℕ) → ℕ → Type 0
IsPassed f block at name = (made : IsMadeOnce f name) → block ≡ 0 → made.at < at

-- the allocas of the slots do
abbrev pub ArePassed : Function → (block at : ℕ) → List Slot → Type 0
ArePassed f block at [] = Unit {0}
ArePassed f block at (s ∷ ss) = IsPassed f block at s.alloca × ArePassed f block at ss

-- of slots of a called activation at a point, or of its instance
pub record AreMadeOnce (f : Function) (block at : ℕ) (slots : List Slot) : Type 0 where
  pub once : AreOnce slots
  pub passed : ArePassed f block at slots

-- the topmost activation, which was called, and its instance
pub record IsOnceAt (f : Function) (block at : ℕ) (s : State) : Type 0 where
  pub own : AreMadeOnce f block at s.top.slots
  pub instance : (i : ℕ) (x : Instance) → s.top.instance ≡ Some i → slice_get s.instances i ≡ Some x
      → AreMadeOnce f block at x.slots

-- ---- states of runs

-- of a called activation that stands at a point, by its slots and the number of its instance
pub record IsFirstOnce (f : Function) (block at : ℕ) (slots : List Slot) (number : Option ℕ) (xs : List Instance)
    : Type 0 where
  pub own : AreMadeOnce f block at slots
  pub low : (i : ℕ) → number ≡ Some i → i < length xs
  pub instance : (i : ℕ) (x : Instance) → number ≡ Some i → slice_get xs i ≡ Some x → AreMadeOnce f block at x.slots

-- One that was resumed has an instance. It stands in no entry block (F1), and while it makes slots anew it goes to no
-- label there.
abbrev pub IsOnceBy : Function → (block at : ℕ) → List Slot → Option ℕ → List Instance → Mode → Type 0
IsOnceBy f block at slots number xs Mode.Plain = IsFirstOnce f block at slots number xs
IsOnceBy f block at slots number xs Mode.Ramp = IsFirstOnce f block at slots number xs
IsOnceBy f block at slots number xs Mode.Resumed = (block ≢ 0) × (number ≢ None)
IsOnceBy f block at slots number xs (Mode.Entering from label) = (position_of f label ≢ 0) × (number ≢ None)
IsOnceBy f block at slots number xs (Mode.GivenRamp frame) = ⊥

abbrev pub IsOnceIn : Module → List Instance → Activation → Type 0
IsOnceIn m xs a = IsOnceBy (function_at m a.func) a.block a.at a.slots a.instance xs a.mode

-- none of the activations began the instance
abbrev pub HasNoFirst : ℕ → List Activation → Type 0
HasNoFirst i [] = Unit {0}
HasNoFirst i (a ∷ below) = (IsFirstMode a.mode → a.instance ≡ Some i → ⊥) × HasNoFirst i below

-- an instance was begun by one activation
abbrev pub AreOnceOn : Module → List Instance → List Activation → Type 0
AreOnceOn m xs [] = Unit {0}
AreOnceOn m xs (a ∷ below) =
    IsOnceIn m xs a × (IsFirstMode a.mode → (i : ℕ) → a.instance ≡ Some i → HasNoFirst i below) × AreOnceOn m xs below

pub record IsOnceState (m : Module) (s : State) : Type 0 where
  pub stack : AreOnceOn m s.instances (s.top ∷ s.below)
  pub instances : (i : ℕ) (x : Instance) → slice_get s.instances i ≡ Some x → AreOnce x.slots

-- what a part of a step gives, if it gives a state
abbrev pub StaysOnce : Module → Result State Cause → Type 0
StaysOnce m (Err cause) = Unit {0}
StaysOnce m (Ok s) = IsOnceState m s

-- ---- what it asks of functions

-- N1 and F3: an alloca stands in the entry block, and gives its name alone
abbrev pub AreAllocasOnce : Module → Type 0
AreAllocasOnce m =
    (func block at name : ℕ) (ty : Ty) (align : ℕ)
    → fetch (function_at m func) block at ≡ AtInstr (Instr.Alloca name ty align) → IsMadeOnce (function_at m func) name

-- ---- what it asks of hooks

pub record KeepsOnce (h : Hooks) : Type 0 where
  pub go_on : (s : State) (i : ℕ) (x : Instance) (suspend : Point) (values : Env) (label : ℕ)
      → IsOnceState h.given.code s → slice_get s.instances i ≡ Some x
      → position_of (function_at h.given.code x.coroutine) label ≢ 0
      → IsOnceState h.given.code (h.go_on s i x suspend values label)
  pub place : (s : State) (w : Work) (slot : Slot) (ty : Ty) (align : ℕ)
      → fetch (function_of h.given s) s.top.block s.top.at ≡ AtInstr (Instr.Alloca slot.alloca ty align)
      → IsMadeOnce (function_of h.given s) slot.alloca → IsOnceState h.given.code s
      → IsOnceState h.given.code (h.place (settled s w) slot)
  pub start : (s : State) (result : Option ℕ) (memory : Value) → IsOnceState h.given.code s
      → StaysOnce h.given.code (h.start s result memory)
  pub close : (s : State) → IsOnceState h.given.code s → IsOnceState h.given.code (h.close s)
  -- no call gives a frame
  pub ungiven : (s : State) (block at : ℕ) → h.given_call s (fetch (function_of h.given s) block at) ≡ None
