-- Activations that have begun no instance stand before begin.
use Rattle.std.specs.Prelude.{◌≡◌, ℕ, ◌+◌, true, List, [], ◌∷◌, None, Option, Result, Ok, Err}
use Rattle.pass_frames_proof.specs.ir_base.declared.cause.Cause.{Cause}
use Rattle.pass_frames_proof.specs.ir_model.Names.{function_at, position_of}
use Rattle.pass_frames_proof.specs.ir_model.declared.instr.Instr.{Instr}
use Rattle.pass_frames_proof.specs.ir_model.declared.module.Function.{Function}
use Rattle.pass_frames_proof.specs.ir_model.declared.module.Module.{Module}
use Rattle.pass_frames_meaning.specs.Called.{FitsMode}
use Rattle.pass_frames_meaning.specs.Led.{IsBegin}
use Rattle.pass_frames_proof.specs.pass_kept_proof.Needed.{BranchesTo}
use Rattle.pass_renewed_meaning.specs.run_hooks.Hooks.{Hooks}
use Rattle.pass_renewed_meaning.specs.run_hooks.Left.{KeepsLast}
use Rattle.pass_renewed_meaning.specs.run_hooks.Reached.{KeepsReached}
use Rattle.pass_frames_proof.specs.run_source.State.{function_of}
use Rattle.pass_frames_proof.specs.run_source.declared.state.Activation.{Activation}
use Rattle.pass_frames_proof.specs.run_source.declared.state.State.{State}
use Rattle.pass_frames_proof.specs.run_step.Step.{AtInstr, fetch}
use Rattle.pass_frames_proof.specs.run_step.declared.world.Slot.{Slot}

-- a path leads from the entry to a point without passing begin
pub data IsBefore (f : Function) : ℕ → ℕ → Type 0 where
  first : IsBefore f 0 0
  after : {block at : ℕ} (i : Instr) → fetch f block at ≡ AtInstr i → (IsBegin i → ⊥) → IsBefore f block at
      → IsBefore f block (at + 1)
  along : {block at : ℕ} (label : ℕ) → BranchesTo label (fetch f block at) → IsBefore f block at
      → IsBefore f (position_of f label) 0

-- ---- states

abbrev pub IsUnbegun : Module → Activation → Type 0
IsUnbegun m a = a.instance ≡ None → IsBefore (function_at m a.func) a.block a.at

abbrev pub AreUnbegun : Module → List Activation → Type 0
AreUnbegun m [] = Unit {0}
AreUnbegun m (a ∷ below) = IsUnbegun m a × AreUnbegun m below

pub record IsUnbegunState (m : Module) (s : State) : Type 0 where
  pub stack : AreUnbegun m (s.top ∷ s.below)

-- what a part of a step gives, if it gives a state
abbrev pub StaysUnbegun : Module → Result State Cause → Type 0
StaysUnbegun m (Err cause) = Unit {0}
StaysUnbegun m (Ok s) = IsUnbegunState m s

-- ---- what it asks of hooks

-- the topmost activation stands at the same point
pub record IsSameSpot (s t : State) : Type 0 where
  pub func : t.top.func ≡ s.top.func
  pub block : t.top.block ≡ s.top.block
  pub at : t.top.at ≡ s.top.at

pub record KeepsUnbegun (h : Hooks) : Type 0 where
  pub last : KeepsLast h
  pub reached : KeepsReached h
  -- what makes allocas again has an instance
  pub place : (s : State) (slot : Slot) → s.top.instance ≡ None → FitsMode s.top.instance s.top.mode
      → IsSameSpot s (h.place s slot)
  -- what does nothing is a marker
  pub marker : (s : State) (i : Instr) → h.is_idle s (AtInstr i) ≡ true → IsBegin i → ⊥
  -- no call gives a frame
  pub ungiven : (s : State) (block at : ℕ) → h.given_call s (fetch (function_of h.given s) block at) ≡ None
