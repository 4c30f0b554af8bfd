-- Names of allocas: those that may be made anew have addresses behind their allocas, and a called activation has no
-- value for what is still to come.
use Rattle.std.specs.Prelude.{◌≡◌, ◌<◌, ◌≤◌, ℕ, Bool, true, List, [], ◌∷◌, Result, Ok, Err}
use Rattle.pass_frames_proof.specs.ir_base.declared.cause.Cause.{Cause}
use Rattle.pass_frames_proof.specs.ir_base.declared.outcome.Outcome.{Outcome}
use Rattle.pass_frames_proof.specs.ir_model.Names.{function_at, position_of}
use Rattle.pass_frames_proof.specs.ir_model.declared.module.Function.{Function}
use Rattle.pass_frames_proof.specs.ir_model.declared.module.Module.{Module}
use Rattle.pass_frames_proof.specs.ir_paths.declared.point.Point.{Point}
use Rattle.pass_frames_meaning.specs.Executed.{IsFirstMode, KeepsExecuted}
use Rattle.pass_frames_proof.specs.pass_kept_proof.Needed.{BranchesTo}
use Rattle.pass_frames_proof.specs.pass_renewed_proof.SlotRules.{IsMadeOnce}
use Rattle.pass_renewed_meaning.specs.run_hooks.Hooks.{Hooks}
use Rattle.pass_frames_proof.specs.run_memory.declared.pointer.Value.{Value}
use Rattle.pass_frames_proof.specs.run_source.declared.state.Activation.{Activation}
use Rattle.pass_frames_proof.specs.run_source.declared.state.Instance.{Instance}
use Rattle.pass_frames_proof.specs.run_source.declared.state.State.{State}
use Rattle.pass_frames_proof.specs.run_step.Step.{fetch}
use Rattle.pass_frames_proof.specs.run_step.Values.{Env, pointer_to, value_in}
use Rattle.pass_frames_proof.specs.run_step.declared.world.Slot.{Slot}

-- ---- values

-- of an activation of the function at a point: flagged names have addresses, in the entry block those before the point
abbrev pub HaveAddresses : (ℕ → Bool) → Function → (block at : ℕ) → Env → Type 0
HaveAddresses flags f block at values =
    (v : ℕ) → flags v ≡ true → (made : IsMadeOnce f v) → (block ≡ 0 → made.at < at)
    → (n : ℕ) × (value_in values v ≡ pointer_to n)

-- in the entry block, of allocas at the point or behind it there are no values
abbrev pub AreUnmade : Function → (block at : ℕ) → Env → Type 0
AreUnmade f block at values =
    (v : ℕ) → (made : IsMadeOnce f v) → block ≡ 0 → at ≤ made.at → value_in values v ≡ Value.Poison

abbrev pub IsAddressed : Module → (ℕ → ℕ → Bool) → Activation → Type 0
IsAddressed m flags a = HaveAddresses (flags a.func) (function_at m a.func) a.block a.at a.values

-- ---- states

pub record IsAnew (m : Module) (flags : ℕ → ℕ → Bool) (a : Activation) : Type 0 where
  pub made : IsAddressed m flags a
  pub unmade : IsFirstMode a.mode → AreUnmade (function_at m a.func) a.block a.at a.values

abbrev pub AreAnewOn : Module → (ℕ → ℕ → Bool) → List Activation → Type 0
AreAnewOn m flags [] = Unit {0}
AreAnewOn m flags (a ∷ below) = IsAnew m flags a × AreAnewOn m flags below

-- while the run isn't over
abbrev pub IsAnewState : Module → (ℕ → ℕ → Bool) → State → Type 0
IsAnewState m flags s = s.outcome ≡ Outcome.Running → AreAnewOn m flags (s.top ∷ s.below)

-- what a part of a step gives, if it gives a state
abbrev pub StaysAnew : Module → (ℕ → ℕ → Bool) → Result State Cause → Type 0
StaysAnew m flags (Err cause) = Unit {0}
StaysAnew m flags (Ok s) = IsAnewState m flags s

-- ---- what it asks of functions

-- F1: no edge leads to an entry block
abbrev pub AreEntriesFree : Module → Type 0
AreEntriesFree m = (func block at label : ℕ) → BranchesTo label (fetch (function_at m func) block at)
    → position_of (function_at m func) label ≡ 0 → ⊥

-- ---- what it asks of hooks

pub record KeepsAnew (flags : ℕ → ℕ → Bool) (h : Hooks) : Type 0 where
  pub executed : KeepsExecuted h
  -- what goes on makes all that is flagged before it comes to its label
  pub go_on : (s : State) (i : ℕ) (x : Instance) (suspend : Point) (values : Env) (label : ℕ)
      → IsAddressed h.given.code flags (h.go_on s i x suspend values label).top
  pub place : (s : State) (slot : Slot) → IsAddressed h.given.code flags s.top
      → IsAddressed h.given.code flags (h.place s slot).top
