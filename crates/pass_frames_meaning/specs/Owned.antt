-- The name of each slot that a called activation has made before begin leads to it.
use Rattle.std.specs.Prelude.{◌≡◌, ◌⊎◌, ◌<◌, ℕ, Bool, true, List, [], ◌∷◌, length, None, Some, Result, Option}
use Rattle.std.specs.Prelude.{Ok, Err}
use Rattle.pass_frames_proof.specs.flow_solver.Paths.{IsListed}
use Rattle.pass_frames_proof.specs.ir_base.declared.cause.Cause.{Cause}
use Rattle.pass_frames_proof.specs.ir_base.declared.outcome.Outcome.{Outcome}
use Rattle.pass_frames_proof.specs.ir_model.Names.{function_at, position_of}
use Rattle.pass_frames_proof.specs.ir_model.Ty.{Ty}
use Rattle.pass_frames_proof.specs.ir_model.declared.instr.Instr.{Instr}
use Rattle.pass_frames_proof.specs.ir_model.declared.module.Function.{Function}
use Rattle.pass_frames_proof.specs.ir_model.declared.module.Module.{Module}
use Rattle.pass_frames_proof.specs.ir_paths.declared.point.Point.{Point}
use Rattle.pass_frames_meaning.specs.Executed.{IsFirstMode}
use Rattle.pass_frames_proof.specs.pass_kept_proof.Needed.{BranchesTo}
use Rattle.pass_frames_proof.specs.pass_renewed_proof.SlotRules.{IsMadeOnce}
use Rattle.pass_renewed_meaning.specs.run_hooks.Hooks.{Hooks}
use Rattle.pass_renewed_meaning.specs.run_hooks.Left.{KeepsLast}
use Rattle.pass_renewed_meaning.specs.run_hooks.Reached.{KeepsReached}
use Rattle.pass_frames_proof.specs.run_source.State.{function_of}
use Rattle.pass_frames_proof.specs.run_source.declared.state.Activation.{Activation}
use Rattle.pass_frames_proof.specs.run_source.declared.state.Instance.{Instance}
use Rattle.pass_frames_proof.specs.run_source.declared.state.State.{State}
use Rattle.pass_frames_proof.specs.run_step.Effects.{is_alloca}
use Rattle.pass_frames_proof.specs.run_step.Step.{AtInstr, fetch}
use Rattle.pass_frames_proof.specs.run_step.Values.{Env, pointer_to, value_in}
use Rattle.pass_frames_proof.specs.run_step.declared.world.Slot.{Slot}

-- ---- states

-- a slot of an activation at a point: its alloca stands before the point, and leads to it
pub record IsOwnLed (f : Function) (block at : ℕ) (values : Env) (slot : Slot) : Type 0 where
  pub made : IsMadeOnce f slot.alloca
  pub passed : block ≡ 0 → made.at < at
  pub leads : value_in values slot.alloca ≡ pointer_to slot.block

-- the slots of an activation lead so, and it has a value, or none, for each name
pub record AreOwnLed (f : Function) (block at : ℕ) (values : Env) (slots : List Slot) : Type 0 where
  pub wide : length values ≡ length f.names
  pub each : (slot : Slot) → IsListed slot slots → IsOwnLed f block at values slot

-- of an activation of a function that counts, which was called and hasn't begun
abbrev pub IsOwnedIn : Module → (ℕ → Bool) → Activation → Type 0
IsOwnedIn m counts a =
    counts a.func ≡ true → IsFirstMode a.mode → a.instance ≡ None
    → AreOwnLed (function_at m a.func) a.block a.at a.values a.slots

abbrev pub AreOwnedOn : Module → (ℕ → Bool) → List Activation → Type 0
AreOwnedOn m counts [] = Unit {0}
AreOwnedOn m counts (a ∷ below) = IsOwnedIn m counts a × AreOwnedOn m counts below

-- a result is given to no name of an alloca
abbrev pub GivesNoAlloca : Function → Option ℕ → Type 0
GivesNoAlloca f result = (v : ℕ) → IsMadeOnce f v → result ≡ Some v → ⊥

-- nor are the results that activations give to those below them
abbrev pub AreGivenApart : Module → Option ℕ → List Activation → Type 0
AreGivenApart m result [] = Unit {0}
AreGivenApart m result (a ∷ below) = GivesNoAlloca (function_at m a.func) result × AreGivenApart m a.result below

-- while the run isn't over
abbrev pub IsOwnedState : Module → (ℕ → Bool) → State → Type 0
IsOwnedState m counts s = s.outcome ≡ Outcome.Running → AreOwnedOn m counts (s.top ∷ s.below)

-- what a part of a step gives, if it gives a state
abbrev pub StaysOwned : Module → (ℕ → Bool) → Result State Cause → Type 0
StaysOwned m counts (Err cause) = Unit {0}
StaysOwned m counts (Ok s) = IsOwnedState m counts s

-- ---- what it asks of functions that count

pub record KeepsOwnRules (f : Function) : Type 0 where
  -- N1 and F3: an alloca stands in the entry block, and gives its name alone, which is one of the table
  pub made : (block at name : ℕ) (ty : Ty) (align : ℕ) → fetch f block at ≡ AtInstr (Instr.Alloca name ty align)
      → IsMadeOnce f name
  pub low : (block at name : ℕ) (ty : Ty) (align : ℕ) → fetch f block at ≡ AtInstr (Instr.Alloca name ty align)
      → name < length f.names
  -- F1: no edge leads to the entry block
  pub entry : (block at label : ℕ) → BranchesTo label (fetch f block at) → position_of f label ≡ 0 → ⊥

abbrev pub KeepAllOwnRules : Module → (ℕ → Bool) → Type 0
KeepAllOwnRules m counts = (func : ℕ) → counts func ≡ true → KeepsOwnRules (function_at m func)

-- ---- what it asks of hooks

-- the topmost activation has at most one slot more
pub record HasOnlySlot (slot : Slot) (s t : State) : Type 0 where
  pub func : t.top.func ≡ s.top.func
  pub block : t.top.block ≡ s.top.block
  pub at : t.top.at ≡ s.top.at
  pub values : t.top.values ≡ s.top.values
  pub instance : t.top.instance ≡ s.top.instance
  pub only : (z : Slot) → IsListed z t.top.slots → IsListed z s.top.slots ⊎ (z ≡ slot)

pub record KeepsOwned (h : Hooks) : Type 0 where
  pub last : KeepsLast h
  pub reached : KeepsReached h
  -- what goes on was resumed
  pub go_on : (s : State) (i : ℕ) (x : Instance) (suspend : Point) (values : Env) (label : ℕ)
      → IsFirstMode (h.go_on s i x suspend values label).top.mode → ⊥
  pub place : (s : State) (slot : Slot) → IsFirstMode (h.place s slot).top.mode → IsFirstMode s.top.mode
  pub placed : (s : State) (slot : Slot) → IsFirstMode s.top.mode → HasOnlySlot slot s (h.place s slot)
  -- what does nothing is a marker
  pub marker : (s : State) (i : Instr) → h.is_idle s (AtInstr i) ≡ true → is_alloca i ≡ true → ⊥
  -- no call gives a frame
  pub ungiven : (s : State) (block at : ℕ) → h.given_call s (fetch (function_of h.given s) block at) ≡ None
