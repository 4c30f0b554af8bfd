-- Allocas that a called activation has executed lead to slots of its own.
use Rattle.std.specs.Prelude.{◌≡◌, ◌⊎◌, ◌<◌, ◌+◌, ℕ, Bool, true, List, [], ◌∷◌, length, None, Some, Option, Result}
use Rattle.std.specs.Prelude.{Ok, Err, filter}
use Rattle.pass_frames_proof.specs.ir_base.declared.cause.Cause.{Cause}
use Rattle.pass_frames_proof.specs.ir_base.declared.outcome.Outcome.{Outcome}
use Rattle.pass_frames_proof.specs.ir_model.Names.{function_at}
use Rattle.pass_frames_proof.specs.ir_model.declared.instr.Instr.{Instr}
use Rattle.pass_frames_proof.specs.ir_model.declared.module.Function.{Function}
use Rattle.pass_frames_proof.specs.ir_model.declared.module.Module.{Module}
use Rattle.pass_frames_proof.specs.flow_solver.Paths.{IsListed}
use Rattle.pass_frames_proof.specs.ir_paths.declared.point.Point.{Point}
use Rattle.pass_frames_meaning.specs.Led.{IsBegin}
use Rattle.pass_frames_proof.specs.pass_renewed_proof.SlotRules.{IsMadeOnce}
use Rattle.pass_renewed_meaning.specs.run_hooks.Hooks.{Hooks}
use Rattle.pass_renewed_meaning.specs.run_hooks.Left.{KeepsLast}
use Rattle.pass_renewed_meaning.specs.run_hooks.Reached.{KeepsReached}
use Rattle.pass_frames_proof.specs.run_memory.declared.pointer.Value.{Value}
use Rattle.pass_frames_proof.specs.run_source.Source.{is_among}
use Rattle.pass_frames_proof.specs.run_source.State.{function_of}
use Rattle.pass_frames_proof.specs.run_source.declared.state.Activation.{Activation}
use Rattle.pass_frames_proof.specs.run_source.declared.state.Instance.{Instance}
use Rattle.pass_frames_proof.specs.run_source.declared.state.Mode.{Mode}
use Rattle.pass_frames_proof.specs.run_source.declared.state.State.{State}
use Rattle.pass_frames_proof.specs.run_source_tables.Given.{Given, facts_at}
use Rattle.pass_frames_proof.specs.run_step.Effects.{is_alloca}
use Rattle.pass_frames_proof.specs.run_step.Step.{AtInstr, Fetched, fetch}
use Rattle.pass_frames_proof.specs.run_step.Values.{Env, pointer_to, value_in, with_result}
use Rattle.pass_frames_proof.specs.run_step.declared.world.Slot.{Slot}

-- ---- values

-- the value is the address of a slot of the alloca
abbrev pub HasSlotOf : List Slot → ℕ → Value → Type 0
HasSlotOf slots v x = (slot : Slot) × IsListed slot slots × (slot.alloca ≡ v) × (x ≡ pointer_to slot.block)

-- of an activation of the function at a point, of the allocas that count: in the entry block those before the point
abbrev pub AreExecuted : (ℕ → Bool) → Function → (block at : ℕ) → List Slot → Env → Type 0
AreExecuted counts f block at slots values =
    (v : ℕ) → counts v ≡ true → (made : IsMadeOnce f v) → (block ≡ 0 → made.at < at)
    → HasSlotOf slots v (value_in values v)

-- it was called, and not resumed
abbrev pub IsFirstMode : Mode → Type 0
IsFirstMode Mode.Plain = Unit {0}
IsFirstMode Mode.Ramp = Unit {0}
IsFirstMode _ = ⊥

-- no begin stands in the function
abbrev pub IsUnframed : Function → Type 0
IsUnframed f = (block at : ℕ) (i : Instr) → fetch f block at ≡ AtInstr i → IsBegin i → ⊥

-- ---- states

pub record HasExecuted (m : Module) (counts : ℕ → ℕ → Bool) (a : Activation) : Type 0 where
  pub none : IsUnframed (function_at m a.func) → a.instance ≡ None
  pub allocas : AreExecuted (counts a.func) (function_at m a.func) a.block a.at a.slots a.values

-- of one that was called
abbrev pub IsExecutedIn : Module → (ℕ → ℕ → Bool) → Activation → Type 0
IsExecutedIn m counts a = IsFirstMode a.mode → HasExecuted m counts a

abbrev pub AreExecutedOn : Module → (ℕ → ℕ → Bool) → List Activation → Type 0
AreExecutedOn m counts [] = Unit {0}
AreExecutedOn m counts (a ∷ below) = IsExecutedIn m counts a × AreExecutedOn m counts below

-- while the run isn't over
abbrev pub IsExecutedState : Module → (ℕ → ℕ → Bool) → State → Type 0
IsExecutedState m counts s = s.outcome ≡ Outcome.Running → AreExecutedOn m counts (s.top ∷ s.below)

-- what a part of a step gives, if it gives a state
abbrev pub StaysExecuted : Module → (ℕ → ℕ → Bool) → Result State Cause → Type 0
StaysExecuted m counts (Err cause) = Unit {0}
StaysExecuted m counts (Ok s) = IsExecutedState m counts s

-- ---- what it asks of functions

pub record KeepsOwn (counts : ℕ → Bool) (f : Function) (ramp_slots : List ℕ) : Type 0 where
  -- N1 and F3: an alloca gives its name alone, which is one of the table
  pub made : (v : ℕ) → counts v ≡ true → IsMadeOnce f v
  pub low : (v : ℕ) → counts v ≡ true → v < length f.names
  -- what counts is a ramp slot, or the function is no coroutine
  pub own : ((slot : Slot) → counts slot.alloca ≡ true → is_among ramp_slots slot ≡ true) ⊎ IsUnframed f

abbrev pub KeepAllOwn : Given → (ℕ → ℕ → Bool) → Type 0
KeepAllOwn g counts = (func : ℕ) → KeepsOwn (counts func) (function_at g.code func) (facts_at g.facts func).ramp_slots

-- ---- what it asks of hooks

-- the topmost activation, which was called, has one slot more if that is its own
pub record HasOwnSlot (g : Given) (slot : Slot) (s t : State) : Type 0 where
  pub func : t.top.func ≡ s.top.func
  pub block : t.top.block ≡ s.top.block
  pub at : t.top.at ≡ s.top.at
  pub values : t.top.values ≡ s.top.values
  pub instance : t.top.instance ≡ s.top.instance
  pub old : (z : Slot) → IsListed z s.top.slots → IsListed z t.top.slots
  pub new : (s.top.instance ≡ None) ⊎ (is_among (facts_at g.facts s.top.func).ramp_slots slot ≡ true)
      → IsListed slot t.top.slots

-- it has begun: of its slots it keeps the ramp slots
pub record HasRampSlots (g : Given) (result : Option ℕ) (memory : Value) (s t : State) : Type 0 where
  pub func : t.top.func ≡ s.top.func
  pub block : t.top.block ≡ s.top.block
  pub at : t.top.at ≡ s.top.at + 1
  pub values : t.top.values ≡ with_result s.top.values result memory
  pub old : (z : Slot) → IsListed z s.top.slots → is_among (facts_at g.facts s.top.func).ramp_slots z ≡ true
      → IsListed z t.top.slots

pub record KeepsExecuted (h : Hooks) : Type 0 where
  pub last : KeepsLast h
  pub reached : KeepsReached h
  -- what goes on was resumed
  pub go_on : (s : State) (i : ℕ) (x : Instance) (suspend : Point) (values : Env) (label : ℕ)
      → IsFirstMode (h.go_on s i x suspend values label).top.mode → ⊥
  pub place : (s : State) (slot : Slot) → IsFirstMode (h.place s slot).top.mode → IsFirstMode s.top.mode
  pub placed : (s : State) (slot : Slot) → IsFirstMode s.top.mode → HasOwnSlot h.given slot s (h.place s slot)
  pub start : (s : State) (result : Option ℕ) (memory : Value) (t : State) → h.start s result memory ≡ Ok t
      → (t.top.mode ≡ s.top.mode) × HasRampSlots h.given result memory s t
  -- what does nothing is a marker
  pub marker : (s : State) (i : Instr) → h.is_idle s (AtInstr i) ≡ true → is_alloca i ≡ true → ⊥
  -- no call gives a frame
  pub ungiven : (s : State) (block at : ℕ) → h.given_call s (fetch (function_of h.given s) block at) ≡ None
