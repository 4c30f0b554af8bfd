-- In each state of a run by hooks an alloca's name leads to its slot, and begin's name to the activation's own frame.
use Rattle.std.specs.Prelude.{◌≡◌, ◌⊎◌, ◌<◌, ℕ, Bool, true, false, List, [], ◌∷◌, length, slice_get, Some, None}
use Rattle.std.specs.Prelude.{Option, Result, Ok, Err}
use Rattle.pass_frames_proof.specs.ir_base.declared.cause.Cause.{Cause}
use Rattle.pass_frames_proof.specs.ir_base.declared.outcome.Outcome.{Outcome}
use Rattle.pass_frames_proof.specs.ir_model.Names.{function_at}
use Rattle.pass_frames_proof.specs.ir_model.Ty.{Ty}
use Rattle.pass_frames_proof.specs.ir_model.declared.instr.Instr.{Instr}
use Rattle.pass_frames_proof.specs.ir_model.declared.module.Function.{Function}
use Rattle.pass_frames_proof.specs.ir_model.declared.module.Module.{Module}
use Rattle.pass_frames_proof.specs.ir_model.declared.operand.Arg.{Arg}
use Rattle.pass_frames_proof.specs.ir_model.declared.operand.Callee.{Callee}
use Rattle.pass_frames_proof.specs.ir_model.declared.operand.Intrinsic.{Intrinsic}
use Rattle.pass_frames_proof.specs.ir_paths.declared.point.Point.{Point}
use Rattle.pass_frames_proof.specs.Stepping.{IsNotEntering}
use Rattle.pass_frames_proof.specs.pass_kept_proof.Crossing.{is_param}
use Rattle.pass_frames_proof.specs.pass_kept_proof.Needed.{given_by, phis_give}
use Rattle.pass_frames_proof.specs.pass_kept_proof.SuspendRules.{IsCallAt}
use Rattle.pass_frames_proof.specs.pass_renewed_proof.Renewed.{RenewedGiven}
use Rattle.pass_frames_proof.specs.pass_renewed_proof.SlotRules.{IsMadeOnce}
use Rattle.pass_frames_proof.specs.run_framed.Framed.{begin_name}
use Rattle.pass_renewed_meaning.specs.run_hooks.Away.{IsOrdinary}
use Rattle.pass_renewed_meaning.specs.run_hooks.Hooks.{Hooks}
use Rattle.pass_renewed_meaning.specs.run_hooks.Reached.{IsReachedState}
use Rattle.pass_frames_proof.specs.run_memory.declared.pointer.Value.{Value}
use Rattle.pass_frames_proof.specs.run_source.Source.{is_among}
use Rattle.pass_frames_proof.specs.run_source.State.{frame_address_of, function_of}
use Rattle.pass_frames_proof.specs.run_source.declared.state.Activation.{Activation}
use Rattle.pass_frames_proof.specs.run_source.declared.state.Instance.{Instance}
use Rattle.pass_frames_proof.specs.run_source.declared.state.Mode.{Mode}
use Rattle.pass_frames_proof.specs.run_source.declared.state.State.{State}
use Rattle.pass_frames_proof.specs.run_source.declared.state.Status.{Status}
use Rattle.pass_frames_proof.specs.run_source_tables.Given.{Given, facts_at}
use Rattle.pass_frames_proof.specs.run_step.Step.{AtInstr, Fetched, fetch, phis_of}
use Rattle.pass_frames_proof.specs.run_step.Values.{Env, pointer_to, value_in}
use Rattle.pass_frames_proof.specs.run_step.declared.world.Slot.{Slot}

-- ---- values

-- the value is the address of a slot of the alloca among these, or poison
abbrev pub IsLedBy : List Slot → ℕ → Value → Type 0
IsLedBy [] v x = x ≡ Value.Poison
IsLedBy (s ∷ ss) v x = ((s.alloca ≡ v) × (x ≡ pointer_to s.block)) ⊎ IsLedBy ss v x

-- names of allocas that count lead to these slots, and begin's name has the handle
pub record AreLed (counts : ℕ → Bool) (f : Function) (slots : List Slot) (handle : Value) (values : Env)
    : Type 0 where
  pub counted : (v : ℕ) → counts v ≡ true → IsLedBy slots v (value_in values v)
  pub begun : (v : ℕ) → begin_name f ≡ Some v → value_in values v ≡ handle

-- slots are the activation's own before begin, and then its instance's
abbrev pub AreLedWith : (ℕ → Bool) → Function → List Instance → Option ℕ → List Slot → Env → Type 0
AreLedWith counts f xs None slots values = AreLed counts f slots Value.Poison values
AreLedWith counts f xs (Some i) slots values =
    (y : Instance) × (slice_get xs i ≡ Some y) × AreLed counts f y.slots (frame_address_of y) values

-- ---- states

abbrev pub IsLedIn : Module → (ℕ → ℕ → Bool) → List Instance → Activation → Type 0
IsLedIn m counts xs a = AreLedWith (counts a.func) (function_at m a.func) xs a.instance a.slots a.values

abbrev pub AreLedOn : Module → (ℕ → ℕ → Bool) → List Instance → List Activation → Type 0
AreLedOn m counts xs [] = Unit {0}
AreLedOn m counts xs (a ∷ below) = IsLedIn m counts xs a × AreLedOn m counts xs below

-- values that were kept lead to the instance's slots
abbrev pub IsLedStatus : (ℕ → Bool) → Function → List Slot → Value → Status → Type 0
IsLedStatus counts f slots handle (Status.Suspended u values) = AreLed counts f slots handle values
IsLedStatus counts f slots handle _ = Unit {0}

abbrev pub IsLedInstance : Module → (ℕ → ℕ → Bool) → Instance → Type 0
IsLedInstance m counts x =
    IsLedStatus (counts x.coroutine) (function_at m x.coroutine) x.slots (frame_address_of x) x.status

abbrev pub AreLedAsleep : Module → (ℕ → ℕ → Bool) → List Instance → Type 0
AreLedAsleep m counts [] = Unit {0}
AreLedAsleep m counts (x ∷ xs) = IsLedInstance m counts x × AreLedAsleep m counts xs

-- what stands at the place is an alloca that doesn't count
pub record IsAtUncounted (counts : ℕ → Bool) (x : Fetched) : Type 0 where
  pub alloca : ℕ
  pub ty : Ty
  pub align : ℕ
  pub stands : x ≡ AtInstr (Instr.Alloca alloca ty align)
  pub uncounted : counts alloca ≡ false

-- what makes allocas again is at one that doesn't count
abbrev pub IsEnteringAt : (ℕ → Bool) → Fetched → Mode → Type 0
IsEnteringAt counts x (Mode.Entering from label) = IsAtUncounted counts x
IsEnteringAt counts x _ = Unit {0}

pub record IsLed (m : Module) (counts : ℕ → ℕ → Bool) (s : State) : Type 0 where
  pub stack : AreLedOn m counts s.instances (s.top ∷ s.below)
  pub instances : AreLedAsleep m counts s.instances
  pub entering : IsEnteringAt (counts s.top.func) (fetch (function_at m s.top.func) s.top.block s.top.at) s.top.mode

-- while the run isn't over
abbrev pub IsLedState : Module → (ℕ → ℕ → Bool) → State → Type 0
IsLedState m counts s = s.outcome ≡ Outcome.Running → IsLed m counts s

-- what a part of a step gives, if it gives a state
abbrev pub StaysLed : Module → (ℕ → ℕ → Bool) → Result State Cause → Type 0
StaysLed m counts (Err cause) = Unit {0}
StaysLed m counts (Ok s) = IsLedState m counts s

-- ---- what it asks of functions

abbrev pub IsBegin : Instr → Type 0
IsBegin (Instr.Call result must_tail ty (Callee.Intrinsic Intrinsic.CoroBegin) args) = Unit {0}
IsBegin _ = ⊥

-- N1 and K2: begin alone gives the name
pub record IsBegunOnce (f : Function) (v : ℕ) : Type 0 where
  pub low : v < length f.names
  pub alone : (block at : ℕ) (i : Instr) → fetch f block at ≡ AtInstr i → given_by i ≡ Some v → IsBegin i
  pub no_phi : (block : ℕ) → phis_give v (phis_of (slice_get f.blocks block)) ≡ false
  pub no_param : is_param f v ≡ false

-- of a function and its ramp slots, by the tables of a run
pub record KeepsNames (counts : ℕ → Bool) (f : Function) (ramp_slots : List ℕ) : Type 0 where
  -- N1 and F3: an alloca gives its name alone
  pub made : (v : ℕ) → counts v ≡ true → IsMadeOnce f v
  -- what counts is no ramp slot
  pub shared : (slot : Slot) → counts slot.alloca ≡ true → is_among ramp_slots slot ≡ false
  pub begins : (v : ℕ) → begin_name f ≡ Some v → IsBegunOnce f v
  -- K2: there is one begin
  pub given : (block at : ℕ) (result : Option ℕ) (must_tail : Bool) (ty : Option Ty) (args : List Arg)
      → fetch f block at ≡ AtInstr (Instr.Call result must_tail ty (Callee.Intrinsic Intrinsic.CoroBegin) args)
      → begin_name f ≡ result

abbrev pub KeepAllNames : Given → (ℕ → ℕ → Bool) → Type 0
KeepAllNames g counts = (func : ℕ) → KeepsNames (counts func) (function_at g.code func)
    (facts_at g.facts func).ramp_slots

-- ---- what it asks of hooks

-- A slot was made, and is still to be placed: its alloca has its address, and all else is as it was.
pub record HasNewSlot (m : Module) (counts : ℕ → ℕ → Bool) (s : State) (slot : Slot) : Type 0 where
  pub old : Env
  pub top : AreLedWith (counts s.top.func) (function_at m s.top.func) s.instances s.top.instance s.top.slots old
  pub below : AreLedOn m counts s.instances s.below
  pub instances : AreLedAsleep m counts s.instances
  pub counted : (v : ℕ) → counts s.top.func v ≡ true
      → (value_in s.top.values v ≡ value_in old v) ⊎ IsLedBy (slot ∷ []) v (value_in s.top.values v)
  pub begun : (v : ℕ) → begin_name (function_at m s.top.func) ≡ Some v
      → value_in s.top.values v ≡ value_in old v
  -- what is made again doesn't count
  pub again : IsNotEntering s.top.mode ⊎ (counts s.top.func slot.alloca ≡ false)

pub record KeepsLed (h : Hooks) (counts : ℕ → ℕ → Bool) : Type 0 where
  pub go_on : (s : State) (i : ℕ) (x : Instance) (suspend : Point) (values : Env) (label : ℕ)
      → IsReachedState h.given s → IsLed h.given.code counts s → slice_get s.instances i ≡ Some x
      → x.status ≡ Status.Suspended suspend values
      → IsLed h.given.code counts (h.go_on s i x suspend values label)
  pub place : (s : State) (slot : Slot) → HasNewSlot h.given.code counts s slot
      → IsLed h.given.code counts (h.place s slot)
  pub start : (s : State) (result : Option ℕ) (memory : Value) → IsLed h.given.code counts s
      → IsNotEntering s.top.mode → begin_name (function_of h.given s) ≡ result
      → ((v : ℕ) → result ≡ Some v → v < length s.top.values) → StaysLed h.given.code counts (h.start s result memory)
  pub close : (s : State) → IsLed h.given.code counts s → IsLed h.given.code counts (h.close s)
  -- the activations stay as they are
  pub closed : (s : State) → ((h.close s).top ≡ s.top) × ((h.close s).below ≡ s.below)
  -- what does nothing is a marker
  pub idle : (s : State) (x : Fetched) → h.is_idle s x ≡ true → IsOrdinary x
  -- no call gives a frame
  pub ungiven : (s : State) (block at : ℕ) → h.given_call s (fetch (function_of h.given s) block at) ≡ None

-- what it asks of the tables of a run that makes slots anew
pub record KeepsLedTables (g : RenewedGiven) (counts : ℕ → ℕ → Bool) : Type 0 where
  -- what counts isn't made anew, and is no address that is moved; nor is begin's value
  pub unflagged : (func v : ℕ) → counts func v ≡ true → g.flags func v ≡ false
  pub unrooted : (func v : ℕ) → counts func v ≡ true → g.roots func v ≡ None
  pub unmoved : (func v : ℕ) → begin_name (function_at g.given.code func) ≡ Some v → g.roots func v ≡ None
  -- a resume hands on begin's value
  pub handed : (func : ℕ) (u : Point) (v : ℕ) → IsCallAt Intrinsic.CoroSuspend (function_at g.given.code func) u
      → begin_name (function_at g.given.code func) ≡ Some v → g.keep func u v ≡ true
