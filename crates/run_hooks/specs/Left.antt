-- Which activations haven't left, and which instances are Suspended, in each state of a run by hooks.
use Rattle.std.specs.Prelude.{◌≡◌, ◌<◌, ◌≤◌, ℕ, zero, suc, ◌+◌, Bool, true, false, List, [], ◌∷◌, length}
use Rattle.std.specs.Prelude.{Option, Some, None, Result, Ok, Err}
use Rattle.pass_renewed_proof.specs.ir_base.declared.cause.Cause.{Cause}
use Rattle.pass_renewed_proof.specs.ir_paths.declared.point.Point.{Point}
use Rattle.run_hooks.specs.Hooks.{Hooks}
use Rattle.pass_renewed_proof.specs.run_memory.declared.pointer.Value.{Value}
use Rattle.pass_renewed_proof.specs.run_source.State.{is_suspended}
use Rattle.pass_renewed_proof.specs.run_source.declared.state.Activation.{Activation}
use Rattle.pass_renewed_proof.specs.run_source.declared.state.Instance.{Instance}
use Rattle.pass_renewed_proof.specs.run_source.declared.state.State.{State}
use Rattle.pass_renewed_proof.specs.run_step.Step.{Fetched}
use Rattle.pass_renewed_proof.specs.run_step.Values.{Env}
use Rattle.pass_renewed_proof.specs.run_step.declared.world.Slot.{Slot}

-- ---- states

-- the instance of a number is Suspended
abbrev pub sleeps : List Instance → ℕ → Bool
sleeps [] i = false
sleeps (x ∷ xs) zero = is_suspended x.status
sleeps (x ∷ xs) (suc i) = sleeps xs i

-- all activations of an instance have left
abbrev pub HaveLeft : ℕ → List Activation → Type 0
HaveLeft i [] = Unit {0}
HaveLeft i (a ∷ below) = (a.instance ≡ Some i → a.has_left ≡ true) × HaveLeft i below

-- the instance of an activation that hasn't left isn't Suspended
pub record IsAwake (xs : List Instance) (a : Activation) : Type 0 where
  pub own : (i : ℕ) → a.instance ≡ Some i → i < length xs
  pub awake : (i : ℕ) → a.instance ≡ Some i → a.has_left ≡ false → sleeps xs i ≡ false

-- and no other activation of its instance is above it
abbrev pub AreLast : List Instance → List Activation → Type 0
AreLast xs [] = Unit {0}
AreLast xs (a ∷ below) =
    IsAwake xs a × ((i : ℕ) → a.instance ≡ Some i → HaveLeft i below) × AreLast xs below

-- an activation that hasn't left is the last one of its instance, which isn't Suspended
abbrev pub IsLastState : State → Type 0
IsLastState s = AreLast s.instances (s.top ∷ s.below)

-- ---- what it asks

-- there are no fewer instances, and none is Suspended that wasn't
pub record IsNoMoreSuspended (xs ys : List Instance) : Type 0 where
  pub longer : length xs ≤ length ys
  pub awake : (i : ℕ) → sleeps xs i ≡ false → sleeps ys i ≡ false

-- the same activations, of the same instances
pub record IsAlike (s t : State) : Type 0 where
  pub instance : t.top.instance ≡ s.top.instance
  pub left : t.top.has_left ≡ s.top.has_left
  pub below : t.below ≡ s.below
  pub instances : IsNoMoreSuspended s.instances t.instances

-- the topmost activation has begun a new instance
pub record HasBegun (s t : State) : Type 0 where
  pub instance : t.top.instance ≡ Some (length s.instances)
  pub below : t.below ≡ s.below
  pub more : length s.instances < length t.instances
  pub instances : IsNoMoreSuspended s.instances t.instances

-- a caller or resumer, which goes on behind its instruction
abbrev pub waiting : State → Activation
waiting s = record s.top { at = s.top.at + 1 }

-- an activation of no instance is on top
pub record HasCalled (s t : State) : Type 0 where
  pub instance : t.top.instance ≡ None
  pub below : t.below ≡ waiting s ∷ s.below
  pub instances : IsNoMoreSuspended s.instances t.instances

-- an activation of an instance is on top, which isn't Suspended any more
pub record HasResumed (s : State) (i : ℕ) (t : State) : Type 0 where
  pub instance : t.top.instance ≡ Some i
  pub below : t.below ≡ waiting s ∷ s.below
  pub instances : IsNoMoreSuspended s.instances t.instances
  pub awake : sleeps t.instances i ≡ false

-- hooks that change activations and instances as their names say
pub record KeepsLast (h : Hooks) : Type 0 where
  pub go_on : (s : State) (i : ℕ) (x : Instance) (suspend : Point) (values : Env) (label : ℕ)
      → HasResumed s i (h.go_on s i x suspend values label)
  pub place : (s : State) (slot : Slot) → IsAlike s (h.place s slot)
  pub start : (s : State) (result : Option ℕ) (memory : Value) (t : State) → h.start s result memory ≡ Ok t
      → HasBegun s t
  pub close : (s : State) → IsAlike s (h.close s)
  pub call : (s : State) (x : Fetched) (t : State) → h.given_call s x ≡ Some (Ok t) → HasCalled s t

-- ---- parts of a step

-- what a part of a step gives, if it gives a state
abbrev pub StaysLast : Result State Cause → Type 0
StaysLast (Err cause) = Unit {0}
StaysLast (Ok s) = IsLastState s
