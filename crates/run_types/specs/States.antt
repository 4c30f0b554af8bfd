-- States in which all values fit, and hooks that keep this.
use Rattle.std.specs.Prelude.{◌≡◌, ℕ, List, [], ◌∷◌, Option, Some, Result, Ok, map}
use Rattle.std.specs.List.{AllByRecursion}
use Rattle.run_hooks.specs.ir_base.declared.cause.Cause.{Cause}
use Rattle.run_hooks.specs.ir_base.declared.outcome.Word.{Word}
use Rattle.run_hooks.specs.ir_model.Names.{function_at}
use Rattle.run_hooks.specs.ir_model.declared.module.Function.{Function}
use Rattle.run_hooks.specs.ir_model.declared.module.Module.{Module}
use Rattle.run_hooks.specs.ir_model.declared.operand.Allocator.{Allocator}
use Rattle.run_hooks.specs.ir_paths.declared.point.Point.{Point}
use Rattle.rule_values.specs.Kinds.{value_kind}
use Rattle.run_hooks.specs.Hooks.{Hooks}
use Rattle.run_hooks.specs.run_memory.declared.pointer.Value.{Value}
use Rattle.run_hooks.specs.run_source.State.{function_of}
use Rattle.run_hooks.specs.run_source.declared.state.Activation.{Activation}
use Rattle.run_hooks.specs.run_source.declared.state.Instance.{Instance}
use Rattle.run_hooks.specs.run_source.declared.state.State.{State}
use Rattle.run_hooks.specs.run_source.declared.state.Status.{Status}
use Rattle.run_hooks.specs.run_step.Step.{fetch}
use Rattle.run_hooks.specs.run_step.Values.{Env}
use Rattle.run_hooks.specs.run_step.declared.world.Slot.{Slot}
use Rattle.run_types.specs.Fitting.{AreFitting, FitParams, FitsKind, FitsResult, HaveBytes}

-- ---- states

-- what a function gives back fits the name to which it goes
abbrev pub GoesTo : Module → (func : ℕ) → Option ℕ → Function → Type 0
GoesTo m func result f =
    (n : ℕ) → result ≡ Some n → (v : Value) → FitsResult (function_at m func).result v → FitsKind (value_kind f n) v

-- the activations below one of a function, which gives its result to the first
abbrev pub AreFittingBelow : Module → (func : ℕ) → Option ℕ → List Activation → Type 0
AreFittingBelow m func result [] = Unit {0}
AreFittingBelow m func result (a ∷ below) =
    GoesTo m func result (function_at m a.func) × AreFitting (function_at m a.func) a.values
    × AreFittingBelow m a.func a.result below

-- the values that an instance keeps where it is Suspended
abbrev pub FitsStatus : Function → Status → Type 0
FitsStatus f (Status.Suspended u values) = AreFitting f values
FitsStatus f status = Unit {0}

abbrev pub FitInstances : Module → List Instance → Type 0
FitInstances m xs = AllByRecursion (λ x. FitsStatus (function_at m x.coroutine) x.status) xs

-- all values fit, and all bytes are bytes
pub record IsFittingState (m : Module) (s : State) : Type 0 where
  pub memory : HaveBytes s.world.memory
  pub top : AreFitting (function_at m s.top.func) s.top.values
  pub below : AreFittingBelow m s.top.func s.top.result s.below
  pub instances : FitInstances m s.instances

-- what a part of a step gives, if it gives a state
abbrev pub StaysFitting : Module → Result State Cause → Type 0
StaysFitting m (Ok s) = IsFittingState m s
StaysFitting m r = Unit {0}

-- the entry's arguments are words of its parameters' widths
abbrev pub AreArguments : Module → (entry : ℕ) → List Word → Type 0
AreArguments m entry args = FitParams (function_at m entry).params (map Value.Int args)

-- ---- what it asks of hooks

-- a name for which each value fits, or none
abbrev pub TakesAny : Function → Option ℕ → Type 0
TakesAny f result = (n : ℕ) → result ≡ Some n → (v : Value) → FitsKind (value_kind f n) v

-- hooks that come from states in which all values fit to such states
pub record KeepsFitting (h : Hooks) : Type 0 where
  pub go_on : (s : State) → IsFittingState h.given.code s → (i : ℕ) (x : Instance) (suspend : Point) (values : Env)
      (label : ℕ) → AreFitting (function_at h.given.code x.coroutine) values
      → IsFittingState h.given.code (h.go_on s i x suspend values label)
  pub place : (s : State) (slot : Slot) → IsFittingState h.given.code s → IsFittingState h.given.code (h.place s slot)
  pub start : (s : State) (result : Option ℕ) (memory : Value) → IsFittingState h.given.code s
      → TakesAny (function_of h.given s) result → StaysFitting h.given.code (h.start s result memory)
  pub close : (s : State) → IsFittingState h.given.code s → IsFittingState h.given.code (h.close s)
  pub closed : (s : State) → (h.close s).top ≡ s.top
  pub call : (s : State) (r : Result State Cause) → IsFittingState h.given.code s
      → h.given_call s (fetch (function_of h.given s) s.top.block s.top.at) ≡ Some r → StaysFitting h.given.code r

-- ---- sizes

-- the allocators that take a size
pub data TakesSize : Allocator → Type 0 where
  IsMalloc : TakesSize Allocator.Malloc
  IsNew : TakesSize Allocator.Znwm
