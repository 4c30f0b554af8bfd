-- In each state of a run by hooks a value of a pointer's type is a pointer or poison.
use Rattle.std.specs.Prelude.{◌≡◌, ℕ, List, [], ◌∷◌, Option, Some, None, Result, Ok}
use Rattle.std.specs.List.{AllByRecursion}
use Rattle.pass_frames_proof.specs.ir_base.declared.cause.Cause.{Cause}
use Rattle.pass_frames_proof.specs.ir_base.declared.outcome.Word.{Word}
use Rattle.pass_frames_proof.specs.ir_model.Names.{function_at}
use Rattle.pass_frames_proof.specs.ir_model.Ty.{Ty, ptr}
use Rattle.pass_frames_proof.specs.ir_model.declared.module.Function.{Function}
use Rattle.pass_frames_proof.specs.ir_model.declared.module.Module.{Module}
use Rattle.pass_frames_proof.specs.ir_model.declared.module.Param.{Param}
use Rattle.pass_frames_proof.specs.ir_model.declared.operand.Operand.{Operand}
use Rattle.pass_frames_proof.specs.ir_paths.declared.point.Point.{Point}
use Rattle.pass_frames_proof.specs.rule_values.Kinds.{kind_of, value_kind}
use Rattle.pass_frames_proof.specs.rule_values.declared.kinds.Kind.{Kind}
use Rattle.pass_renewed_meaning.specs.run_hooks.Hooks.{Hooks}
use Rattle.pass_frames_proof.specs.run_memory.declared.pointer.Value.{Value}
use Rattle.pass_frames_proof.specs.run_source.State.{function_of}
use Rattle.pass_frames_proof.specs.run_source.declared.state.Activation.{Activation}
use Rattle.pass_frames_proof.specs.run_source.declared.state.Instance.{Instance}
use Rattle.pass_frames_proof.specs.run_source.declared.state.State.{State}
use Rattle.pass_frames_proof.specs.run_source.declared.state.Status.{Status}
use Rattle.pass_frames_proof.specs.run_step.Step.{fetch}
use Rattle.pass_frames_proof.specs.run_step.Values.{Env, value_in}
use Rattle.pass_frames_proof.specs.run_step.declared.world.Slot.{Slot}

-- ---- values

-- a pointer, or poison
abbrev pub IsAddress : Value → Type 0
IsAddress Value.Poison = Unit {0}
IsAddress (Value.Int x) = ⊥
IsAddress (Value.Ptr p) = Unit {0}

-- it is asked of pointers alone
abbrev pub PointsAs : Option Kind → Value → Type 0
PointsAs (Some Kind.Ptr) v = IsAddress v
PointsAs kind v = Unit {0}

abbrev pub PointsBy : Ty → Value → Type 0
PointsBy ty v = PointsAs (Some (kind_of ty)) v

-- what a function gives back
abbrev pub PointsBack : Option Ty → Value → Type 0
PointsBack None v = Unit {0}
PointsBack (Some ty) v = PointsBy ty v

-- the values of an activation, by the names of its function
abbrev pub ArePointing : Function → Env → Type 0
ArePointing f env = (n : ℕ) → PointsAs (value_kind f n) (value_in env n)

-- arguments, one after the other
abbrev pub PointParams : List Param → List Value → Type 0
PointParams [] vs = Unit {0}
PointParams (p ∷ params) [] = Unit {0}
PointParams (p ∷ params) (v ∷ vs) = PointsBy p.ty v × PointParams params vs

-- ---- states

-- what a function gives back is right for the name to which it goes
abbrev pub PointsOn : Module → (func : ℕ) → Option ℕ → Function → Type 0
PointsOn m func result f =
    (n : ℕ) → result ≡ Some n → (v : Value) → PointsBack (function_at m func).result v → PointsAs (value_kind f n) v

-- the activations below one of a function, which gives its result to the first
abbrev pub ArePointingBelow : Module → (func : ℕ) → Option ℕ → List Activation → Type 0
ArePointingBelow m func result [] = Unit {0}
ArePointingBelow m func result (a ∷ below) =
    PointsOn m func result (function_at m a.func) × ArePointing (function_at m a.func) a.values
    × ArePointingBelow m a.func a.result below

-- the values that an instance keeps where it is Suspended
abbrev pub PointsAsleep : Function → Status → Type 0
PointsAsleep f (Status.Suspended u values) = ArePointing f values
PointsAsleep f status = Unit {0}

abbrev pub PointInstances : Module → List Instance → Type 0
PointInstances m xs = AllByRecursion (λ x. PointsAsleep (function_at m x.coroutine) x.status) xs

pub record IsPointingState (m : Module) (s : State) : Type 0 where
  pub top : ArePointing (function_at m s.top.func) s.top.values
  pub below : ArePointingBelow m s.top.func s.top.result s.below
  pub instances : PointInstances m s.instances

-- what a part of a step gives, if it gives a state
abbrev pub StaysPointing : Module → Result State Cause → Type 0
StaysPointing m (Ok s) = IsPointingState m s
StaysPointing m r = Unit {0}

-- no parameter of the entry is a pointer
abbrev pub HasNoPointers : Module → (entry : ℕ) → Type 0
HasNoPointers m entry = AllByRecursion (λ (p : Param). p.ty ≡ ptr → ⊥) (function_at m entry).params

-- ---- what it asks of hooks

pub record KeepsPointing (h : Hooks) : Type 0 where
  pub go_on : (s : State) → IsPointingState h.given.code s → (i : ℕ) (x : Instance) (suspend : Point) (values : Env)
      (label : ℕ) → ArePointing (function_at h.given.code x.coroutine) values
      → IsPointingState h.given.code (h.go_on s i x suspend values label)
  pub place : (s : State) (slot : Slot) → IsPointingState h.given.code s
      → IsPointingState h.given.code (h.place s slot)
  pub start : (s : State) (result : Option ℕ) (memory : Value) → IsPointingState h.given.code s
      → StaysPointing h.given.code (h.start s result memory)
  pub close : (s : State) → IsPointingState h.given.code s → IsPointingState h.given.code (h.close s)
  pub closed : (s : State) → (h.close s).top ≡ s.top
  -- what coro.free and coro.promise give
  pub freed : (s : State) → IsAddress (h.freed s)
  pub promised : (s : State) (p : Value) (from : Operand) (v : Value) → h.promised s p from ≡ Ok v → IsAddress v
  -- no call gives a frame
  pub ungiven : (s : State) (block at : ℕ) → h.given_call s (fetch (function_of h.given s) block at) ≡ None
