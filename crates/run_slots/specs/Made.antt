-- Each slot is that of an alloca of its activation's or instance's function, in each state of a run by hooks.
use Rattle.std.specs.Prelude.{◌≡◌, ℕ, List, [], ◌∷◌, slice_get, Some, Option, Result, Ok, Err}
use Rattle.run_hooks.specs.ir_base.declared.cause.Cause.{Cause}
use Rattle.run_hooks.specs.ir_model.Names.{function_at}
use Rattle.run_hooks.specs.ir_model.Ty.{Ty}
use Rattle.run_hooks.specs.ir_model.declared.instr.Instr.{Instr}
use Rattle.run_hooks.specs.ir_model.declared.module.Function.{Function}
use Rattle.run_hooks.specs.ir_model.declared.module.Module.{Module}
use Rattle.run_hooks.specs.ir_paths.declared.point.Point.{Point}
use Rattle.run_hooks.specs.Hooks.{Hooks}
use Rattle.run_hooks.specs.Reached.{IsReachedState}
use Rattle.run_hooks.specs.run_memory.declared.pointer.Value.{Value}
use Rattle.run_hooks.specs.run_source.State.{function_of}
use Rattle.run_hooks.specs.run_source.declared.state.Activation.{Activation}
use Rattle.run_hooks.specs.run_source.declared.state.Instance.{Instance}
use Rattle.run_hooks.specs.run_source.declared.state.State.{State}
use Rattle.run_hooks.specs.run_step.Step.{AtInstr, Fetched, fetch}
use Rattle.run_hooks.specs.run_step.Values.{Env}
use Rattle.run_hooks.specs.run_step.declared.world.Slot.{Slot}

-- an alloca of the function gives the name
pub record IsMadeAt (f : Function) (v : ℕ) : Type 0 where
  pub block : ℕ
  pub at : ℕ
  pub ty : Ty
  pub align : ℕ
  pub stands : fetch f block at ≡ AtInstr (Instr.Alloca v ty align)

abbrev pub AreMade : Function → List Slot → Type 0
AreMade f [] = Unit {0}
AreMade f (s ∷ ss) = IsMadeAt f s.alloca × AreMade f ss

abbrev pub AreMadeOn : Module → List Activation → Type 0
AreMadeOn m [] = Unit {0}
AreMadeOn m (a ∷ below) = AreMade (function_at m a.func) a.slots × AreMadeOn m below

abbrev pub AreMadeIn : Module → List Instance → Type 0
AreMadeIn m [] = Unit {0}
AreMadeIn m (x ∷ xs) = AreMade (function_at m x.coroutine) x.slots × AreMadeIn m xs

pub record IsMadeState (m : Module) (s : State) : Type 0 where
  pub stack : AreMadeOn m (s.top ∷ s.below)
  pub instances : AreMadeIn m s.instances

-- what a part of a step gives, if it gives a state
abbrev pub StaysMade : Module → Result State Cause → Type 0
StaysMade m (Err cause) = Unit {0}
StaysMade m (Ok s) = IsMadeState m s

-- ---- what it asks of hooks

pub record KeepsMade (h : Hooks) : Type 0 where
  pub go_on : (s : State) (i : ℕ) (x : Instance) (suspend : Point) (values : Env) (label : ℕ)
      → IsMadeState h.given.code s → slice_get s.instances i ≡ Some x
      → IsMadeState h.given.code (h.go_on s i x suspend values label)
  pub place : (s : State) (slot : Slot) → IsReachedState h.given s → IsMadeAt (function_of h.given s) slot.alloca
      → IsMadeState h.given.code s → IsMadeState h.given.code (h.place s slot)
  pub start : (s : State) (result : Option ℕ) (memory : Value) → IsMadeState h.given.code s
      → StaysMade h.given.code (h.start s result memory)
  pub close : (s : State) → IsMadeState h.given.code s → IsMadeState h.given.code (h.close s)
  pub call : (s : State) (x : Fetched) (r : Result State Cause) → h.given_call s x ≡ Some r
      → IsMadeState h.given.code s → StaysMade h.given.code r
