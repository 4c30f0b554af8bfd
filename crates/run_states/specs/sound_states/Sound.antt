-- What holds in each state of a run of a source, and speaks of its module alone.
use Rattle.std.specs.Prelude.{ℕ, true, false, List, [], length, Some, None, Option, is_none, option_map, slice_get, ◌≡◌, ◌∷◌}
use Rattle.ir_laws.specs.run_source.Source.{Continues}
use Rattle.ir_laws.specs.run_source.declared.state.Activation.{Activation}
use Rattle.ir_laws.specs.run_source.declared.state.Instance.{Instance}
use Rattle.ir_laws.specs.run_source.declared.state.Mode.{Mode}
use Rattle.ir_laws.specs.run_source.declared.state.State.{State}
use Rattle.ir_laws.specs.run_source.declared.state.Status.{Status}
use Rattle.ir_laws.specs.ir_model.Names.{function_at}
use Rattle.ir_laws.specs.ir_model.declared.instr.Instr.{Instr}
use Rattle.ir_laws.specs.ir_model.declared.module.Function.{Function}
use Rattle.ir_laws.specs.ir_model.declared.module.Module.{Module}
use Rattle.ir_laws.specs.ir_model.declared.operand.Intrinsic.{Intrinsic}
use Rattle.ir_laws.specs.ir_paths.Windows.{instr_at, is_call_of}
use Rattle.ir_laws.specs.ir_paths.declared.point.Point.{Point}
use Rattle.ir_laws.specs.run_step.Values.{Env}
use Rattle.ir_laws.specs.facts.expanded.Tokens.{IsNamedResult}

-- there is a value, or none, for each name of the function
abbrev pub HasValues : Module → ℕ → Env → Type 0
HasValues m func values = length values ≡ length (function_at m func).names

-- a suspend stands at the point
pub record IsSuspendAt (f : Function) (p : Point) : Type 0 where
  pub instr : Instr
  pub is : instr_at f p ≡ Some instr
  pub suspends : is_call_of Intrinsic.CoroSuspend instr ≡ true

-- the function of an instance
abbrev pub coroutine_at : List Instance → ℕ → Option ℕ
coroutine_at instances i = option_map (λ x. x.coroutine) (slice_get instances i)

-- an instance that an activation has is one of its function
abbrev pub IsInstanceOf : List Instance → ℕ → Option ℕ → Type 0
IsInstanceOf instances func None = Unit {0}
IsInstanceOf instances func (Some i) = coroutine_at instances i ≡ Some func

-- a resumed activation has an instance, and returns to no name
abbrev pub IsModeOf : Mode → Option ℕ → Option ℕ → Type 0
IsModeOf Mode.Resumed instance result = (is_none instance ≡ false) × (result ≡ None)
IsModeOf mode instance result = Unit {0}

pub record IsSoundActivation (m : Module) (instances : List Instance) (a : Activation) : Type 0 where
  pub values : HasValues m a.func a.values
  pub instance : IsInstanceOf instances a.func a.instance
  pub mode : IsModeOf a.mode a.instance a.result

-- the name to which an activation returns is one of the activation's below
abbrev pub AreSoundBelow : Module → List Instance → Option ℕ → List Activation → Type 0
AreSoundBelow m instances result [] = Unit {0}
AreSoundBelow m instances result (a ∷ below) =
    IsNamedResult (length a.values) result × IsSoundActivation m instances a × AreSoundBelow m instances a.result below

-- an instance is suspended at a suspend, with a value, or none, for each name
abbrev pub IsSoundStatus : Module → ℕ → Status → Type 0
IsSoundStatus m func Status.Running = Unit {0}
IsSoundStatus m func (Status.Suspended suspend values) = HasValues m func values × IsSuspendAt (function_at m func) suspend
IsSoundStatus m func Status.Finished = Unit {0}

abbrev pub AreSoundInstances : Module → List Instance → Type 0
AreSoundInstances m instances = (i : ℕ) (x : Instance) → slice_get instances i ≡ Some x → IsSoundStatus m x.coroutine x.status

pub record IsSound (m : Module) (s : State) : Type 0 where
  pub top : IsSoundActivation m s.instances s.top
  pub below : AreSoundBelow m s.instances s.top.result s.below
  pub instances : AreSoundInstances m s.instances

-- to go on behind the suspend of a suspended instance keeps states sound
abbrev pub KeepsSound : Module → Continues → Type 0
KeepsSound m go =
    (s : State) (i : ℕ) (x : Instance) (suspend : Point) (values : Env) (label : ℕ) → IsSound m s → slice_get s.instances i ≡ Some x → x.status ≡ Status.Suspended suspend values → IsSound m (go s i x suspend values label)
