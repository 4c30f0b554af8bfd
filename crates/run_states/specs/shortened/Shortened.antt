-- A state of a run with its values cut to the names of their functions.
use Rattle.std.specs.Prelude.{ℕ, length, map, take, Some, None, Ok, Err, Option, Result, option_map, ◌≡◌}
use Rattle.ir_laws.specs.ir_base.declared.cause.Cause.{Cause}
use Rattle.ir_laws.specs.run_source.declared.state.Activation.{Activation}
use Rattle.ir_laws.specs.run_source.declared.state.Instance.{Instance}
use Rattle.ir_laws.specs.run_source.declared.state.State.{State}
use Rattle.ir_laws.specs.run_source.declared.state.Status.{Status}
use Rattle.ir_laws.specs.ir_model.Names.{function_at}
use Rattle.ir_laws.specs.ir_model.declared.module.Module.{Module}
use Rattle.ir_laws.specs.run_step.Values.{Env}

-- values cut to a function's names
abbrev pub cut : Module → ℕ → Env → Env
cut m func env = take (length (function_at m func).names) env

abbrev pub short_status : Module → ℕ → Status → Status
short_status m func Status.Running = Status.Running
short_status m func (Status.Suspended suspend values) = Status.Suspended suspend (cut m func values)
short_status m func Status.Finished = Status.Finished

abbrev pub short_instance : Module → Instance → Instance
short_instance m x = record x { status = short_status m x.coroutine x.status }

abbrev pub short_activation : Module → Activation → Activation
short_activation m a = record a { values = cut m a.func a.values }

abbrev pub short_state : Module → State → State
short_state m s =
    record {
      world = s.world;
      instances = map (short_instance m) s.instances;
      top = short_activation m s.top;
      below = map (short_activation m) s.below;
      outcome = s.outcome;
    }

abbrev pub short_result : Module → Result State Cause → Result State Cause
short_result m (Err cause) = Err cause
short_result m (Ok s) = Ok (short_state m s)

abbrev pub short_numbered : Module → Option (ℕ × Instance) → Option (ℕ × Instance)
short_numbered m o = option_map (λ (y : ℕ × Instance). (y.0, short_instance m y.1)) o

-- an instance is one of the topmost activation's function
abbrev pub IsOwned : State → Option (ℕ × Instance) → Type 0
IsOwned s None = Unit {0}
IsOwned s (Some y) = y.1.coroutine ≡ s.top.func
