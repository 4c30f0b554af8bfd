-- The state of a source run, and that of the module whose saves are written out.
use Rattle.std.specs.Prelude.{ℕ, List, [], length, map, replicate, Some, None, Ok, Err, Option, Result, option_map, ◌≡◌, slice_get, ◌∷◌, ◌++◌}
use Rattle.rule_laws.specs.ir_base.declared.cause.Cause.{Cause}
use Rattle.rule_laws.specs.run_source.declared.state.Activation.{Activation}
use Rattle.rule_laws.specs.run_source.declared.state.Instance.{Instance}
use Rattle.rule_laws.specs.run_source.declared.state.Saved.{Saved}
use Rattle.rule_laws.specs.run_source.declared.state.State.{State}
use Rattle.rule_laws.specs.run_source.declared.state.Status.{Status}
use Rattle.ir_model.specs.Names.{function_at}
use Rattle.ir_model.specs.declared.module.Function.{Function}
use Rattle.ir_model.specs.declared.module.Module.{Module}
use Rattle.rule_laws.specs.ir_paths.declared.point.Point.{Point}
use Rattle.rule_laws.specs.run_step.Step.{Action, Coro, Deallocate, Done, Enter, GoTo, NewSlot, Return, Stuck, Work}
use Rattle.rule_laws.specs.run_step.Values.{Env}
use Rattle.pass_early_proof.specs.early.saves.SavesWritten.{save_count}
use Rattle.pass_early_proof.specs.early.saves.Spots.{back_of, front_of, own_saves}
use Rattle.rule_laws.specs.ir_laws.facts.expanded.Spots.{instrs_in}
use Rattle.rule_laws.specs.ir_laws.facts.expanded.Tokens.{IsNamedResult}

-- the saves that are written have names, and no values
abbrev pub saved_values : Function → Env → Env
saved_values f env = env ++ replicate (save_count f) None

abbrev pub saved_status : Function → Status → Status
saved_status f Status.Running = Status.Running
saved_status f (Status.Suspended suspend values) = Status.Suspended (back_of f suspend) (saved_values f values)
saved_status f Status.Finished = Status.Finished

-- a suspend that saved right before itself has its save right before it
abbrev pub saved_save : Function → Saved → Saved
saved_save f x = record { depth = x.depth; save = front_of f x.save }

abbrev pub saved_instance : Module → Instance → Instance
saved_instance m x =
    record {
      coroutine = x.coroutine;
      block = x.block;
      start = x.start;
      slots = x.slots;
      status = saved_status (function_at m x.coroutine) x.status;
      last_save = option_map (saved_save (function_at m x.coroutine)) x.last_save;
      released = x.released;
      freed = x.freed;
    }

abbrev pub place_of_activation : Activation → Point
place_of_activation a = record { block = a.block; at = a.at }

abbrev pub saved_activation : Module → Activation → Activation
saved_activation m a =
    record a { at = (front_of (function_at m a.func) (place_of_activation a)).at; values = saved_values (function_at m a.func) a.values }

abbrev pub saved_state : Module → State → State
saved_state m s =
    record {
      world = s.world;
      instances = map (saved_instance m) s.instances;
      top = saved_activation m s.top;
      below = map (saved_activation m) s.below;
      outcome = s.outcome;
    }

abbrev pub saved_result : Module → Result State Cause → Result State Cause
saved_result m (Err cause) = Err cause
saved_result m (Ok s) = Ok (saved_state m s)

-- ---- actions

abbrev pub saved_work : Function → Work → Work
saved_work f w = record { world = w.world; values = saved_values f w.values }

abbrev pub saved_action : Function → Action → Action
saved_action f (Done w) = Done (saved_work f w)
saved_action f (NewSlot w slot) = NewSlot (saved_work f w) slot
saved_action f (Enter func args result must_tail) = Enter func args result must_tail
saved_action f (Coro i args result) = Coro i args result
saved_action f (Deallocate p) = Deallocate p
saved_action f (GoTo label) = GoTo label
saved_action f (Return v) = Return v
saved_action f (Stuck cause) = Stuck cause

-- the name that a return sets is one of the activation's below
abbrev pub IsNamedBelow : Option ℕ → List Activation → Type 0
IsNamedBelow result [] = Unit {0}
IsNamedBelow result (a ∷ below) = IsNamedResult (length a.values) result

-- the topmost activation has as many values as its function has names
abbrev pub HasRoom : Module → State → Type 0
HasRoom m s = length s.top.values ≡ length (function_at m s.top.func).names

-- an instance is one of the topmost activation's function
abbrev pub IsOwnedBy : State → Option (ℕ × Instance) → Type 0
IsOwnedBy s None = Unit {0}
IsOwnedBy s (Some y) = y.1.coroutine ≡ s.top.func

-- no save is written before what stands at the place of a state
abbrev pub StandsAlone : Module → State → Type 0
StandsAlone m s = own_saves (function_at m s.top.func).coroutine (slice_get (instrs_in (slice_get (function_at m s.top.func).blocks s.top.block)) s.top.at) ≡ 0
