-- The state of a framed run, and that of the module whose functions have blocks on some of their edges.
use Rattle.std.specs.Prelude.{map, replicate, None, Ok, Err, Result, option_map, ◌++◌}
use Rattle.ir_laws.specs.ir_base.declared.cause.Cause.{Cause}
use Rattle.ir_laws.specs.run_source.declared.state.Activation.{Activation}
use Rattle.ir_laws.specs.run_source.declared.state.Instance.{Instance}
use Rattle.ir_laws.specs.run_source.declared.state.Mode.{Mode}
use Rattle.ir_laws.specs.run_source.declared.state.Saved.{Saved}
use Rattle.ir_laws.specs.run_source.declared.state.State.{State}
use Rattle.ir_laws.specs.run_source.declared.state.Status.{Status}
use Rattle.ir_laws.specs.ir_model.Names.{function_at}
use Rattle.ir_laws.specs.ir_model.declared.module.Function.{Function}
use Rattle.ir_laws.specs.ir_model.declared.module.Module.{Module}
use Rattle.ir_laws.specs.run_step.Step.{Action, Coro, Deallocate, Done, Enter, GoTo, NewSlot, Return, Stuck, Work}
use Rattle.ir_laws.specs.run_step.Values.{Env}
use Rattle.run_states.specs.moved_states.Moving.{Moving, moved_point}

abbrev pub moved_module : Moving → Module → Module
moved_module mv m = record { types = m.types; globals = m.globals; declarations = m.declarations; functions = map mv.to m.functions }

-- the further names are labels, and have no values
abbrev pub moved_values : Moving → Function → Env → Env
moved_values mv f env = env ++ replicate (mv.more f) None

abbrev pub moved_status : Moving → Function → Status → Status
moved_status mv f Status.Running = Status.Running
moved_status mv f (Status.Suspended suspend values) = Status.Suspended (moved_point mv f suspend) (moved_values mv f values)
moved_status mv f Status.Finished = Status.Finished

abbrev pub moved_save : Moving → Function → Saved → Saved
moved_save mv f x = record { depth = x.depth; save = moved_point mv f x.save }

abbrev pub moved_instance : Moving → Module → Instance → Instance
moved_instance mv m x =
    record {
      coroutine = x.coroutine;
      block = x.block;
      start = x.start;
      slots = x.slots;
      status = moved_status mv (function_at m x.coroutine) x.status;
      last_save = option_map (moved_save mv (function_at m x.coroutine)) x.last_save;
      released = x.released;
      freed = x.freed;
    }

-- a resumed activation that executes its allocas goes on from the block of its suspend
abbrev pub moved_mode : Moving → Function → Mode → Mode
moved_mode mv f (Mode.Entering from label) = Mode.Entering (mv.spot f from) label
moved_mode mv f mode = mode

abbrev pub moved_activation : Moving → Module → Activation → Activation
moved_activation mv m a =
    record {
      func = a.func;
      block = mv.spot (function_at m a.func) a.block;
      at = a.at;
      values = moved_values mv (function_at m a.func) a.values;
      slots = a.slots;
      result = a.result;
      mode = moved_mode mv (function_at m a.func) a.mode;
      instance = a.instance;
      has_left = a.has_left;
    }

abbrev pub moved_state : Moving → Module → State → State
moved_state mv m s =
    record {
      world = s.world;
      instances = map (moved_instance mv m) s.instances;
      top = moved_activation mv m s.top;
      below = map (moved_activation mv m) s.below;
      outcome = s.outcome;
    }

abbrev pub moved_result : Moving → Module → Result State Cause → Result State Cause
moved_result mv m (Err cause) = Err cause
moved_result mv m (Ok s) = Ok (moved_state mv m s)

abbrev pub moved_work : Moving → Function → Work → Work
moved_work mv f w = record { world = w.world; values = moved_values mv f w.values }

abbrev pub moved_action : Moving → Function → Action → Action
moved_action mv f (Done w) = Done (moved_work mv f w)
moved_action mv f (NewSlot w slot) = NewSlot (moved_work mv f w) slot
moved_action mv f (Enter func args result must_tail) = Enter func args result must_tail
moved_action mv f (Coro i args result) = Coro i args result
moved_action mv f (Deallocate p) = Deallocate p
moved_action mv f (GoTo label) = GoTo label
moved_action mv f (Return v) = Return v
moved_action mv f (Stuck cause) = Stuck cause
