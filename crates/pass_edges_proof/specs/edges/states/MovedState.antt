-- The state of a source run, and that of the module whose coroutines' edges have blocks.
use Rattle.std.specs.Prelude.{ℕ, true, length, map, replicate, Some, None, Ok, Err, Result, option_map, slice_get, ◌≡◌, ◌++◌, if◌then◌else◌}
use Rattle.pass_early_proof.specs.ir_base.declared.cause.Cause.{Cause}
use Rattle.pass_early_proof.specs.run_source.declared.state.Activation.{Activation}
use Rattle.pass_early_proof.specs.run_source.declared.state.Instance.{Instance}
use Rattle.pass_early_proof.specs.run_source.declared.state.Saved.{Saved}
use Rattle.pass_early_proof.specs.run_source.declared.state.State.{State}
use Rattle.pass_early_proof.specs.run_source.declared.state.Status.{Status}
use Rattle.pass_early_proof.specs.ir_laws.paths.threads.Labels.{HasNamedLabels}
use Rattle.pass_edges_proof.specs.edges.paths.Phis.{AreLabelsOnce, ArePhisForEdges}
use Rattle.pass_edges_proof.specs.edges.paths.Spots.{moved}
use Rattle.pass_edges.specs.EdgeBlocks.{with_edge_blocks}
use Rattle.pass_edges.specs.Edges.{edges_of, phi_flags}
use Rattle.ir_model.specs.Names.{function_at}
use Rattle.ir_model.specs.declared.instr.Instr.{Instr}
use Rattle.ir_model.specs.declared.module.Block.{Block}
use Rattle.ir_model.specs.declared.module.Function.{Function}
use Rattle.ir_model.specs.declared.module.Module.{Module}
use Rattle.ir_model.specs.declared.operand.Intrinsic.{Intrinsic}
use Rattle.pass_early_proof.specs.ir_paths.Windows.{instr_at, is_call_of}
use Rattle.pass_early_proof.specs.ir_paths.declared.point.Point.{Point}
use Rattle.pass_early_proof.specs.run_step.Step.{Action, Coro, Deallocate, Done, Enter, GoTo, NewSlot, Return, Stuck, Work}
use Rattle.pass_early_proof.specs.run_step.Values.{Env}
use Rattle.pass_early_proof.specs.ir_laws.facts.branches.MovedState.{IsSwitch}

-- ---- the pass

-- the edges of a coroutine have blocks
abbrev pub edge_function : Function → Function
edge_function f = if f.coroutine then with_edge_blocks f else f

abbrev pub edges_split : Module → Module
edges_split m = record { types = m.types; globals = m.globals; declarations = m.declarations; functions = map edge_function m.functions }

-- how many names a function gets
abbrev pub edge_count : Function → ℕ
edge_count f = if f.coroutine then length (edges_of (phi_flags f) f) else 0

-- where a block of a function is then, and a point
abbrev pub placed_block : Function → ℕ → ℕ
placed_block f k = if f.coroutine then (moved f (record { block = k; at = 0 })).block else k

abbrev pub placed : Function → Point → Point
placed f p = record { block = placed_block f p.block; at = p.at }

-- ---- states

-- the labels of the edges' blocks have names, and no values
abbrev pub moved_values : Function → Env → Env
moved_values f env = env ++ replicate (edge_count f) None

abbrev pub moved_status : Function → Status → Status
moved_status f Status.Running = Status.Running
moved_status f (Status.Suspended suspend values) = Status.Suspended (placed f suspend) (moved_values f values)
moved_status f Status.Finished = Status.Finished

abbrev pub moved_save : Function → Saved → Saved
moved_save f x = record { depth = x.depth; save = placed f x.save }

abbrev pub moved_instance : Module → Instance → Instance
moved_instance m x =
    record {
      coroutine = x.coroutine;
      block = x.block;
      start = x.start;
      slots = x.slots;
      status = moved_status (function_at m x.coroutine) x.status;
      last_save = option_map (moved_save (function_at m x.coroutine)) x.last_save;
      released = x.released;
      freed = x.freed;
    }

abbrev pub moved_activation : Module → Activation → Activation
moved_activation m a =
    record a { block = placed_block (function_at m a.func) a.block; values = moved_values (function_at m a.func) a.values }

abbrev pub moved_state : Module → State → State
moved_state m s =
    record {
      world = s.world;
      instances = map (moved_instance m) s.instances;
      top = moved_activation m s.top;
      below = map (moved_activation m) s.below;
      outcome = s.outcome;
    }

abbrev pub moved_result : Module → Result State Cause → Result State Cause
moved_result m (Err cause) = Err cause
moved_result m (Ok s) = Ok (moved_state m s)

abbrev pub moved_work : Function → Work → Work
moved_work f w = record { world = w.world; values = moved_values f w.values }

abbrev pub moved_action : Function → Action → Action
moved_action f (Done w) = Done (moved_work f w)
moved_action f (NewSlot w slot) = NewSlot (moved_work f w) slot
moved_action f (Enter func args result must_tail) = Enter func args result must_tail
moved_action f (Coro i args result) = Coro i args result
moved_action f (Deallocate p) = Deallocate p
moved_action f (GoTo label) = GoTo label
moved_action f (Return v) = Return v
moved_action f (Stuck cause) = Stuck cause

abbrev pub HaveSwitches : Function → Type 0
HaveSwitches f = (p : Point) (b : Block) (i : Instr) → instr_at f p ≡ Some i → is_call_of Intrinsic.CoroSuspend i ≡ true → slice_get f.blocks p.block ≡ Some b → IsSwitch b.term

-- what blocks on edges ask of a coroutine
pub record KeepsEdges (f : Function) : Type 0 where
  pub labels : HasNamedLabels f
  pub once : AreLabelsOnce f
  pub phis : ArePhisForEdges f
  pub switches : HaveSwitches f

abbrev pub Keeps : Function → Type 0
Keeps f = f.coroutine ≡ true → KeepsEdges f

abbrev pub AreEdgesKept : Module → Type 0
AreEdgesKept m = (func : ℕ) → Keeps (function_at m func)
