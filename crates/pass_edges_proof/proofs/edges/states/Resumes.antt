-- Resumes and destroys, where edges have blocks.
use Rattle.std.proofs.Common.{◌≡◌, ℕ, List, length, refl, sym, ap, ◌∙◌, subst}
use Rattle.std.specs.Prelude.{ℤ, Some, None, Ok, Err, Option, Result}
use Rattle.pass_early_proof.specs.run_memory.declared.pointer.Value.{Value}
use Rattle.pass_early_proof.specs.ir_base.declared.cause.Cause.{Cause}
use Rattle.pass_early_proof.specs.run_source.Source.{Sleeper, continue, enter_block, given, push, resumed, sleeper_at, sleeper_of}
use Rattle.pass_early_proof.specs.run_source.State.{instance_at, with_status}
use Rattle.pass_early_proof.specs.run_source.declared.state.Instance.{Instance}
use Rattle.pass_early_proof.specs.run_source.declared.state.State.{State}
use Rattle.pass_early_proof.specs.run_source.declared.state.Status.{Status}
use Rattle.ir_model.specs.Names.{function_at}
use Rattle.ir_model.specs.declared.module.Frame.{Frame}
use Rattle.ir_model.specs.declared.module.Module.{Module}
use Rattle.pass_early_proof.specs.ir_paths.declared.point.Point.{Point}
use Rattle.pass_early_proof.specs.run_step.Results.{and_then, found}
use Rattle.pass_early_proof.specs.run_step.Values.{Env}
use Rattle.pass_early_proof.specs.run_source_tables.Given.{Given}
use Rattle.pass_early_proof.specs.ir_base.declared.outcome.Outcome.{Outcome}
use Rattle.pass_edges_proof.specs.edges.states.MovedState.{Keeps, edges_split, placed, moved_instance, moved_state, moved_status, moved_values}
use Rattle.pass_edges_proof.specs.edges.states.Near.{IsNear}
use Rattle.pass_edges_proof.specs.edges.states.Ways.{Enters}
use Rattle.pass_edges_proof.proofs.edges.states.States.{enters_near, found_moved, with_instance_moved, with_number}
use Rattle.pass_early_proof.specs.ir_laws.facts.sound_states.Named.{HasNamedPhis}

module _ (m : Module) (sizes : List Frame) (answers : List ℤ) where
  abbrev g : Given
  g = given m sizes answers

  abbrev k : Given
  k = given (edges_split m) sizes answers

  -- the source goes on with the kept values, and so does the second run, or it stands at an edge's block
  pub continue_near : (s : State) (i : ℕ) (x : Instance) (suspend : Point) (values : Env) (t l : ℕ) → Keeps (function_at m x.coroutine) → HasNamedPhis (function_at m x.coroutine) → length values ≡ length (function_at m x.coroutine).names → s.outcome ≡ Outcome.Running → Enters (function_at m x.coroutine) (function_at (edges_split m) x.coroutine) (placed (function_at m x.coroutine)) suspend.block t l → IsNear m sizes answers (Ok (continue g s i x suspend values t)) (Ok (continue k (moved_state m s) i (moved_instance m x) (placed (function_at m x.coroutine) suspend) (moved_values (function_at m x.coroutine) values) l))
  continue_near s i x suspend values t l keeps phis room running enters =
      subst (λ (u : State). IsNear m sizes answers (Ok (continue g s i x suspend values t)) (Ok (enter_block k (push u (resumed i (moved_instance m x) (placed (function_at m x.coroutine) suspend) (moved_values (function_at m x.coroutine) values))) l))) (sym (with_instance_moved m s i (record x { status = Status.Running })))
      (enters_near m sizes answers (push (with_status s i x Status.Running) (resumed i x suspend values)) keeps phis room running t l enters)

  -- a sleeping instance, moved
  abbrev pub moved_sleeper : Sleeper → Sleeper
  moved_sleeper y = record {
    number = y.number;
    instance = moved_instance m y.instance;
    suspend = placed (function_at m y.instance.coroutine) y.suspend;
    values = moved_values (function_at m y.instance.coroutine) y.values;
  }

  abbrev pub sleeping : Result Sleeper Cause → Result Sleeper Cause
  sleeping (Err cause) = Err cause
  sleeping (Ok y) = Ok (moved_sleeper y)

  pub sleeper_moved : (s : State) (p : Value) → sleeper_at (moved_state m s) p ≡ sleeping (sleeper_at s p)
  sleeper_moved s p =
      ap (λ (o : Option (ℕ × Instance)). and_then (found Cause.Frame o) (λ (y : ℕ × Instance). sleeper_of y.0 y.1 y.1.status)) (found_moved m s.instances p) ∙ on (instance_at s.instances p)
    where
      by : (i : ℕ) (x : Instance) (status : Status) → sleeper_of i (moved_instance m x) (moved_status (function_at m x.coroutine) status) ≡ sleeping (sleeper_of i x status)
      by i x Status.Running = refl
      by i x (Status.Suspended q values) = refl
      by i x Status.Finished = refl

      on : (o : Option (ℕ × Instance)) → and_then (found Cause.Frame (with_number m o)) (λ (y : ℕ × Instance). sleeper_of y.0 y.1 y.1.status) ≡ sleeping (and_then (found Cause.Frame o) (λ (y : ℕ × Instance). sleeper_of y.0 y.1 y.1.status))
      on None = refl
      on (Some y) = by y.0 y.1 y.1.status
