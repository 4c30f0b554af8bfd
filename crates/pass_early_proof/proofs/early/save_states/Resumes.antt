-- Resumes and destroys, where saves are written out.
use Rattle.std.proofs.Common.{◌≡◌, ℕ, List, ◌∷◌, length, refl, ap, ◌∙◌}
use Rattle.std.specs.Prelude.{ℤ, Some, None, Ok, Err, Option, Result, map}
use Rattle.rule_laws.specs.run_memory.declared.pointer.Value.{Value}
use Rattle.rule_laws.specs.ir_base.declared.cause.Cause.{Cause}
use Rattle.rule_laws.specs.run_source.Source.{Sleeper, continue, enter_block, given, push, resumed, sleeper_at, sleeper_of}
use Rattle.rule_laws.specs.run_source.State.{instance_at, with_status}
use Rattle.rule_laws.specs.run_source.declared.state.Instance.{Instance}
use Rattle.rule_laws.specs.run_source.declared.state.State.{State}
use Rattle.rule_laws.specs.run_source.declared.state.Status.{Status}
use Rattle.ir_model.specs.Names.{function_at}
use Rattle.ir_model.specs.declared.module.Frame.{Frame}
use Rattle.ir_model.specs.declared.module.Module.{Module}
use Rattle.rule_laws.specs.ir_paths.declared.point.Point.{Point}
use Rattle.rule_laws.specs.run_step.Results.{and_then, found}
use Rattle.rule_laws.specs.run_step.Values.{Env}
use Rattle.rule_laws.specs.run_source_tables.Given.{Given}
use Rattle.pass_early_proof.specs.early.saves.SavesWritten.{saves_written}
use Rattle.pass_early_proof.specs.early.saves.Spots.{back_of}
use Rattle.pass_early_proof.proofs.early.save_states.Acts.{front_next}
use Rattle.pass_early_proof.proofs.early.save_states.States.{enter_saved, found_saved, with_instance_saved, with_number}
use Rattle.rule_laws.specs.ir_laws.facts.sound_states.Named.{HasNamedPhis}
use Rattle.pass_early_proof.specs.early.save_states.SavedState.{StandsAlone, saved_activation, saved_instance, saved_state, saved_status, saved_values}

module _ (m : Module) (sizes : List Frame) (answers : List ℤ) where
  abbrev g : Given
  g = given m sizes answers

  abbrev k : Given
  k = given (saves_written m) sizes answers

  -- the source goes on with the kept values, and so does the second run
  pub continue_saved : (s : State) (i : ℕ) (x : Instance) (suspend : Point) (values : Env) (label : ℕ) → StandsAlone m s → HasNamedPhis (function_at m x.coroutine) → length values ≡ length (function_at m x.coroutine).names → continue k (saved_state m s) i (saved_instance m x) (back_of (function_at m x.coroutine) suspend) (saved_values (function_at m x.coroutine) values) label ≡ saved_state m (continue g s i x suspend values label)
  continue_saved s i x suspend values label lone phis room =
      ap (λ (t : State). enter_block k (push t (resumed i (saved_instance m x) (back_of (function_at m x.coroutine) suspend) (saved_values (function_at m x.coroutine) values))) label) (with_instance_saved m s i (record x { status = Status.Running }))
      ∙ ap (λ (n : ℕ). enter_block k (record (saved_state m (with_status s i x Status.Running)) { top = saved_activation m (resumed i x suspend values); below = record (saved_activation m s.top) { at = n } ∷ map (saved_activation m) s.below }) label) (front_next (function_at m s.top.func) s.top.block s.top.at lone)
      ∙ enter_saved m sizes answers (push (with_status s i x Status.Running) (resumed i x suspend values)) label phis room

  -- a sleeping instance, moved
  abbrev pub saved_sleeper : Sleeper → Sleeper
  saved_sleeper y = record {
    number = y.number;
    instance = saved_instance m y.instance;
    suspend = back_of (function_at m y.instance.coroutine) y.suspend;
    values = saved_values (function_at m y.instance.coroutine) y.values;
  }

  abbrev pub sleeping : Result Sleeper Cause → Result Sleeper Cause
  sleeping (Err cause) = Err cause
  sleeping (Ok y) = Ok (saved_sleeper y)

  pub sleeper_saved : (s : State) (p : Value) → sleeper_at (saved_state m s) p ≡ sleeping (sleeper_at s p)
  sleeper_saved s p =
      ap (λ (o : Option (ℕ × Instance)). and_then (found Cause.Frame o) (λ (y : ℕ × Instance). sleeper_of y.0 y.1 y.1.status)) (found_saved m s.instances p) ∙ on (instance_at s.instances p)
    where
      by : (i : ℕ) (x : Instance) (status : Status) → sleeper_of i (saved_instance m x) (saved_status (function_at m x.coroutine) status) ≡ sleeping (sleeper_of i x status)
      by i x Status.Running = refl
      by i x (Status.Suspended q values) = refl
      by i x Status.Finished = refl

      on : (o : Option (ℕ × Instance)) → and_then (found Cause.Frame (with_number m o)) (λ (y : ℕ × Instance). sleeper_of y.0 y.1 y.1.status) ≡ sleeping (and_then (found Cause.Frame o) (λ (y : ℕ × Instance). sleeper_of y.0 y.1 y.1.status))
      on None = refl
      on (Some y) = by y.0 y.1 y.1.status
