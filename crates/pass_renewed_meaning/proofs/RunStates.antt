-- What is known of each state of the first run.
use Rattle.std.proofs.Common.{◌≡◌, ℕ, zero, suc, ◌+◌, List, [], ◌∷◌, length, refl, sym, ◌∙◌, subst}
use Rattle.run_types.specs.ir_model.Names.{function_at, position_of}
use Rattle.run_types.proofs.pass_kept_proof.Same.{kept_wide}
use Rattle.run_types.specs.pass_kept_proof.Kept.{Keep, continue_keeping, kept}
use Rattle.run_types.specs.pass_kept_proof.Machines.{kept_machine}
use Rattle.run_types.proofs.run_agreement.Runs.{iterate-add}
use Rattle.run_types.specs.run_agreement.Machines.{iterate, state_at}
use Rattle.run_types.proofs.run_hooks.Keeping.{kept_keeps}
use Rattle.run_types.proofs.run_hooks.Left.{states_last}
use Rattle.run_types.proofs.run_hooks.LeftKeeping.{kept_keeps_last}
use Rattle.run_types.proofs.run_hooks.PlacedKeeping.{kept_keeps_placed}
use Rattle.run_types.proofs.run_hooks.PlacedSteps.{states_placed}
use Rattle.run_types.proofs.run_hooks.Reaching.{states_reached}
use Rattle.run_types.proofs.run_hooks.Steps.{same_runs, source_step}
use Rattle.run_types.specs.run_hooks.Away.{IsPlacedState}
use Rattle.run_types.specs.run_hooks.Hooks.{hooked_state_at, step_of}
use Rattle.run_types.specs.run_hooks.Left.{IsLastState}
use Rattle.run_types.specs.run_hooks.Meanings.{kept_hooks}
use Rattle.run_types.specs.run_hooks.Reached.{IsReachedState}
use Rattle.run_types.specs.run_source.Source.{first_state, step_by}
use Rattle.run_types.specs.run_source.declared.state.State.{State}
use Rattle.run_types.specs.run_source_tables.Given.{Given}
use Rattle.run_states.proofs.sound_states.Acts.{continue_sound}
use Rattle.run_states.proofs.sound_states.Steps.{first_sound, step_sound}
use Rattle.run_states.specs.sound_states.Sound.{IsSound, IsSoundStatus, KeepsSound}
use Rattle.run_types.specs.run_memory.declared.pointer.Value.{Value}
use Rattle.run_types.specs.run_step.Step.{label_of, phi_values, phis_of, with_all}
use Rattle.run_types.specs.run_step.Values.{Env, with_value}
use Rattle.run_types.proofs.Meanings.{kept_keeps_fitting}
use Rattle.run_types.proofs.Runs.{states_fit}
use Rattle.run_types.specs.States.{IsFittingState}
use Rattle.std.specs.Prelude.{slice_get}
use Rattle.pass_renewed_meaning.proofs.Places.{has_switches, place_rules}
use Rattle.pass_renewed_meaning.specs.Rules.{KeepsAll, Setting}
use Rattle.pass_renewed_meaning.specs.Runs.{IsOfRun, first_given}
use Rattle.run_types.proofs.pass_renewed_proof.EnteredValues.{set_length}

-- ---- as many values as names, where a resume hands on some

all_length : (env : Env) (ps : List (ℕ × Value)) → length (with_all env ps) ≡ length env
all_length env [] = refl
all_length env (p ∷ ps) = all_length (with_value env p.0 p.1) ps ∙ set_length env p.0 p.1

kept_sound : (g : Given) (keep : Keep) → KeepsSound g.code (continue_keeping g keep)
kept_sound g keep s i x suspend values label h got status =
    let r = continue_sound g s i x suspend values label h got status in
    let f = function_at g.code x.coroutine in
    let handed = kept (keep x.coroutine suspend) values in
    let from = label_of (slice_get f.blocks suspend.block) in
    let to = slice_get f.blocks (position_of f label) in
    let known : length values ≡ length f.names = (subst (IsSoundStatus g.code x.coroutine) status (h.instances i x
    got)).0 in
    record {
      top = record {
        values = all_length handed (phi_values g.code handed from (phis_of to)) ∙ kept_wide (keep x.coroutine suspend)
            values ∙ known;
        instance = r.top.instance;
        mode = r.top.mode;
      };
      below = r.below;
      instances = r.instances;
    }

-- ---- a state of a run

module _ (c : Setting) (all : KeepsAll c) where
  abbrev g : Given
  g = first_given c

  abbrev run : ℕ → State
  run n = iterate (step_by (first_given c) (continue_keeping (first_given c) c.keep)) n (first_state c.code c.entry
      c.args)

  same : (n : ℕ) → run n ≡ hooked_state_at (kept_hooks (first_given c) c.keep) c.entry c.args n
  same n = same_runs (step_by g (continue_keeping g c.keep)) (step_of (kept_hooks g c.keep)) (source_step g
      (continue_keeping g c.keep)) n (first_state c.code c.entry c.args)

  sound_at : (n : ℕ) (s : State) → IsSound c.code s
      → IsSound c.code (iterate (step_by (first_given c) (continue_keeping (first_given c) c.keep)) n s)
  sound_at zero s h = h
  sound_at (suc n) s h = sound_at n (step_by g (continue_keeping g c.keep) s) (step_sound g (continue_keeping g c.keep) s
      all.locals (kept_sound g c.keep) h)

  last_at : (n : ℕ) → IsLastState (run n)
  last_at n = subst (λ (s : State). IsLastState s) (sym (same n)) (states_last (kept_hooks g c.keep) (kept_keeps_last g
      c.keep) c.entry c.args n)

  pub of_run : (n : ℕ) → IsOfRun c (state_at (kept_machine c.code c.keep c.sizes c.entry c.args c.answers) n)
  of_run n = record {
    reached = subst (IsReachedState g) (sym (same n)) (states_reached (kept_hooks g c.keep) (has_switches c all) (kept_keeps g
        c.keep) c.entry c.args n);
    last = last_at n;
    placed = subst (IsPlacedState (kept_hooks g c.keep)) (sym (same n)) (states_placed (kept_hooks g c.keep) (has_switches c all)
        (kept_keeps g c.keep) (place_rules c all) (kept_keeps_placed g c.keep) c.entry c.args n);
    fitting = subst (IsFittingState c.code) (sym (same n)) (states_fit (kept_hooks g c.keep) (has_switches c all) (kept_keeps g
        c.keep) all.types (kept_keeps_fitting g c.keep all.types) c.entry c.args n all.arguments);
    sound = sound_at n (first_state c.code c.entry c.args) (first_sound c.code c.entry c.args);
    last_later = subst (λ (s : State). IsLastState s) (iterate-add (step_by g (continue_keeping g c.keep)) n 1
        (first_state c.code c.entry c.args)) (last_at (n + 1));
  }
