-- Activations stand where paths lead, in both runs.
use Rattle.std.proofs.Common.{◌≡◌, ◌∙◌, ℕ, zero, suc, List, [], ◌∷◌, sym, ap, subst}
use Rattle.std.specs.Prelude.{Some, slice_get}
use Rattle.pass_elide_proof.proofs.Modules.{finds_alike}
use Rattle.pass_elide_proof.proofs.PhiValues.{each_as}
use Rattle.pass_elide_proof.proofs.Standing.{has_code}
use Rattle.pass_elide_proof.specs.Elision.{Elision, elided, elided_code, function_in, rooms}
use Rattle.pass_elide_proof.specs.Placing.{KeepsPlaces}
use Rattle.pass_elide_runs.proofs.Elided.{elided_switches, same_edges}
use Rattle.pass_elide_runs.proofs.Paths.{block_reached, same_reached}
use Rattle.pass_elide_runs.specs.Standing.{StandWhereLed, StandsWhereLed}
use Rattle.pass_elide_proof.specs.pass_proofs.flow_blocks.Edges.{block_edges}
use Rattle.pass_elide_proof.specs.pass_proofs.flow_blocks.Reach.{IsReached as IsReachedBlock}
use Rattle.pass_elide_proof.specs.pass_proofs.ir_base.declared.outcome.Word.{Word}
use Rattle.pass_elide_proof.specs.pass_proofs.ir_model.Names.{function_at, position_of}
use Rattle.pass_elide_proof.specs.pass_proofs.ir_model.declared.module.Function.{Function}
use Rattle.pass_elide_proof.specs.pass_proofs.pass_kept_proof.Related.{AreSoundInstances, IsSoundStatus, coroutines}
use Rattle.pass_elide_proof.specs.pass_proofs.run_framed.Framed.{FramedGiven, framed_state_at, framed_step}
use Rattle.pass_elide_proof.specs.pass_proofs.run_laws.changed.Changed.{Each}
use Rattle.pass_elide_proof.specs.pass_proofs.run_source.Source.{first_state}
use Rattle.pass_elide_proof.specs.pass_proofs.run_source.declared.state.Activation.{Activation}
use Rattle.pass_elide_proof.specs.pass_proofs.run_source.declared.state.Instance.{Instance}
use Rattle.pass_elide_proof.specs.pass_proofs.run_source.declared.state.State.{State}
use Rattle.pass_elide_proof.specs.pass_proofs.run_source_tables.Given.{Given}
use Rattle.run_hooks.proofs.Keeping.{framed_keeps}
use Rattle.run_hooks.proofs.Reaching.{states_reached}
use Rattle.run_hooks.proofs.Steps.{framed_steps, same_runs}
use Rattle.run_hooks.specs.Hooks.{step_of}
use Rattle.run_hooks.specs.Meanings.{framed_hooks}
use Rattle.run_hooks.specs.Reached.{AllHaveSwitches, AreReachedActivations, IsReachedActivation, IsReachedState}

pub state_reached : (g : FramedGiven) → AllHaveSwitches g.given.code → (entry : ℕ) (args : List Word) (n : ℕ)
    → IsReachedState g.given (framed_state_at g entry args n)
state_reached g switches entry args n =
    subst (IsReachedState g.given)
    (sym (same_runs (framed_step g) (step_of (framed_hooks g)) (framed_steps g) n
    (first_state g.given.code entry args)))
    (states_reached (framed_hooks g) switches (framed_keeps g) entry args n)

-- ---- by paths to points

pub sound_there : (g : Given) (xs : List Instance) → AreSoundInstances g xs → (i : ℕ) (x : Instance)
    → slice_get xs i ≡ Some x → IsSoundStatus g x.coroutine x.status
sound_there g [] h i x at = absurd (cc)
sound_there g (y ∷ xs) h zero x at =
    let same : y ≡ x = cc in subst (λ (z : Instance). IsSoundStatus g z.coroutine z.status) same h.0
sound_there g (y ∷ xs) h (suc i) x at = sound_there g xs h.1 i x at

module _ (g : Given) where
  act_led : (cs : List ℕ) (a : Activation) → IsReachedActivation g cs a → StandsWhereLed g.code a
  act_led cs a h = record {
    block = block_reached (function_at g.code a.func) a.block a.at h.reached;
    label = λ from label mode.
        block_reached (function_at g.code a.func) (position_of (function_at g.code a.func) label) 0
        (h.entered from label mode);
  }

  acts_led : (cs : List ℕ) (bs : List Activation) → AreReachedActivations g cs bs → Each (StandsWhereLed g.code) bs
  acts_led cs [] h = tt
  acts_led cs (a ∷ bs) h = (act_led cs a h.0, acts_led cs bs h.1)

  pub led_of : (s : State) → IsReachedState g s → StandWhereLed g.code s
  led_of s h = record {
    acts = (act_led (coroutines s.instances) s.top h.top, acts_led (coroutines s.instances) s.below h.below);
    asleep = λ i x p values there status.
        block_reached (function_at g.code x.coroutine) p.block p.at
        (subst (IsSoundStatus g x.coroutine) status (sound_there g s.instances h.instances i x there)).0;
  }

pub states_led : (g : FramedGiven) → AllHaveSwitches g.given.code → (entry : ℕ) (args : List Word) (n : ℕ)
    → StandWhereLed g.given.code (framed_state_at g entry args n)
states_led g switches entry args n =
    led_of g.given (framed_state_at g entry args n) (state_reached g switches entry args n)

-- ---- in functions as they were

module _ (e : Elision) where
  pub edges_in : (func : ℕ) → block_edges (function_at (elided_code e) func) ≡ block_edges (function_in e func)
  edges_in func =
      ap block_edges ((finds_alike e).functions func) ∙ same_edges (rooms e func) (function_in e func)

  position_in : (func label : ℕ)
      → position_of (function_at (elided_code e) func) label ≡ position_of (function_in e func) label
  position_in func label =
      ap (λ (f : Function). position_of f label) ((finds_alike e).functions func)
      ∙ (has_code (rooms e func) (function_in e func)).labels label

  led_in : (func block : ℕ) → IsReachedBlock (function_at (elided_code e) func) (0 ∷ []) [] block
      → IsReachedBlock (function_in e func) (0 ∷ []) [] block
  led_in func block h =
      same_reached (function_in e func) (function_at (elided_code e) func) (edges_in func) block h

  act_in : (a : Activation) → StandsWhereLed (elided_code e) a → StandsWhereLed e.code a
  act_in a h = record {
    block = led_in a.func a.block h.block;
    label = λ from label mode.
        subst (IsReachedBlock (function_in e a.func) (0 ∷ []) []) (position_in a.func label)
        (led_in a.func (position_of (function_at (elided_code e) a.func) label) (h.label from label mode));
  }

  state_in : (t : State) → StandWhereLed (elided_code e) t → StandWhereLed e.code t
  state_in t h = record {
    acts = each_as (StandsWhereLed (elided_code e)) (StandsWhereLed e.code) act_in (t.top ∷ t.below) h.acts;
    asleep = λ i x p values there status. led_in x.coroutine p.block (h.asleep i x p values there status);
  }

  pub giving_led : KeepsPlaces e → AllHaveSwitches e.code → (entry : ℕ) (args : List Word) (n : ℕ)
      → StandWhereLed e.code (framed_state_at (elided e) entry args n)
  giving_led keeps switches entry args n =
      state_in (framed_state_at (elided e) entry args n)
      (states_led (elided e) (elided_switches e keeps switches) entry args n)
