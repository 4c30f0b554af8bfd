-- What is known of each state of the first run: the invariants that steps ask for.
use Rattle.run_types.specs.pass_kept_proof.Kept.{continue_keeping}
use Rattle.run_types.specs.run_hooks.Away.{IsPlacedState}
use Rattle.run_types.specs.run_hooks.Left.{IsLastState}
use Rattle.run_types.specs.run_hooks.Meanings.{kept_hooks}
use Rattle.run_types.specs.run_hooks.Reached.{IsReachedState}
use Rattle.run_types.specs.run_source.Source.{given, step_by}
use Rattle.run_types.specs.run_source.declared.state.State.{State}
use Rattle.run_types.specs.run_source_tables.Given.{Given}
use Rattle.run_states.specs.sound_states.Sound.{IsSound}
use Rattle.run_types.specs.States.{IsFittingState}
use Rattle.pass_renewed_meaning.specs.Rules.{Setting}
use Rattle.run_types.specs.pass_renewed_proof.Renewed.{RenewedGiven, renewed_given}

-- what both runs are given
abbrev pub first_given : Setting → Given
first_given c = given c.code c.sizes c.answers

abbrev pub second_given : Setting → RenewedGiven
second_given c = renewed_given c.code c.keep c.flags c.roots c.sizes c.answers

abbrev pub first_step : Setting → State → State
first_step c s = step_by (first_given c) (continue_keeping (first_given c) c.keep) s

pub record IsOfRun (c : Setting) (s : State) : Type 0 where
  pub reached : IsReachedState (first_given c) s
  pub last : IsLastState s
  pub placed : IsPlacedState (kept_hooks (first_given c) c.keep) s
  pub fitting : IsFittingState c.code s
  pub sound : IsSound c.code s
  -- and behind the next step
  pub last_later : IsLastState (first_step c s)
