-- Which states of the run that makes slots anew are followed in the framed run, where a resume hands on some values in the
-- run before.
use Rattle.std.specs.Prelude.{◌≡◌, ◌≤◌, ℕ}
use Rattle.pass_frames_proof.specs.frame_layout.declared.layout.Layouts.{Layouts}
use Rattle.pass_frames_proof.specs.ir_base.declared.outcome.Outcome.{Outcome}
use Rattle.pass_frames_proof.specs.Followed.{IsFollowed, renewed_state_at}
use Rattle.pass_frames_proof.specs.Meaning.{step_cost}
use Rattle.pass_frames_proof.specs.Related.{AreBuiltOf, AreShownAlike, Building}
use Rattle.pass_frames_proof.specs.pass_kept_proof.Machines.{kept_machine}
use Rattle.pass_renewed_meaning.specs.Followed.{AreAlike, AreInStep, IsEntering}
use Rattle.pass_renewed_meaning.specs.Offsets.{first_at}
use Rattle.pass_renewed_meaning.specs.Rules.{Setting}
use Rattle.pass_renewed_meaning.specs.Runs.{first_given, first_step, second_given}
use Rattle.pass_frames_proof.specs.pass_renewed_proof.Beside.{IsBeside}
use Rattle.pass_frames_proof.specs.pass_renewed_proof.Prices.{Prices, kept_price, renewed_price}
use Rattle.pass_frames_proof.specs.pass_renewed_proof.Renewed.{renewed_step}
use Rattle.pass_frames_proof.specs.run_agreement.Costs.{AgreesBy, Through}
use Rattle.pass_frames_proof.specs.run_agreement.Machines.{IsFine}
use Rattle.pass_frames_proof.specs.run_framed.Framed.{framed_state_at}
use Rattle.pass_frames_proof.specs.run_source.Source.{first_state}
use Rattle.pass_frames_proof.specs.run_source.declared.state.State.{State}
use Rattle.pass_frames_proof.specs.run_states.moved_states.Beside.{framed_machine}

-- It stands beside a state of the run before, whose next step isn't undefined, or its resumed activation makes slots anew.
-- So what holds in that run, as that live slots conflict, may be used.
pub data IsCovered (c : Setting) (s : State) : Type 0 where
  Stands : (n : ℕ) → IsBeside c.code c.flags c.roots (first_at c n) s → IsFine (first_step c (first_at c n)).outcome
      → IsCovered c s
  Makes : IsEntering s.top.mode → IsCovered c s

-- What is told of states of that run: it holds at the start, and behind a step from such a state that is related.
pub record IsKeptOver (c : Setting) (b : Building) (Holds : State → Type 0) : Type 0 where
  pub first : Holds (first_state c.code c.entry c.args)
  pub step : (n m : ℕ) → IsCovered c (renewed_state_at (second_given c) c.entry c.args n)
      → AreBuiltOf b (renewed_state_at (second_given c) c.entry c.args n) (framed_state_at b.given c.entry c.args m)
      → (renewed_state_at (second_given c) c.entry c.args n).outcome ≡ Outcome.Running
      → Holds (renewed_state_at (second_given c) c.entry c.args n)
      → Holds (renewed_step (second_given c) (renewed_state_at (second_given c) c.entry c.args n))

-- each step of that run pays for the framed one's
abbrev pub AreStepsPaid : Setting → Building → Prices → Type 0
AreStepsPaid c b p =
    (n : ℕ) → step_cost b (second_given c) (renewed_state_at (second_given c) c.entry c.args n)
    (renewed_state_at (second_given c) c.entry c.args n).top.mode
    ≤ renewed_price p (second_given c).given (renewed_state_at (second_given c) c.entry c.args n)

-- each step from such a state is followed
abbrev pub AreCoveredStepsFollowed : Setting → Building → (State → Type 0) → Type 0
AreCoveredStepsFollowed c b Holds = (n m : ℕ) → IsCovered c (renewed_state_at (second_given c) c.entry c.args n)
    → AreBuiltOf b (renewed_state_at (second_given c) c.entry c.args n) (framed_state_at b.given c.entry c.args m)
    → (renewed_state_at (second_given c) c.entry c.args n).outcome ≡ Outcome.Running
    → Holds (renewed_state_at (second_given c) c.entry c.args n)
    → IsFine (renewed_step (second_given c) (renewed_state_at (second_given c) c.entry c.args n)).outcome
    → IsFollowed b (second_given c) (renewed_state_at (second_given c) c.entry c.args n)
    (framed_state_at b.given c.entry c.args m)

-- the run in which a resume hands on some values agrees with the framed one
abbrev pub AgreesWithFrames : Setting → Prices → Building → Layouts → Type 0
AgreesWithFrames c p b layouts =
    AgreesBy (Through (AreInStep c.code c.flags c.roots) (AreBuiltOf b)) (Through AreAlike (AreShownAlike b))
    (kept_machine c.code c.keep c.sizes c.entry c.args c.answers) (kept_price p c.flags (first_given c))
    (framed_machine b.framed_code layouts c.entry c.args c.answers) (λ t. 1)
