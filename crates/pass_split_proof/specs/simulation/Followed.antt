-- What the parts' run does for one step of the framed run, and the account of it.
use Rattle.std.specs.Prelude.{◌≡◌, ℕ, List, ◌+◌, ◌≤◌, ◌<◌, ◌⊎◌}
use Rattle.pass_proofs.specs.ir_base.declared.outcome.Outcome.{Outcome}
use Rattle.pass_proofs.specs.ir_base.declared.outcome.Word.{Word}
use Rattle.pass_split_proof.specs.simulation.Knowing.{KnowsGiven}
use Rattle.pass_split_proof.specs.states.Related.{AreRelated, IsOn, credit_of, fetched_at, measure, part_price, weight}
use Rattle.pass_proofs.specs.run_agreement.Machines.{IsFine, iterate}
use Rattle.pass_proofs.specs.run_framed.Framed.{FramedGiven, framed_state_at, framed_step}
use Rattle.run_access_worked.specs.run_plain.Plain.{PlainGiven, plain_step}
use Rattle.run_access_worked.specs.run_plain.declared.state.PlainState.{PlainState}
use Rattle.pass_proofs.specs.run_source.declared.state.State.{State}

-- the framed run goes on, and shows what it showed
pub record ShowsOn (s u : State) : Type 0 where
  pub goes : u.outcome ≡ Outcome.Running
  pub events : u.world.events ≡ s.world.events
  pub allocs : u.world.allocs ≡ s.world.allocs

-- The last steps are a debt, for which the framed run's next step has room. Meanwhile it shows what it showed, and the
-- parts' memory stays.
pub record IsOwed (g : FramedGiven) (h : PlainGiven) (s : State) (t : PlainState) (steps debt : ℕ) : Type 0 where
  pub room : debt + weight (fetched_at g (framed_step g s)) ≤ part_price g (framed_step g s)
  pub shows : ShowsOn s (framed_step g s)
  pub still : (i : ℕ) → steps ≤ i + debt → i < steps
      → (iterate (plain_step h) i t).world.memory ≡ (iterate (plain_step h) steps t).world.memory

-- From a related state so many steps of the parts lead to one that is related to the framed run's next state. The last
-- of them may be a debt, for which the next step has room.
pub record IsFollowed (g : FramedGiven) (h : PlainGiven) (s : State) (t : PlainState) : Type 0 where
  pub steps : ℕ
  pub debt : ℕ
  pub within : debt ≤ steps
  pub short : steps ≤ 9
  pub few : steps + credit_of (framed_step g s) ≤ weight (fetched_at g s) + debt + credit_of s
  pub owed : (debt ≡ 0) ⊎ IsOwed g h s t steps debt
  pub goes_on : (debt < steps) ⊎ (measure g (framed_step g s) < measure g s)
  pub passes : (i : ℕ) → i < steps → IsOn g s (iterate (plain_step h) i t)
  pub related : AreRelated g h (framed_step g s) (iterate (plain_step h) steps t)
  -- what is known of frames that callers give is known behind it
  pub keeps : KnowsGiven g s t → KnowsGiven g (framed_step g s) (iterate (plain_step h) steps t)

-- so it is with each step of a run that isn't undefined
abbrev pub AreStepsFollowed : FramedGiven → PlainGiven → ℕ → List Word → Type 0
AreStepsFollowed g h entry args = (n : ℕ) (t : PlainState) → AreRelated g h (framed_state_at g entry args n) t
    → (framed_state_at g entry args n).outcome ≡ Outcome.Running
    → IsFine (framed_step g (framed_state_at g entry args n)).outcome
    → IsFollowed g h (framed_state_at g entry args n) t

-- ---- where more is known than that states are related

-- the step is followed, and behind it both states know more
pub record IsFollowedBy (g : FramedGiven) (h : PlainGiven) (Knows : State → PlainState → Type 0) (s : State)
    (t : PlainState) : Type 0 where
  pub followed : IsFollowed g h s t
  pub knows : Knows (framed_step g s) (iterate (plain_step h) followed.steps t)

-- so it is with each step of a run that isn't undefined, from states that know it
abbrev pub AreStepsFollowedBy : FramedGiven → PlainGiven → (Knows : State → PlainState → Type 0) → ℕ → List Word
    → Type 0
AreStepsFollowedBy g h Knows entry args = (n : ℕ) (t : PlainState) → AreRelated g h (framed_state_at g entry args n) t
    → Knows (framed_state_at g entry args n) t → (framed_state_at g entry args n).outcome ≡ Outcome.Running
    → IsFine (framed_step g (framed_state_at g entry args n)).outcome
    → IsFollowedBy g h Knows (framed_state_at g entry args n) t
