-- What a plain machine is.
use Rattle.std.specs.Prelude.{ℕ, Bool, true, false, List, ◌≡◌, ◌≤◌}
use Rattle.ir_base.specs.declared.outcome.Outcome.{Outcome}
use Rattle.ir_base.specs.declared.outcome.Word.{Word}
use Rattle.run_step.specs.Runs.{iterate}
use Rattle.run_plain.specs.Plain.{PlainGiven, plain_state_at, plain_step}
use Rattle.run_plain.specs.PlainEffects.{given_of}
use Rattle.run_plain.specs.declared.machine.PlainMachine.{PlainMachine}
use Rattle.run_plain.specs.declared.progress.Progress.{Progress}
use Rattle.run_plain.specs.declared.state.PlainState.{PlainState}

-- a machine: what it is given, and its state
pub record PlainRun : Type 0 where
  pub given : PlainGiven
  pub state : PlainState

abbrev pub run_of : PlainMachine → PlainRun
run_of m = record { given = given_of m.program; state = m.state }

-- the machine of a run, after k steps
abbrev pub machine_at : PlainGiven → ℕ → List Word → ℕ → PlainRun
machine_at g entry args k = record { given = g; state = plain_state_at g entry args k }

-- so many steps more
abbrev pub ran : ℕ → PlainRun → PlainRun
ran n r = record r { state = iterate (plain_step r.given) n r.state }

abbrev pub progress_of : Outcome → Progress
progress_of Outcome.Running = Progress.Going
progress_of (Outcome.Returned v) = Progress.Returned v
progress_of (Outcome.Undefined cause place) = Progress.Undefined cause place

abbrev pub is_over : Outcome → Bool
is_over Outcome.Running = false
is_over (Outcome.Returned v) = true
is_over (Outcome.Undefined cause place) = true

-- some of n steps
pub record RanSome (g : PlainGiven) (n : ℕ) (old new : PlainState) : Type 0 where
  pub steps : ℕ
  pub within : steps ≤ n
  pub state : new ≡ iterate (plain_step g) steps old
