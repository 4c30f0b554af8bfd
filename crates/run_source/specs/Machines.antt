-- What a source machine is.
use Rattle.std.specs.Prelude.{ℕ, Bool, true, false, List, ◌≡◌, ◌≤◌}
use Rattle.ir_base.specs.declared.outcome.Outcome.{Outcome}
use Rattle.ir_base.specs.declared.outcome.Word.{Word}
use Rattle.run_source_tables.specs.run_step.Runs.{iterate}
use Rattle.run_source.specs.Source.{state_at, step}
use Rattle.run_source_tables.specs.Given.{Given}
use Rattle.run_source.specs.SourceEffects.{given_of}
use Rattle.run_source.specs.declared.machine.SourceMachine.{SourceMachine}
use Rattle.run_source.specs.declared.progress.Progress.{Progress}
use Rattle.run_source.specs.declared.state.State.{State}

-- a machine: what it is given, and its state
pub record SourceRun : Type 0 where
  pub given : Given
  pub state : State

abbrev pub run_of : SourceMachine → SourceRun
run_of m = record { given = given_of m.given; state = m.state }

-- the machine of a run, after k steps
abbrev pub machine_at : Given → ℕ → List Word → ℕ → SourceRun
machine_at g entry args k = record { given = g; state = state_at g entry args k }

-- so many steps more
abbrev pub ran : ℕ → SourceRun → SourceRun
ran n r = record r { state = iterate (step r.given) n r.state }

abbrev pub progress_of : Outcome → Progress
progress_of Outcome.Running = Progress.Going
progress_of (Outcome.Returned v) = Progress.Returned v
progress_of (Outcome.Undefined cause place) = Progress.Undefined cause place

abbrev pub is_over : Outcome → Bool
is_over Outcome.Running = false
is_over (Outcome.Returned v) = true
is_over (Outcome.Undefined cause place) = true

-- some of n steps
pub record RanSome (g : Given) (n : ℕ) (old new : State) : Type 0 where
  pub steps : ℕ
  pub within : steps ≤ n
  pub state : new ≡ iterate (step g) steps old
