-- What a framed machine is.
use Rattle.std.specs.Prelude.{ℕ, List, ◌≡◌, ◌≤◌}
use Rattle.ir_base.specs.declared.outcome.Word.{Word}
use Rattle.run_source.specs.declared.state.State.{State}
use Rattle.run_framed.specs.Framed.{FramedGiven, framed_state_at, framed_step}
use Rattle.run_framed.specs.FramedEffects.{framed_of}
use Rattle.run_framed.specs.declared.machine.FramedMachine.{FramedMachine}
use Rattle.run_step.specs.Runs.{Seen, iterate, seen_of}

-- a machine: what it is given, and its state
pub record FramedRun : Type 0 where
  pub given : FramedGiven
  pub state : State

abbrev pub run_of : FramedMachine → FramedRun
run_of m = record { given = framed_of m.program; state = m.state }

-- the machine of a run, after k steps
abbrev pub machine_at : FramedGiven → ℕ → List Word → ℕ → FramedRun
machine_at g entry args k = record { given = g; state = framed_state_at g entry args k }

-- so many steps more
abbrev pub ran : ℕ → FramedRun → FramedRun
ran n r = record r { state = iterate (framed_step r.given) n r.state }

-- what is seen of a run after n steps; FramedAt is this of framed_given
abbrev pub FramedSeenOf : FramedGiven → ℕ → List Word → ℕ → Seen
FramedSeenOf g entry args n = let s = framed_state_at g entry args n in seen_of g.given.code s.world s.outcome

-- some of n steps
pub record RanSome (g : FramedGiven) (n : ℕ) (old new : State) : Type 0 where
  pub steps : ℕ
  pub within : steps ≤ n
  pub state : new ≡ iterate (framed_step g) steps old
