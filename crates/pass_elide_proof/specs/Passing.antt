-- A run all of whose states pass a test, as far as another one isn't undefined.
use Rattle.std.specs.Prelude.{◌≡◌, ◌<◌, ◌≤◌, ℕ, Bool, true}
use Rattle.pass_proofs.specs.run_agreement.Agreements.{NeverUndefined}
use Rattle.pass_proofs.specs.run_agreement.Machines.{IsFine, IsRunning, Machine, at, state_at}
use Rattle.pass_proofs.specs.run_source.declared.state.State.{State}

-- Running states of the second pass before the one that corresponds to a state of the first which isn't undefined. All of
-- them do if the first is never undefined.
pub record PassesOn (R : State → State → Type 0) (a b : Machine State) (passes : State → Bool) : Type 0 where
  pub until : (n k : ℕ) → IsFine (at a n).outcome → R (state_at a n) (state_at b k)
      → ((i : ℕ) → i ≤ k → IsFine (at b i).outcome) → (j : ℕ) → j < k → IsRunning (at b j).outcome
      → passes (state_at b j) ≡ true
  pub always : NeverUndefined (at a) → (j : ℕ) → IsRunning (at b j).outcome → passes (state_at b j) ≡ true
