-- A lowered run agrees with a source run. A run is given as what is seen after n steps.
use Rattle.std.specs.Prelude.{◌≡◌, ℕ, ◌+◌, ◌*◌, ◌≤◌, Option}
use Rattle.run_agreement.specs.Machines.{Seen, IsFine, IsReturned}
use Rattle.ir_model.specs.ir_base.declared.outcome.Outcome.{Outcome}
use Rattle.ir_model.specs.ir_base.declared.outcome.Word.{Word}

-- the second has the same events as the first, and has returned what the first has
pub record Follows (u w : Seen) : Type 0 where
  pub events : w.events ≡ u.events
  pub returns : (v : Option Word) → u.outcome ≡ Outcome.Returned v → w.outcome ≡ Outcome.Returned v

-- no step is undefined
abbrev pub NeverUndefined : (ℕ → Seen) → Type 0
NeverUndefined a = (n : ℕ) → IsFine (a n).outcome

-- after n steps of the first the second follows it within a bound
pub record FollowsWithin (bound : ℕ) (u : Seen) (b : ℕ → Seen) : Type 0 where
  pub steps : ℕ
  pub few : steps ≤ bound
  pub follows : Follows u (b steps)

-- the same, and no step of the second up to there is undefined
pub record FollowsUnstuck (bound : ℕ) (u : Seen) (b : ℕ → Seen) : Type 0 where
  pub steps : ℕ
  pub few : steps ≤ bound
  pub follows : Follows u (b steps)
  pub unstuck : (i : ℕ) → i ≤ steps → IsFine (b i).outcome

-- some step of the first follows what is seen of the second
pub record IsFollowedBy (w : Seen) (a : ℕ → Seen) : Type 0 where
  pub steps : ℕ
  pub follows : Follows w (a steps)

-- agreement of a lowered run with a source run, which takes at most k * n + l steps for n: where the source is never undefined, each of its events and its return are carried down, the lowered run is never stuck, and nothing in it is invented; and as far as the source isn't undefined, whatever comes later, the lowered run has its events and its return before it is stuck
pub record Agrees (k l : ℕ) (a b : ℕ → Seen) : Type 0 where
  pub carried_down : NeverUndefined a → (n : ℕ) → FollowsWithin (k * n + l) (a n) b
  pub never_stuck : NeverUndefined a → NeverUndefined b
  pub nothing_invented : NeverUndefined a → (m : ℕ) → IsFollowedBy (b m) a
  pub prefix : (n : ℕ) → IsFine (a n).outcome → FollowsUnstuck (k * n + l) (a n) b

-- where both have returned they made as many allocator calls
abbrev pub HaveSameCounts : (ℕ → Seen) → (ℕ → Seen) → Type 0
HaveSameCounts a b = (n m : ℕ) → IsReturned (a n).outcome → IsReturned (b m).outcome → (a n).allocs ≡ (b m).allocs

-- agreement within k steps for one, with the same counts
pub record AgreesWithin (k : ℕ) (a b : ℕ → Seen) : Type 0 where
  pub runs : Agrees k 0 a b
  pub counts : HaveSameCounts a b
