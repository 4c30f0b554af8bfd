-- Agreement in which steps have prices and states keep relations: the steps of the second run cost no more than those of the first. So passes
-- whose steps multiply in some places alone are put in a row without multiplying their worst cases: the price of a step in between is what
-- later passes make of it.
use Rattle.std.specs.Prelude.{◌≡◌, ℕ, zero, suc, ◌+◌, ◌-◌, ◌≤◌, ◌⊎◌}
use Rattle.run_agreement.specs.Agreements.{Follows, HaveSameCounts, NeverUndefined}
use Rattle.run_agreement.specs.Machines.{IsFine, Machine, at, iterate, state_at}

-- what n steps from a state on cost, by the price of a step from each state
abbrev pub cost_from : {S : Type 0} → (S → S) → (S → ℕ) → ℕ → S → ℕ
cost_from step price zero s = 0
cost_from step price (suc n) s = price s + cost_from step price n (step s)

-- what the first n steps of a machine's run cost
abbrev pub cost_at : {S : Type 0} → Machine S → (S → ℕ) → ℕ → ℕ
cost_at a price n = cost_from a.step price n a.start

-- no relation at all
abbrev pub Any : {S T : Type 0} → S → T → Type 0
Any s t = Unit {0}

-- two relations, over a state in between
abbrev pub Through : {S T U : Type 0} → (S → T → Type 0) → (T → U → Type 0) → S → U → Type 0
Through {T = T} R Q s u = (t : T) × R s t × Q t u

-- a state that some steps, at most k - 1, lead to from a related one or from which they lead to one: so stand states between two related ones, at most k steps apart
abbrev pub IsNear : {S T : Type 0} → Machine T → ℕ → (S → T → Type 0) → S → T → Type 0
IsNear {T = T} b k R s t = (i : ℕ) × (i ≤ k - 1) × (((u : T) × R s u × (iterate b.step i u ≡ t)) ⊎ R s (iterate b.step i t))

-- the relation holds of the second's state after m steps and a state that the first has come to in n
pub record IsMet {S T : Type 0} (V : S → T → Type 0) (a : Machine S) (b : Machine T) (n m : ℕ) : Type 0 where
  pub steps : ℕ
  pub early : steps ≤ n
  pub holds : V (state_at a steps) (state_at b m)

-- some steps of the second that cost at most what n of the first do: behind them it follows the first and R holds; up to there it isn't undefined, and V holds
pub record Reaches {S T : Type 0} (R V : S → T → Type 0) (a : Machine S) (price : S → ℕ) (b : Machine T) (cost : T → ℕ) (n : ℕ) : Type 0 where
  pub steps : ℕ
  pub few : cost_at b cost steps ≤ cost_at a price n
  pub follows : Follows (at a n) (at b steps)
  pub related : R (state_at a n) (state_at b steps)
  pub unstuck : (i : ℕ) → i ≤ steps → IsFine (at b i).outcome
  pub between : (i : ℕ) → i ≤ steps → IsMet V a b n i

-- after m steps the second isn't undefined, and some state of the first follows it, of which V holds
pub record IsReached {S T : Type 0} (V : S → T → Type 0) (a : Machine S) (b : Machine T) (m : ℕ) : Type 0 where
  pub steps : ℕ
  pub fine : IsFine (at b m).outcome
  pub follows : Follows (at b m) (at a steps)
  pub holds : V (state_at a steps) (state_at b m)

-- agreement of two runs, of which the second spends at most what the first has: R holds at corresponding steps, V at all of the second; where both have returned they made as many allocator calls
pub record AgreesBy {S T : Type 0} (R V : S → T → Type 0) (a : Machine S) (price : S → ℕ) (b : Machine T) (cost : T → ℕ) : Type 0 where
  pub forward : (n : ℕ) → IsFine (at a n).outcome → Reaches R V a price b cost n
  pub back : NeverUndefined (at a) → (m : ℕ) → IsReached V a b m
  pub counts : HaveSameCounts (at a) (at b)
