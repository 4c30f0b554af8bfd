-- What the run of a source and that of what it was lowered to come to, side by side.
use Rattle.std.specs.Prelude.{◌≡◌, ◌⊎◌, ◌<◌, ◌≤◌, ℕ, Bool, true, false, None, Option, Some, length}
use Rattle.ir_base.specs.declared.outcome.Outcome.{Outcome}
use Rattle.run_agreement.specs.Agreements.{Follows}
use Rattle.run_agreement.specs.Machines.{IsFine, IsReturned, IsRunning, Seen, iterate}
use Rattle.run_compare.specs.declared.reports.Counts.{Counts}
use Rattle.run_compare.specs.declared.reports.Report.{Report}
use Rattle.run_plain.specs.Machines.{PlainRun}
use Rattle.run_plain.specs.Plain.{plain_step}
use Rattle.run_plain.specs.declared.state.PlainState.{PlainState}
use Rattle.run_source.specs.Machines.{SourceRun}
use Rattle.run_source.specs.Source.{step}
use Rattle.run_step.specs.Runs.{seen_of}

-- ---- what is seen of the two runs after n steps more

abbrev pub source_seen : SourceRun → ℕ → Seen
source_seen r n = let s = iterate (step r.given) n r.state in seen_of r.given.code s.world s.outcome

abbrev pub plain_after : PlainRun → ℕ → PlainState
plain_after r n = iterate (plain_step r.given) n r.state

abbrev pub plain_seen : PlainRun → ℕ → Seen
plain_seen r n = seen_of r.given.code (plain_after r n).world (plain_after r n).outcome

-- ---- where they are compared

-- after so many steps, at most the bound, the run is over, or they are the bound; before, it goes on
pub record IsStop (a : ℕ → Seen) (bound n : ℕ) : Type 0 where
  pub within : n ≤ bound
  pub before : (i : ℕ) → i < n → IsRunning (a i).outcome
  pub last : (n ≡ bound) ⊎ (IsRunning (a n).outcome → ⊥)

-- the least number of which something holds
pub record IsLeast (P : ℕ → Type 0) (n : ℕ) : Type 0 where
  pub holds : P n
  pub before : (i : ℕ) → i < n → P i → ⊥

-- as far as the first run isn't undefined the second one follows it (the prefix form of agreement)
abbrev pub IsFollowed : (a b : ℕ → Seen) → Type 0
IsFollowed a b = (n : ℕ) → IsFine (a n).outcome → (m : ℕ) × Follows (a n) (b m)

-- so it is of these two runs
pub record AreFollowed (a : SourceRun) (b : PlainRun) : Type 0 where
  pub each : IsFollowed (source_seen a) (plain_seen b)

abbrev pub is_running : Outcome → Bool
is_running (Outcome.Returned v) = false
is_running Outcome.Running = true
is_running (Outcome.Undefined cause place) = false

abbrev pub is_undefined : Outcome → Bool
is_undefined (Outcome.Returned v) = false
is_undefined Outcome.Running = false
is_undefined (Outcome.Undefined cause place) = true

abbrev pub is_returned : Outcome → Bool
is_returned (Outcome.Returned v) = true
is_returned Outcome.Running = false
is_returned (Outcome.Undefined cause place) = false

-- so many events are seen, and where it is asked a return
pub record HasCome (events : ℕ) (returned : Bool) (w : Seen) : Type 0 where
  pub count : length w.events ≡ events
  pub over : returned ≡ true → IsReturned w.outcome

-- ---- the report

-- of the source's run after n steps, and of the least step of the other at which that has the source's events and return
pub record AreCounts (a : ℕ → Seen) (b : PlainRun) (n : ℕ) (c : Counts) : Type 0 where
  pub events : c.events ≡ length (a n).events
  pub source_steps : c.source_steps ≡ n
  pub lowered_steps : IsLeast (λ m. Follows (a n) (plain_seen b m)) c.lowered_steps
  pub source_allocs : c.source_allocs ≡ (a n).allocs
  pub lowered_allocs : c.lowered_allocs ≡ (plain_seen b c.lowered_steps).allocs
  pub elided : c.elided ≡ (plain_after b c.lowered_steps).elided

-- The same of what is seen of the source there, but that the other run has come as far: so many events are seen, and a
-- return where it is asked.
pub record AreNumbers (u : Seen) (steps : ℕ) (returned : Bool) (b : PlainRun) (c : Counts) : Type 0 where
  pub events : c.events ≡ length u.events
  pub source_steps : c.source_steps ≡ steps
  pub lowered_steps : IsLeast (λ m. HasCome (length u.events) returned (plain_seen b m)) c.lowered_steps
  pub source_allocs : c.source_allocs ≡ u.allocs
  pub lowered_allocs : c.lowered_allocs ≡ (plain_seen b c.lowered_steps).allocs
  pub elided : c.elided ≡ (plain_after b c.lowered_steps).elided

-- there are none where the source is undefined
abbrev pub HasCounts : (a : ℕ → Seen) → PlainRun → ℕ → Outcome → Option Counts → Type 0
HasCounts a b n (Outcome.Undefined cause place) c = c ≡ None
HasCounts a b n outcome None = ⊥
HasCounts a b n outcome (Some c) = AreCounts a b n c

pub record IsReport (a : ℕ → Seen) (b : PlainRun) (bound : ℕ) (r : Report) : Type 0 where
  pub steps : ℕ
  pub stop : IsStop a bound steps
  pub outcome : r.outcome ≡ (a steps).outcome
  pub counts : HasCounts a b steps r.outcome r.counts
