-- Machines that make one step after another, and what is seen of their runs.
use Rattle.std.specs.Prelude.{◌≡◌, ℕ, zero, suc, List}
use Rattle.ir_model.specs.ir_base.declared.name.Name.{Name}
use Rattle.ir_model.specs.ir_base.declared.outcome.Outcome.{Outcome}
use Rattle.ir_model.specs.ir_base.declared.outcome.Word.{Word}

-- an observed call, by the function's name
pub record SeenEvent : Type 0 where
  pub name : Name
  pub args : List Word

-- the events in order, the outcome, and the number of allocator calls that were executed
pub record Seen : Type 0 where
  pub events : List SeenEvent
  pub outcome : Outcome
  pub allocs : ℕ

-- a run that isn't undefined
abbrev pub IsFine : Outcome → Type 0
IsFine (Outcome.Returned v) = Unit {0}
IsFine Outcome.Running = Unit {0}
IsFine (Outcome.Undefined cause place) = ⊥

abbrev pub IsRunning : Outcome → Type 0
IsRunning (Outcome.Returned v) = ⊥
IsRunning Outcome.Running = Unit {0}
IsRunning (Outcome.Undefined cause place) = ⊥

abbrev pub IsReturned : Outcome → Type 0
IsReturned (Outcome.Returned v) = Unit {0}
IsReturned Outcome.Running = ⊥
IsReturned (Outcome.Undefined cause place) = ⊥

-- n steps
abbrev pub iterate : {S : Type 0} → (S → S) → ℕ → S → S
iterate step zero s = s
iterate step (suc n) s = iterate step n (step s)

-- a start, a step, and what is seen of a state
pub record Machine (S : Type 0) : Type 0 where
  pub start : S
  pub step : S → S
  pub seen : S → Seen

-- the state after n steps
abbrev pub state_at : {S : Type 0} → Machine S → ℕ → S
state_at a n = iterate a.step n a.start

-- what is seen after n steps
abbrev pub at : {S : Type 0} → Machine S → ℕ → Seen
at a n = a.seen (iterate a.step n a.start)

-- a state that is over stays as it is
abbrev pub Stays : {S : Type 0} → Machine S → Type 0
Stays {S} a = (s : S) → (IsRunning (a.seen s).outcome → ⊥) → a.step s ≡ s
