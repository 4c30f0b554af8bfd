-- Counts of faults, and when a fault may be answered.
use Rattle.std.specs.Prelude.{◌≡◌, ℕ, ◌+◌, ◌-◌, ◌^◌, ◌≤◌, min, OnErr, Result, IsOkAnd}

-- a count that was raised; at its type's end it stands still
abbrev pub risen : ℕ → ℕ
risen n = min (n + 1) (2 ^ 64 - 1)

-- the count rose, where one that already stood at its type's end counts as risen
abbrev pub Rose : ℕ → ℕ → Type 0
Rose before now = risen before ≤ now

-- a count never falls, and a call fails only where it rose
pub record HasCause {T E : Type 0} (before now : ℕ) (result : Result T E) : Type 0 where
  pub later : before ≤ now
  pub failed : OnErr result (Rose before now)

-- a call that can't fail: it succeeds, no fault is counted, and this stays so
pub record Succeeds {T E : Type 0} (before now : ℕ) (result : Result T E) (after : T → Type 0) : Type 0 where
  pub ok : IsOkAnd result after
  pub same : now ≡ before
