-- What is noted beside locals, the first beside each.
use Rattle.std.specs.Prelude.{ℕ, List, [], length, Some, None, Option, slice_get, ◌∷◌}
use Rattle.ir_locals.specs.declared.table.LocalTable.{LocalTable}

abbrev pub or_first : {T : Type 0} → Option T → Option T → Option T
or_first (Some a) other = Some a
or_first None other = other

-- the first that one of the elements notes beside a local
abbrev pub first_in : {A T : Type 0} → (A → ℕ → Option T) → List A → ℕ → Option T
first_in one [] n = None
first_in one (x ∷ xs) n = or_first (one x n) (first_in one xs n)

abbrev pub joined : {T : Type 0} → Option (Option T) → Option T
joined None = None
joined (Some a) = a

-- for how many names the table has room
abbrev pub room : {T : Type 0} → LocalTable T → ℕ
room t = length t.slots

-- what the table has beside a local
abbrev pub noted : {T : Type 0} → LocalTable T → ℕ → Option T
noted t n = joined (slice_get t.slots n)
