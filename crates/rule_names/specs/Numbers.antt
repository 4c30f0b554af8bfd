-- Sets of a function's locals.
use Rattle.std.specs.Prelude.{ℕ, Bool, true, false, Option, Some, None, slice_get}
use Rattle.rule_names.specs.declared.numbers.LocalSet.{LocalSet}

abbrev pub or_false : Option Bool → Bool
or_false None = false
or_false (Some b) = b

-- the local is in the set
abbrev pub is_marked : LocalSet → ℕ → Bool
is_marked s n = or_false (slice_get s.marks n)
