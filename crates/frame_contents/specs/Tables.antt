-- Tables that are filled from the front.
use Rattle.std.specs.Prelude.{Option, None, Some}

-- the first, or the second where there is none
abbrev pub first_some : {A : Type 0} → Option A → Option A → Option A
first_some None b = b
first_some (Some a) b = Some a
