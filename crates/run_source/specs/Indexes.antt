-- The tables by which an instance is found.
use Rattle.std.specs.Prelude.{ℕ, suc, Bool, List, [], None, Some, Option, length, take, slice_get, unwrap_or, if◌then◌else◌, ◌≡◌, ◌==◌, ◌∷◌}
use Rattle.run_source.specs.declared.state.Instance.{Instance}

abbrev pub or_else : Option ℕ → Option ℕ → Option ℕ
or_else (Some a) b = Some a
or_else None b = b

-- the last instance that passes a test, numbered from a number on
abbrev pub last_from : (Instance → Bool) → ℕ → List Instance → Option ℕ
last_from test i [] = None
last_from test i (x ∷ instances) = or_else (last_from test (suc i) instances) (if test x then Some i else None)

-- the instance began in a block
abbrev pub is_in : ℕ → Instance → Bool
is_in block x = x.block == block

-- the last of the first n instances that began in a block
abbrev pub last_of : ℕ → ℕ → List Instance → Option ℕ
last_of block n instances = last_from (is_in block) 0 (take n instances)

abbrev pub number_at : List (Option ℕ) → ℕ → Option ℕ
number_at table i = unwrap_or (slice_get table i) None

-- a table has for each block the last instance that began in it, and another for each instance the one that began before it in
-- the same block
pub record AreIndexed (instances : List Instance) (by_block by_number : List (Option ℕ)) : Type 0 where
  pub last : (block : ℕ) → number_at by_block block ≡ last_of block (length instances) instances
  pub count : length by_number ≡ length instances
  pub earlier : (i : ℕ) (x : Instance) → slice_get instances i ≡ Some x → number_at by_number i ≡ last_of x.block i instances
