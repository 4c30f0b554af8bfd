-- The suspends of a function, by the tokens that they take.
use Rattle.std.specs.Prelude.{ℕ, List, Option, Some, None, slice_get, slice_set, ◌≡◌}
use Rattle.ir_model.specs.declared.module.Function.{Function}
use Rattle.ir_paths.specs.Windows.{is_suspend_of, points_where}
use Rattle.ir_paths.specs.declared.point.Point.{Point}

-- a table has for each name the first of its points
abbrev pub HasFirst : List (Option Point) → (ℕ → List Point) → Type 0
HasFirst table points = (n : ℕ) (o : Option Point) → slice_get table n ≡ Some o → o ≡ slice_get (points n) 0

-- a table has for each name the first suspend that takes it
abbrev pub HasSuspends : Function → List (Option Point) → Type 0
HasSuspends f table = HasFirst table (λ n. points_where (is_suspend_of (Some n)) f)

-- a point put down for a name, if there is one
abbrev pub noted : List (Option Point) → Option ℕ → Point → List (Option Point)
noted table None p = table
noted table (Some n) p = slice_set table n (Some p)
