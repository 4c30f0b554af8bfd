-- Suspends by the tokens that they take.
use Rattle.std.specs.Prelude.{ℕ, Bool, false, List, Some, None, Option, slice_get, ◌≡◌, ◌==◌}
use Rattle.std.specs.HashMap.{HashMap, get}
use Rattle.std.specs.declared.hash.BuildHasherDefault.{BuildHasherDefault}
use Rattle.std.specs.declared.hash.FoldHasher.{FoldHasher}
use Rattle.ir_model.specs.declared.module.Function.{Function}
use Rattle.flow_points.specs.ir_paths.Windows.{is_suspend_of, points_where}
use Rattle.flow_points.specs.ir_paths.declared.point.Point.{Point}

abbrev pub is_token : ℕ → Option ℕ → Bool
is_token t None = false
is_token t (Some u) = t == u

-- the first of all
abbrev pub or_head : Option Point → List Point → Option Point
or_head (Some p) ps = Some p
or_head None ps = slice_get ps 0

-- the table has the first suspend of each token
pub record FindsSuspends (f : Function) (tokens : HashMap ℕ Point (BuildHasherDefault FoldHasher)) : Type 0 where
  pub first : (t : ℕ) → get ◌==◌ tokens t ≡ slice_get (points_where (is_suspend_of (Some t)) f) 0
