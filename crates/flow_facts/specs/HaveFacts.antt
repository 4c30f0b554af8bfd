-- The facts of all functions of a module.
use Rattle.std.specs.Prelude.{ℕ, List, length, slice_get, Some, ◌≡◌}
use Rattle.ir_model.specs.declared.module.Function.{Function}
use Rattle.flow_points.specs.ir_paths.Facts.{AreFactsOf}
use Rattle.flow_points.specs.ir_paths.declared.point.Facts.{Facts}

-- the facts of each function, in the order of the functions
pub record HaveFacts (functions : List Function) (facts : List Facts) : Type 0 where
  pub count : length facts ≡ length functions
  pub each : (func : ℕ) (f : Function) (own : Facts) → slice_get functions func ≡ Some f → slice_get facts func ≡ Some own → AreFactsOf f own
