-- The facts of all functions of a framed module.
use Rattle.std.specs.Prelude.{ℕ, List, map, length, slice_get, All, Some, ℤ, ◌≡◌}
use Rattle.frame_layout.specs.declared.layout.Layout.{Layout}
use Rattle.run_framed.specs.Framed.{FramedGiven, frame_of_layout}
use Rattle.ir_model.specs.declared.module.Function.{Function}
use Rattle.ir_model.specs.declared.module.Module.{Module}
use Rattle.ir_paths.specs.Facts.{IsWindow}
use Rattle.ir_paths.specs.Slots.{allocas_of}
use Rattle.ir_paths.specs.Windows.{saves_of}
use Rattle.ir_paths.specs.declared.point.Facts.{Facts}

-- what the facts of a function must be: a window for each save, and all its allocas
pub record AreFramedFacts (f : Function) (facts : Facts) : Type 0 where
  pub saves : map (λ w. (w.save, w.suspend)) facts.windows ≡ saves_of f
  pub windows : All (IsWindow f) facts.windows
  pub ramp_slots : facts.ramp_slots ≡ allocas_of f

-- the facts of each function, in the order of the functions
pub record HaveFramedFacts (functions : List Function) (facts : List Facts) : Type 0 where
  pub count : length facts ≡ length functions
  pub each : (func : ℕ) (f : Function) (own : Facts) → slice_get functions func ≡ Some f → slice_get facts func ≡ Some own → AreFramedFacts f own

-- what a run is given, with facts
abbrev pub given_with : Module → List Layout → List ℤ → List Facts → FramedGiven
given_with m layouts answers facts = record { given = record { code = m; sizes = map frame_of_layout layouts; answers = answers; facts = facts }; layouts = layouts }
