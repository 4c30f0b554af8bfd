-- What the machines look up of a function's paths.
use Rattle.std.specs.Prelude.{ℕ, List, map, IsTrue, All, filter, ◌≡◌, ◌↔◌}
use Rattle.ir_model.specs.declared.module.Function.{Function}
use Rattle.ir_model.specs.declared.module.Module.{Module}
use Rattle.ir_paths.specs.Paths.{has_point}
use Rattle.ir_paths.specs.Slots.{IsRampSlot, allocas_of, has_name, is_ramp_slot}
use Rattle.ir_paths.specs.Windows.{IsInWindow, saves_of, windows_of}
use Rattle.ir_paths.specs.declared.point.Facts.{Facts}
use Rattle.ir_paths.specs.declared.point.Point.{Point}
use Rattle.ir_paths.specs.declared.point.Window.{Window}

-- the points inside are those that the paths say
pub record IsWindow (f : Function) (w : Window) : Type 0 where
  pub inside : (p : Point) → IsTrue (has_point w.inside p) ↔ IsInWindow f w.save w.suspend p

-- what the facts of a function must be: a window for each save, and the ramp slots among its allocas
pub record AreFactsOf (f : Function) (facts : Facts) : Type 0 where
  pub saves : map (λ w. (w.save, w.suspend)) facts.windows ≡ saves_of f
  pub windows : All (IsWindow f) facts.windows
  pub ramp_slots : (a : ℕ) → IsTrue (has_name facts.ramp_slots a) ↔ (IsTrue (has_name (allocas_of f) a) × IsRampSlot f a)

-- the facts, found by searches
abbrev pub facts_of : Function → Facts
facts_of f = record { windows = windows_of f; ramp_slots = filter (is_ramp_slot f) (allocas_of f) }

abbrev pub all_facts : Module → List Facts
all_facts m = map facts_of m.functions
