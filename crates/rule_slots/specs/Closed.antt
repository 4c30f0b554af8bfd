-- Where no marker of a coroutine slot stands: in windows and after the end.
use Rattle.std.specs.Prelude.{Bool, List, [], IsTrue, Some, ◌≡◌, ◌↔◌, ◌⊎◌, ◌∷◌}
use Rattle.ir_model.specs.declared.module.Function.{Function}
use Rattle.ir_paths.specs.Windows.{IsInWindow, saves_of, suspend_of}
use Rattle.ir_paths.specs.declared.point.Point.{Point}
use Rattle.flow_points.specs.Rows.{is_marked}
use Rattle.rule_windows.specs.Sets.{IsAfterEnd}

-- the point is in the window of one of these saves with its suspend
abbrev pub IsInOneOf : Function → List (Point × Point) → Point → Type 0
IsInOneOf f [] p = ⊥
IsInOneOf f (pair ∷ pairs) p = IsInWindow f pair.0 pair.1 p ⊎ IsInOneOf f pairs p

abbrev pub IsInSomeWindow : Function → Point → Type 0
IsInSomeWindow f p = IsInOneOf f (saves_of f) p

abbrev pub IsClosed : Function → Point → Type 0
IsClosed f p = IsAfterEnd f p ⊎ IsInSomeWindow f p

-- ---- the same, one save after another

-- the point is in the window of the save with its suspend
pub record IsInWindowOf (f : Function) (save p : Point) : Type 0 where
  pub suspend : Point
  pub is_suspend : suspend_of f save ≡ Some suspend
  pub is_inside : IsInWindow f save suspend p

-- the points of the window are in the set as well
pub record HasWindow (f : Function) (save : Point) (old new : List (List Bool)) : Type 0 where
  pub each : (p : Point) → IsTrue (is_marked new p) ↔ (IsTrue (is_marked old p) ⊎ IsInWindowOf f save p)

abbrev pub IsInWindows : Function → List Point → Point → Type 0
IsInWindows f [] p = ⊥
IsInWindows f (save ∷ saves) p = IsInWindowOf f save p ⊎ IsInWindows f saves p

-- the points of all windows of these saves are in the set as well
pub record HaveWindows (f : Function) (saves : List Point) (old new : List (List Bool)) : Type 0 where
  pub each : (p : Point) → IsTrue (is_marked new p) ↔ (IsTrue (is_marked old p) ⊎ IsInWindows f saves p)
