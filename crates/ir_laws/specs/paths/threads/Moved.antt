-- The windows of a function, and those of the function whose edges have blocks.
use Rattle.std.specs.Prelude.{Bool, true, IsTrue, ◌≡◌, ◌⊎◌, ◌||◌}
use Rattle.run_laws.specs.ir_model.declared.module.Function.{Function}
use Rattle.run_laws.specs.ir_paths.Paths.{has_point, nexts, same_point}
use Rattle.run_laws.specs.ir_paths.declared.point.Point.{Point}
use Rattle.run_laws.specs.ir_paths.declared.point.Window.{Window}
use Rattle.ir_laws.specs.paths.threads.Threads.{IsBetween}

-- where a branch to a point goes then: to where the point is moved, or to the point between
abbrev pub GoesTo : (g : Function) (move : Point → Point) (q y : Point) → Type 0
GoesTo g move q y = (y ≡ move q) ⊎ IsBetween g move (move q) y

-- a point is inside a window or is its suspend
abbrev pub is_ahead : Window → Point → Bool
is_ahead w p = has_point w.inside p || same_point p w.suspend

-- a window is moved; a point between on an edge from inside is inside where the edge stays inside or leads to the suspend, and from a point between inside no edge leads outside
pub record IsMoved (g : Function) (move : Point → Point) (w v : Window) : Type 0 where
  pub save : v.save ≡ move w.save
  pub suspend : v.suspend ≡ move w.suspend
  pub inside : (p : Point) → has_point v.inside (move p) ≡ has_point w.inside p
  pub entered : (p q y : Point) → IsTrue (has_point (nexts g (move p)) y) → IsBetween g move (move q) y → has_point w.inside p ≡ true → has_point v.inside y ≡ is_ahead w q
  pub stays : (q y : Point) → IsBetween g move (move q) y → has_point v.inside y ≡ true → is_ahead w q ≡ true
