use Rattle.std.proofs.Common.{◌≡◌, ◌||◌, take}
use Rattle.ir_paths.specs.declared.point.Point.{Point}
use Rattle.flow_points.specs.Rows.{is_marked}
use Rattle.frame_classes.specs.Words.{is_inside_any}
use Rattle.frame_classes.proofs.plan.add_windows.Given as goal

abbrev pub invariant-loop-window : goal.invariant-loop-window
invariant-loop-window l = (p : Point) → is_marked l.set p ≡ (is_marked l.initial.set p || is_inside_any (take l.window-index l.windows) p)
