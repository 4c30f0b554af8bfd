use Rattle.std.proofs.Common.{List, ap, ◌∙◌, ◌||◌}
use Rattle.ir_paths.specs.declared.point.Window.{Window}
use Rattle.flow_points.specs.Rows.{is_marked}
use Rattle.frame_classes.proofs.Deciding.{window_set_is}
use Rattle.frame_classes.specs.Words.{is_inside_any}
use Rattle.frame_classes.proofs.plan.window_set.Goals as goal

pub returns : goal.returns
returns c =
    window_set_is c.args.function.now c.in_ok-windows.windows c.in_ok-set.set c.add_windows.new.set c.in_ok-windows.ensures.saves c.in_ok-windows.ensures.windows c.in_ok-set.ensures
    (λ p. c.in_ok-add_windows.ensures p ∙ ap (λ (l : List Window). is_marked c.in_ok-set.set p || is_inside_any l p) c.as_slice.ensures)
