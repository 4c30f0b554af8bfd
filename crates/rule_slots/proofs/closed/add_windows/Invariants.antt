use Rattle.std.proofs.Common.{drop}
use Rattle.std.specs.Prelude.{IsTrue, ◌⊎◌, ◌↔◌}
use Rattle.ir_paths.specs.declared.point.Point.{Point}
use Rattle.flow_points.specs.Reached.{IsGraphOf}
use Rattle.flow_points.specs.Rows.{is_marked}
use Rattle.rule_slots.specs.Closed.{IsInWindows}
use Rattle.rule_slots.proofs.closed.add_windows.Given as goal

abbrev pub invariant-loop-save : goal.invariant-loop-save
invariant-loop-save l =
    record {
      graph : IsGraphOf l.function l.graph;
      rest : (p : Point) → (IsTrue (is_marked l.set p) ⊎ IsInWindows l.function (drop l.save-index l.saves) p) ↔ (IsTrue (is_marked l.initial.set p) ⊎ IsInWindows l.function l.saves p);
    }
