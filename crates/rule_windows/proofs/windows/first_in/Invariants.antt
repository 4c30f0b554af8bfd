use Rattle.std.proofs.Common.{◌≡◌, drop}
use Rattle.std.specs.Prelude.{Option}
use Rattle.ir_base.specs.declared.outcome.Place.{Place}
use Rattle.flow_points.specs.Reached.{IsGraphOf}
use Rattle.rule_windows.specs.First.{IsFirst}
use Rattle.rule_windows.specs.Points.{place_of}
use Rattle.rule_windows.specs.Windows.{BreaksWindow}
use Rattle.rule_windows.proofs.windows.first_in.Given as goal

abbrev pub invariant-loop-save : goal.invariant-loop-save
invariant-loop-save l =
    record {
      graph : IsGraphOf l.function l.graph;
      rest : (o : Option Place) → IsFirst (BreaksWindow l.function) (place_of l.func l.function) (drop l.save-index l.saves) o → IsFirst (BreaksWindow l.function) (place_of l.func l.function) l.saves o;
    }
