use Rattle.std.proofs.Common.{◌≡◌, map, take}
use Rattle.std.specs.Prelude.{All}
use Rattle.std.specs.List.{filter_map}
use Rattle.flow_points.specs.ir_paths.Facts.{IsWindow}
use Rattle.flow_points.specs.Reached.{IsGraphOf}
use Rattle.flow_facts.proofs.Saves.{with_suspend}
use Rattle.flow_facts.proofs.windows.windows_of.Given as goal

abbrev pub invariant-loop-save : goal.invariant-loop-save
invariant-loop-save l =
    record {
      saves : map (λ w. (w.save, w.suspend)) l.all ≡ filter_map (with_suspend l.function) (take l.save-index l.save-items);
      windows : All (IsWindow l.function) l.all;
      graph : IsGraphOf l.function l.graph;
    }
