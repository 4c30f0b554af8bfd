use Rattle.std.proofs.Common.{◌≡◌, take}
use Rattle.std.specs.Prelude.{◌==◌}
use Rattle.std.specs.List.{list_any}
use Rattle.run_step.specs.Tables.{IsMarked}
use Rattle.run_source_tables.proofs.table.mark_windows.Given as goal

abbrev pub invariant-loop-window : goal.invariant-loop-window
invariant-loop-window l = IsMarked l.initial.table l.table (λ n. list_any (λ w. list_any (λ p. n == p.block) w.inside) (take l.window-index l.windows))
