use Rattle.std.proofs.Common.{◌≡◌, take}
use Rattle.std.specs.Prelude.{◌==◌}
use Rattle.std.specs.List.{list_any}
use Rattle.run_step.specs.Tables.{IsMarked}
use Rattle.run_source_tables.proofs.table.mark_points.Given as goal

abbrev pub invariant-loop-point : goal.invariant-loop-point
invariant-loop-point l = IsMarked l.initial.table l.table (λ n. list_any (λ p. n == p.block) (take l.point-index l.points))
