use Rattle.std.proofs.Common.{◌≡◌, take}
use Rattle.std.specs.Prelude.{◌==◌}
use Rattle.std.specs.List.{list_any}
use Rattle.run_step.specs.Tables.{IsMarked}
use Rattle.run_source_tables.proofs.table.mark_names.Given as goal

abbrev pub invariant-loop-name : goal.invariant-loop-name
invariant-loop-name l = IsMarked l.initial.table l.table (λ n. list_any (λ a. n == a) (take l.name-index l.names))
