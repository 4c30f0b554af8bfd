use Rattle.std.proofs.Common.{◌≡◌, length}
use Rattle.run_source_tables.proofs.Looked.{HasEach}
use Rattle.run_source_tables.proofs.table.all_tables.Given as goal

abbrev pub invariant-loop-func : goal.invariant-loop-func
invariant-loop-func l = record { count : length l.all ≡ l.func; each : HasEach l.functions l.facts l.all }
