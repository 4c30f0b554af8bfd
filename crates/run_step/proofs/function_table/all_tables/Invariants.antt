use Rattle.std.proofs.Common.{◌≡◌, length}
use Rattle.run_step.proofs.Tables.{HasEach}
use Rattle.run_step.proofs.function_table.all_tables.Given as goal

abbrev pub invariant-loop-function : goal.invariant-loop-function
invariant-loop-function l = record { count : length l.all ≡ l.function-index; each : HasEach l.functions l.all }
