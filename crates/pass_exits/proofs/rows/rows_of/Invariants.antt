use Rattle.std.proofs.Common.{◌≡◌, drop}
use Rattle.pass_exits.specs.Rows.{rows_by, rows_of}
use Rattle.pass_exits.proofs.rows.rows_of.Given as goal

abbrev pub invariant-loop-number : goal.invariant-loop-number
invariant-loop-number l = rows_by l.function l.number l.rows.items (drop l.number l.windows) ≡ rows_of l.function l.windows
