use Rattle.std.proofs.Common.{◌≡◌, drop}
use Rattle.frame_classes.specs.Rows.{rows_word}
use Rattle.frame_classes.proofs.rows.rows_word.Given as goal

abbrev pub invariant-loop-row : goal.invariant-loop-row
invariant-loop-row l = rows_word l.all (drop l.row-index l.rows) ≡ rows_word l.first l.rows
