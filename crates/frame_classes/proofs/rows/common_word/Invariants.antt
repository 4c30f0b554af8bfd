use Rattle.std.proofs.Common.{◌≡◌, drop}
use Rattle.std.specs.Prelude.{bit_and}
use Rattle.frame_classes.specs.Rows.{rows_word, zipped_rows}
use Rattle.frame_classes.proofs.rows.common_word.Given as goal

abbrev pub invariant-loop-row : goal.invariant-loop-row
invariant-loop-row l = rows_word l.all (zipped_rows bit_and l.at (drop l.row-index l.rows) l.others) ≡ rows_word 0 (zipped_rows bit_and 0 l.rows l.others)
