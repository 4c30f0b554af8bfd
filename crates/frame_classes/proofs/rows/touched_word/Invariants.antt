use Rattle.std.proofs.Common.{◌≡◌, drop}
use Rattle.std.specs.Prelude.{bit_and}
use Rattle.frame_classes.specs.Rows.{rows_word, touching, zipped_rows}
use Rattle.frame_classes.proofs.rows.touched_word.Given as goal

abbrev pub invariant-loop-row : goal.invariant-loop-row
invariant-loop-row l = rows_word l.all (zipped_rows bit_and l.at (zipped_rows (touching l.mask) l.at (drop l.row-index l.rows) l.starts) l.others) ≡ rows_word 0 (zipped_rows bit_and 0 (zipped_rows (touching l.mask) 0 l.rows l.starts) l.others)
