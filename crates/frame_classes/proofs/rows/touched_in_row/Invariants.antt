use Rattle.std.proofs.Common.{◌≡◌, drop}
use Rattle.std.specs.Prelude.{bit_and}
use Rattle.frame_classes.specs.Rows.{row_word, touching, zipped}
use Rattle.frame_classes.proofs.rows.touched_in_row.Given as goal

abbrev pub invariant-loop-word : goal.invariant-loop-word
invariant-loop-word l = row_word l.all (zipped bit_and l.at (zipped (touching l.mask) l.at (drop l.word-index l.row) l.starts) l.other) ≡ row_word l.first (zipped bit_and 0 (zipped (touching l.mask) 0 l.row l.starts) l.other)
