use Rattle.std.proofs.Common.{◌≡◌, drop}
use Rattle.frame_classes.specs.Rows.{row_word}
use Rattle.frame_classes.proofs.rows.row_word.Given as goal

abbrev pub invariant-loop-word : goal.invariant-loop-word
invariant-loop-word l = row_word l.all (drop l.word-index l.row) ≡ row_word l.first l.row
