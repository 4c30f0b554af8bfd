use Rattle.std.proofs.Common.{◌≡◌, map, take}
use Rattle.frame_classes.specs.Rows.{row_word}
use Rattle.frame_classes.proofs.rows.block_words.Given as goal

abbrev pub invariant-loop-row : goal.invariant-loop-row
invariant-loop-row l = l.all ≡ map (row_word 0) (take l.row-index l.rows)
