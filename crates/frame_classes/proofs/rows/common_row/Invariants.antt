use Rattle.std.proofs.Common.{◌≡◌, ◌++◌, drop}
use Rattle.std.specs.Prelude.{bit_and}
use Rattle.frame_classes.specs.Rows.{zipped}
use Rattle.frame_classes.proofs.rows.common_row.Given as goal

abbrev pub invariant-loop-word : goal.invariant-loop-word
invariant-loop-word l = l.all.items ++ zipped bit_and l.at (drop l.word-index l.row) l.other ≡ zipped bit_and 0 l.row l.other
