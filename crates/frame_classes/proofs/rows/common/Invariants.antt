use Rattle.std.proofs.Common.{◌≡◌, ◌++◌, drop}
use Rattle.std.specs.Prelude.{bit_and}
use Rattle.frame_classes.specs.Rows.{zipped_rows}
use Rattle.frame_classes.proofs.rows.common.Given as goal

abbrev pub invariant-loop-row : goal.invariant-loop-row
invariant-loop-row l = l.all ++ zipped_rows bit_and l.at (drop l.row-index l.rows) l.others ≡ zipped_rows bit_and 0 l.rows l.others
