use Rattle.std.proofs.Common.{◌≡◌, ◌++◌, drop}
use Rattle.std.specs.Prelude.{bit_or}
use Rattle.frame_classes.specs.Rows.{zipped_rows}
use Rattle.frame_classes.proofs.rows.joined.Given as goal

abbrev pub invariant-loop-row : goal.invariant-loop-row
invariant-loop-row l = l.all ++ zipped_rows bit_or l.at (drop l.row-index l.rows) l.others ≡ zipped_rows bit_or 0 l.rows l.others
