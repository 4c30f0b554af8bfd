use Rattle.std.proofs.Common.{◌≡◌, ◌++◌, drop}
use Rattle.frame_classes.specs.Rows.{kept_rows, pass_by, zipped_rows}
use Rattle.frame_classes.proofs.rows.passes_by.Given as goal

abbrev pub invariant-loop-row : goal.invariant-loop-row
invariant-loop-row l = l.all.items ++ zipped_rows pass_by l.at (kept_rows l.mask (drop l.row-index l.stops)) l.begins ≡ zipped_rows pass_by 0 (kept_rows l.mask l.stops) l.begins
