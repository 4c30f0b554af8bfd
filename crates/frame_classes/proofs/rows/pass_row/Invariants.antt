use Rattle.std.proofs.Common.{◌≡◌, ◌++◌, drop}
use Rattle.frame_classes.specs.Rows.{kept_of, pass_by, zipped}
use Rattle.frame_classes.proofs.rows.pass_row.Given as goal

abbrev pub invariant-loop-word : goal.invariant-loop-word
invariant-loop-word l = l.all.items ++ zipped pass_by l.at (kept_of l.mask (drop l.word-index l.stops)) l.begins ≡ zipped pass_by 0 (kept_of l.mask l.stops) l.begins
