use Rattle.std.proofs.Common.{◌≡◌, ◌++◌, drop}
use Rattle.frame_classes.specs.Rows.{set_row}
use Rattle.frame_classes.proofs.rows.set_row.Given as goal

abbrev pub invariant-loop-at : goal.invariant-loop-at
invariant-loop-at l = l.row ++ set_row l.set l.block l.at (drop l.at l.instrs) ≡ set_row l.set l.block 0 l.instrs
