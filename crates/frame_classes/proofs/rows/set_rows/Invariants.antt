use Rattle.std.proofs.Common.{◌≡◌, ◌++◌, drop}
use Rattle.frame_classes.specs.Rows.{set_rows}
use Rattle.frame_classes.proofs.rows.set_rows.Given as goal

abbrev pub invariant-loop-block : goal.invariant-loop-block
invariant-loop-block l = l.rows ++ set_rows l.set l.at (drop l.block-index l.blocks) ≡ set_rows l.set 0 l.blocks
