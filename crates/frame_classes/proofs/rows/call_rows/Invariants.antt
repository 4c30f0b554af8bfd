use Rattle.std.proofs.Common.{◌≡◌, map, take}
use Rattle.frame_classes.specs.Rows.{call_row}
use Rattle.frame_classes.proofs.rows.call_rows.Given as goal

abbrev pub invariant-loop-block : goal.invariant-loop-block
invariant-loop-block l = l.rows ≡ map (call_row l.intrinsic l.word) (take l.block-index l.function.blocks)
