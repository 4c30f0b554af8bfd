use Rattle.std.proofs.Common.{◌≡◌, map, take}
use Rattle.frame_classes.specs.Rows.{call_word}
use Rattle.frame_classes.proofs.rows.call_row.Given as goal

abbrev pub invariant-loop-instr : goal.invariant-loop-instr
invariant-loop-instr l = l.row ≡ map (call_word l.intrinsic l.word) (take l.instr-index l.block.instrs)
