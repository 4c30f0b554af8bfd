use Rattle.std.proofs.Common.{◌≡◌, ◌++◌, drop, true}
use Rattle.frame_conflicts.specs.Looked.{looked_row}
use Rattle.frame_conflicts.proofs.looked.push_row.Given as goal

abbrev pub invariant-loop-instr : goal.invariant-loop-instr
invariant-loop-instr l = l.all ++ looked_row l.after l.block l.at l.is_fresh (drop l.instr-index l.instrs) ≡ l.initial.all ++ looked_row l.after l.block 0 true l.instrs
