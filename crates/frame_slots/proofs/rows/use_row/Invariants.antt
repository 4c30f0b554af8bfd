use Rattle.std.proofs.Common.{◌≡◌, map, take}
use Rattle.frame_slots.specs.Words.{used}
use Rattle.frame_slots.proofs.rows.use_row.Given as goal

abbrev pub invariant-loop-instr : goal.invariant-loop-instr
invariant-loop-instr l = l.row.items ≡ map (used l.words) (take l.instr-index l.instrs)
