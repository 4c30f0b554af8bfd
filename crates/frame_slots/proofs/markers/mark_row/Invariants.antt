use Rattle.std.proofs.Common.{◌≡◌, map, take}
use Rattle.frame_slots.specs.Markers.{mark_of}
use Rattle.frame_slots.proofs.markers.mark_row.Given as goal

abbrev pub invariant-loop-instr : goal.invariant-loop-instr
invariant-loop-instr l = l.row.items ≡ map mark_of (take l.instr-index l.instrs)
