use Rattle.std.proofs.Common.{◌≡◌, map, take}
use Rattle.frame_slots.specs.Markers.{marked_row}
use Rattle.frame_slots.proofs.markers.marked_rows.Given as goal

abbrev pub invariant-loop-row : goal.invariant-loop-row
invariant-loop-row l = l.rows.items ≡ map (marked_row l.marker l.words) (take l.row-index l.marks)
