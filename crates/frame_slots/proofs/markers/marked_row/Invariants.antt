use Rattle.std.proofs.Common.{◌≡◌, map, take}
use Rattle.frame_slots.specs.Markers.{marker_word}
use Rattle.frame_slots.proofs.markers.marked_row.Given as goal

abbrev pub invariant-loop-mark : goal.invariant-loop-mark
invariant-loop-mark l = l.row.items ≡ map (marker_word l.marker l.words) (take l.mark-index l.marks)
