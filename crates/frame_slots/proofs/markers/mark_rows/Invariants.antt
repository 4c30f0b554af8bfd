use Rattle.std.proofs.Common.{◌≡◌, map, take}
use Rattle.frame_slots.specs.Markers.{mark_row}
use Rattle.frame_slots.proofs.markers.mark_rows.Given as goal

abbrev pub invariant-loop-block : goal.invariant-loop-block
invariant-loop-block l = l.rows.items ≡ map mark_row (take l.block-index l.blocks)
