use Rattle.std.proofs.Common.{◌≡◌, map, take}
use Rattle.frame_conflicts.specs.Started.{marked_row}
use Rattle.frame_conflicts.proofs.started.passes_by.Given as goal

abbrev pub invariant-loop-row : goal.invariant-loop-row
invariant-loop-row l = l.rows.items ≡ map (marked_row l.names) (take l.row-index l.marks)
