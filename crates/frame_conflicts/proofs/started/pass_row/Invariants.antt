use Rattle.std.proofs.Common.{◌≡◌, map, take}
use Rattle.frame_conflicts.specs.Started.{marked_pass}
use Rattle.frame_conflicts.proofs.started.pass_row.Given as goal

abbrev pub invariant-loop-mark : goal.invariant-loop-mark
invariant-loop-mark l = l.row.items ≡ map (marked_pass l.names) (take l.mark-index l.marks)
