use Rattle.std.proofs.Common.{◌≡◌, ◌++◌, drop}
use Rattle.frame_layout.specs.Conflicts.{conflict, field_conflicts, pairs_from}
use Rattle.frame_layout.proofs.conflicts.field_conflicts.Given as goal

abbrev pub invariant-loop-j : goal.invariant-loop-j
invariant-loop-j l =
    l.pairs ++ pairs_from (conflict l.fields l.crossing l.alive_at l.slot_conflicts) l.fields l.j (drop l.j l.fields)
    ≡ field_conflicts l.fields l.crossing l.alive_at l.slot_conflicts
