use Rattle.std.proofs.Common.{◌≡◌, drop}
use Rattle.frame_layout.specs.Rows.{with_rows}
use Rattle.frame_layout.proofs.marks.mark_rows.Given as goal

abbrev pub invariant-loop-s : goal.invariant-loop-s
invariant-loop-s l = with_rows l.marks.items l.rows (drop l.s-index l.ss) ≡ with_rows l.initial.marks.items l.rows l.ss
