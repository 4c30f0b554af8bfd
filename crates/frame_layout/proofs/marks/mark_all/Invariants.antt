use Rattle.std.proofs.Common.{◌≡◌, drop}
use Rattle.frame_layout.specs.Rows.{with_marks}
use Rattle.frame_layout.proofs.marks.mark_all.Given as goal

abbrev pub invariant-loop-k : goal.invariant-loop-k
invariant-loop-k l = with_marks l.marks.items (drop l.k-index l.ks) ≡ with_marks l.initial.marks.items l.ks
