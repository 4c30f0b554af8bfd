use Rattle.std.proofs.Common.{◌≡◌, ◌++◌, drop}
use Rattle.frame_layout.specs.Rows.{marked_pairs}
use Rattle.frame_layout.proofs.marks.push_marked.Given as goal

abbrev pub invariant-loop-marked : goal.invariant-loop-marked
invariant-loop-marked l = l.pairs ++ marked_pairs l.j l.k (drop l.marked-index l.marks) ≡ l.initial.pairs ++ marked_pairs l.j 0 l.marks
