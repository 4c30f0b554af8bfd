use Rattle.std.proofs.Common.{◌≡◌, ◌++◌, drop}
use Rattle.pass_distances.specs.Sums.{sum_instrs, sum_next, sum_value}
use Rattle.pass_distances.proofs.sum.push_sum.Given as goal

abbrev pub invariant-loop-way : goal.invariant-loop-way
invariant-loop-way l =
    (l.all ++ sum_instrs l.next l.so_far (drop l.way-index l.ways) ≡ l.initial.all ++ sum_instrs l.first l.fn.start l.ways)
    × (sum_value l.next l.so_far (drop l.way-index l.ways) ≡ sum_value l.first l.fn.start l.ways)
    × (sum_next l.next (drop l.way-index l.ways) ≡ sum_next l.first l.ways)
