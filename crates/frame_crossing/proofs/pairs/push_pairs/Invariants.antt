use Rattle.std.proofs.Common.{◌≡◌, ◌++◌, drop}
use Rattle.frame_crossing.specs.Words.{pairs_in}
use Rattle.frame_crossing.proofs.pairs.push_pairs.Given as goal

abbrev pub invariant-loop-suspend : goal.invariant-loop-suspend
invariant-loop-suspend l = l.all ++ pairs_in l.value l.bit (drop l.suspend-index l.marked) ≡ l.initial.all ++ pairs_in l.value l.bit l.marked
