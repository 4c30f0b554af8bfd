use Rattle.std.proofs.Common.{◌≡◌, ◌≤◌, length, reverse, take}
use Rattle.run_source.specs.Source.{block_of_slot}
use Rattle.run_source.proofs.promise.block_of_slot.Given as goal

abbrev pub invariant-loop-left : goal.invariant-loop-left
invariant-loop-left l =
    record {
      within : l.left ≤ length l.oldest_first;
      rest : block_of_slot (reverse l.oldest_first) l.alloca ≡ block_of_slot (reverse (take l.left l.oldest_first)) l.alloca;
    }

abbrev pub decreases-loop-left : goal.decreases-loop-left
decreases-loop-left l = l.left
