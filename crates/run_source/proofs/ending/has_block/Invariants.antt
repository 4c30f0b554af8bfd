use Rattle.std.proofs.Common.{◌≡◌, ◌≤◌, length, reverse, take}
use Rattle.std.specs.Prelude.{◌==◌}
use Rattle.std.specs.List.{list_any}
use Rattle.run_source.proofs.ending.has_block.Given as goal

abbrev pub invariant-loop-left : goal.invariant-loop-left
invariant-loop-left l =
    record {
      within : l.left ≤ length l.oldest_first;
      rest : list_any (λ s. s.block == l.block) (reverse l.oldest_first) ≡ list_any (λ s. s.block == l.block) (reverse (take l.left l.oldest_first));
    }

abbrev pub decreases-loop-left : goal.decreases-loop-left
decreases-loop-left l = l.left
