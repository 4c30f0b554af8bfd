use Rattle.std.proofs.Common.{◌≡◌, ◌≤◌, length, reverse, take}
use Rattle.run_source_tables.specs.run_step.Step.{without_slots}
use Rattle.run_source.proofs.ending.kill_all.Given as goal

abbrev pub invariant-loop-left : goal.invariant-loop-left
invariant-loop-left l =
    record {
      within : l.left ≤ length l.oldest_first;
      rest : without_slots l.initial.memory (reverse l.oldest_first) ≡ without_slots l.memory (reverse (take l.left l.oldest_first));
    }

abbrev pub decreases-loop-left : goal.decreases-loop-left
decreases-loop-left l = l.left
