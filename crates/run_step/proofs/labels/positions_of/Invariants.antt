use Rattle.std.proofs.Common.{◌≡◌, ℕ, ◌+◌, ◌≤◌, drop, length, Some}
use Rattle.std.specs.Prelude.{slice_get}
use Rattle.run_step.proofs.LabelPositions.{leading}
use Rattle.run_step.proofs.labels.positions_of.Given as goal

abbrev pub invariant-loop-at : goal.invariant-loop-at
invariant-loop-at l =
    record {
      within : l.at ≤ length l.blocks;
      positions : (label block : ℕ) → slice_get l.table label ≡ Some block → block ≡ l.at + leading label (drop l.at l.blocks);
    }

abbrev pub decreases-loop-at : goal.decreases-loop-at
decreases-loop-at l = l.at
