use Rattle.std.proofs.Common.{◌≡◌, ◌≤◌}
use Rattle.pass_cells.specs.Links.{roots_after, roots_of}
use Rattle.pass_cells.proofs.climbing.roots_of.Given as goal

abbrev pub invariant-loop-left : goal.invariant-loop-left
invariant-loop-left l = (roots_after l.left l.table ≡ roots_of l.bases) × (l.left ≤ 64)

abbrev pub decreases-loop-left : goal.decreases-loop-left
decreases-loop-left l = l.left
