use Rattle.std.proofs.Common.{◌≡◌, ◌≤◌, ◌-◌}
use Rattle.ir_sizes.specs.Levels.{table_at}
use Rattle.ir_sizes.proofs.level.table_of.Given as goal

abbrev pub invariant-loop-depth : goal.invariant-loop-depth
invariant-loop-depth l = (l.table ≡ table_at l.names.source.now.types l.depth) × (l.depth ≤ 64)

abbrev pub decreases-loop-depth : goal.decreases-loop-depth
decreases-loop-depth l = 64 - l.depth
