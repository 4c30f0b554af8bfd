use Rattle.std.proofs.Common.{◌≡◌, ℕ, suc, ◌-◌, length}
use Rattle.run_source.specs.Indexes.{number_at}
use Rattle.run_source.proofs.instances.reach.Given as goal

abbrev pub invariant-loop-table : goal.invariant-loop-table
invariant-loop-table l = (i : ℕ) → number_at l.table.items i ≡ number_at l.initial.table.items i

abbrev pub decreases-loop-table : goal.decreases-loop-table
decreases-loop-table l = suc l.at - length l.table.items
