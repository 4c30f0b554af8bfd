use Rattle.std.proofs.Common.{◌≡◌, ◌++◌, drop}
use Rattle.pass_cells.specs.Written.{kept_allocas}
use Rattle.pass_cells.proofs.written.push_kept_allocas.Given as goal

abbrev pub invariant-loop-value : goal.invariant-loop-value
invariant-loop-value l = l.all ++ kept_allocas (drop l.value-index l.kept) ≡ l.initial.all ++ kept_allocas l.kept
