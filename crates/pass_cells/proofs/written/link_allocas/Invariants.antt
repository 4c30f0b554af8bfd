use Rattle.std.proofs.Common.{◌≡◌}
use Rattle.pass_cells.specs.Written.{link_allocas}
use Rattle.pass_cells.proofs.written.link_allocas.Given as goal

abbrev pub invariant-loop-number : goal.invariant-loop-number
invariant-loop-number l = l.all ≡ link_allocas l.first l.count l.number
