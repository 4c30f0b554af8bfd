use Rattle.std.proofs.Common.{◌≡◌, ◌++◌, drop}
use Rattle.pass_cells.specs.Plan.{kept_from}
use Rattle.pass_cells.proofs.plan.kept_of.Given as goal

abbrev pub invariant-loop-value : goal.invariant-loop-value
invariant-loop-value l = l.all ++ kept_from l.first l.count l.types l.cells l.slots l.place (drop l.value-index l.values) ≡ kept_from l.first l.count l.types l.cells l.slots 0 l.values
