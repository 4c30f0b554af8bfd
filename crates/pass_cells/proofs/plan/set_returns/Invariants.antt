use Rattle.std.proofs.Common.{◌≡◌, drop}
use Rattle.pass_cells.specs.Plan.{with_returns}
use Rattle.pass_cells.proofs.plan.set_returns.Given as goal

abbrev pub invariant-loop-point : goal.invariant-loop-point
invariant-loop-point l = with_returns l.table l.number (drop l.point-index l.suspends) ≡ with_returns l.initial.table 0 l.suspends
