use Rattle.std.proofs.Common.{◌≡◌, ◌++◌, drop}
use Rattle.pass_cells.specs.Written.{stored_phis}
use Rattle.pass_cells.proofs.written.push_stored_phis.Given as goal

abbrev pub invariant-loop-phi : goal.invariant-loop-phi
invariant-loop-phi l = l.all ++ stored_phis l.plan (drop l.phi-index l.phis) ≡ l.initial.all ++ stored_phis l.plan l.phis
