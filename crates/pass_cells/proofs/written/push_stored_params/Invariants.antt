use Rattle.std.proofs.Common.{◌≡◌, ◌++◌, drop}
use Rattle.pass_cells.specs.Written.{stored_params}
use Rattle.pass_cells.proofs.written.push_stored_params.Given as goal

abbrev pub invariant-loop-param : goal.invariant-loop-param
invariant-loop-param l = l.all ++ stored_params l.plan (drop l.param-index l.params) ≡ l.initial.all ++ stored_params l.plan l.params
