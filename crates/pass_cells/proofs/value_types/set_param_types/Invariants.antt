use Rattle.std.proofs.Common.{◌≡◌, drop}
use Rattle.pass_cells.specs.Kept.{with_param_types}
use Rattle.pass_cells.proofs.value_types.set_param_types.Given as goal

abbrev pub invariant-loop-param : goal.invariant-loop-param
invariant-loop-param l = with_param_types l.places l.types (drop l.param-index l.params) ≡ with_param_types l.places l.initial.types l.params
