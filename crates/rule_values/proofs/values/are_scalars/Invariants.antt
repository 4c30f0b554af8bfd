use Rattle.std.proofs.Common.{◌≡◌, drop}
use Rattle.std.specs.List.{list_all}
use Rattle.rule_values.specs.Values.{has_scalar}
use Rattle.rule_values.proofs.values.are_scalars.Given as goal

abbrev pub invariant-loop-param : goal.invariant-loop-param
invariant-loop-param l = list_all has_scalar l.params ≡ list_all has_scalar (drop l.param-index l.params)
