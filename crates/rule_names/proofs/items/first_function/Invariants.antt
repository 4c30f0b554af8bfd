use Rattle.std.proofs.Common.{◌≡◌, drop}
use Rattle.rule_names.specs.Items.{first_function}
use Rattle.rule_names.proofs.items.first_function.Given as goal

abbrev pub invariant-loop-function : goal.invariant-loop-function
invariant-loop-function g l = first_function (g.R.ModuleRule.says l.rule).in_function 0 l.functions ≡ first_function (g.R.ModuleRule.says l.rule).in_function l.at (drop l.function-index l.functions)
