use Rattle.std.proofs.Common.{◌≡◌, drop}
use Rattle.rule_types.specs.Limits.{nth_value}
use Rattle.rule_types.proofs.limits.nth_value.Given as goal

abbrev pub invariant-loop-definition : goal.invariant-loop-definition
invariant-loop-definition l = nth_value l.most l.definitions ≡ nth_value l.left (drop l.definition-index l.definitions)
