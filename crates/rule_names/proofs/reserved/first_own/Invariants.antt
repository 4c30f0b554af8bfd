use Rattle.std.proofs.Common.{◌≡◌, drop}
use Rattle.rule_names.specs.Reserved.{first_own}
use Rattle.rule_names.proofs.reserved.first_own.Given as goal

abbrev pub invariant-loop-definition : goal.invariant-loop-definition
invariant-loop-definition l = first_own l.names l.definitions ≡ first_own l.names (drop l.definition-index l.definitions)
