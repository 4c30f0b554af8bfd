use Rattle.std.proofs.Common.{◌≡◌, drop, []}
use Rattle.rule_names.specs.Definitions.{has_number}
use Rattle.rule_names.specs.Numbers.{is_marked}
use Rattle.rule_names.proofs.Marks.{twice}
use Rattle.rule_names.proofs.definitions.first_twice.Given as goal

abbrev pub invariant-loop-definition : goal.invariant-loop-definition
invariant-loop-definition l = twice (is_marked l.before) (drop l.definition-index l.definitions) ≡ twice (has_number []) l.definitions
