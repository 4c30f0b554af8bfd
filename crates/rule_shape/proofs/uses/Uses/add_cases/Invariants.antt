use Rattle.std.proofs.Common.{◌≡◌, drop, map}
use Rattle.rule_shape.specs.Uses.{counted_all}
use Rattle.rule_shape.proofs.uses.Uses.add_cases.Given as goal

abbrev pub invariant-loop-case : goal.invariant-loop-case
invariant-loop-case l = counted_all l.self (map (λ k. k.arg.value) (drop l.case-index l.cases)) ≡ counted_all l.initial.self (map (λ k. k.arg.value) l.cases)
