use Rattle.std.proofs.Common.{◌≡◌, ◌++◌, drop, map}
use Rattle.rule_uses.specs.Uses.{locals_in}
use Rattle.rule_uses.proofs.locals.push_cases.Given as goal

abbrev pub invariant-loop-case : goal.invariant-loop-case
invariant-loop-case l = l.all.items ++ locals_in (map (λ k. k.arg.value) (drop l.case-index l.cases)) ≡ l.initial.all.items ++ locals_in (map (λ k. k.arg.value) l.cases)
