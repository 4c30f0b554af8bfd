use Rattle.std.proofs.Common.{◌≡◌, ◌++◌, ◌∷◌, drop, take, map, filter, length, ◌-◌, ◌+◌}
use Rattle.pass_split.specs.Reached.{piled}
use Rattle.pass_split.proofs.reached.pile_cases.Given as goal

abbrev pub invariant-loop-case : goal.invariant-loop-case
invariant-loop-case l = piled (map (λ k. k.target) (drop l.case-index l.cases)) l.todo ≡ piled (map (λ k. k.target) l.cases) l.initial.todo
