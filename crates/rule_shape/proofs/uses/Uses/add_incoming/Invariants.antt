use Rattle.std.proofs.Common.{◌≡◌, drop, map}
use Rattle.rule_shape.specs.Uses.{counted_all}
use Rattle.rule_shape.proofs.uses.Uses.add_incoming.Given as goal

abbrev pub invariant-loop-one : goal.invariant-loop-one
invariant-loop-one l = counted_all l.self (map (λ i. i.value) (drop l.one-index l.incoming)) ≡ counted_all l.initial.self (map (λ i. i.value) l.incoming)
