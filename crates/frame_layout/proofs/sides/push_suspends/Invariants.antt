use Rattle.std.proofs.Common.{◌≡◌, ◌+◌, ◌++◌, drop, map}
use Rattle.frame_layout.proofs.sides.push_suspends.Given as goal

abbrev pub invariant-loop-pair : goal.invariant-loop-pair
invariant-loop-pair l = l.pairs.items ++ map (λ p. (p.0, p.1 + 2)) (drop l.pair-index l.at) ≡ l.initial.pairs.items ++ map (λ p. (p.0, p.1 + 2)) l.at
