use Rattle.std.proofs.Common.{◌≡◌, map, take}
use Rattle.frame_contents.proofs.marks.crossing_values.Given as goal

abbrev pub invariant-loop-pair : goal.invariant-loop-pair
invariant-loop-pair l = l.values.items ≡ map (λ p. p.0) (take l.pair-index l.crossing)
