use Rattle.std.proofs.Common.{◌≡◌, ◌∷◌, map, take}
use Rattle.flow_blocks.proofs.edges.switch_labels.Given as goal

abbrev pub invariant-loop-case : goal.invariant-loop-case
invariant-loop-case l = l.all.items ≡ l.default ∷ map (λ k. k.target) (take l.case-index l.cases)
