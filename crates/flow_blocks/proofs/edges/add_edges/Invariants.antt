use Rattle.std.proofs.Common.{◌≡◌, ◌++◌, map, take}
use Rattle.flow_blocks.proofs.edges.add_edges.Given as goal

abbrev pub invariant-loop-block : goal.invariant-loop-block
invariant-loop-block l = l.edges ≡ l.initial.edges ++ map (λ t. (l.from, t)) (take l.block-index l.to)
