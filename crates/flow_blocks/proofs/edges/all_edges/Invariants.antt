use Rattle.std.proofs.Common.{◌≡◌, ◌++◌, drop}
use Rattle.flow_blocks.specs.Edges.{edges_of_blocks}
use Rattle.flow_blocks.proofs.edges.all_edges.Given as goal

abbrev pub invariant-loop-at : goal.invariant-loop-at
invariant-loop-at l = l.edges ++ edges_of_blocks l.function l.at (drop l.at l.function.blocks) ≡ edges_of_blocks l.function 0 l.function.blocks
