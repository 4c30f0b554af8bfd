use Rattle.std.proofs.Common.{◌≡◌, ◌++◌, drop}
use Rattle.elide_shape.specs.Edges.{edges_by}
use Rattle.elide_shape.proofs.edges.push_blocks.Given as goal

abbrev pub invariant-loop-block : goal.invariant-loop-block
invariant-loop-block l = l.edges ++ edges_by l.function l.from (drop l.block-index l.blocks) ≡ l.initial.edges ++ edges_by l.function 0 l.blocks
