-- The blocks of a function as a graph.
use Rattle.std.specs.Prelude.{ℕ, List, [], map, length, slice_get, Some, None, Option, ◌+◌, ◌∷◌, ◌++◌}
use Rattle.flow_bits.specs.flow_solver.declared.graph.Graph.{Graph}
use Rattle.ir_model.specs.Names.{position_of}
use Rattle.ir_model.specs.declared.module.Block.{Block}
use Rattle.ir_model.specs.declared.module.Function.{Function}
use Rattle.run_step.specs.ir_paths.Paths.{targets}

abbrev pub successors_in : Function → Option Block → List ℕ
successors_in f None = []
successors_in f (Some b) = map (position_of f) (targets b.term)

-- the blocks to which edges lead from a block, in the order of the labels; a label that no block has leads behind the last
abbrev pub successors_of : Function → ℕ → List ℕ
successors_of f block = successors_in f (slice_get f.blocks block)

-- the edges out of a block
abbrev pub edges_out : Function → ℕ → Block → List (ℕ × ℕ)
edges_out f from b = map (λ to. (from, to)) (map (position_of f) (targets b.term))

abbrev pub edges_of_blocks : Function → ℕ → List Block → List (ℕ × ℕ)
edges_of_blocks f at [] = []
edges_of_blocks f at (b ∷ blocks) = edges_out f at b ++ edges_of_blocks f (at + 1) blocks

-- the edges between blocks, in order of the text
unfoldable pub block_edges : Function → List (ℕ × ℕ)
block_edges f = edges_of_blocks f 0 f.blocks

-- a node for each block, and behind them one more for labels that no block has
abbrev pub graph_of : Function → Graph
graph_of f = record { nodes = length f.blocks + 1; edges = block_edges f }
