-- Where the blocks and points of a function are when its edges have blocks.
use Rattle.std.specs.Prelude.{ℕ, Bool, List, length, map, ◌+◌, ◌∷◌}
use Rattle.pass_edges.specs.EdgeBlocks.{edge_block, split_block}
use Rattle.pass_edges.specs.Edges.{block_edges, edge_table, edges_of, phi_flags}
use Rattle.pass_edges.specs.declared.edge.Edge.{Edge}
use Rattle.ir_model.specs.declared.module.Block.{Block}
use Rattle.ir_model.specs.declared.module.Function.{Function}
use Rattle.pass_early_proof.specs.ir_paths.declared.point.Point.{Point}
use Rattle.pass_early_proof.specs.ir_laws.facts.expanded.Expansion.{place_of}

-- a block becomes itself and the blocks of its edges
abbrev pub block_and_edges : List Bool → List (List Edge) → ℕ → Block → List Block
block_and_edges flags table n b = split_block flags table n b ∷ map edge_block (block_edges flags n b)

-- the next new label behind a block
abbrev pub behind_edges : List Bool → ℕ → Block → ℕ
behind_edges flags n b = n + length (block_edges flags n b)

-- the edges with blocks of a function, by their targets
abbrev pub table_of : Function → List (List Edge)
table_of f = edge_table f (edges_of (phi_flags f) f)

abbrev pub moved_in : List Bool → List (List Edge) → ℕ → List Block → Point → Point
moved_in flags table n bs p = record { block = place_of (block_and_edges flags table) (behind_edges flags) p.block n bs; at = p.at }

-- a point stays at its place in its block
abbrev pub moved : Function → Point → Point
moved f p = moved_in (phi_flags f) (table_of f) (length f.names) f.blocks p
