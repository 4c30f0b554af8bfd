-- Blocks on edges have no suspends.
use Rattle.std.proofs.Common.{◌≡◌, ℕ, ◌+◌, Bool, List, [], ◌∷◌, ◌++◌, length, refl, ◌∙◌, arith}
use Rattle.std.specs.Prelude.{map}
use Rattle.pass_edges.specs.EdgeBlocks.{edge_block, split_blocks, with_edge_blocks}
use Rattle.pass_edges.specs.Edges.{block_edges, edge_table, edges_of, phi_flags}
use Rattle.pass_edges.specs.declared.edge.Edge.{Edge}
use Rattle.pass_early_proof.proofs.rule_laws.frames.suspend_counts.Counted.{as_many, count, total}
use Rattle.pass_early_proof.specs.pass_intrinsics.Shapes.{suspends_of}
use Rattle.ir_model.specs.declared.module.Block.{Block}
use Rattle.ir_model.specs.declared.module.Function.{Function}

jumps_alone : (es : List Edge) (bs : List Block) → total (map edge_block es ++ bs) ≡ total bs
jumps_alone [] bs = refl
jumps_alone (e ∷ es) bs = let rest = jumps_alone es bs in let all : 0 + total (map edge_block es ++ bs) ≡ total bs = omega (arith, rest) in all

split_total : (flags : List Bool) (table : List (List Edge)) (n : ℕ) (bs : List Block) → total (split_blocks flags table n bs) ≡ total bs
split_total flags table n [] = refl
split_total flags table n (b ∷ bs) =
    let alone = jumps_alone (block_edges flags n b) (split_blocks flags table (n + length (block_edges flags n b)) bs) in
    let rest = split_total flags table (n + length (block_edges flags n b)) bs in
    λ k. count b.instrs + (alone ∙ rest) k

pub edges_as_many : (f : Function) → length (suspends_of (with_edge_blocks f)) ≡ length (suspends_of f)
edges_as_many f = as_many f (with_edge_blocks f) (split_total (phi_flags f) (edge_table f (edges_of (phi_flags f) f)) (length f.names) f.blocks)
