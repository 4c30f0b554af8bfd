-- Blocks on edges have no names.
use Rattle.std.proofs.Common.{◌≡◌, ℕ, ◌+◌, Bool, List, [], ◌∷◌, ◌++◌, length, refl, arith}
use Rattle.std.proofs.lemmas.List.{length-map}
use Rattle.std.specs.Prelude.{map}
use Rattle.pass_frames_proof.specs.ir_model.declared.module.Block.{Block}
use Rattle.pass_frames_proof.specs.ir_model.declared.module.Function.{Function}
use Rattle.pass_frames_proof.specs.pass_edges.EdgeBlocks.{edge_block, split_block, split_blocks, split_phi, with_edge_blocks}
use Rattle.pass_frames_proof.specs.pass_edges.Edges.{block_edges, edge_table, edges_at, edges_of, phi_flags}
use Rattle.pass_frames_proof.specs.pass_edges.declared.edge.Edge.{Edge}
use Rattle.pass_frames_prices.specs.Numbers.{names_of, names_of_blocks}

names_append : (bs cs : List Block) → names_of_blocks (bs ++ cs) ≡ names_of_blocks bs + names_of_blocks cs
names_append [] cs = omega arith
names_append (b ∷ bs) cs = let a = names_append bs cs in omega (arith, a)

edges_none : (es : List Edge) → names_of_blocks (map edge_block es) ≡ 0
edges_none [] = refl
edges_none (e ∷ es) = let a = edges_none es in omega (arith, a)

split_names : (flags : List Bool) (table : List (List Edge)) (n : ℕ) (bs : List Block)
    → names_of_blocks (split_blocks flags table n bs) ≡ names_of_blocks bs
split_names flags table n [] = refl
split_names flags table n (b ∷ bs) =
    let new : List Block = map edge_block (block_edges flags n b) in
    let rest : List Block = split_blocks flags table (n + length (block_edges flags n b)) bs in
    let a = length-map b.phis (split_phi (edges_at table b.label)) in
    let c = edges_none (block_edges flags n b) in
    let d = split_names flags table (n + length (block_edges flags n b)) bs in
    let e = names_append ((split_block flags table n b) ∷ new) rest in
    omega (arith, a, c, d, e)

pub edged_names : (f : Function) → names_of (with_edge_blocks f) ≡ names_of f
edged_names f =
    let a = split_names (phi_flags f) (edge_table f (edges_of (phi_flags f) f)) (length f.names) f.blocks in
    omega (arith, a)
