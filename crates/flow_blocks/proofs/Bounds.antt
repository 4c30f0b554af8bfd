-- The edges between blocks lead between nodes.
use Rattle.std.proofs.Common.{◌≡◌, ℕ, zero, suc, ◌+◌, ◌<◌, ◌≤◌, Bool, true, false, List, [], ◌∷◌, ◌++◌, length, map, drop, Some, None, Option, refl, sym, ap, ◌∙◌, subst, ⊎_elim, arith}
use Rattle.std.specs.Prelude.{slice_get, if◌then◌else◌, ◌==◌}
use Rattle.flow_blocks.specs.Edges.{block_edges, edges_of_blocks, edges_out, successors_in, successors_of}
use Rattle.flow_blocks.proofs.Elements.{listed_append, listed_map}
use Rattle.flow_bits.proofs.flow_solver.Lists.{listed_at}
use Rattle.flow_bits.specs.flow_solver.Paths.{HasNodes, IsListed}
use Rattle.ir_model.specs.Names.{position_of}
use Rattle.ir_model.specs.declared.module.Block.{Block}
use Rattle.ir_model.specs.declared.module.Function.{Function}
use Rattle.run_step.specs.ir_paths.Paths.{targets}
use Rattle.run_step.proofs.LabelPositions.{leading, leading-is}

one_further : (v : Bool) (n m : ℕ) → n ≤ m → (if v then 0 else suc n) ≤ suc m
one_further true n m le = omega arith
one_further false n m le = omega arith

leading_bounded : (label : ℕ) (blocks : List Block) → leading label blocks ≤ length blocks
leading_bounded label [] = omega arith
leading_bounded label (b ∷ blocks) = one_further (b.label == label) (leading label blocks) (length blocks) (leading_bounded label blocks)

pub position_bounded : (f : Function) (label : ℕ) → position_of f label < length f.blocks + 1
position_bounded f label = let same = leading-is label f.blocks in let le = leading_bounded label f.blocks in omega (arith, same, le)

positions_bounded : (f : Function) (labels : List ℕ) (b : ℕ) → IsListed b (map (position_of f) labels) → b < length f.blocks + 1
positions_bounded f labels b h =
    let found : (label : ℕ) × (IsListed label labels × (b ≡ position_of f label)) = listed_map (position_of f) b labels h in
    subst (λ x. x < length f.blocks + 1) (sym found.1.1) (position_bounded f found.0)

successors_of_block : (f : Function) (o : Option Block) (b : ℕ) → IsListed b (successors_in f o) → b < length f.blocks + 1
successors_of_block f None b h = absurd h
successors_of_block f (Some block) b h = positions_bounded f (targets block.term) b h

pub successors_bounded : (f : Function) (block b : ℕ) → IsListed b (successors_of f block) → b < length f.blocks + 1
successors_bounded f block b h = successors_of_block f (slice_get f.blocks block) b h

out_bounded : (f : Function) (at : ℕ) (block : Block) (from to : ℕ) → IsListed (from, to) (edges_out f at block) → (from ≡ at) × (to < length f.blocks + 1)
out_bounded f at block from to h =
    let found : (t : ℕ) × (IsListed t (map (position_of f) (targets block.term)) × ((from, to) ≡ (at, t))) = listed_map (λ t. (at, t)) (from, to) (map (position_of f) (targets block.term)) h in
    (ap (λ (p : ℕ × ℕ). p.0) found.1.1, subst (λ x. x < length f.blocks + 1) (sym (ap (λ (p : ℕ × ℕ). p.1) found.1.1)) (positions_bounded f (targets block.term) found.0 found.1.0))

bounded_from : (f : Function) (at : ℕ) (blocks : List Block) (from to : ℕ) → IsListed (from, to) (edges_of_blocks f at blocks) → (from < at + length blocks) × (to < length f.blocks + 1)
bounded_from f at [] from to h = absurd h
bounded_from f at (b ∷ blocks) from to h = ⊎_elim
    (λ here. let found = out_bounded f at b from to here in (omega (arith, found.0), found.1))
    (λ later. let found = bounded_from f (at + 1) blocks from to later in (omega (arith, found.0), found.1))
    (listed_append (from, to) (edges_out f at b) (edges_of_blocks f (at + 1) blocks) h)

-- an edge leaves a block, and leads to a block or behind the last
pub edge_bounded : (f : Function) (from to : ℕ) → IsListed (from, to) (block_edges f) → (from < length f.blocks) × (to < length f.blocks + 1)
unfolding block_edges
edge_bounded f from to h = let found = bounded_from f 0 f.blocks from to h in (omega (arith, found.0), found.1)

pub has_nodes : (f : Function) → HasNodes (length f.blocks + 1) (block_edges f)
has_nodes f e from to at =
    let found = edge_bounded f from to (listed_at (block_edges f) e (from, to) at) in
    (omega (arith, found.0), found.1)

past : {X : Type 0} (xs : List X) (i : ℕ) → length xs ≤ i → drop i xs ≡ []
past [] zero le = refl
past [] (suc i) le = refl
past (x ∷ xs) zero le = absurd (omega arith)
past (x ∷ xs) (suc i) le = past xs i (omega arith)

append-none : {X : Type 0} (xs : List X) → xs ++ [] ≡ xs
append-none [] = refl
append-none (x ∷ xs) = ap (λ l. x ∷ l) (append-none xs)

-- behind the last block all edges are there
pub all_there : (f : Function) (at : ℕ) (edges : List (ℕ × ℕ)) → length f.blocks ≤ at → edges ++ edges_of_blocks f at (drop at f.blocks) ≡ edges_of_blocks f 0 f.blocks → edges ≡ block_edges f
unfolding block_edges
all_there f at edges le inv = sym (append-none edges) ∙ ap (λ (l : List Block). edges ++ edges_of_blocks f at l) (sym (past f.blocks at le)) ∙ inv
