-- The edges out of blocks, between points and between blocks.
use Rattle.std.proofs.Common.{◌≡◌, ℕ, zero, suc, ◌+◌, true, List, [], ◌∷◌, ◌++◌, length, map, Some, refl, sym, ap, ◌∙◌, subst, ⊎_elim, inl, inr, arith}
use Rattle.std.specs.Prelude.{slice_get}
use Rattle.std.proofs.lemmas.Bool.{false≢true}
use Rattle.flow_blocks.proofs.Elements.{listed_append, listed_map, map_listed}
use Rattle.flow_blocks.specs.Edges.{block_edges, edges_of_blocks, edges_out}
use Rattle.flow_solver.proofs.Lists.{listed_front}
use Rattle.flow_solver.specs.Paths.{IsListed}
use Rattle.ir_model.specs.Names.{position_of}
use Rattle.ir_model.specs.declared.module.Block.{Block}
use Rattle.ir_model.specs.declared.module.Function.{Function}
use Rattle.ir_paths.proofs.Search.{either, or_left, or_right, same_point-itself, same_point-same}
use Rattle.ir_paths.specs.Paths.{entry_point, has_point, nexts, same_point, targets}
use Rattle.ir_paths.specs.declared.point.Point.{Point}
use Rattle.flow_points.proofs.Neighbours.{IsBranch, IsInner, edge-cases, next-term}
use Rattle.flow_reach.proofs.Each.{some_same}
use Rattle.flow_reach.specs.Reached.{IsPointOf, front}

pub listed_back : {X : Type 0} (y : X) (xs zs : List X) → IsListed y zs → IsListed y (xs ++ zs)
listed_back y [] zs h = h
listed_back y (x ∷ xs) zs h = inr (listed_back y xs zs h)

-- ---- labels

label_leads : (f : Function) (label : ℕ) (labels : List ℕ) → IsListed label labels → has_point (map (entry_point f) labels) (front (position_of f label)) ≡ true
label_leads f label [] h = absurd h
label_leads f label (l ∷ labels) h = ⊎_elim
    (λ e. or_left (same_point (front (position_of f label)) (entry_point f l)) (has_point (map (entry_point f) labels) (front (position_of f label)))
    (ap (λ (k : ℕ). same_point (front (position_of f label)) (entry_point f k)) (sym e) ∙ same_point-itself (front (position_of f label))))
    (λ later. or_right (same_point (front (position_of f label)) (entry_point f l)) (has_point (map (entry_point f) labels) (front (position_of f label))) (label_leads f label labels later))
    h

leads_label : (f : Function) (q : Point) (labels : List ℕ) → has_point (map (entry_point f) labels) q ≡ true → (label : ℕ) × (IsListed label labels × (q ≡ front (position_of f label)))
leads_label f q [] h = absurd (false≢true h)
leads_label f q (l ∷ labels) h = ⊎_elim
    (λ same. (l, (inl refl, same_point-same q (entry_point f l) same)))
    (λ later. let found : (label : ℕ) × (IsListed label labels × (q ≡ front (position_of f label))) = leads_label f q labels later in (found.0, (inr found.1.0, found.1.1)))
    (either (same_point q (entry_point f l)) (has_point (map (entry_point f) labels) q) h)

-- ---- edges of the graph

record IsOut (f : Function) (at : ℕ) (blocks : List Block) (from to : ℕ) : Type 0 where
  place : ℕ
  block : Block
  is_block : slice_get blocks place ≡ Some block
  is_from : from ≡ at + place
  label : ℕ
  is_target : IsListed label (targets block.term)
  leads : to ≡ position_of f label

edges_in : (f : Function) (at : ℕ) (blocks : List Block) (from to : ℕ) → IsListed (from, to) (edges_of_blocks f at blocks) → IsOut f at blocks from to
edges_in f at [] from to h = absurd h
edges_in f at (b ∷ bs) from to h = ⊎_elim here (λ k. later (edges_in f (at + 1) bs from to k)) (listed_append (from, to) (edges_out f at b) (edges_of_blocks f (at + 1) bs) h)
  where
    here : IsListed (from, to) (edges_out f at b) → IsOut f at (b ∷ bs) from to
    here k =
        let one : (t : ℕ) × (IsListed t (map (position_of f) (targets b.term)) × ((from, to) ≡ (at, t))) = listed_map (λ t. (at, t)) (from, to) (map (position_of f) (targets b.term)) k in
        let two : (l : ℕ) × (IsListed l (targets b.term) × (one.0 ≡ position_of f l)) = listed_map (position_of f) one.0 (targets b.term) one.1.0 in
        let first : from ≡ at = ap (λ (p : ℕ × ℕ). p.0) one.1.1 in
        record { place = 0; block = b; is_block = refl; is_from = (let same : from ≡ at + 0 = omega (arith, first) in same); label = two.0; is_target = two.1.0; leads = ap (λ (p : ℕ × ℕ). p.1) one.1.1 ∙ two.1.1 }

    later : IsOut f (at + 1) bs from to → IsOut f at (b ∷ bs) from to
    later o =
        let first = o.is_from in
        record { place = suc o.place; block = o.block; is_block = o.is_block; is_from = (let same : from ≡ at + suc o.place = omega (arith, first) in same); label = o.label; is_target = o.is_target; leads = o.leads }

-- the block that an edge of the graph leaves, from whose terminator an edge leads to the front of the other
pub record LeavesBlock (f : Function) (from to : ℕ) : Type 0 where
  pub block : Block
  pub is_block : slice_get f.blocks from ≡ Some block
  pub leads : has_point (nexts f (record { block = from; at = length block.instrs })) (front to) ≡ true

pub edge_leaves : (f : Function) (from to : ℕ) → IsListed (from, to) (block_edges f) → LeavesBlock f from to
unfolding block_edges
edge_leaves f from to h =
    let o = edges_in f 0 f.blocks from to h in
    let first = o.is_from in
    let same : from ≡ o.place = omega (arith, first) in
    let at : slice_get f.blocks from ≡ Some o.block = ap (slice_get f.blocks) same ∙ o.is_block in
    record {
      block = o.block;
      is_block = at;
      leads =
          ap (λ (l : List Point). has_point l (front to)) (next-term f (record { block = from; at = length o.block.instrs }) o.block at refl)
          ∙ ap (λ (k : ℕ). has_point (map (entry_point f) (targets o.block.term)) (front k)) o.leads
          ∙ label_leads f o.label (targets o.block.term) o.is_target;
    }

in_edges : (f : Function) (at : ℕ) (blocks : List Block) (k label : ℕ) (b : Block) → slice_get blocks k ≡ Some b → IsListed label (targets b.term) → IsListed (at + k, position_of f label) (edges_of_blocks f at blocks)
in_edges f at [] k label b e h = absurd (cc)
in_edges f at (x ∷ bs) zero label b e h =
    let same : x ≡ b = some_same x b e in
    let start : at ≡ at + 0 = omega arith in
    listed_front (at + 0, position_of f label) (edges_out f at x) (edges_of_blocks f (at + 1) bs)
    (subst (λ (n : ℕ). IsListed (n, position_of f label) (edges_out f at x)) start
    (map_listed (λ t. (at, t)) (position_of f label) (map (position_of f) (targets x.term)) (map_listed (position_of f) label (targets x.term) (subst (λ (y : Block). IsListed label (targets y.term)) (sym same) h))))
in_edges f at (x ∷ bs) (suc k) label b e h =
    let start : (at + 1) + k ≡ at + suc k = omega arith in
    listed_back (at + suc k, position_of f label) (edges_out f at x) (edges_of_blocks f (at + 1) bs)
    (subst (λ (n : ℕ). IsListed (n, position_of f label) (edges_of_blocks f (at + 1) bs)) start (in_edges f (at + 1) bs k label b e h))

target_is_edge : (f : Function) (b label : ℕ) (block : Block) → slice_get f.blocks b ≡ Some block → IsListed label (targets block.term) → IsListed (b, position_of f label) (block_edges f)
unfolding block_edges
target_is_edge f b label block e h =
    let start : 0 + b ≡ b = omega arith in
    subst (λ (n : ℕ). IsListed (n, position_of f label) (edges_of_blocks f 0 f.blocks)) start (in_edges f 0 f.blocks b label block e h)

-- an edge out of a terminator leads to the front of a block, and is one of the graph
pub branch_is : (f : Function) (p q : Point) → IsBranch f p q → (q ≡ front q.block) × IsListed (p.block, q.block) (block_edges f)
branch_is f p q x =
    let found : (label : ℕ) × (IsListed label (targets x.block.term) × (q ≡ front (position_of f label))) = leads_label f q (targets x.block.term) x.entry in
    let is : q.block ≡ position_of f found.0 = ap (λ (y : Point). y.block) found.1.1 in
    (found.1.1 ∙ ap front (sym is), subst (λ (k : ℕ). IsListed (p.block, k) (block_edges f)) (sym is) (target_is_edge f p.block found.0 x.block x.got found.1.0))

-- what an edge leaves is a point of the function
pub source_is_point : (f : Function) (p q : Point) → has_point (nexts f p) q ≡ true → IsPointOf f p
source_is_point f p q h = ⊎_elim
    (λ (x : IsInner f p q). let lt = x.within in record { block = x.block; is_block = x.got; within = omega (arith, lt) })
    (λ (x : IsBranch f p q). let e = x.last in record { block = x.block; is_block = x.got; within = omega (arith, e) })
    (edge-cases f p q h)
