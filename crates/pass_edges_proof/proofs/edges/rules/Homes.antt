-- The blocks of a function whose edges have blocks: each is one of the function, or that of an edge.
use Rattle.std.proofs.Common.{Bool, List, None, Option, Some, [], ap, arith, false, if◌then◌else◌, length, map, option_map, refl, subst, suc, sym, true, zero, ℕ, ⊎_elim, ◌++◌, ◌+◌, ◌-◌, ◌<◌, ◌==◌, ◌∙◌, ◌∷◌, ◌≡◌, ◌≤◌, ◌⊎◌, inl, inr}
use Rattle.std.proofs.lemmas.Bool.{cases_lt}
use Rattle.std.proofs.lemmas.List.{length-map}
use Rattle.std.proofs.lemmas.Option.{slice_get-map, slice_get_within}
use Rattle.std.specs.Prelude.{slice_get}
use Rattle.pass_early_proof.proofs.ir_laws.facts.local_rules.Woven.{other_number}
use Rattle.pass_edges_proof.proofs.edges.paths.Blocks.{number, own_number, place, place_apart, position_edge, spot, get_block, get_edge}
use Rattle.pass_edges_proof.proofs.edges.paths.Edges.{edge_apart, edges_of_block, target_named}
use Rattle.pass_edges_proof.proofs.edges.paths.Legs.{Leg, edges_by_legs, leg_edges, legs, numbered_at, targets_by_legs, term_numbered, term_split}
use Rattle.pass_edges_proof.specs.edges.paths.Labels.{AreSplit, IsSplit}
use Rattle.pass_early_proof.specs.ir_laws.paths.threads.Labels.{HasNamedLabels}
use Rattle.pass_edges_proof.specs.edges.paths.Spots.{behind_edges, block_and_edges, table_of}
use Rattle.pass_edges.specs.EdgeBlocks.{edge_block, split_block, split_blocks, with_edge_blocks}
use Rattle.pass_edges.specs.Edges.{block_edges, ends_in_suspend, is_split, phi_flags}
use Rattle.pass_edges.specs.declared.edge.Edge.{Edge}
use Rattle.pass_early_proof.specs.flow_solver.Paths.{IsListed}
use Rattle.ir_model.specs.declared.module.Block.{Block}
use Rattle.ir_model.specs.declared.module.Function.{Function}
use Rattle.pass_early_proof.specs.ir_paths.Paths.{targets}
use Rattle.pass_early_proof.proofs.ir_laws.facts.Lists.{get_behind, get_front, place_next, place_unique}
use Rattle.pass_early_proof.specs.run_laws.changed.Changed.{Each}

module _ (flags : List Bool) (table : List (List Edge)) where
  -- a block of the function, at the place to which it is moved
  pub record IsOwnIn (n : ℕ) (bs : List Block) (at : ℕ) (c : Block) : Type 0 where
    pub index : ℕ
    pub block : Block
    pub got : slice_get bs index ≡ Some block
    pub stands : at ≡ place flags table index n bs
    pub is : c ≡ split_block flags table (number flags table index n bs) block

  -- the block of an edge, behind the block from which the edge comes
  pub record IsEdgeIn (n : ℕ) (bs : List Block) (at : ℕ) (c : Block) : Type 0 where
    pub index : ℕ
    pub block : Block
    pub got : slice_get bs index ≡ Some block
    pub position : ℕ
    pub edge : Edge
    pub there : slice_get (block_edges flags (number flags table index n bs) block) position ≡ Some edge
    pub stands : at ≡ place flags table index n bs + suc position
    pub is : c ≡ edge_block edge

  of_edge : (n : ℕ) (b : Block) (bs : List Block) (at : ℕ) (c : Block) → slice_get (map edge_block (block_edges flags n b)) at ≡ Some c → IsEdgeIn n (b ∷ bs) (suc at) c
  of_edge n b bs at c e = on (slice_get (block_edges flags n b) at) refl (sym (slice_get-map edge_block (block_edges flags n b) at) ∙ e)
    where
      on : (o : Option Edge) → slice_get (block_edges flags n b) at ≡ o → option_map edge_block o ≡ Some c → IsEdgeIn n (b ∷ bs) (suc at) c
      on None d k = absurd (cc)
      on (Some x) d k =
          let same : edge_block x ≡ c = cc in
          let z : suc at ≡ 0 + suc at = omega arith in
          record { index = 0; block = b; got = refl; position = at; edge = x; there = d; stands = z; is = sym same }

  further : (n : ℕ) (b : Block) (bs : List Block) (j at : ℕ) (c : Block) → length (map edge_block (block_edges flags n b)) + j ≡ at → IsOwnIn (behind_edges flags n b) bs j c ⊎ IsEdgeIn (behind_edges flags n b) bs j c → IsOwnIn n (b ∷ bs) (suc at) c ⊎ IsEdgeIn n (b ∷ bs) (suc at) c
  further n b bs j at c same (inl x) =
      let s = x.stands in
      let z : suc at ≡ suc (length (map edge_block (block_edges flags n b))) + place flags table x.index (behind_edges flags n b) bs = omega (arith, same, s) in
      inl (record { index = suc x.index; block = x.block; got = x.got; stands = z; is = x.is })
  further n b bs j at c same (inr x) =
      let s = x.stands in
      let z : suc at ≡ suc (length (map edge_block (block_edges flags n b))) + place flags table x.index (behind_edges flags n b) bs + suc x.position = omega (arith, same, s) in
      inr (record { index = suc x.index; block = x.block; got = x.got; position = x.position; edge = x.edge; there = x.there; stands = z; is = x.is })

  pub block_home : (n : ℕ) (bs : List Block) (at : ℕ) (c : Block) → slice_get (split_blocks flags table n bs) at ≡ Some c → IsOwnIn n bs at c ⊎ IsEdgeIn n bs at c
  block_home n [] at c e = absurd (cc)
  block_home n (b ∷ bs) zero c e = let same : split_block flags table n b ≡ c = cc in inl (record { index = 0; block = b; got = refl; stands = refl; is = sym same })
  block_home n (b ∷ bs) (suc at) c e =
      let front : List Block = map edge_block (block_edges flags n b) in
      let rest : List Block = split_blocks flags table (behind_edges flags n b) bs in
      ⊎_elim
      (λ (lt : at < length front). inr (of_edge n b bs at c (sym (get_front front rest at lt) ∙ e)))
      (λ (ge : length front ≤ at).
      let j : ℕ = at - length front in
      let same : length front + j ≡ at = omega (arith, ge) in
      further n b bs j at c same (block_home (behind_edges flags n b) bs j c (sym (get_behind front rest j) ∙ ap (slice_get (front ++ rest)) same ∙ e)))
      (cases_lt at (length front))

-- ---- the same of a function

abbrev pub IsOwn : Function → ℕ → Block → Type 0
IsOwn f at c = IsOwnIn (phi_flags f) (table_of f) (length f.names) f.blocks at c

abbrev pub IsEdge : Function → ℕ → Block → Type 0
IsEdge f at c = IsEdgeIn (phi_flags f) (table_of f) (length f.names) f.blocks at c

-- what a block of the function becomes
abbrev pub own_block : Function → ℕ → Block → Block
own_block f k b = split_block (phi_flags f) (table_of f) (own_number f k) b

module _ (f : Function) where
  pub home : (at : ℕ) (c : Block) → slice_get (with_edge_blocks f).blocks at ≡ Some c → IsOwn f at c ⊎ IsEdge f at c
  home = block_home (phi_flags f) (table_of f) (length f.names) f.blocks

  pub own_there : (k : ℕ) (b : Block) → slice_get f.blocks k ≡ Some b → slice_get (with_edge_blocks f).blocks (spot f k) ≡ Some (own_block f k b)
  own_there k b e = get_block (phi_flags f) (table_of f) k (length f.names) f.blocks b e

  pub edge_there : (k : ℕ) (b : Block) (i : ℕ) (e : Edge) → slice_get f.blocks k ≡ Some b → slice_get (edges_of_block f k b) i ≡ Some e → slice_get (with_edge_blocks f).blocks (spot f k + suc i) ≡ Some (edge_block e)
  edge_there k b i e there got = get_edge (phi_flags f) (table_of f) k (length f.names) f.blocks b i e there got

  pub spots_apart : (k l : ℕ) → spot f k ≡ spot f l → k ≡ l
  spots_apart k l e = place_apart (phi_flags f) (table_of f) k l (length f.names) f.blocks e

  -- the entry stays the first block, and no other one becomes it
  pub entry_same : (k : ℕ) → (spot f k == 0) ≡ (k == 0)
  entry_same zero = refl
  entry_same (suc k) =
      other_number (spot f (suc k)) 0 (λ e. let none : suc k ≡ 0 = spots_apart (suc k) 0 e in absurd (omega (arith, none)))
      ∙ sym (other_number (suc k) 0 (λ e. absurd (omega (arith, e))))

  pub edge_behind : (k i : ℕ) → (spot f k + suc i == 0) ≡ false
  edge_behind k i = other_number (spot f k + suc i) 0 (λ e. absurd (omega (arith, e)))

  -- new labels are behind those of the function
  pub number_behind : (k : ℕ) → length f.names ≤ own_number f k
  number_behind k = rise k (length f.names) f.blocks
    where
      rise : (k n : ℕ) (bs : List Block) → n ≤ number (phi_flags f) (table_of f) k n bs
      rise zero n bs = omega arith
      rise (suc k) n [] = omega arith
      rise (suc k) n (x ∷ bs) = let again = rise k (behind_edges (phi_flags f) n x) bs in omega (arith, again)

  pub edge_from : (k : ℕ) (b : Block) (i : ℕ) (e : Edge) → slice_get (edges_of_block f k b) i ≡ Some e → (e.from ≡ b.label) × (e.label ≡ own_number f k + i)
  edge_from k b i e got = numbered_at b.label (own_number f k) (edges_of_block f k b) (term_numbered (phi_flags f) b.label (ends_in_suspend b.instrs) (own_number f k) b.term) i e got

  pub label_behind : (k : ℕ) (b : Block) (i : ℕ) (e : Edge) → slice_get (edges_of_block f k b) i ≡ Some e → length f.names ≤ e.label
  label_behind k b i e got =
      let is : e.label ≡ own_number f k + i = (edge_from k b i e got).1 in
      let low = number_behind k in
      omega (arith, is, low)

-- ---- where edges lead

leg_target : (flags : List Bool) (from n : ℕ) (xs : List Leg) (i : ℕ) (e : Edge) → slice_get (leg_edges flags from n xs) i ≡ Some e → IsListed e.target (map (λ (x : Leg). x.1) xs)
leg_target flags from n [] i e s = absurd (cc)
leg_target flags from n (x ∷ xs) i e s = on (is_split flags x.0 x.1) i s (leg_target flags from (n + 1) xs) (leg_target flags from n xs)
  where
    one : Edge
    one = record { from = from; target = x.1; label = n }

    on : (b : Bool) (i : ℕ) → slice_get ((if b then one ∷ [] else []) ++ leg_edges flags from (if b then n + 1 else n) xs) i ≡ Some e → ((j : ℕ) (d : Edge) → slice_get (leg_edges flags from (n + 1) xs) j ≡ Some d → IsListed d.target (map (λ (y : Leg). y.1) xs)) → ((j : ℕ) (d : Edge) → slice_get (leg_edges flags from n xs) j ≡ Some d → IsListed d.target (map (λ (y : Leg). y.1) xs)) → IsListed e.target (x.1 ∷ map (λ (y : Leg). y.1) xs)
    on true zero s more less = let same : one ≡ e = cc in inl (sym (ap (λ (y : Edge). y.target) same))
    on true (suc j) s more less = inr (more j e s)
    on false i s more less = inr (less i e s)

-- an edge leads to a target of the block from which it comes
pub edge_target : (f : Function) (k : ℕ) (b : Block) (i : ℕ) (e : Edge) → slice_get (edges_of_block f k b) i ≡ Some e → IsListed e.target (targets b.term)
edge_target f k b i e s =
    let resumes : Bool = ends_in_suspend b.instrs in
    subst (IsListed e.target) (sym (targets_by_legs (phi_flags f) b.label resumes b.term))
    (leg_target (phi_flags f) b.label (own_number f k) (legs resumes b.term) i e
    (ap (λ (es : List Edge). slice_get es i) (sym (edges_by_legs (phi_flags f) b.label resumes (own_number f k) b.term)) ∙ s))

-- a label in a list of the labels to which edges lead then
pub record IsHome (flags : List Bool) (from : ℕ) (edges : List Edge) (ts : List ℕ) (at l : ℕ) : Type 0 where
  pub target : ℕ
  pub got : slice_get ts at ≡ Some target
  pub split : IsSplit flags from edges target l

pub split_at : (flags : List Bool) (from : ℕ) (edges : List Edge) (ts ls : List ℕ) → AreSplit flags from edges ts ls → (at l : ℕ) → slice_get ls at ≡ Some l → IsHome flags from edges ts at l
split_at flags from edges [] [] h at l e = absurd (cc)
split_at flags from edges [] (x ∷ ls) h at l e = absurd h
split_at flags from edges (t ∷ ts) [] h at l e = absurd h
split_at flags from edges (t ∷ ts) (x ∷ ls) h zero l e = let same : x ≡ l = cc in record { target = t; got = refl; split = subst (IsSplit flags from edges t) same h.0 }
split_at flags from edges (t ∷ ts) (x ∷ ls) h (suc at) l e = let y = split_at flags from edges ts ls h.1 at l e in record { target = y.target; got = y.got; split = y.split }

-- what a target of the function's block has become
abbrev pub IsTarget : Function → ℕ → Block → ℕ → ℕ → Type 0
IsTarget f k b at l = IsHome (phi_flags f) b.label (edges_of_block f k b) (targets b.term) at l

pub target_home : (f : Function) (k : ℕ) (b : Block) (at l : ℕ) → slice_get (targets (own_block f k b).term) at ≡ Some l → IsTarget f k b at l
target_home f k b at l e =
    split_at (phi_flags f) b.label (edges_of_block f k b) (targets b.term) (targets (own_block f k b).term)
    (term_split (phi_flags f) b.label (ends_in_suspend b.instrs) (own_number f k) b.term) at l e

-- ---- places behind blocks

module _ (f : Function) where
  within : (k : ℕ) (b : Block) (i : ℕ) (e : Edge) → slice_get f.blocks k ≡ Some b → slice_get (edges_of_block f k b) i ≡ Some e → spot f k + suc i < spot f (suc k)
  within k b i e there got =
      let next = place_next (block_and_edges (phi_flags f) (table_of f)) (behind_edges (phi_flags f)) k (length f.names) f.blocks b there in
      let len : length (map edge_block (edges_of_block f k b)) ≡ length (edges_of_block f k b) = length-map (edges_of_block f k b) edge_block in
      let lt = slice_get_within (edges_of_block f k b) i e got in
      omega (arith, next, len, lt)

  -- the blocks of edges of different blocks are apart
  pub edge_spots : (k l : ℕ) (b c : Block) (i j : ℕ) (e d : Edge) → slice_get f.blocks k ≡ Some b → slice_get (edges_of_block f k b) i ≡ Some e → slice_get f.blocks l ≡ Some c → slice_get (edges_of_block f l c) j ≡ Some d → spot f k + suc i ≡ spot f l + suc j → k ≡ l
  edge_spots k l b c i j e d there got here had same =
      let a = within k b i e there got in
      let z = within l c j d here had in
      place_unique (block_and_edges (phi_flags f) (table_of f)) (behind_edges (phi_flags f)) k l (length f.names) (spot f k + suc i) f.blocks
      (omega arith) (omega (arith, a)) (omega (arith, same)) (omega (arith, z, same))

  -- and apart from the blocks of the function
  pub spots_no_edge : (named : HasNamedLabels f) (k : ℕ) (b : Block) (i : ℕ) (e : Edge) → slice_get f.blocks k ≡ Some b → slice_get (edges_of_block f k b) i ≡ Some e → (j : ℕ) → spot f j ≡ spot f k + suc i → ⊥
  spots_no_edge named k b i e there got j same =
      edge_apart f named k b i e there got (record { block = j; at = 0 })
      (ap (λ (n : ℕ). record { block = n; at = 0 }) (position_edge f named k b i e there got ∙ sym same))

-- ---- targets

listed_low : (least : ℕ) (ts : List ℕ) (t : ℕ) → Each (λ x. x < least) ts → IsListed t ts → t < least
listed_low least [] t h l = absurd l
listed_low least (x ∷ ts) t h (inl e) = let lt : x < least = h.0 in omega (arith, lt, e)
listed_low least (x ∷ ts) t h (inr l) = listed_low least ts t h.1 l

-- the labels of terminators are names
pub target_low : (f : Function) (named : HasNamedLabels f) (k : ℕ) (b : Block) (t : ℕ) → slice_get f.blocks k ≡ Some b → IsListed t (targets b.term) → t < length f.names
target_low f named k b t there l = listed_low (length f.names) (targets b.term) t (target_named f named k b there) l
