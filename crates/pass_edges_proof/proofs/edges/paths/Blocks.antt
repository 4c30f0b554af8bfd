-- The blocks of a function whose edges have blocks, and where labels are found.
use Rattle.std.proofs.Common.{◌≡◌, ℕ, zero, suc, ◌+◌, ◌<◌, ◌≤◌, ◌⊎◌, inl, inr, Bool, true, false, List, [], ◌∷◌, ◌++◌, length, refl, sym, ap, ◌∙◌, arith}
use Rattle.std.proofs.lemmas.List.{length-map}
use Rattle.std.proofs.lemmas.Option.{slice_get-map, slice_get_past, slice_get_within}
use Rattle.std.specs.Prelude.{Some, None, Option, map, option_map, slice_get, unwrap_or, if◌then◌else◌, ◌==◌}
use Rattle.pass_edges.specs.EdgeBlocks.{edge_block, split_block, split_blocks, with_edge_blocks}
use Rattle.pass_edges.specs.Edges.{block_edges, ends_in_suspend, phi_flags}
use Rattle.pass_edges.specs.declared.edge.Edge.{Edge}
use Rattle.ir_model.specs.Names.{first_where, position_of}
use Rattle.ir_model.specs.declared.module.Block.{Block}
use Rattle.ir_model.specs.declared.module.Function.{Function}
use Rattle.pass_early_proof.proofs.ir_paths.Search.{eq_from, eq_itself}
use Rattle.pass_early_proof.proofs.ir_laws.facts.Lists.{get_expanded, none_past, place_beyond, place_end, place_unique}
use Rattle.pass_early_proof.specs.ir_laws.facts.expanded.Expansion.{expanded, number_at, place_of}
use Rattle.pass_early_proof.specs.run_laws.changed.Changed.{Each}
use Rattle.pass_edges_proof.proofs.edges.paths.Legs.{AreNumbered, numbered_at, term_numbered}
use Rattle.pass_early_proof.specs.ir_laws.paths.threads.Labels.{HasLabelsBelow, HasNamedLabels}
use Rattle.pass_edges_proof.specs.edges.paths.Spots.{behind_edges, block_and_edges, moved, table_of}
use Rattle.pass_early_proof.specs.ir_paths.Paths.{entry_point}

-- ---- first positions

-- behind elements that all fail
pub first_behind : {A : Type 0} (test : A → Bool) (xs ys : List A) → Each (λ x. test x ≡ false) xs → first_where test (xs ++ ys) ≡ option_map (λ j. length xs + j) (first_where test ys)
first_behind test [] ys h = on (first_where test ys)
  where
    on : (o : Option ℕ) → o ≡ option_map (λ j. 0 + j) o
    on None = refl
    on (Some j) = let z : j ≡ 0 + j = omega arith in ap (λ (k : ℕ). Some k) z
first_behind test (x ∷ xs) ys h =
    ap (λ (b : Bool). if b then Some 0 else option_map suc (first_where test (xs ++ ys))) h.0
    ∙ ap (option_map suc) (first_behind test xs ys h.1)
    ∙ on (first_where test ys)
  where
    on : (o : Option ℕ) → option_map suc (option_map (λ j. length xs + j) o) ≡ option_map (λ j. suc (length xs) + j) o
    on None = refl
    on (Some j) = let z : suc (length xs + j) ≡ suc (length xs) + j = omega arith in ap (λ (k : ℕ). Some k) z

not_equal : (a b : ℕ) → (a ≡ b → ⊥) → (a == b) ≡ false
not_equal a b h = on (a == b) refl
  where
    on : (t : Bool) → (a == b) ≡ t → (a == b) ≡ false
    on true e = absurd (h (eq_from a b e))
    on false e = e

-- among the blocks of numbered edges
edges_fail : (from n label : ℕ) (es : List Edge) → AreNumbered from n es → (label < n) ⊎ (n + length es ≤ label) → Each (λ (b : Block). (b.label == label) ≡ false) (map edge_block es)
edges_fail from n label [] h far = tt
edges_fail from n label (e ∷ es) h far = (not_equal e.label label (apart far), edges_fail from (suc n) label es h.2 (further far))
  where
    apart : (label < n) ⊎ (n + suc (length es) ≤ label) → e.label ≡ label → ⊥
    apart (inl lt) s = let d = h.1 in omega (arith, d, s, lt)
    apart (inr le) s = let d = h.1 in omega (arith, d, s, le)

    further : (label < n) ⊎ (n + suc (length es) ≤ label) → (label < suc n) ⊎ (suc n + length es ≤ label)
    further (inl lt) = inl (omega arith)
    further (inr le) = inr (omega arith)

edge_first : (from n : ℕ) (es : List Edge) (rest : List Block) → AreNumbered from n es → (i : ℕ) → i < length es → first_where (λ (b : Block). b.label == (n + i)) (map edge_block es ++ rest) ≡ Some i
edge_first from n [] rest h i lt = absurd (omega arith)
edge_first from n (e ∷ es) rest h zero lt =
    ap (λ (t : Bool). if t then Some 0 else option_map suc (first_where (λ (b : Block). b.label == (n + 0)) (map edge_block es ++ rest))) same
  where
    same : (e.label == (n + 0)) ≡ true
    same = let d : e.label ≡ n + 0 = (let s = h.1 in omega (arith, s)) in ap (λ (k : ℕ). k == (n + 0)) d ∙ eq_itself (n + 0)
edge_first from n (e ∷ es) rest h (suc i) lt =
    ap (λ (t : Bool). if t then Some 0 else option_map suc (first_where (λ (b : Block). b.label == (n + suc i)) (map edge_block es ++ rest))) other
    ∙ ap (λ (k : ℕ). option_map suc (first_where (λ (b : Block). b.label == k) (map edge_block es ++ rest))) next
    ∙ ap (option_map suc) (edge_first from (suc n) es rest h.2 i (omega arith))
  where
    other : (e.label == (n + suc i)) ≡ false
    other = not_equal e.label (n + suc i) (λ s. let d = h.1 in omega (arith, d, s))

    next : n + suc i ≡ suc n + i
    next = omega arith

-- ---- the blocks as an expansion

module _ (flags : List Bool) (table : List (List Edge)) where
  abbrev grow : ℕ → Block → List Block
  grow n b = block_and_edges flags table n b

  abbrev after : ℕ → Block → ℕ
  after n b = behind_edges flags n b

  abbrev pub place : ℕ → ℕ → List Block → ℕ
  place k n bs = place_of (block_and_edges flags table) (behind_edges flags) k n bs

  abbrev pub number : ℕ → ℕ → List Block → ℕ
  number k n bs = number_at (block_and_edges flags table) (behind_edges flags) k n bs

  pub as_expansion : (n : ℕ) (bs : List Block) → split_blocks flags table n bs ≡ expanded (block_and_edges flags table) (behind_edges flags) n bs
  as_expansion n [] = refl
  as_expansion n (b ∷ bs) = ap (λ (xs : List Block). split_block flags table n b ∷ map edge_block (block_edges flags n b) ++ xs) (as_expansion (behind_edges flags n b) bs)

  -- each block stands at its place
  pub get_block : (k n : ℕ) (bs : List Block) (b : Block) → slice_get bs k ≡ Some b → slice_get (split_blocks flags table n bs) (place k n bs) ≡ Some (split_block flags table (number k n bs) b)
  get_block k n bs b e =
      let z : place k n bs ≡ place k n bs + 0 = omega arith in
      (λ i. slice_get (as_expansion n bs i) (z i))
      ∙ get_expanded (block_and_edges flags table) (behind_edges flags) k n bs b 0 e (omega arith)

  pub get_none : (k n : ℕ) (bs : List Block) → slice_get bs k ≡ None → slice_get (split_blocks flags table n bs) (place k n bs) ≡ None
  get_none k n bs e =
      ap (λ (xs : List Block). slice_get xs (place k n bs)) (as_expansion n bs)
      ∙ slice_get_past (expanded (block_and_edges flags table) (behind_edges flags) n bs) (place k n bs) (place_beyond (block_and_edges flags table) (behind_edges flags) k n bs (none_past bs k e))

  -- the blocks of its edges stand right behind it
  pub get_edge : (k n : ℕ) (bs : List Block) (b : Block) (i : ℕ) (e : Edge) → slice_get bs k ≡ Some b → slice_get (block_edges flags (number k n bs) b) i ≡ Some e → slice_get (split_blocks flags table n bs) (place k n bs + suc i) ≡ Some (edge_block e)
  get_edge k n bs b i e there got =
      let lt = slice_get_within (block_edges flags (number k n bs) b) i e got in
      let len : length (map edge_block (block_edges flags (number k n bs) b)) ≡ length (block_edges flags (number k n bs) b) = length-map (block_edges flags (number k n bs) b) edge_block in
      ap (λ (xs : List Block). slice_get xs (place k n bs + suc i)) (as_expansion n bs)
      ∙ get_expanded (block_and_edges flags table) (behind_edges flags) k n bs b (suc i) there (omega (arith, lt, len))
      ∙ slice_get-map edge_block (block_edges flags (number k n bs) b) i
      ∙ ap (option_map edge_block) got

  pub place_apart : (k l n : ℕ) (bs : List Block) → place k n bs ≡ place l n bs → k ≡ l
  place_apart k l n bs e =
      let a = further k in
      let b = further l in
      place_unique (block_and_edges flags table) (behind_edges flags) k l n (place k n bs) bs (omega arith) (omega (arith, a)) (omega (arith, e)) (omega (arith, b, e))
    where
      further : (j : ℕ) → place j n bs < place (suc j) n bs
      further j = rise j n bs
        where
          rise : (j n : ℕ) (bs : List Block) → place j n bs < place (suc j) n bs
          rise zero n [] = omega arith
          rise (suc j) n [] = omega arith
          rise zero n (b ∷ bs) = omega arith
          rise (suc j) n (b ∷ bs) = let again = rise j (behind_edges flags n b) bs in omega (arith, again)

  -- ---- labels

  -- a label of the function is found where it was
  pub first_label : (least n label : ℕ) (bs : List Block) → label < least → least ≤ n → first_where (λ (b : Block). b.label == label) (split_blocks flags table n bs) ≡ option_map (λ k. place k n bs) (first_where (λ (b : Block). b.label == label) bs)
  first_label least n label [] lt le = refl
  first_label least n label (b ∷ bs) lt le = on (b.label == label) (first_label least (behind_edges flags n b) label bs lt (omega arith))
    where
      fail : Each (λ (x : Block). (x.label == label) ≡ false) (map edge_block (block_edges flags n b))
      fail = edges_fail b.label n label (block_edges flags n b) (term_numbered flags b.label (ends_in_suspend b.instrs) n b.term) (inl (omega arith))

      shift : (o : Option ℕ) → option_map suc (option_map (λ j. length (map edge_block (block_edges flags n b)) + j) (option_map (λ k. place k (behind_edges flags n b) bs) o)) ≡ option_map (λ k. place k n (b ∷ bs)) (option_map suc o)
      shift None = refl
      shift (Some k) = let z : suc (length (map edge_block (block_edges flags n b)) + place k (behind_edges flags n b) bs) ≡ suc (length (map edge_block (block_edges flags n b))) + place k (behind_edges flags n b) bs = omega arith in ap (λ (j : ℕ). Some j) z

      on : (t : Bool) → first_where (λ (x : Block). x.label == label) (split_blocks flags table (behind_edges flags n b) bs) ≡ option_map (λ k. place k (behind_edges flags n b) bs) (first_where (λ (x : Block). x.label == label) bs) → (if t then Some 0 else option_map suc (first_where (λ (x : Block). x.label == label) (map edge_block (block_edges flags n b) ++ split_blocks flags table (behind_edges flags n b) bs))) ≡ option_map (λ k. place k n (b ∷ bs)) (if t then Some 0 else option_map suc (first_where (λ (x : Block). x.label == label) bs))
      on true again = refl
      on false again =
          ap (option_map suc) (first_behind (λ (x : Block). x.label == label) (map edge_block (block_edges flags n b)) (split_blocks flags table (behind_edges flags n b) bs) fail
          ∙ ap (option_map (λ j. length (map edge_block (block_edges flags n b)) + j)) again)
          ∙ shift (first_where (λ (x : Block). x.label == label) bs)

  -- an edge's label is found at the edge's block
  pub first_edge : (least k n : ℕ) (bs : List Block) (b : Block) (i : ℕ) → least ≤ n → Each (HasLabelsBelow least) bs → slice_get bs k ≡ Some b → i < length (block_edges flags (number k n bs) b) → first_where (λ (x : Block). x.label == (number k n bs + i)) (split_blocks flags table n bs) ≡ Some (place k n bs + suc i)
  first_edge least k n [] b i le h e lt = absurd (cc)
  first_edge least zero n (c ∷ bs) b i le h e lt = on (cc)
    where
      on : c ≡ b → first_where (λ (x : Block). x.label == (n + i)) (split_blocks flags table n (c ∷ bs)) ≡ Some (0 + suc i)
      on s =
          let len : length (block_edges flags n c) ≡ length (block_edges flags n b) = ap (λ (x : Block). length (block_edges flags n x)) s in
          ap (λ (t : Bool). if t then Some 0 else option_map suc (first_where (λ (x : Block). x.label == (n + i)) (map edge_block (block_edges flags n c) ++ split_blocks flags table (behind_edges flags n c) bs))) (not_equal c.label (n + i) (λ d. let below = h.0.label in omega (arith, d, below, le)))
          ∙ ap (option_map suc) (edge_first c.label n (block_edges flags n c) (split_blocks flags table (behind_edges flags n c) bs) (term_numbered flags c.label (ends_in_suspend c.instrs) n c.term) i (omega (arith, len, lt)))
          ∙ ap (λ (j : ℕ). Some j) last
        where
          last : suc i ≡ 0 + suc i
          last = omega arith
  first_edge least (suc k) n (c ∷ bs) b i le h e lt =
      ap (λ (t : Bool). if t then Some 0 else option_map suc (first_where (λ (x : Block). x.label == label) (map edge_block (block_edges flags n c) ++ split_blocks flags table (behind_edges flags n c) bs))) other
      ∙ ap (option_map suc) (first_behind (λ (x : Block). x.label == label) (map edge_block (block_edges flags n c)) (split_blocks flags table (behind_edges flags n c) bs) fail
      ∙ ap (option_map (λ j. length (map edge_block (block_edges flags n c)) + j)) (first_edge least k (behind_edges flags n c) bs b i (omega arith) h.1 e lt))
      ∙ ap (λ (j : ℕ). Some j) last
    where
      label : ℕ
      label = number k (behind_edges flags n c) bs + i

      rise : (k n : ℕ) (bs : List Block) → n ≤ number k n bs
      rise zero n bs = omega arith
      rise (suc k) n [] = omega arith
      rise (suc k) n (x ∷ bs) = let again = rise k (behind_edges flags n x) bs in omega (arith, again)

      other : (c.label == label) ≡ false
      other = let up = rise k (behind_edges flags n c) bs in not_equal c.label label (λ d. let below = h.0.label in omega (arith, d, below, le, up))

      fail : Each (λ (x : Block). (x.label == label) ≡ false) (map edge_block (block_edges flags n c))
      fail = let up = rise k (behind_edges flags n c) bs in edges_fail c.label n label (block_edges flags n c) (term_numbered flags c.label (ends_in_suspend c.instrs) n c.term) (inr (omega (arith, up)))

      last : suc (length (map edge_block (block_edges flags n c)) + (place k (behind_edges flags n c) bs + suc i)) ≡ place (suc k) n (c ∷ bs) + suc i
      last = omega arith

-- ---- the same of a function

module _ (f : Function) where
  abbrev g : Function
  g = with_edge_blocks f

  abbrev pub spot : ℕ → ℕ
  spot k = place (phi_flags f) (table_of f) k (length f.names) f.blocks

  abbrev pub own_number : ℕ → ℕ
  own_number k = number (phi_flags f) (table_of f) k (length f.names) f.blocks

  pub length_blocks : length (with_edge_blocks f).blocks ≡ spot (length f.blocks)
  length_blocks =
      ap length (as_expansion (phi_flags f) (table_of f) (length f.names) f.blocks)
      ∙ sym (place_end (block_and_edges (phi_flags f) (table_of f)) (behind_edges (phi_flags f)) (length f.names) f.blocks)

  pub position_moved : (label : ℕ) → label < length f.names → position_of (with_edge_blocks f) label ≡ spot (position_of f label)
  position_moved label lt =
      ap (λ (o : Option ℕ). unwrap_or o (length (with_edge_blocks f).blocks)) (first_label (phi_flags f) (table_of f) (length f.names) (length f.names) label f.blocks lt (omega arith))
      ∙ on (first_where (λ (b : Block). b.label == label) f.blocks)
    where
      on : (o : Option ℕ) → unwrap_or (option_map (λ k. spot k) o) (length (with_edge_blocks f).blocks) ≡ spot (unwrap_or o (length f.blocks))
      on None = length_blocks
      on (Some k) = refl

  pub position_edge : HasNamedLabels f → (k : ℕ) (b : Block) (i : ℕ) (e : Edge) → slice_get f.blocks k ≡ Some b → slice_get (block_edges (phi_flags f) (own_number k) b) i ≡ Some e → position_of (with_edge_blocks f) e.label ≡ spot k + suc i
  position_edge h k b i e there got =
      let s = numbered_at b.label (own_number k) (block_edges (phi_flags f) (own_number k) b) (term_numbered (phi_flags f) b.label (ends_in_suspend b.instrs) (own_number k) b.term) i e got in
      ap (position_of (with_edge_blocks f)) s.1
      ∙ ap (λ (o : Option ℕ). unwrap_or o (length (with_edge_blocks f).blocks)) (first_edge (phi_flags f) (table_of f) (length f.names) k (length f.names) f.blocks b i (omega arith) h there (slice_get_within (block_edges (phi_flags f) (own_number k) b) i e got))

  pub entry_moved : (label : ℕ) → label < length f.names → entry_point (with_edge_blocks f) label ≡ moved f (entry_point f label)
  entry_moved label lt = ap (λ (k : ℕ). record { block = k; at = 0 }) (position_moved label lt)
