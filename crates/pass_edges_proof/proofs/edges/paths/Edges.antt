-- The edges of a function, and those of the function whose edges have blocks.
use Rattle.std.proofs.Common.{◌≡◌, ℕ, zero, suc, ◌+◌, ◌<◌, ◌⊎◌, inl, inr, Bool, true, false, List, [], ◌∷◌, length, refl, sym, ap, ◌∙◌, subst, arith}
use Rattle.std.proofs.lemmas.List.{length-map}
use Rattle.std.proofs.lemmas.Option.{slice_get_within}
use Rattle.std.specs.Prelude.{Some, None, Option, map, nat_lt, slice_get, if◌then◌else◌, ◌==◌}
use Rattle.pass_edges.specs.EdgeBlocks.{edge_block, split_term, with_edge_blocks}
use Rattle.pass_edges.specs.Edges.{block_edges, ends_in_suspend, phi_flags}
use Rattle.pass_edges.specs.declared.edge.Edge.{Edge}
use Rattle.ir_model.specs.declared.module.Block.{Block}
use Rattle.ir_model.specs.declared.module.Function.{Function}
use Rattle.pass_early_proof.proofs.ir_paths.Search.{Has, either, or_left, or_right, same_point-itself, same_point-same}
use Rattle.pass_early_proof.specs.ir_paths.Paths.{entry_point, has_point, nexts, nexts_in, same_point, targets}
use Rattle.pass_early_proof.specs.ir_paths.declared.point.Point.{Point}
use Rattle.pass_early_proof.proofs.ir_laws.facts.Lists.{place_next, place_unique}
use Rattle.pass_early_proof.proofs.ir_laws.facts.Members.{at_each as each_at}
use Rattle.pass_early_proof.specs.run_laws.changed.Changed.{Each}
use Rattle.pass_edges_proof.proofs.edges.paths.Blocks.{entry_moved, get_block, get_edge, get_none, own_number, place, place_apart, position_edge, spot}
use Rattle.pass_edges_proof.proofs.edges.paths.Legs.{term_split}
use Rattle.pass_edges_proof.specs.edges.paths.Labels.{AreSplit, IsAmong, IsSplit}
use Rattle.pass_early_proof.specs.ir_laws.paths.threads.Labels.{HasLabelsBelow, HasNamedLabels}
use Rattle.pass_edges_proof.specs.edges.paths.Spots.{behind_edges, block_and_edges, moved, table_of}
use Rattle.pass_early_proof.specs.ir_laws.paths.threads.Threads.{AreThreads, IsBetween, IsOnEdge, LeadsOver}
use Rattle.pass_early_proof.proofs.ir_laws.paths.threads.Edges.{one_there, only_one}

module _ (f : Function) where
  abbrev g : Function
  g = with_edge_blocks f

  -- the edges with blocks of a block at a position
  abbrev pub edges_of_block : ℕ → Block → List Edge
  edges_of_block k b = block_edges (phi_flags f) (own_number f k) b

  abbrev pub Split : ℕ → Block → ℕ → ℕ → Type 0
  Split k b t l = IsSplit (phi_flags f) b.label (edges_of_block k b) t l

  -- ---- the block of an edge

  pub edge_spot : (named : HasNamedLabels f) (k : ℕ) (b : Block) (i : ℕ) (e : Edge) → slice_get f.blocks k ≡ Some b → slice_get (edges_of_block k b) i ≡ Some e → slice_get (with_edge_blocks f).blocks (entry_point (with_edge_blocks f) e.label).block ≡ Some (edge_block e)
  edge_spot named k b i e there got =
      ap (slice_get (with_edge_blocks f).blocks) (position_edge f named k b i e there got)
      ∙ get_edge (phi_flags f) (table_of f) k (length f.names) f.blocks b i e there got

  -- it leads to the edge's target alone
  nexts_edge : (named : HasNamedLabels f) (k : ℕ) (b : Block) (i : ℕ) (e : Edge) → slice_get f.blocks k ≡ Some b → slice_get (edges_of_block k b) i ≡ Some e → nexts (with_edge_blocks f) (entry_point (with_edge_blocks f) e.label) ≡ entry_point (with_edge_blocks f) e.target ∷ []
  nexts_edge named k b i e there got = ap (nexts_in (with_edge_blocks f) (entry_point (with_edge_blocks f) e.label)) (edge_spot named k b i e there got)

  -- and no block of the function is there
  pub edge_apart : (named : HasNamedLabels f) (k : ℕ) (b : Block) (i : ℕ) (e : Edge) → slice_get f.blocks k ≡ Some b → slice_get (edges_of_block k b) i ≡ Some e → (p : Point) → entry_point (with_edge_blocks f) e.label ≡ moved f p → ⊥
  edge_apart named k b i e there got p s =
      let at : spot f k + suc i ≡ spot f p.block = sym (position_edge f named k b i e there got) ∙ ap (λ (x : Point). x.block) s in
      let next = place_next (block_and_edges (phi_flags f) (table_of f)) (behind_edges (phi_flags f)) k (length f.names) f.blocks b there in
      let len : length (map edge_block (edges_of_block k b)) ≡ length (edges_of_block k b) = length-map (edges_of_block k b) edge_block in
      let lt = slice_get_within (edges_of_block k b) i e got in
      let rise = risen p.block in
      let same : k ≡ p.block =
      place_unique (block_and_edges (phi_flags f) (table_of f)) (behind_edges (phi_flags f)) k p.block (length f.names) (spot f k + suc i) f.blocks
      (omega arith) (omega (arith, next, len, lt)) (omega (arith, at)) (omega (arith, at, rise)) in
      let back : spot f k ≡ spot f p.block = ap (spot f) same in
      omega (arith, at, back)
    where
      risen : (j : ℕ) → spot f j < spot f (suc j)
      risen j = rise j (length f.names) f.blocks
        where
          rise : (j n : ℕ) (bs : List Block) → place (phi_flags f) (table_of f) j n bs < place (phi_flags f) (table_of f) (suc j) n bs
          rise zero n [] = omega arith
          rise (suc j) n [] = omega arith
          rise zero n (b ∷ bs) = omega arith
          rise (suc j) n (b ∷ bs) = let again = rise j (behind_edges (phi_flags f) n b) bs in omega (arith, again)

  -- the labels of a block's terminator are names
  pub target_named : HasNamedLabels f → (k : ℕ) (b : Block) → slice_get f.blocks k ≡ Some b → Each (λ t. t < length f.names) (targets b.term)
  target_named named k b there = (each_at (HasLabelsBelow (length f.names)) f.blocks k b named there).targets

  pub edge_between : (named : HasNamedLabels f) (k : ℕ) (b : Block) (e : Edge) → slice_get f.blocks k ≡ Some b → e.target < length f.names → IsAmong (edges_of_block k b) e → IsBetween (with_edge_blocks f) (moved f) (moved f (entry_point f e.target)) (entry_point (with_edge_blocks f) e.label)
  edge_between named k b e there lt among = record {
    next = record {
      edge = subst (λ (ps : List Point). Has ps (moved f (entry_point f e.target))) (sym nexts-are) (one_there (moved f (entry_point f e.target)));
      only = λ z h. only_one (moved f (entry_point f e.target)) z (subst (λ (ps : List Point). Has ps z) nexts-are h);
    };
    apart = edge_apart named k b among.at e there among.got;
  }
    where
      nexts-are : nexts (with_edge_blocks f) (entry_point (with_edge_blocks f) e.label) ≡ moved f (entry_point f e.target) ∷ []
      nexts-are = nexts_edge named k b among.at e there among.got ∙ ap (λ (x : Point). x ∷ []) (entry_moved f e.target lt)

  -- where an edge of the function leads then
  pub split_leads : (named : HasNamedLabels f) (k : ℕ) (b : Block) (t l : ℕ) → slice_get f.blocks k ≡ Some b → t < length f.names → Split k b t l → (entry_point (with_edge_blocks f) l ≡ moved f (entry_point f t)) ⊎ IsBetween (with_edge_blocks f) (moved f) (moved f (entry_point f t)) (entry_point (with_edge_blocks f) l)
  split_leads named k b t l there lt (inl d) = inl (ap (entry_point (with_edge_blocks f)) d.0 ∙ entry_moved f t lt)
  split_leads named k b t l there lt (inr among) = inr (edge_between named k b (record { from = b.label; target = t; label = l }) there lt among)

  -- ---- the edges of a terminator

  -- an edge to t that leads to l then
  pub record IsLeg (k : ℕ) (b : Block) (ts ls : List ℕ) (q y : Point) : Type 0 where
    pub target : ℕ
    pub label : ℕ
    pub below : target < length f.names
    pub split : Split k b target label
    pub from : q ≡ entry_point f target
    pub to : y ≡ entry_point (with_edge_blocks f) label
    pub there : Has (map (entry_point f) ts) (entry_point f target)
    pub new : Has (map (entry_point (with_edge_blocks f)) ls) (entry_point (with_edge_blocks f) label)

  further : (k : ℕ) (b : Block) (t l : ℕ) (ts ls : List ℕ) (q y : Point) → IsLeg k b ts ls q y → IsLeg k b (t ∷ ts) (l ∷ ls) q y
  further k b t l ts ls q y i = record {
    target = i.target;
    label = i.label;
    below = i.below;
    split = i.split;
    from = i.from;
    to = i.to;
    there = or_right (same_point (entry_point f i.target) (entry_point f t)) (has_point (map (entry_point f) ts) (entry_point f i.target)) i.there;
    new = or_right (same_point (entry_point (with_edge_blocks f) i.label) (entry_point (with_edge_blocks f) l)) (has_point (map (entry_point (with_edge_blocks f)) ls) (entry_point (with_edge_blocks f) i.label)) i.new;
  }

  nearest : (k : ℕ) (b : Block) (t l : ℕ) (ts ls : List ℕ) → t < length f.names → Split k b t l → IsLeg k b (t ∷ ts) (l ∷ ls) (entry_point f t) (entry_point (with_edge_blocks f) l)
  nearest k b t l ts ls lt s = record {
    target = t;
    label = l;
    below = lt;
    split = s;
    from = refl;
    to = refl;
    there = or_left (same_point (entry_point f t) (entry_point f t)) (has_point (map (entry_point f) ts) (entry_point f t)) (same_point-itself (entry_point f t));
    new = or_left (same_point (entry_point (with_edge_blocks f) l) (entry_point (with_edge_blocks f) l)) (has_point (map (entry_point (with_edge_blocks f)) ls) (entry_point (with_edge_blocks f) l)) (same_point-itself (entry_point (with_edge_blocks f) l));
  }

  record LegFrom (k : ℕ) (b : Block) (ts ls : List ℕ) (q : Point) : Type 0 where
    pub point : Point
    pub leg : IsLeg k b ts ls q point

  pub record LegTo (k : ℕ) (b : Block) (ts ls : List ℕ) (y : Point) : Type 0 where
    pub point : Point
    pub leg : IsLeg k b ts ls point y

  abbrev pub Legs : ℕ → Block → List ℕ → List ℕ → Type 0
  Legs k b ts ls = AreSplit (phi_flags f) b.label (edges_of_block k b) ts ls

  leg_from : (k : ℕ) (b : Block) (ts ls : List ℕ) → Each (λ t. t < length f.names) ts → Legs k b ts ls → (q : Point) → Has (map (entry_point f) ts) q → LegFrom k b ts ls q
  leg_from k b [] [] low split q h = absurd (cc)
  leg_from k b [] (l ∷ ls) low split q h = absurd split
  leg_from k b (t ∷ ts) [] low split q h = absurd split
  leg_from k b (t ∷ ts) (l ∷ ls) low split q h = on (leg_from k b ts ls low.1 split.1 q) (either (same_point q (entry_point f t)) (has_point (map (entry_point f) ts) q) h)
    where
      on : (Has (map (entry_point f) ts) q → LegFrom k b ts ls q) → (same_point q (entry_point f t) ≡ true) ⊎ Has (map (entry_point f) ts) q → LegFrom k b (t ∷ ts) (l ∷ ls) q
      on again (inl e) =
          let s = same_point-same q (entry_point f t) e in
          record { point = entry_point (with_edge_blocks f) l; leg = subst (λ (x : Point). IsLeg k b (t ∷ ts) (l ∷ ls) x (entry_point (with_edge_blocks f) l)) (sym s) (nearest k b t l ts ls low.0 split.0) }
      on again (inr m) = let i = again m in record { point = i.point; leg = further k b t l ts ls q i.point i.leg }

  pub leg_to : (k : ℕ) (b : Block) (ts ls : List ℕ) → Each (λ t. t < length f.names) ts → Legs k b ts ls → (y : Point) → Has (map (entry_point (with_edge_blocks f)) ls) y → LegTo k b ts ls y
  leg_to k b [] [] low split y h = absurd (cc)
  leg_to k b [] (l ∷ ls) low split y h = absurd split
  leg_to k b (t ∷ ts) [] low split y h = absurd split
  leg_to k b (t ∷ ts) (l ∷ ls) low split y h = on (leg_to k b ts ls low.1 split.1 y) (either (same_point y (entry_point (with_edge_blocks f) l)) (has_point (map (entry_point (with_edge_blocks f)) ls) y) h)
    where
      on : (Has (map (entry_point (with_edge_blocks f)) ls) y → LegTo k b ts ls y) → (same_point y (entry_point (with_edge_blocks f) l) ≡ true) ⊎ Has (map (entry_point (with_edge_blocks f)) ls) y → LegTo k b (t ∷ ts) (l ∷ ls) y
      on again (inl e) =
          let s = same_point-same y (entry_point (with_edge_blocks f) l) e in
          record { point = entry_point f t; leg = subst (λ (x : Point). IsLeg k b (t ∷ ts) (l ∷ ls) (entry_point f t) x) (sym s) (nearest k b t l ts ls low.0 split.0) }
      on again (inr m) = let i = again m in record { point = i.point; leg = further k b t l ts ls i.point y i.leg }

  -- ---- all edges

  abbrev pub new_term : ℕ → Block → List ℕ
  new_term k b = targets (split_term (phi_flags f) (ends_in_suspend b.instrs) (own_number f k) b.term)

  pub legs_of_block : (k : ℕ) (b : Block) → Legs k b (targets b.term) (new_term k b)
  legs_of_block k b = term_split (phi_flags f) b.label (ends_in_suspend b.instrs) (own_number f k) b.term

  abbrev pub nexts_by : Function → ℕ → ℕ → ℕ → List ℕ → List Point
  nexts_by h k at len ts =
      if nat_lt at len then record { block = k; at = at + 1 } ∷ []
      else if at == len then map (entry_point h) ts
      else []

  pub moved_nexts : (p : Point) (b : Block) → slice_get f.blocks p.block ≡ Some b → nexts (with_edge_blocks f) (moved f p) ≡ nexts_by (with_edge_blocks f) (spot f p.block) p.at (length b.instrs) (new_term p.block b)
  moved_nexts p b e = ap (nexts_in (with_edge_blocks f) (moved f p)) (get_block (phi_flags f) (table_of f) p.block (length f.names) f.blocks b e)

  none_nexts : (p : Point) → slice_get f.blocks p.block ≡ None → nexts (with_edge_blocks f) (moved f p) ≡ []
  none_nexts p e = ap (nexts_in (with_edge_blocks f) (moved f p)) (get_none (phi_flags f) (table_of f) p.block (length f.names) f.blocks e)

  leads_moved : (x q : Point) → Has (nexts (with_edge_blocks f) x) (moved f q) → LeadsOver (with_edge_blocks f) (moved f) x (moved f q)
  leads_moved x q h = record { first = moved f q; edge = h; is = inl refl }

  pub moved_apart : (p q : Point) → moved f p ≡ moved f q → p ≡ q
  moved_apart p q e =
      let block = place_apart (phi_flags f) (table_of f) p.block q.block (length f.names) f.blocks (ap (λ (x : Point). x.block) e) in
      let at = ap (λ (x : Point). x.at) e in
      λ i. record { block = block i; at = at i }

  module _ (named : HasNamedLabels f) where
    forth_by : (k at : ℕ) (b : Block) → slice_get f.blocks k ≡ Some b → (s t : Bool) (q : Point) → Has (if s then record { block = k; at = at + 1 } ∷ [] else if t then map (entry_point f) (targets b.term) else []) q → (ps : List Point) → ps ≡ (if s then record { block = spot f k; at = at + 1 } ∷ [] else if t then map (entry_point (with_edge_blocks f)) (new_term k b) else []) → (x : Point) → nexts (with_edge_blocks f) x ≡ ps → LeadsOver (with_edge_blocks f) (moved f) x (moved f q)
    forth_by k at b e true t q h ps d x n =
        let s = only_one (record { block = k; at = at + 1 }) q h in
        subst (λ (y : Point). LeadsOver (with_edge_blocks f) (moved f) x (moved f y)) (sym s)
        (leads_moved x (record { block = k; at = at + 1 }) (subst (λ (zs : List Point). Has zs (record { block = spot f k; at = at + 1 })) (sym (n ∙ d)) (one_there (record { block = spot f k; at = at + 1 }))))
    forth_by k at b e false true q h ps d x n = on (leg_from k b (targets b.term) (new_term k b) (target_named named k b e) (legs_of_block k b) q h)
      where
        on : LegFrom k b (targets b.term) (new_term k b) q → LeadsOver (with_edge_blocks f) (moved f) x (moved f q)
        on l =
            subst (λ (y : Point). LeadsOver (with_edge_blocks f) (moved f) x (moved f y)) (sym l.leg.from)
            (record {
              first = entry_point (with_edge_blocks f) l.leg.label;
              edge = subst (λ (zs : List Point). Has zs (entry_point (with_edge_blocks f) l.leg.label)) (sym (n ∙ d)) l.leg.new;
              is = split_leads named k b l.leg.target l.leg.label e l.leg.below l.leg.split;
            })
    forth_by k at b e false false q h ps d x n = absurd (cc)

    forth_in : (p q : Point) (o : Option Block) → slice_get f.blocks p.block ≡ o → Has (nexts_in f p o) q → LeadsOver (with_edge_blocks f) (moved f) (moved f p) (moved f q)
    forth_in p q None e h = absurd (cc)
    forth_in p q (Some b) e h =
        forth_by p.block p.at b e (nat_lt p.at (length b.instrs)) (p.at == length b.instrs) q h
        (nexts_by (with_edge_blocks f) (spot f p.block) p.at (length b.instrs) (new_term p.block b)) refl (moved f p) (moved_nexts p b e)

    home_by : (k at : ℕ) (b : Block) → slice_get f.blocks k ≡ Some b → (s t : Bool) (p y : Point) → nexts f p ≡ (if s then record { block = k; at = at + 1 } ∷ [] else if t then map (entry_point f) (targets b.term) else []) → Has (if s then record { block = spot f k; at = at + 1 } ∷ [] else if t then map (entry_point (with_edge_blocks f)) (new_term k b) else []) y → IsOnEdge f (with_edge_blocks f) (moved f) p y
    home_by k at b e true t p y n h =
        record {
          point = record { block = k; at = at + 1 };
          edge = subst (λ (zs : List Point). Has zs (record { block = k; at = at + 1 })) (sym n) (one_there (record { block = k; at = at + 1 }));
          is = inl (only_one (record { block = spot f k; at = at + 1 }) y h);
        }
    home_by k at b e false true p y n h = on (leg_to k b (targets b.term) (new_term k b) (target_named named k b e) (legs_of_block k b) y h)
      where
        on : LegTo k b (targets b.term) (new_term k b) y → IsOnEdge f (with_edge_blocks f) (moved f) p y
        on l =
            subst (IsOnEdge f (with_edge_blocks f) (moved f) p) (sym l.leg.to)
            (record {
              point = entry_point f l.leg.target;
              edge = subst (λ (zs : List Point). Has zs (entry_point f l.leg.target)) (sym n) l.leg.there;
              is = split_leads named k b l.leg.target l.leg.label e l.leg.below l.leg.split;
            })
    home_by k at b e false false p y n h = absurd (cc)

    home_in : (p y : Point) (o : Option Block) → slice_get f.blocks p.block ≡ o → Has (nexts (with_edge_blocks f) (moved f p)) y → IsOnEdge f (with_edge_blocks f) (moved f) p y
    home_in p y None e h = let none = subst (λ (zs : List Point). Has zs y) (none_nexts p e) h in absurd (cc)
    home_in p y (Some b) e h =
        home_by p.block p.at b e (nat_lt p.at (length b.instrs)) (p.at == length b.instrs) p y (ap (nexts_in f p) e)
        (subst (λ (zs : List Point). Has zs y) (moved_nexts p b e) h)

    -- points are moved apart, and edges lead over at most an edge's block
    pub threads : AreThreads f (with_edge_blocks f) (moved f)
    threads = record {
      apart = moved_apart;
      forth = λ p q h. forth_in p q (slice_get f.blocks p.block) refl h;
      home = λ p y h. home_in p y (slice_get f.blocks p.block) refl h;
    }
