-- Where edges have blocks, the resume and destroy edges of each suspend lead to blocks of their own.
use Rattle.std.proofs.Common.{Bool, List, Some, [], ap, arith, false, if◌then◌else◌, length, map, refl, subst, suc, sym, true, zero, ℕ, ⊎_elim, ◌++◌, ◌+◌, ◌<◌, ◌∙◌, ◌∷◌, ◌≡◌, ◌≤◌, ◌⊎◌, inl, inr, unwrap_or}
use Rattle.std.specs.Prelude.{slice_get}
use Rattle.pass_edges_proof.proofs.edges.paths.Blocks.{own_number, spot}
use Rattle.pass_edges_proof.proofs.edges.paths.Edges.{edge_spot, edges_of_block, target_named}
use Rattle.pass_edges_proof.proofs.edges.paths.Legs.{Leg, labels_by_legs, leg_labels, legs, targets_by_legs}
use Rattle.pass_edges_proof.proofs.edges.paths.Tables.{edge_among, labels_apart, one_edge}
use Rattle.pass_early_proof.specs.ir_laws.paths.threads.Labels.{HasNamedLabels}
use Rattle.pass_edges_proof.specs.edges.paths.Labels.{IsAmong}
use Rattle.pass_edges_proof.specs.edges.paths.Phis.{AreLabelsOnce}
use Rattle.pass_edges_proof.specs.edges.paths.Spots.{table_of}
use Rattle.pass_edges_proof.proofs.edges.rules.Homes.{IsEdge, IsOwn, edge_target, home, label_behind, number_behind, own_block, target_home, target_low}
use Rattle.pass_edges_proof.specs.edges.rules.Returns.{HaveOwnBlocks}
use Rattle.pass_early_proof.specs.ir_laws.paths.rows.Returns.{IsEnteredOnce, IsOwnBlock, LeadsFrom}
use Rattle.pass_edges.specs.EdgeBlocks.{edge_block, split_case, split_term, with_edge_blocks, split_cases}
use Rattle.pass_edges.specs.Edges.{after_edge, edge_to, ends_in_suspend, is_split, phi_flags, term_edges, case_edges}
use Rattle.pass_edges.specs.declared.edge.Edge.{Edge}
use Rattle.pass_early_proof.proofs.flow_solver.Lists.{listed_at}
use Rattle.ir_model.specs.declared.instr.Case.{Case}
use Rattle.ir_model.specs.declared.instr.Terminator.{Terminator}
use Rattle.ir_model.specs.declared.module.Block.{Block}
use Rattle.ir_model.specs.declared.module.Function.{Function}
use Rattle.ir_model.specs.declared.operand.Arg.{Arg}
use Rattle.pass_early_proof.specs.ir_paths.Paths.{targets}
use Rattle.pass_early_proof.proofs.ir_laws.facts.Lists.{get_behind}
use Rattle.pass_early_proof.specs.run_laws.changed.Changed.{Each}

-- ---- the edges of a suspend's switch

-- a case's edge has the next label
case_at : (flags : List Bool) (from n : ℕ) (cases : List Case) (j : ℕ) (c : Case) → slice_get (split_cases flags true n cases) j ≡ Some c → (t : ℕ) × (slice_get (case_edges flags true from n cases) j ≡ Some (record { from = from; target = t; label = c.target }))
case_at flags from n [] j c e = absurd (cc)
case_at flags from n (k ∷ cases) zero c e = let same : split_case flags true n k ≡ c = cc in (k.target, ap (λ (x : Case). Some (record { from = from; target = k.target; label = x.target })) same)
case_at flags from n (k ∷ cases) (suc j) c e = case_at flags from (n + 1) cases j c e

-- the labels of legs that are new stand once
module _ (flags : List Bool) (least : ℕ) where
  legs_low : (n l : ℕ) (xs : List Leg) (j : ℕ) → Each (λ t. t < least) (map (λ (x : Leg). x.1) xs) → slice_get (leg_labels flags least n xs) j ≡ Some l → (l < least) ⊎ (n ≤ l)
  legs_low n l [] j h e = absurd (cc)
  legs_low n l (x ∷ xs) j h e = on (is_split flags x.0 x.1) j e (legs_low (n + 1) l xs) (legs_low n l xs)
    where
      weaker : (l < least) ⊎ (n + 1 ≤ l) → (l < least) ⊎ (n ≤ l)
      weaker (inl lt) = inl lt
      weaker (inr le) = inr (omega (arith, le))

      on : (b : Bool) (j : ℕ) → slice_get ((if b then n else x.1) ∷ leg_labels flags least (if b then n + 1 else n) xs) j ≡ Some l → ((i : ℕ) → Each (λ t. t < least) (map (λ (y : Leg). y.1) xs) → slice_get (leg_labels flags least (n + 1) xs) i ≡ Some l → (l < least) ⊎ (n + 1 ≤ l)) → ((i : ℕ) → Each (λ t. t < least) (map (λ (y : Leg). y.1) xs) → slice_get (leg_labels flags least n xs) i ≡ Some l → (l < least) ⊎ (n ≤ l)) → (l < least) ⊎ (n ≤ l)
      on true zero s more less = let same : n ≡ l = cc in inr (omega (arith, same))
      on true (suc i) s more less = weaker (more i h.1 s)
      on false zero s more less = let same : x.1 ≡ l = cc in let lt : x.1 < least = h.0 in inl (omega (arith, same, lt))
      on false (suc i) s more less = less i h.1 s

  legs_once : (n l : ℕ) (xs : List Leg) (i j : ℕ) → least ≤ n → least ≤ l → Each (λ t. t < least) (map (λ (x : Leg). x.1) xs) → slice_get (leg_labels flags least n xs) i ≡ Some l → slice_get (leg_labels flags least n xs) j ≡ Some l → i ≡ j
  legs_once n l [] i j le new h d e = absurd (cc)
  legs_once n l (x ∷ xs) i j le new h d e = on (is_split flags x.0 x.1) i j d e (λ a b. legs_once (n + 1) l xs a b (omega (arith, le)) new h.1) (λ a b. legs_once n l xs a b le new h.1)
    where
      other : (j : ℕ) → slice_get (leg_labels flags least (n + 1) xs) j ≡ Some l → n ≡ l → ⊥
      other j s same = ⊎_elim (λ (lt : l < least). omega (arith, lt, new)) (λ (le : n + 1 ≤ l). omega (arith, le, same)) (legs_low (n + 1) l xs j h.1 s)

      first : x.1 ≡ l → ⊥
      first same = let lt : x.1 < least = h.0 in omega (arith, same, lt, new)

      on : (b : Bool) (i j : ℕ) → slice_get ((if b then n else x.1) ∷ leg_labels flags least (if b then n + 1 else n) xs) i ≡ Some l → slice_get ((if b then n else x.1) ∷ leg_labels flags least (if b then n + 1 else n) xs) j ≡ Some l → ((a b : ℕ) → slice_get (leg_labels flags least (n + 1) xs) a ≡ Some l → slice_get (leg_labels flags least (n + 1) xs) b ≡ Some l → a ≡ b) → ((a b : ℕ) → slice_get (leg_labels flags least n xs) a ≡ Some l → slice_get (leg_labels flags least n xs) b ≡ Some l → a ≡ b) → i ≡ j
      on b zero zero d e more less = refl
      on true zero (suc j) d e more less = absurd (other j e (cc))
      on true (suc i) zero d e more less = absurd (other i d (cc))
      on true (suc i) (suc j) d e more less = ap suc (more i j d e)
      on false zero (suc j) d e more less = absurd (first (cc))
      on false (suc i) zero d e more less = absurd (first (cc))
      on false (suc i) (suc j) d e more less = ap suc (less i j d e)

module _ (f : Function) (named : HasNamedLabels f) (once : AreLabelsOnce f) where
  -- the place of a new label among the targets of a block
  targets_once : (k : ℕ) (b : Block) (l i j : ℕ) → slice_get f.blocks k ≡ Some b → length f.names ≤ l → slice_get (targets (own_block f k b).term) i ≡ Some l → slice_get (targets (own_block f k b).term) j ≡ Some l → i ≡ j
  targets_once k b l i j there new d e =
      let resumes : Bool = ends_in_suspend b.instrs in
      let n : ℕ = own_number f k in
      let labels : targets (own_block f k b).term ≡ leg_labels (phi_flags f) (length f.names) n (legs resumes b.term) = labels_by_legs (phi_flags f) (length f.names) resumes n b.term in
      let low : Each (λ t. t < length f.names) (map (λ (x : Leg). x.1) (legs resumes b.term)) = subst (Each (λ t. t < length f.names)) (targets_by_legs (phi_flags f) (length f.names) resumes b.term) (target_named f named k b there) in
      legs_once (phi_flags f) (length f.names) n l (legs resumes b.term) i j (number_behind f k) new low
      (ap (λ (ls : List ℕ). slice_get ls i) (sym labels) ∙ d) (ap (λ (ls : List ℕ). slice_get ls j) (sym labels) ∙ e)

  -- a block that leads to a new label is one of the function, from which the edge with the label comes
  record ComesWith (at i l : ℕ) : Type 0 where
    index : ℕ
    block : Block
    got : slice_get f.blocks index ≡ Some block
    stands : at ≡ spot f index
    target : slice_get (targets (own_block f index block).term) i ≡ Some l
    edge : Edge
    among : IsAmong (edges_of_block f index block) edge
    from : edge.from ≡ block.label
    label : edge.label ≡ l

  comes_with : (at i l : ℕ) → length f.names ≤ l → LeadsFrom (with_edge_blocks f) at i l → ComesWith at i l
  comes_with at i l new x = ⊎_elim of_own of_edge (home f at x.block x.got)
    where
      of_own : IsOwn f at x.block → ComesWith at i l
      of_own y =
          let there : slice_get (targets (own_block f y.index y.block).term) i ≡ Some l = ap (λ (b : Block). slice_get (targets b.term) i) (sym y.is) ∙ x.target in
          let t = target_home f y.index y.block i l there in
          ⊎_elim
          (λ (z : (l ≡ t.target) × (unwrap_or (slice_get (phi_flags f) t.target) false ≡ false)). let low : t.target < length f.names = target_low f named y.index y.block t.target y.got (listed_at (targets y.block.term) i t.target t.got) in let same : l ≡ t.target = z.0 in absurd (omega (arith, low, same, new)))
          (λ (a : IsAmong (edges_of_block f y.index y.block) (record { from = y.block.label; target = t.target; label = l })). record { index = y.index; block = y.block; got = y.got; stands = y.stands; target = there; edge = record { from = y.block.label; target = t.target; label = l }; among = a; from = refl; label = refl })
          t.split

      of_edge : IsEdge f at x.block → ComesWith at i l
      of_edge y =
          let there : slice_get (y.edge.target ∷ []) i ≡ Some l = ap (λ (b : Block). slice_get (targets b.term) i) (sym y.is) ∙ x.target in
          let low : y.edge.target < length f.names = target_low f named y.index y.block y.edge.target y.got (edge_target f y.index y.block y.position y.edge y.there) in
          absurd (one i there low)
        where
          one : (i : ℕ) → slice_get (y.edge.target ∷ []) i ≡ Some l → y.edge.target < length f.names → ⊥
          one zero e lt = let same : y.edge.target ≡ l = cc in omega (arith, same, lt, new)
          one (suc i) e lt = absurd (cc)

  entered_once : (l : ℕ) → length f.names ≤ l → IsEnteredOnce (with_edge_blocks f) l
  entered_once l new k i m j a b =
      let x = comes_with k i l new a in
      let y = comes_with m j l new b in
      let same : x.edge ≡ y.edge = one_edge f x.edge y.edge (edge_among (phi_flags f) (table_of f) x.index (length f.names) f.blocks x.block x.edge x.got x.among) (edge_among (phi_flags f) (table_of f) y.index (length f.names) f.blocks y.block y.edge y.got y.among) (x.label ∙ sym y.label) in
      let labels : x.block.label ≡ y.block.label = sym x.from ∙ ap (λ (e : Edge). e.from) same ∙ y.from in
      let index : x.index ≡ y.index = labels_apart f once x.index y.index x.block y.block x.got y.got labels in
      let got : Some x.block ≡ Some y.block = sym x.got ∙ ap (slice_get f.blocks) index ∙ y.got in
      let block : x.block ≡ y.block = cc in (
        x.stands ∙ ap (spot f) index ∙ sym y.stands,
        targets_once x.index x.block l i j x.got new x.target ((λ n. slice_get (targets (own_block f (index n) (block n)).term) j) ∙ y.target),
      )

  -- the block of an edge
  edge_own : (k : ℕ) (b : Block) (i : ℕ) (e : Edge) → slice_get f.blocks k ≡ Some b → slice_get (edges_of_block f k b) i ≡ Some e → IsOwnBlock (with_edge_blocks f) e.label
  edge_own k b i e there got = record {
    block = edge_block e;
    got = edge_spot f named k b i e there got;
    is_label = refl;
    no_phis = refl;
    no_instrs = refl;
    next = e.target;
    jump = refl;
    once = entered_once e.label (label_behind f k b i e got);
  }

  own_cases : (k : ℕ) (b : Block) → slice_get f.blocks k ≡ Some b → ends_in_suspend b.instrs ≡ true → (arg : Arg) (default : ℕ) (cases : List Case) (j : ℕ) (c : Case) → (own_block f k b).term ≡ Terminator.Switch arg default cases → slice_get cases j ≡ Some c → IsOwnBlock (with_edge_blocks f) c.target
  own_cases k b there suspends arg default cases j c is got = on b.term refl (ap (λ (r : Bool). split_term (phi_flags f) r (own_number f k) b.term) (sym suspends) ∙ is)
    where
      on : (t : Terminator) → b.term ≡ t → split_term (phi_flags f) true (own_number f k) t ≡ Terminator.Switch arg default cases → IsOwnBlock (with_edge_blocks f) c.target
      on (Terminator.Switch a d ks) same s =
          let n : ℕ = after_edge (phi_flags f) false (own_number f k) d in
          let these : split_cases (phi_flags f) true n ks ≡ cases = cc in
          let x = case_at (phi_flags f) b.label n ks j c (ap (λ (zs : List Case). slice_get zs j) these ∙ got) in
          let e : Edge = record { from = b.label; target = x.0; label = c.target } in
          let front : List Edge = edge_to (phi_flags f) false b.label (own_number f k) d in
          let all : edges_of_block f k b ≡ front ++ case_edges (phi_flags f) true b.label n ks = (λ i. term_edges (phi_flags f) (suspends i) b.label (own_number f k) (same i)) in
          edge_own k b (length front + j) e there (ap (λ (es : List Edge). slice_get es (length front + j)) all ∙ get_behind front (case_edges (phi_flags f) true b.label n ks) j ∙ x.1)
      on (Terminator.Jump label) same s = absurd (cc)
      on (Terminator.Branch a l r) same s = absurd (cc)
      on (Terminator.Ret value) same s = absurd (cc)
      on Terminator.Unreachable same s = absurd (cc)

  pub have_own_blocks : HaveOwnBlocks (with_edge_blocks f)
  have_own_blocks k j b arg default cases c there suspends is got = ⊎_elim
      (λ (x : IsOwn f k b). own_cases x.index x.block x.got (ap (λ (y : Block). ends_in_suspend y.instrs) (sym x.is) ∙ suspends) arg default cases j c (ap (λ (y : Block). y.term) (sym x.is) ∙ is) got)
      (λ (x : IsEdge f k b). let no : Terminator.Jump x.edge.target ≡ Terminator.Switch arg default cases = ap (λ (y : Block). y.term) (sym x.is) ∙ is in absurd (cc))
      (home f k b there)
