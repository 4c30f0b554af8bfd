-- The values that cross suspends stay where edges have blocks.
use Rattle.std.proofs.Common.{Bool, List, None, Option, Some, [], ap, false, inl, inr, length, map, refl, subst, suc, sym, true, unwrap_or, ℕ, ⊎_elim, ◌++◌, ◌+◌, ◌∙◌, ◌∷◌, ◌≡◌, ◌⊎◌}
use Rattle.std.specs.List.{list_any}
use Rattle.std.specs.Prelude.{◌↔◌, slice_get}
use Rattle.pass_early_proof.proofs.ir_laws.paths.renamed.Outside.{where_pass}
use Rattle.pass_early_proof.specs.ir_laws.facts.renamed.Regular.{passes}
use Rattle.pass_early_proof.proofs.rule_laws.frames.alike_crossing.Crossing.{crossing_same}
use Rattle.pass_edges_proof.proofs.edges.paths.Blocks.{own_number, position_edge, spot}
use Rattle.pass_edges_proof.proofs.edges.paths.Edges.{edges_of_block}
use Rattle.pass_edges_proof.proofs.edges.paths.Points.{points_moved}
use Rattle.pass_edges_proof.proofs.edges.paths.Tables.{flag_at}
use Rattle.pass_edges_proof.proofs.edges.paths.Whole.{first_moved}
use Rattle.pass_early_proof.specs.ir_laws.paths.threads.Labels.{HasNamedLabels}
use Rattle.pass_edges_proof.specs.edges.paths.Labels.{IsSplit}
use Rattle.pass_edges_proof.specs.edges.paths.Phis.{AreLabelsOnce, ArePhisForEdges}
use Rattle.pass_edges_proof.specs.edges.paths.Spots.{behind_edges, moved, table_of}
use Rattle.pass_edges_proof.proofs.edges.rules.CaseLabels.{switch_split, switch_target}
use Rattle.pass_edges_proof.proofs.edges.rules.EdgeUses.{label_there, used_forth, used_home}
use Rattle.pass_early_proof.proofs.rule_laws.frames.rows.EdgeUses.{taken_by}
use Rattle.pass_edges_proof.proofs.edges.rules.Edges.{phis_there}
use Rattle.pass_edges_proof.proofs.edges.rules.Homes.{IsEdge, IsOwn, home, edge_spots, edge_target, own_block, own_there, spots_apart, spots_no_edge}
use Rattle.pass_edges_proof.proofs.edges.rules.Standing.{branch_forth, branch_home, fetch_edge, instr_forth, instr_home, jumps, leads_forth, leads_home, no_instr, only_target, phis_edge, phis_own, place_of_target, stand_alike, used_same}
use Rattle.pass_edges.specs.EdgeBlocks.{edge_block, split_blocks, split_phi, with_edge_blocks}
use Rattle.pass_edges.specs.Edges.{block_edges, edges_at, ends_in_suspend, has_phis, phi_flags}
use Rattle.pass_edges.specs.declared.edge.Edge.{Edge}
use Rattle.pass_early_proof.specs.ir_laws.facts.branches.MovedState.{IsSwitch}
use Rattle.pass_edges_proof.specs.edges.states.MovedState.{KeepsEdges}
use Rattle.pass_early_proof.specs.flow_solver.Paths.{IsListed}
use Rattle.ir_model.specs.Names.{position_of}
use Rattle.ir_model.specs.declared.instr.Instr.{Instr}
use Rattle.ir_model.specs.declared.instr.Phi.{Phi}
use Rattle.ir_model.specs.declared.module.Block.{Block}
use Rattle.ir_model.specs.declared.module.Function.{Function}
use Rattle.ir_model.specs.declared.operand.Intrinsic.{Intrinsic}
use Rattle.pass_early_proof.proofs.ir_paths.Search.{or_left, or_right, same_point-itself}
use Rattle.pass_early_proof.specs.ir_paths.Paths.{has_point, same_point, targets}
use Rattle.pass_early_proof.specs.ir_paths.Windows.{end_block, instr_at, instr_in, is_call_of, label_at, label_of_term}
use Rattle.pass_early_proof.specs.ir_paths.declared.point.Point.{Point}
use Rattle.pass_early_proof.specs.run_step.Step.{AtInstr, Fetched, Nowhere, fetch, fetch_in}
use Rattle.pass_early_proof.specs.frame_crossing.Crossing.{AreCrossing, Crosses, suspends_of}
use Rattle.pass_early_proof.specs.frame_crossing.EdgeUses.{IsUsedOn}
use Rattle.pass_early_proof.specs.frame_crossing.Paths.{BranchesTo, IsDefinedBefore, IsNeeded, IsNeededBehind, IsNeededFrom, IsOutside, phis_at, phis_in, used_by}
use Rattle.pass_early_proof.specs.frame_crossing.Paths.IsDefinedBefore.{ByInstr, ByParam, ByPhi}
use Rattle.pass_early_proof.specs.frame_crossing.Paths.IsNeeded.{Across, Next, OnEdge, Use}
use Rattle.pass_early_proof.specs.frame_crossing.Values.{blocks_defined, distinct, instrs_defined, is_token, params_defined, phis_defined, unless, values_of}

-- ---- the values

values_of_phis : (es : List Edge) (ps : List Phi) → phis_defined (map (split_phi es) ps) ≡ phis_defined ps
values_of_phis es [] = refl
values_of_phis es (p ∷ ps) = ap (λ (vs : List ℕ). unless (is_token p.ty) p.result ++ vs) (values_of_phis es ps)

values_behind : (es : List Edge) (rest : List Block) → blocks_defined (map edge_block es ++ rest) ≡ blocks_defined rest
values_behind [] rest = refl
values_behind (e ∷ es) rest = values_behind es rest

values_of_blocks : (flags : List Bool) (table : List (List Edge)) (n : ℕ) (bs : List Block) → blocks_defined (split_blocks flags table n bs) ≡ blocks_defined bs
values_of_blocks flags table n [] = refl
values_of_blocks flags table n (b ∷ bs) =
    let first = values_of_phis (edges_at table b.label) b.phis in
    let later = values_behind (block_edges flags n b) (split_blocks flags table (behind_edges flags n b) bs) ∙ values_of_blocks flags table (behind_edges flags n b) bs in
    λ k. first k ++ (instrs_defined b.instrs ++ later k)

values_stay : (f : Function) → values_of (with_edge_blocks f) ≡ values_of f
values_stay f = ap (λ (vs : List ℕ). distinct [] (params_defined f.params ++ vs)) (values_of_blocks (phi_flags f) (table_of f) (length f.names) f.blocks)

module _ (f : Function) (named : HasNamedLabels f) where
  abbrev g : Function
  g = with_edge_blocks f

  module _ (v : ℕ) where
    -- ---- definitions

    defined_forth : (b a : ℕ) → IsDefinedBefore f v b a → IsDefinedBefore g v (spot f b) a
    defined_forth b a (ByParam h l) = ByParam h (leads_forth f named b a 0 0 l)
    defined_forth b a (ByPhi c h l) = ByPhi (spot f c) (subst (IsListed v) (sym (phis_own f named c)) h) (leads_forth f named b a c 0 l)
    defined_forth b a (ByInstr c x i e r l) = ByInstr (spot f c) x i (instr_forth f c (fetch f c x) (fetch g (spot f c) x) (stand_alike f c x) i e) r (leads_forth f named b a c (x + 1) l)

    -- a block that makes something is one of the function
    by_own : (P : ℕ → Type 0) (c : ℕ) → ((k : ℕ) → c ≡ spot f k → P c) → ((k : ℕ) (b : Block) (i : ℕ) (e : Edge) → slice_get f.blocks k ≡ Some b → slice_get (edges_of_block f k b) i ≡ Some e → c ≡ spot f k + suc i → P c) → (slice_get g.blocks c ≡ None → P c) → P c
    by_own P c own edge nothing = on (slice_get g.blocks c) refl
      where
        on : (o : Option Block) → slice_get g.blocks c ≡ o → P c
        on None e = nothing e
        on (Some d) e = ⊎_elim
            (λ (x : IsOwn f c d). own x.index x.stands)
            (λ (x : IsEdge f c d). edge x.index x.block x.position x.edge x.got x.there x.stands)
            (home f c d e)

    defined_home : (b a : ℕ) → IsDefinedBefore g v (spot f b) a → IsDefinedBefore f v b a
    defined_home b a (ByParam h l) = ByParam h ((leads_home f named b a 0 0 l).own 0 refl)
    defined_home b a (ByPhi c h l) = by_own (λ n. IsDefinedBefore f v b a) c
        (λ k same. ByPhi k (subst (IsListed v) (ap (phis_at g) same ∙ phis_own f named k) h) ((leads_home f named b a c 0 l).own k same))
        (λ k d i e there got same. absurd (subst (IsListed v) (ap (phis_at g) same ∙ phis_edge f named k d i e there got) h))
        (λ none_there. absurd (subst (IsListed v) (ap phis_in none_there) h))
    defined_home b a (ByInstr c x j e r l) = by_own (λ n. IsDefinedBefore f v b a) c
        (λ k same. ByInstr k x j (instr_home f k (fetch f k x) (fetch g (spot f k) x) (stand_alike f k x) j (ap (λ (n : ℕ). fetch g n x) (sym same) ∙ e)) r ((leads_home f named b a c (x + 1) l).own k same))
        (λ k d i y there got same. absurd (no_instr f named k d i y there got c x j e same))
        (λ none_there. let no : Nowhere ≡ AtInstr j = sym (ap (λ (o : Option Block). fetch_in o x) none_there) ∙ e in absurd (cc))

    -- ---- needs

    module _ (once : AreLabelsOnce f) (for_edges : ArePhisForEdges f) where
      end_moved : end_block g ≡ spot f (end_block f)
      end_moved = first_moved (λ (b : Block). list_any (is_call_of Intrinsic.CoroEnd) b.instrs) f (λ flags table n b. refl) (λ e. refl)

      out_forth : (b : ℕ) → IsOutside f b → IsOutside g (spot f b)
      out_forth b out e = out (spots_apart f b (end_block f) (e ∙ end_moved))

      out_home : (b : ℕ) → IsOutside g (spot f b) → IsOutside f b
      out_home b out e = out (ap (spot f) e ∙ sym end_moved)

      out_edge : (k : ℕ) (b : Block) (i : ℕ) (e : Edge) → slice_get f.blocks k ≡ Some b → slice_get (edges_of_block f k b) i ≡ Some e → IsOutside g (spot f k + suc i)
      out_edge k b i e there got same = spots_no_edge f named k b i e there got (end_block f) (sym end_moved ∙ sym same)

      -- what is needed from an edge on, given what is where it leads
      abbrev NeededOn : ℕ → ℕ → Type 0
      NeededOn k t = IsUsedOn f v k (position_of f t) ⊎ ((IsListed v (phis_at f (position_of f t)) → ⊥) × IsNeeded g v (spot f (position_of f t)) 0)

      not_there : (t : ℕ) → (IsListed v (phis_at f (position_of f t)) → ⊥) → (x : ℕ) → x ≡ spot f (position_of f t) → IsListed v (phis_at g x) → ⊥
      not_there t n x same h = n (subst (IsListed v) (ap (phis_at g) same ∙ phis_own f named (position_of f t)) h)

      -- a label whose block has no phis has no uses on edges
      unused : (k t : ℕ) → unwrap_or (slice_get (phi_flags f) t) false ≡ false → IsUsedOn f v k (position_of f t) → ⊥
      unused k t flag used =
          let x = taken_by f v k (position_of f t) used in
          let label : x.block.label ≡ t = label_there f t (position_of f t) x.block refl x.got in
          let some : has_phis x.block.phis ≡ true = phis_there x.block.phis x.at x.phi x.stands in
          let no : true ≡ false = sym (sym (ap (λ (n : ℕ). unwrap_or (slice_get (phi_flags f) n) false) label) ∙ flag_at f once named (position_of f t) x.block x.got ∙ some) ∙ flag in
          absurd (cc)

      from_edge : (k : ℕ) (b : Block) (i : ℕ) (e : Edge) → slice_get f.blocks k ≡ Some b → slice_get (edges_of_block f k b) i ≡ Some e → NeededOn k e.target → IsNeeded g v (spot f k + suc i) 0
      from_edge k b i e there got (inl used) =
          OnEdge (spot f k + suc i) 0 e.target (out_edge k b i e there got) (jumps f named k b i e there got)
          (subst (IsUsedOn g v (spot f k + suc i)) (sym (place_of_target f named k b e.target there (edge_target f k b i e got))) (used_forth f named once for_edges v k b i e there got used))
      from_edge k b i e there got (inr h) =
          Across (spot f k + suc i) 0 e.target (out_edge k b i e there got) (jumps f named k b i e there got)
          (not_there e.target h.0 (position_of g e.target) (place_of_target f named k b e.target there (edge_target f k b i e got)))
          (subst (λ (n : ℕ). IsNeeded g v n 0) (sym (place_of_target f named k b e.target there (edge_target f k b i e got))) h.1)

      way_forth : (k : ℕ) (b : Block) (t l : ℕ) → slice_get f.blocks k ≡ Some b → IsListed t (targets b.term) → IsSplit (phi_flags f) b.label (edges_of_block f k b) t l → NeededOn k t → IsNeededFrom g v (spot f k) l
      way_forth k b t l there own (inl d) (inl used) = absurd (unused k t d.1 used)
      way_forth k b t l there own (inl d) (inr h) =
          let same : position_of g l ≡ spot f (position_of f t) = ap (position_of g) d.0 ∙ place_of_target f named k b t there own in
          inr (not_there t h.0 (position_of g l) same, subst (λ (n : ℕ). IsNeeded g v n 0) (sym same) h.1)
      way_forth k b t l there own (inr m) h =
          let e : Edge = record { from = b.label; target = t; label = l } in
          let same : position_of g l ≡ spot f k + suc m.at = position_edge f named k b m.at e there m.got in
          inr (
            (λ listed. absurd (subst (IsListed v) (ap (phis_at g) same ∙ phis_edge f named k b m.at e there m.got) listed)),
            subst (λ (n : ℕ). IsNeeded g v n 0) (sym same) (from_edge k b m.at e there m.got h),
          )

      -- a branch on a path to a use
      onward : (h : Function) (x a l : ℕ) → IsOutside h x → BranchesTo l (fetch h x a) → IsNeededFrom h v x l → IsNeeded h v x a
      onward h x a l out br (inl used) = OnEdge x a l out br used
      onward h x a l out br (inr k) = Across x a l out br k.0 k.1

      branch_needed : (b a t : ℕ) → IsOutside f b → BranchesTo t (fetch f b a) → NeededOn b t → IsNeeded g v (spot f b) a
      branch_needed b a t out br h =
          let x = branch_forth f b (fetch f b a) (fetch g (spot f b) a) (stand_alike f b a) t br in
          onward g (spot f b) a x.0 (out_forth b out) x.1.after (way_forth b x.1.block t x.0 x.1.there x.1.own x.1.split h)

      needed_forth : (b a : ℕ) → IsNeeded f v b a → IsNeeded g v (spot f b) a
      needed_forth _ _ (Use b a out u) = Use (spot f b) a (out_forth b out) (subst (IsListed v) (sym (used_same f b (fetch f b a) (fetch g (spot f b) a) (stand_alike f b a))) u)
      needed_forth _ _ (Next b a i out e n k) = Next (spot f b) a i (out_forth b out) (instr_forth f b (fetch f b a) (fetch g (spot f b) a) (stand_alike f b a) i e) n (needed_forth b (a + 1) k)
      needed_forth _ _ (OnEdge b a label out br u) = branch_needed b a label out br (inl u)
      needed_forth _ _ (Across b a label out br n k) = branch_needed b a label out br (inr (n, needed_forth (position_of f label) 0 k))

      -- what a need then says of the function
      record NeededFrom (x a : ℕ) : Type 0 where
        own : (b : ℕ) → x ≡ spot f b → IsNeeded f v b a
        edge : (k : ℕ) (b : Block) (i : ℕ) (e : Edge) → slice_get f.blocks k ≡ Some b → slice_get (edges_of_block f k b) i ≡ Some e → x ≡ spot f k + suc i → a ≡ 0 → IsNeededFrom f v k e.target

      not_before : (t x : ℕ) → x ≡ spot f (position_of f t) → (IsListed v (phis_at g x) → ⊥) → IsListed v (phis_at f (position_of f t)) → ⊥
      not_before t x same n h = n (subst (IsListed v) (sym (ap (phis_at g) same ∙ phis_own f named (position_of f t))) h)

      no_own_use : (b y : ℕ) → IsUsedOn g v (spot f b) y → ⊥
      no_own_use b y used = let w = used_home f named once v (spot f b) y used in spots_no_edge f named w.index w.block w.position w.edge w.got w.there b w.from

      edge_used : (k : ℕ) (b : Block) (i : ℕ) (e : Edge) → slice_get f.blocks k ≡ Some b → slice_get (edges_of_block f k b) i ≡ Some e → (x y : ℕ) → x ≡ spot f k + suc i → y ≡ spot f (position_of f e.target) → IsUsedOn g v x y → IsUsedOn f v k (position_of f e.target)
      edge_used k b i e there got x y from to used =
          let w = used_home f named once v x y used in
          let one : w.index ≡ k = edge_spots f w.index k w.block b w.position i w.edge e w.got w.there there got (sym w.from ∙ from) in
          let same : position_of f w.edge.target ≡ position_of f e.target = spots_apart f (position_of f w.edge.target) (position_of f e.target) (sym w.to ∙ to) in
          subst (λ (n : ℕ). IsUsedOn f v n (position_of f e.target)) one (subst (IsUsedOn f v w.index) same w.used)

      -- from a label on, given what is known of where it leads
      way_home : (k : ℕ) (b : Block) (t l : ℕ) → slice_get f.blocks k ≡ Some b → IsListed t (targets b.term) → IsSplit (phi_flags f) b.label (edges_of_block f k b) t l → (IsListed v (phis_at g (position_of g l)) → ⊥) → NeededFrom (position_of g l) 0 → IsNeededFrom f v k t
      way_home k b t l there own (inl d) n again =
          let same : position_of g l ≡ spot f (position_of f t) = ap (position_of g) d.0 ∙ place_of_target f named k b t there own in
          inr (not_before t (position_of g l) same n, again.own (position_of f t) same)
      way_home k b t l there own (inr m) n again =
          let e : Edge = record { from = b.label; target = t; label = l } in
          again.edge k b m.at e there m.got (position_edge f named k b m.at e there m.got) refl

      needed_home : (x a : ℕ) → IsNeeded g v x a → NeededFrom x a
      needed_home _ _ (Use x a out u) = record {
        own = λ b same. Use b a (out_home b (subst (IsOutside g) same out)) (subst (IsListed v) (ap (λ (n : ℕ). used_by (fetch g n a)) same ∙ used_same f b (fetch f b a) (fetch g (spot f b) a) (stand_alike f b a)) u);
        edge = λ k b i e there got same start. absurd (subst (λ (y : Fetched). IsListed v (used_by y)) ((λ j. fetch g (same j) (start j)) ∙ fetch_edge f named k b i e there got) u);
      }
      needed_home _ _ (Next x a i out e n k) = on (needed_home x (a + 1) k)
        where
          on : NeededFrom x (a + 1) → NeededFrom x a
          on again = record {
            own = λ b same. Next b a i (out_home b (subst (IsOutside g) same out)) (instr_home f b (fetch f b a) (fetch g (spot f b) a) (stand_alike f b a) i (ap (λ (m : ℕ). fetch g m a) (sym same) ∙ e)) n (again.own b same);
            edge = λ m b j d there got same start. absurd (no_instr f named m b j d there got x a i e same);
          }
      needed_home _ _ (OnEdge x a label out br u) = record {
        own = λ b same. absurd (no_own_use b (position_of g label) (subst (λ (n : ℕ). IsUsedOn g v n (position_of g label)) same u));
        edge = λ k b i e there got same start. inl (edge_used k b i e there got x (position_of g label) same (ap (position_of g) (only_target f named k b i e there got x a label br same start) ∙ place_of_target f named k b e.target there (edge_target f k b i e got)) u);
      }
      needed_home _ _ (Across x a label out br n k) = on (needed_home (position_of g label) 0 k)
        where
          on : NeededFrom (position_of g label) 0 → NeededFrom x a
          on again = record {
            own = λ b same.
                let y = branch_home f b (fetch f b a) (fetch g (spot f b) a) (stand_alike f b a) label (subst (λ (m : ℕ). BranchesTo label (fetch g m a)) same br) in
                onward f b a y.0 (out_home b (subst (IsOutside g) same out)) y.1.before (way_home b y.1.block y.0 label y.1.there y.1.own y.1.split n again);
            edge = λ m b i e there got same start.
                let to : position_of g label ≡ spot f (position_of f e.target) = ap (position_of g) (only_target f named m b i e there got x a label br same start) ∙ place_of_target f named m b e.target there (edge_target f m b i e got) in
                inr (not_before e.target (position_of g label) to n, again.own (position_of f e.target) to);
          }

      -- ---- suspends

      way_forth_from : (k : ℕ) (b : Block) (t l : ℕ) → slice_get f.blocks k ≡ Some b → IsListed t (targets b.term) → IsSplit (phi_flags f) b.label (edges_of_block f k b) t l → IsNeededFrom f v k t → IsNeededFrom g v (spot f k) l
      way_forth_from k b t l there own split (inl used) = way_forth k b t l there own split (inl used)
      way_forth_from k b t l there own split (inr h) = way_forth k b t l there own split (inr (h.0, needed_forth (position_of f t) 0 h.1))

      way_home_from : (k : ℕ) (b : Block) (t l : ℕ) → slice_get f.blocks k ≡ Some b → IsListed t (targets b.term) → IsSplit (phi_flags f) b.label (edges_of_block f k b) t l → IsNeededFrom g v (spot f k) l → IsNeededFrom f v k t
      way_home_from k b t l there own split (inl used) = absurd (no_own_use k (position_of g l) used)
      way_home_from k b t l there own split (inr h) = way_home k b t l there own split h.0 (needed_home (position_of g l) 0 h.1)

      module _ (s : Point) (b : Block) (there : slice_get f.blocks s.block ≡ Some b) (switch : IsSwitch b.term) where
        old_label : (n : ℕ) → label_at n (slice_get f.blocks s.block) ≡ label_of_term n b.term
        old_label n = ap (label_at n) there

        new_label : (n : ℕ) → label_at n (slice_get g.blocks (moved f s).block) ≡ label_of_term n (own_block f s.block b).term
        new_label n = ap (label_at n) (own_there f s.block b there)

        one_forth : (n : ℕ) → IsNeededFrom f v s.block (label_at n (slice_get f.blocks s.block)) → IsNeededFrom g v (moved f s).block (label_at n (slice_get g.blocks (moved f s).block))
        one_forth n h =
            subst (IsNeededFrom g v (moved f s).block) (sym (new_label n))
            (way_forth_from s.block b (label_of_term n b.term) (label_of_term n (own_block f s.block b).term) there (switch_target n b.term switch) (switch_split (phi_flags f) b.label (ends_in_suspend b.instrs) n (own_number f s.block) b.term switch)
            (subst (IsNeededFrom f v s.block) (old_label n) h))

        one_home : (n : ℕ) → IsNeededFrom g v (moved f s).block (label_at n (slice_get g.blocks (moved f s).block)) → IsNeededFrom f v s.block (label_at n (slice_get f.blocks s.block))
        one_home n h =
            subst (IsNeededFrom f v s.block) (sym (old_label n))
            (way_home_from s.block b (label_of_term n b.term) (label_of_term n (own_block f s.block b).term) there (switch_target n b.term switch) (switch_split (phi_flags f) b.label (ends_in_suspend b.instrs) n (own_number f s.block) b.term switch)
            (subst (IsNeededFrom g v (moved f s).block) (new_label n) h))

        behind_forth : IsNeededBehind f v s → IsNeededBehind g v (moved f s)
        behind_forth (inl h) = inl (one_forth 0 h)
        behind_forth (inr h) = inr (one_forth 1 h)

        behind_home : IsNeededBehind g v (moved f s) → IsNeededBehind f v s
        behind_home (inl h) = inl (one_home 0 h)
        behind_home (inr h) = inr (one_home 1 h)

        pub crosses_forth : Crosses f v s → Crosses g v (moved f s)
        crosses_forth c = record {
          is_value = subst (IsListed v) (sym (values_stay f)) c.is_value;
          defined = defined_forth s.block s.at c.defined;
          needed = behind_forth c.needed;
        }

        pub crosses_home : Crosses g v (moved f s) → Crosses f v s
        crosses_home c = record {
          is_value = subst (IsListed v) (values_stay f) c.is_value;
          defined = defined_home s.block s.at c.defined;
          needed = behind_home c.needed;
        }

-- ---- all of them

listed_has_point : (s : Point) (ss : List Point) → IsListed s ss → has_point ss s ≡ true
listed_has_point s [] l = absurd l
listed_has_point s (t ∷ ss) (inl e) = or_left (same_point s t) (has_point ss s) (ap (same_point s) (sym e) ∙ same_point-itself s)
listed_has_point s (t ∷ ss) (inr l) = or_right (same_point s t) (has_point ss s) (listed_has_point s ss l)

module _ (f : Function) (keeps : KeepsEdges f) where
  -- a suspend's block ends in a switch
  record EndsInSwitch (s : Point) : Type 0 where
    block : Block
    got : slice_get f.blocks s.block ≡ Some block
    switch : IsSwitch block.term

  suspend_switch : (s : Point) → IsListed s (suspends_of f) → EndsInSwitch s
  suspend_switch s l = on (instr_at f s) refl (where_pass (is_call_of Intrinsic.CoroSuspend) f s (listed_has_point s (suspends_of f) l))
    where
      in_block : (o : Option Block) → slice_get f.blocks s.block ≡ o → (i : Instr) → instr_in o s.at ≡ Some i → is_call_of Intrinsic.CoroSuspend i ≡ true → EndsInSwitch s
      in_block None e i d is = absurd (cc)
      in_block (Some b) e i d is = record { block = b; got = e; switch = keeps.switches s b i (ap (λ (p : Option Block). instr_in p s.at) e ∙ d) is e }

      on : (o : Option Instr) → instr_at f s ≡ o → passes (is_call_of Intrinsic.CoroSuspend) o ≡ true → EndsInSwitch s
      on None e h = absurd (cc)
      on (Some i) e h = in_block (slice_get f.blocks s.block) refl i e h

  pub crossing_stays : (all : List (ℕ × ℕ)) → AreCrossing f all ↔ AreCrossing (with_edge_blocks f) all
  crossing_stays = crossing_same f (with_edge_blocks f) (moved f) (record {
    values = values_stay f;
    suspends = points_moved (is_call_of Intrinsic.CoroSuspend) f;
    forth = λ v s here c. let x = suspend_switch s here in crosses_forth f keeps.labels v keeps.once keeps.phis s x.block x.got x.switch c;
    home = λ v s here c. let x = suspend_switch s here in crosses_home f keeps.labels v keeps.once keeps.phis s x.block x.got x.switch c;
  })
