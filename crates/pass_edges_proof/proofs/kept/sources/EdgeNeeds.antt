-- What is needed where edges have blocks is needed in the function.
use Rattle.std.proofs.Common.{◌≡◌, ◌<◌, inl, inr, ℕ, suc, ◌+◌, Bool, true, false, List, [], ◌∷◌, length, Option, Some, None, refl, sym, ap, ◌∙◌, subst}
use Rattle.std.specs.Prelude.{map, slice_get, unwrap_or, ◌==◌, ◌||◌}
use Rattle.pass_edges.specs.EdgeBlocks.{split_phi, with_edge_blocks}
use Rattle.pass_edges.specs.Edges.{edges_at, ends_in_suspend, has_phis, phi_flags}
use Rattle.pass_edges.specs.declared.edge.Edge.{Edge}
use Rattle.pass_early_proof.specs.flow_solver.Paths.{IsListed}
use Rattle.pass_edges_proof.proofs.edges.paths.Blocks.{get_none, own_number, position_edge, spot}
use Rattle.pass_edges_proof.proofs.edges.paths.Edges.{edges_of_block}
use Rattle.pass_edges_proof.proofs.edges.paths.Slots.{phi_taken, term_occurs as occurs_split}
use Rattle.pass_edges_proof.proofs.edges.paths.Tables.{flag_at}
use Rattle.pass_edges_proof.proofs.edges.rules.CaseLabels.{switch_split, switch_target}
use Rattle.pass_edges_proof.proofs.edges.rules.EdgeUses.{label_there}
use Rattle.pass_edges_proof.proofs.edges.rules.Homes.{edge_from, edge_target, edge_there, own_block, own_there, target_low}
use Rattle.pass_edges_proof.proofs.edges.rules.Labels.{label_to_edge}
use Rattle.pass_edges_proof.proofs.edges.rules.Standing.{BothInstr, BothNowhere, BothTerm, IsBranch, StandAlike, branch_home, fetch_edge, only_target, place_of_target, stand_alike}
use Rattle.pass_early_proof.specs.ir_laws.paths.threads.Labels.{HasNamedLabels}
use Rattle.pass_edges_proof.specs.edges.paths.Labels.{IsSplit}
use Rattle.pass_edges_proof.specs.edges.paths.Phis.{AreLabelsOnce}
use Rattle.pass_edges_proof.specs.edges.paths.Spots.{moved, table_of}
use Rattle.pass_early_proof.specs.ir_laws.facts.branches.MovedState.{IsSwitch}
use Rattle.ir_model.specs.Names.{is_local, position_of}
use Rattle.ir_model.specs.declared.instr.Phi.{Phi}
use Rattle.ir_model.specs.declared.instr.Terminator.{Terminator}
use Rattle.ir_model.specs.declared.module.Block.{Block}
use Rattle.ir_model.specs.declared.module.Function.{Function}
use Rattle.pass_early_proof.specs.ir_paths.Paths.{targets}
use Rattle.pass_early_proof.specs.ir_paths.Windows.{label_at, label_of_term}
use Rattle.pass_early_proof.specs.ir_paths.declared.point.Point.{Point}
use Rattle.pass_early_proof.proofs.flow_facts.Chained.{listed-name}
use Rattle.pass_kept_proof.proofs.Read.{listed_by_name}
use Rattle.pass_kept_proof.specs.Needed.{BranchesTo, IsNeeded, IsNeededBehind, IsNeededOn, PassesBy, enter, label_of_block, next, phi, phis_at, phis_give, phis_read, read, reads_at}
use Rattle.pass_early_proof.specs.run_step.Step.{AtInstr, AtTerm, Fetched, Nowhere, fetch, label_of, phis_of}
use Rattle.pass_early_proof.specs.frame_crossing.Paths.{BranchesTo as LeadsOn}

listed_branch : (label : ℕ) (x : Fetched) → BranchesTo label x → LeadsOn label x
listed_branch label Nowhere h = h
listed_branch label (AtInstr i) h = h
listed_branch label (AtTerm t) h = listed_by_name (targets t) label h

named_branch : (label : ℕ) (x : Fetched) → LeadsOn label x → BranchesTo label x
named_branch label Nowhere h = h
named_branch label (AtInstr i) h = h
named_branch label (AtTerm t) h = listed-name label (targets t) h

give_split : (v : ℕ) (es : List Edge) (ps : List Phi) → phis_give v (map (split_phi es) ps) ≡ phis_give v ps
give_split v es [] = refl
give_split v es (p ∷ ps) = ap (λ (b : Bool). (p.result == v) || b) (give_split v es ps)

none_split : (v from : ℕ) (es : List Edge) (ps : List Phi) → has_phis ps ≡ false → phis_read v from (map (split_phi es) ps) ≡ true → ⊥
none_split v from es [] e h = absurd (cc)
none_split v from es (p ∷ ps) e h = absurd (cc)

module _ (f : Function) (named : HasNamedLabels f) (once : AreLabelsOnce f) (v : ℕ) where
  abbrev g : Function
  g = with_edge_blocks f

  reads_same : (k : ℕ) (x y : Fetched) → StandAlike f k x y → reads_at v y ≡ reads_at v x
  reads_same k _ _ BothNowhere = refl
  reads_same k _ _ (BothInstr i) = refl
  reads_same k _ _ (BothTerm b there) = occurs_split v (phi_flags f) (ends_in_suspend b.instrs) (own_number f k) b.term

  passes_home : (k : ℕ) (x y : Fetched) → StandAlike f k x y → PassesBy v y → PassesBy v x
  passes_home k _ _ BothNowhere h = h
  passes_home k _ _ (BothInstr i) h = h
  passes_home k _ _ (BothTerm b there) h = absurd h

  -- ---- phis

  pub own_phis : (k : ℕ) → phis_give v (phis_of (slice_get g.blocks (spot f k))) ≡ phis_give v (phis_of (slice_get f.blocks k))
  own_phis k = on (slice_get f.blocks k) refl
    where
      on : (o : Option Block) → slice_get f.blocks k ≡ o → phis_give v (phis_of (slice_get g.blocks (spot f k))) ≡ phis_give v (phis_of o)
      on None e = ap (λ (o : Option Block). phis_give v (phis_of o)) (get_none (phi_flags f) (table_of f) k (length f.names) f.blocks e)
      on (Some b) e = ap (λ (o : Option Block). phis_give v (phis_of o)) (own_there f k b e) ∙ give_split v (edges_at (table_of f) b.label) b.phis

  -- a label whose edges get no blocks has no phis
  unflagged : (t from : ℕ) → unwrap_or (slice_get (phi_flags f) t) false ≡ false → phis_read v from (phis_of (slice_get g.blocks (spot f (position_of f t)))) ≡ true → ⊥
  unflagged t from flag h = on (slice_get f.blocks (position_of f t)) refl
    where
      on : (o : Option Block) → slice_get f.blocks (position_of f t) ≡ o → ⊥
      on None e =
          let none : phis_read v from [] ≡ true = sym (ap (λ (o : Option Block). phis_read v from (phis_of o)) (get_none (phi_flags f) (table_of f) (position_of f t) (length f.names) f.blocks e)) ∙ h in
          absurd (cc)
      on (Some b) e =
          let label : b.label ≡ t = label_there f t (position_of f t) b refl e in
          none_split v from (edges_at (table_of f) b.label) b.phis
          (sym (flag_at f once named (position_of f t) b e) ∙ ap (λ (n : ℕ). unwrap_or (slice_get (phi_flags f) n) false) label ∙ flag)
          (sym (ap (λ (o : Option Block). phis_read v from (phis_of o)) (own_there f (position_of f t) b e)) ∙ h)

  module _ (k : ℕ) (b : Block) (i : ℕ) (e : Edge) (there : slice_get f.blocks k ≡ Some b) (got : slice_get (edges_of_block f k b) i ≡ Some e) where
    pub edge_phis : phis_of (slice_get g.blocks (spot f k + suc i)) ≡ []
    edge_phis = ap phis_of (edge_there f k b i e there got)

    low : e.target < length f.names
    low = target_low f named k b e.target there (edge_target f k b i e got)

    phis_over : (ps : List Phi) → phis_read v e.label (map (split_phi (edges_at (table_of f) e.target)) ps) ≡ phis_read v e.from ps
    phis_over [] = refl
    phis_over (p ∷ ps) =
        let first = ap (is_local v) (phi_taken f e.target low p.incoming e (label_to_edge f e.target k b i e low there got refl)) in
        let rest = phis_over ps in
        λ j. first j || rest j

    -- on the edge from an edge's block phis read what they read on the edge
    edge_read : phis_read v (label_of_block g (spot f k + suc i)) (phis_of (slice_get g.blocks (spot f (position_of f e.target)))) ≡ true → phis_read v (label_of_block f k) (phis_at f e.target) ≡ true
    edge_read h = on (slice_get f.blocks (position_of f e.target)) refl
      where
        new_label : label_of_block g (spot f k + suc i) ≡ e.label
        new_label = ap label_of (edge_there f k b i e there got)

        old_label : e.from ≡ label_of_block f k
        old_label = (edge_from f k b i e got).0 ∙ sym (ap label_of there)

        now : phis_read v e.label (phis_of (slice_get g.blocks (spot f (position_of f e.target)))) ≡ true
        now = sym (ap (λ (n : ℕ). phis_read v n (phis_of (slice_get g.blocks (spot f (position_of f e.target))))) new_label) ∙ h

        on : (o : Option Block) → slice_get f.blocks (position_of f e.target) ≡ o → phis_read v (label_of_block f k) (phis_of o) ≡ true
        on None d =
            let none : phis_read v e.label [] ≡ true = sym (ap (λ (o : Option Block). phis_read v e.label (phis_of o)) (get_none (phi_flags f) (table_of f) (position_of f e.target) (length f.names) f.blocks d)) ∙ now in
            absurd (cc)
        on (Some c) d =
            let label : c.label ≡ e.target = label_there f e.target (position_of f e.target) c refl d in
            let split : phis_read v e.label (map (split_phi (edges_at (table_of f) e.target)) c.phis) ≡ true =
            subst (λ (n : ℕ). phis_read v e.label (map (split_phi (edges_at (table_of f) n)) c.phis) ≡ true) label (sym (ap (λ (o : Option Block). phis_read v e.label (phis_of o)) (own_there f (position_of f e.target) c d)) ∙ now) in
            sym (ap (λ (n : ℕ). phis_read v n c.phis) old_label) ∙ sym (phis_over c.phis) ∙ split

  -- ---- needs

  -- what a need says of the function
  record NeededFrom (x a : ℕ) : Type 0 where
    own : (b : ℕ) → x ≡ spot f b → IsNeeded f v b a
    edge : (k : ℕ) (b : Block) (i : ℕ) (e : Edge) → slice_get f.blocks k ≡ Some b → slice_get (edges_of_block f k b) i ≡ Some e → x ≡ spot f k + suc i → a ≡ 0 → IsNeededOn f v k e.target

  not_given : (t x : ℕ) → x ≡ spot f (position_of f t) → phis_give v (phis_of (slice_get g.blocks x)) ≡ false → phis_give v (phis_at f t) ≡ false
  not_given t x same none = sym (own_phis (position_of f t)) ∙ sym (ap (λ (n : ℕ). phis_give v (phis_of (slice_get g.blocks n))) same) ∙ none

  way_home : (k : ℕ) (b : Block) (t l : ℕ) → slice_get f.blocks k ≡ Some b → IsListed t (targets b.term) → IsSplit (phi_flags f) b.label (edges_of_block f k b) t l → phis_give v (phis_at g l) ≡ false → NeededFrom (position_of g l) 0 → IsNeededOn f v k t
  way_home k b t l there own (inl d) none again =
      let same : position_of g l ≡ spot f (position_of f t) = ap (position_of g) d.0 ∙ place_of_target f named k b t there own in
      inr (not_given t (position_of g l) same none, again.own (position_of f t) same)
  way_home k b t l there own (inr m) none again =
      again.edge k b m.at (record { from = b.label; target = t; label = l }) there m.got (position_edge f named k b m.at (record { from = b.label; target = t; label = l }) there m.got) refl

  -- no phi reads on an edge from a block of the function
  no_read : (from k : ℕ) (b : Block) (t l : ℕ) → slice_get f.blocks k ≡ Some b → IsListed t (targets b.term) → IsSplit (phi_flags f) b.label (edges_of_block f k b) t l → phis_read v from (phis_at g l) ≡ true → ⊥
  no_read from k b t l there own (inl d) h =
      let same : position_of g l ≡ spot f (position_of f t) = ap (position_of g) d.0 ∙ place_of_target f named k b t there own in
      unflagged t from d.1 (sym (ap (λ (n : ℕ). phis_read v from (phis_of (slice_get g.blocks n))) same) ∙ h)
  no_read from k b t l there own (inr m) h =
      let e : Edge = record { from = b.label; target = t; label = l } in
      let same : position_of g l ≡ spot f k + suc m.at = position_edge f named k b m.at e there m.got in
      let none : phis_of (slice_get g.blocks (position_of g l)) ≡ [] = ap (λ (n : ℕ). phis_of (slice_get g.blocks n)) same ∙ edge_phis k b m.at e there m.got in
      let no : phis_read v from [] ≡ true = sym (ap (phis_read v from) none) ∙ h in
      absurd (cc)

  onward : (k a t : ℕ) → BranchesTo t (fetch f k a) → IsNeededOn f v k t → IsNeeded f v k a
  onward k a t br (inl r) = phi t br r
  onward k a t br (inr r) = enter t br r.0 r.1

  -- an edge from a block of the function, in both
  branch : (b x a label : ℕ) → x ≡ spot f b → BranchesTo label (fetch g x a) → (t : ℕ) × IsBranch f b (fetch f b a) (fetch g (spot f b) a) t label
  branch b x a label same br = branch_home f b (fetch f b a) (fetch g (spot f b) a) (stand_alike f b a) label (listed_branch label (fetch g (spot f b) a) (subst (λ (n : ℕ). BranchesTo label (fetch g n a)) same br))

  at_edge : (k : ℕ) (b : Block) (i : ℕ) (e : Edge) → slice_get f.blocks k ≡ Some b → slice_get (edges_of_block f k b) i ≡ Some e → (x a : ℕ) → x ≡ spot f k + suc i → a ≡ 0 → fetch g x a ≡ AtTerm (Terminator.Jump e.target)
  at_edge k b i e there got x a same start = (λ j. fetch g (same j) (start j)) ∙ fetch_edge f named k b i e there got

  target_is : (k : ℕ) (b : Block) (i : ℕ) (e : Edge) → slice_get f.blocks k ≡ Some b → slice_get (edges_of_block f k b) i ≡ Some e → (x a label : ℕ) → x ≡ spot f k + suc i → a ≡ 0 → BranchesTo label (fetch g x a) → position_of g label ≡ spot f (position_of f e.target)
  target_is k b i e there got x a label same start br =
      ap (position_of g) (only_target f named k b i e there got x a label (listed_branch label (fetch g x a) br) same start) ∙ place_of_target f named k b e.target there (edge_target f k b i e got)

  needed_home : {x a : ℕ} → IsNeeded g v x a → NeededFrom x a
  needed_home (read {block = x} {at = a} h) = record {
    own = λ b same. read (sym (reads_same b (fetch f b a) (fetch g (spot f b) a) (stand_alike f b a)) ∙ ap (λ (n : ℕ). reads_at v (fetch g n a)) (sym same) ∙ h);
    edge = λ k b i e there got same start. let no : false ≡ true = sym (ap (reads_at v) (at_edge k b i e there got x a same start)) ∙ h in absurd (cc);
  }
  needed_home (next {block = x} {at = a} h n) = on (needed_home n)
    where
      on : NeededFrom x (a + 1) → NeededFrom x a
      on again = record {
        own = λ b same. next (passes_home b (fetch f b a) (fetch g (spot f b) a) (stand_alike f b a) (subst (λ (m : ℕ). PassesBy v (fetch g m a)) same h)) (again.own b same);
        edge = λ k b i e there got same start. absurd (subst (PassesBy v) (at_edge k b i e there got x a same start) h);
      }
  needed_home (phi {block = x} {at = a} label br h) = record {
    own = λ b same. let y = branch b x a label same br in absurd (no_read (label_of_block g x) b y.1.block y.0 label y.1.there y.1.own y.1.split h);
    edge = λ k b i e there got same start.
        let to : position_of g label ≡ spot f (position_of f e.target) = target_is k b i e there got x a label same start br in
        inl (edge_read k b i e there got (sym (λ j. phis_read v (label_of_block g (same j)) (phis_of (slice_get g.blocks (to j)))) ∙ h));
  }
  needed_home (enter {block = x} {at = a} label br none n) = on (needed_home n)
    where
      on : NeededFrom (position_of g label) 0 → NeededFrom x a
      on again = record {
        own = λ b same. let y = branch b x a label same br in onward b a y.0 (named_branch y.0 (fetch f b a) y.1.before) (way_home b y.1.block y.0 label y.1.there y.1.own y.1.split none again);
        edge = λ k b i e there got same start.
            let to : position_of g label ≡ spot f (position_of f e.target) = target_is k b i e there got x a label same start br in
            inr (not_given e.target (position_of g label) to none, again.own (position_of f e.target) to);
      }

  -- ---- suspends

  way_home_from : (k : ℕ) (b : Block) (t l : ℕ) → slice_get f.blocks k ≡ Some b → IsListed t (targets b.term) → IsSplit (phi_flags f) b.label (edges_of_block f k b) t l → IsNeededOn g v (spot f k) l → IsNeededOn f v k t
  way_home_from k b t l there own split (inl h) = absurd (no_read (label_of_block g (spot f k)) k b t l there own split h)
  way_home_from k b t l there own split (inr h) = way_home k b t l there own split h.0 (needed_home h.1)

  module _ (s : Point) (b : Block) (there : slice_get f.blocks s.block ≡ Some b) (switch : IsSwitch b.term) where
    one_home : (n : ℕ) → IsNeededOn g v (spot f s.block) (label_at n (slice_get g.blocks (spot f s.block))) → IsNeededOn f v s.block (label_at n (slice_get f.blocks s.block))
    one_home n h =
        let old : label_at n (slice_get f.blocks s.block) ≡ label_of_term n b.term = ap (label_at n) there in
        let new : label_at n (slice_get g.blocks (spot f s.block)) ≡ label_of_term n (own_block f s.block b).term = ap (label_at n) (own_there f s.block b there) in
        subst (IsNeededOn f v s.block) (sym old)
        (way_home_from s.block b (label_of_term n b.term) (label_of_term n (own_block f s.block b).term) there (switch_target n b.term switch) (switch_split (phi_flags f) b.label (ends_in_suspend b.instrs) n (own_number f s.block) b.term switch)
        (subst (IsNeededOn g v (spot f s.block)) new h))

    pub behind_home : IsNeededBehind g (moved f s) v → IsNeededBehind f s v
    behind_home (inl h) = inl (one_home 0 h)
    behind_home (inr h) = inr (one_home 1 h)
