-- What stands behind the suspends of a function, and of the function whose edges have blocks.
use Rattle.std.proofs.Common.{◌≡◌, ℕ, zero, suc, ◌<◌, ◌⊎◌, inl, inr, Bool, true, false, List, [], ◌∷◌, length, refl, sym, ap, ◌∙◌, subst, arith, ◌↔◌}
use Rattle.std.specs.List.{list_any}
use Rattle.std.specs.Prelude.{Some, None, Option, flat_map, map, slice_get, if◌then◌else◌, ◌||◌}
use Rattle.pass_edges.specs.EdgeBlocks.{split_cases, split_label, split_term, with_edge_blocks}
use Rattle.pass_edges.specs.Edges.{after_edge, ends_in_suspend, phi_flags}
use Rattle.pass_edges.specs.declared.edge.Edge.{Edge}
use Rattle.ir_model.specs.declared.instr.Case.{Case}
use Rattle.ir_model.specs.declared.instr.Instr.{Instr}
use Rattle.ir_model.specs.declared.instr.Terminator.{Terminator}
use Rattle.ir_model.specs.declared.module.Block.{Block}
use Rattle.ir_model.specs.declared.module.Function.{Function}
use Rattle.ir_model.specs.declared.operand.Intrinsic.{Intrinsic}
use Rattle.pass_early_proof.proofs.ir_paths.Search.{Has, either, or_left, or_right, same_point-itself, same_point-same}
use Rattle.pass_early_proof.specs.ir_paths.Paths.{Leads, block_points, entry_point, has_point, same_point, targets}
use Rattle.pass_early_proof.specs.ir_paths.Slots.{IsBehindSuspend, behind_suspends, end_points, points_at}
use Rattle.pass_early_proof.specs.ir_paths.Windows.{destroy_label, end_block, is_call_of, is_number, label_at, label_in, label_of_term, points_where, resume_label}
use Rattle.pass_early_proof.specs.ir_paths.declared.point.Point.{Point}
use Rattle.pass_early_proof.proofs.ir_laws.paths.expanded.Apart.{same_moved}
use Rattle.pass_early_proof.proofs.ir_laws.facts.Options.{IsPassing}
use Rattle.pass_early_proof.proofs.ir_laws.facts.Members.{at_each as each_at}
use Rattle.pass_early_proof.proofs.ir_laws.paths.expanded.Saves.{passing_in}
use Rattle.pass_early_proof.specs.ir_laws.facts.expanded.Spots.{instrs_in}
use Rattle.pass_early_proof.specs.run_laws.changed.Changed.{Each}
use Rattle.pass_edges_proof.proofs.edges.paths.Blocks.{entry_moved, get_block, get_none, own_number, spot}
use Rattle.pass_edges_proof.proofs.edges.paths.Edges.{edges_of_block, moved_apart, split_leads, threads}
use Rattle.pass_edges_proof.proofs.edges.paths.Legs.{term_split}
use Rattle.pass_edges_proof.proofs.edges.paths.Points.{points_moved}
use Rattle.pass_early_proof.proofs.ir_laws.paths.threads.Threads.{IsAhead, ahead_forth, ahead_home, leads_forth, leads_home}
use Rattle.pass_edges_proof.proofs.edges.paths.Whole.{first_moved}
use Rattle.pass_edges_proof.proofs.edges.paths.Windows.{differ}
use Rattle.pass_edges_proof.specs.edges.paths.Labels.{AreSplit, IsSplit}
use Rattle.pass_early_proof.specs.ir_laws.paths.threads.Labels.{HasLabelsBelow, HasNamedLabels}
use Rattle.pass_early_proof.specs.ir_laws.facts.threads.Moved.{ArePaired}
use Rattle.pass_early_proof.specs.ir_laws.paths.threads.Moved.{GoesTo}
use Rattle.pass_edges_proof.specs.edges.paths.Spots.{moved, table_of}
use Rattle.pass_early_proof.specs.ir_laws.paths.threads.Threads.{AreAvoidedToo}

-- ---- the label of a number of a switch

module _ (flags : List Bool) (from : ℕ) (edges : List Edge) where
  abbrev To : ℕ → ℕ → Type 0
  To t l = IsSplit flags from edges t l

  pub case_split : (n m : ℕ) (resumes : Bool) (cases : List Case) (d e : ℕ) → To d e → AreSplit flags from edges (map (λ (k : Case). k.target) cases) (map (λ (k : Case). k.target) (split_cases flags resumes m cases)) → To (label_in n cases d) (label_in n (split_cases flags resumes m cases) e)
  case_split n m resumes [] d e h k = h
  case_split n m resumes (c ∷ cases) d e h k = on (is_number n c.arg.value) (case_split n (after_edge flags resumes m c.target) resumes cases d e h k.1)
    where
      on : (b : Bool) → To (label_in n cases d) (label_in n (split_cases flags resumes (after_edge flags resumes m c.target) cases) e) → To (if b then c.target else label_in n cases d) (if b then split_label flags resumes m c.target else label_in n (split_cases flags resumes (after_edge flags resumes m c.target) cases) e)
      on true again = k.0
      on false again = again

-- the label of a switch, or of none, is a name
pub label_below : (n least : ℕ) (t : Terminator) → 0 < least → Each (λ l. l < least) (targets t) → label_of_term n t < least
label_below n least (Terminator.Switch arg default cases) some h = in_cases cases h.0 h.1
  where
    in_cases : (cases : List Case) → default < least → Each (λ l. l < least) (map (λ (k : Case). k.target) cases) → label_in n cases default < least
    in_cases [] d k = d
    in_cases (c ∷ cases) d k = on (is_number n c.arg.value) (in_cases cases d k.1)
      where
        on : (b : Bool) → label_in n cases default < least → (if b then c.target else label_in n cases default) < least
        on true again = k.0
        on false again = again
label_below n least (Terminator.Jump label) some h = some
label_below n least (Terminator.Branch c a b) some h = some
label_below n least (Terminator.Ret value) some h = some
label_below n least Terminator.Unreachable some h = some

-- ---- paired points

pub pair_of : (R : Point → Point → Type 0) (ps qs : List Point) → ArePaired R ps qs → (p : Point) → Has ps p → (q : Point) × (Has qs q × R p q)
pair_of R [] qs h p there = absurd (cc)
pair_of R (x ∷ ps) [] h p there = absurd h
pair_of R (x ∷ ps) (y ∷ qs) h p there = on (either (same_point p x) (has_point ps p) there) (pair_of R ps qs h.1 p)
  where
    on : (same_point p x ≡ true) ⊎ Has ps p → (Has ps p → (q : Point) × (Has qs q × R p q)) → (q : Point) × (Has (y ∷ qs) q × R p q)
    on (inl e) again = (y, (or_left (same_point y y) (has_point qs y) (same_point-itself y), subst (λ (z : Point). R z y) (sym (same_point-same p x e)) h.0))
    on (inr m) again = let r = again m in (r.0, (or_right (same_point r.0 y) (has_point qs r.0) r.1.0, r.1.1))

pub pair_back : (R : Point → Point → Type 0) (ps qs : List Point) → ArePaired R ps qs → (q : Point) → Has qs q → (p : Point) × (Has ps p × R p q)
pair_back R [] [] h q there = absurd (cc)
pair_back R [] (y ∷ qs) h q there = absurd h
pair_back R (x ∷ ps) [] h q there = absurd h
pair_back R (x ∷ ps) (y ∷ qs) h q there = on (either (same_point q y) (has_point qs q) there) (pair_back R ps qs h.1 q)
  where
    on : (same_point q y ≡ true) ⊎ Has qs q → (Has qs q → (p : Point) × (Has ps p × R p q)) → (p : Point) × (Has (x ∷ ps) p × R p q)
    on (inl e) again = (x, (or_left (same_point x x) (has_point ps x) (same_point-itself x), subst (R x) (sym (same_point-same q y e)) h.0))
    on (inr m) again = let r = again m in (r.0, (or_right (same_point r.0 x) (has_point ps r.0) r.1.0, r.1.1))

module _ (f : Function) where
  abbrev g : Function
  g = with_edge_blocks f

  -- ---- the end block

  end_moved : end_block (with_edge_blocks f) ≡ spot f (end_block f)
  end_moved = first_moved (λ (b : Block). list_any (is_call_of Intrinsic.CoroEnd) b.instrs) f (λ flags table n b. refl) (λ e. refl)

  moved_point : (block at : ℕ) → Point
  moved_point block at = record { block = spot f block; at = at }

  in_block : (block len : ℕ) (p : Point) → has_point (block_points (spot f block) len) (moved f p) ≡ has_point (block_points block len) p
  in_block block zero p = ap (λ (t : Bool). t || false) (same_moved (moved f) (moved f) p (record { block = block; at = 0 }) (moved_apart f p (record { block = block; at = 0 })) refl)
  in_block block (suc n) p =
      let first = same_moved (moved f) (moved f) p (record { block = block; at = suc n }) (moved_apart f p (record { block = block; at = suc n })) refl in
      let rest = in_block block n p in
      λ i. first i || rest i

  not_in_block : (block len : ℕ) (y : Point) → ((p : Point) → y ≡ moved f p → ⊥) → has_point (block_points (spot f block) len) y ≡ false
  not_in_block block zero y h = ap (λ (t : Bool). t || false) (differ (record { block = spot f block; at = 0 }) y (h (record { block = block; at = 0 })))
  not_in_block block (suc n) y h =
      let first = differ (record { block = spot f block; at = suc n }) y (h (record { block = block; at = suc n })) in
      let rest = not_in_block block n y h in
      λ i. first i || rest i

  abbrev ends_by : Option Block → List Point
  ends_by None = []
  ends_by (Some b) = block_points (spot f (end_block f)) (length b.instrs)

  ends_moved : end_points (with_edge_blocks f) ≡ ends_by (slice_get f.blocks (end_block f))
  ends_moved = ap (λ (e : ℕ). points_at e (slice_get (with_edge_blocks f).blocks e)) end_moved ∙ on (slice_get f.blocks (end_block f)) refl
    where
      on : (o : Option Block) → slice_get f.blocks (end_block f) ≡ o → points_at (spot f (end_block f)) (slice_get (with_edge_blocks f).blocks (spot f (end_block f))) ≡ ends_by o
      on None e = ap (points_at (spot f (end_block f))) (get_none (phi_flags f) (table_of f) (end_block f) (length f.names) f.blocks e)
      on (Some b) e = ap (points_at (spot f (end_block f))) (get_block (phi_flags f) (table_of f) (end_block f) (length f.names) f.blocks b e)

  -- the points of the end block are moved, and no other one is there
  pub ends_avoided : AreAvoidedToo (moved f) (end_points f) (end_points (with_edge_blocks f))
  ends_avoided = record {
    moved = λ p. ap (λ (ps : List Point). has_point ps (moved f p)) ends_moved ∙ inside p (slice_get f.blocks (end_block f));
    others = λ y h. ap (λ (ps : List Point). has_point ps y) ends_moved ∙ outside y h (slice_get f.blocks (end_block f));
  }
    where
      inside : (p : Point) (o : Option Block) → has_point (ends_by o) (moved f p) ≡ has_point (points_at (end_block f) o) p
      inside p None = refl
      inside p (Some b) = in_block (end_block f) (length b.instrs) p

      outside : (y : Point) → ((p : Point) → y ≡ moved f p → ⊥) → (o : Option Block) → has_point (ends_by o) y ≡ false
      outside y h None = refl
      outside y h (Some b) = not_in_block (end_block f) (length b.instrs) y h

  -- ---- where the resume and destroy edges lead

  abbrev Goes : Point → Point → Type 0
  Goes q y = GoesTo (with_edge_blocks f) (moved f) q y

  module _ (named : HasNamedLabels f) where
    -- the label that a suspend's switch has for a number
    term_leads : (n k : ℕ) (b : Block) → slice_get f.blocks k ≡ Some b → (t : Terminator) → t ≡ b.term → Goes (entry_point f (label_of_term n t)) (entry_point (with_edge_blocks f) (label_of_term n (split_term (phi_flags f) (ends_in_suspend b.instrs) (own_number f k) t)))
    term_leads n k b e t s = on t s
      where
        below : HasLabelsBelow (length f.names) b
        below = each_at (HasLabelsBelow (length f.names)) f.blocks k b named e

        some : 0 < length f.names
        some = let lt = below.label in omega (arith, lt)

        low : (u : Terminator) → u ≡ b.term → Each (λ l. l < length f.names) (targets u)
        low u d = subst (λ (x : Terminator). Each (λ l. l < length f.names) (targets x)) (sym d) below.targets

        on : (u : Terminator) → u ≡ b.term → Goes (entry_point f (label_of_term n u)) (entry_point (with_edge_blocks f) (label_of_term n (split_term (phi_flags f) (ends_in_suspend b.instrs) (own_number f k) u)))
        on (Terminator.Switch arg default cases) d =
            let all = subst (λ (x : Terminator). AreSplit (phi_flags f) b.label (edges_of_block f k b) (targets x) (targets (split_term (phi_flags f) (ends_in_suspend b.instrs) (own_number f k) x))) (sym d) (term_split (phi_flags f) b.label (ends_in_suspend b.instrs) (own_number f k) b.term) in
            split_leads f named k b (label_in n cases default) (label_in n (split_cases (phi_flags f) (ends_in_suspend b.instrs) (after_edge (phi_flags f) false (own_number f k) default) cases) (split_label (phi_flags f) false (own_number f k) default)) e
            (label_below n (length f.names) (Terminator.Switch arg default cases) some (low (Terminator.Switch arg default cases) d))
            (case_split (phi_flags f) b.label (edges_of_block f k b) n (after_edge (phi_flags f) false (own_number f k) default) (ends_in_suspend b.instrs) cases default (split_label (phi_flags f) false (own_number f k) default) all.0 all.1)
        on (Terminator.Jump label) d = inl (entry_moved f 0 some)
        on (Terminator.Branch c x y) d = inl (entry_moved f 0 some)
        on (Terminator.Ret value) d = inl (entry_moved f 0 some)
        on Terminator.Unreachable d = inl (entry_moved f 0 some)

    pub number_leads : (n : ℕ) (s : Point) (b : Block) → slice_get f.blocks s.block ≡ Some b → Goes (entry_point f (label_at n (slice_get f.blocks s.block))) (entry_point (with_edge_blocks f) (label_at n (slice_get (with_edge_blocks f).blocks (moved f s).block)))
    number_leads n s b e =
        subst (λ (o : Option Block). Goes (entry_point f (label_at n o)) (entry_point (with_edge_blocks f) (label_at n (slice_get (with_edge_blocks f).blocks (moved f s).block)))) (sym e)
        (subst (λ (o : Option Block). Goes (entry_point f (label_of_term n b.term)) (entry_point (with_edge_blocks f) (label_at n o))) (sym (get_block (phi_flags f) (table_of f) s.block (length f.names) f.blocks b e))
        (term_leads n s.block b e b.term refl))

    abbrev is_suspend : Instr → Bool
    is_suspend i = is_call_of Intrinsic.CoroSuspend i

    abbrev edges_in : Function → Point → List Point
    edges_in h s = entry_point h (resume_label h s) ∷ entry_point h (destroy_label h s) ∷ []

    abbrev Passing : Point → Type 0
    Passing s = IsPassing is_suspend (slice_get (instrs_in (slice_get f.blocks s.block)) s.at)

    there : (s : Point) → Passing s → (b : Block) × (slice_get f.blocks s.block ≡ Some b)
    there s h = on (slice_get f.blocks s.block) refl
      where
        on : (o : Option Block) → slice_get f.blocks s.block ≡ o → (b : Block) × (slice_get f.blocks s.block ≡ Some b)
        on None e = let none = ap (λ (x : Option Block). slice_get (instrs_in x) s.at) e in let some = h.is in absurd (cc)
        on (Some b) e = (b, e)

    edges_paired : (ss : List Point) → Each Passing ss → ArePaired Goes (flat_map (edges_in f) ss) (flat_map (edges_in g) (map (moved f) ss))
    edges_paired [] h = tt
    edges_paired (s ∷ ss) h =
        let b = there s h.0 in
        (number_leads 0 s b.0 b.1, (number_leads 1 s b.0 b.1, edges_paired ss h.1))

    pub behind_paired : ArePaired Goes (behind_suspends f) (behind_suspends (with_edge_blocks f))
    behind_paired =
        subst (λ (ps : List Point). ArePaired Goes (behind_suspends f) (flat_map (edges_in g) ps)) (sym (points_moved is_suspend f))
        (edges_paired (points_where is_suspend f) (passing_in is_suspend f.blocks))

    -- ---- what stands behind them

    abbrev Ahead : Point → Point → Type 0
    Ahead v q = IsAhead f (with_edge_blocks f) (moved f) (threads f named) (end_points f) (end_points (with_edge_blocks f)) ends_avoided v q

    abbrev LeadsNow : Point → Point → Type 0
    LeadsNow p q = Leads (with_edge_blocks f) (end_points (with_edge_blocks f)) p q

    pub behind_forth : (p : Point) → IsBehindSuspend f p → IsBehindSuspend (with_edge_blocks f) (moved f p)
    behind_forth p b = record {
      first = to.0;
      is_first = to.1.0;
      path = path to.0 to.1.1 b.path;
      is_not_in_end = ends_avoided.moved p ∙ b.is_not_in_end;
    }
      where
        to : (y : Point) × (Has (behind_suspends (with_edge_blocks f)) y × Goes b.first y)
        to = pair_of Goes (behind_suspends f) (behind_suspends (with_edge_blocks f)) behind_paired b.first b.is_first

        path : (y : Point) → Goes b.first y → Ahead b.first p → (y ≡ moved f p) ⊎ ((has_point (end_points (with_edge_blocks f)) y ≡ false) × LeadsNow y (moved f p))
        path y (inl e) (inl s) = inl (e ∙ ap (moved f) s)
        path y (inl e) (inr a) = inr (
          ap (λ (x : Point). has_point (end_points (with_edge_blocks f)) x) e ∙ ends_avoided.moved b.first ∙ a.0,
          subst (λ (x : Point). LeadsNow x (moved f p)) (sym e) (leads_forth f (with_edge_blocks f) (moved f) (threads f named) (end_points f) (end_points (with_edge_blocks f)) ends_avoided b.first p a.1),
        )
        path y (inr i) a = inr (
          ends_avoided.others y i.apart,
          ahead_forth f (with_edge_blocks f) (moved f) (threads f named) (end_points f) (end_points (with_edge_blocks f)) ends_avoided y b.first p i.next a,
        )

    pub behind_home : (p : Point) → IsBehindSuspend (with_edge_blocks f) (moved f p) → IsBehindSuspend f p
    behind_home p b = record {
      first = from.0;
      is_first = from.1.0;
      path = path from.0 from.1.1 b.path;
      is_not_in_end = sym (ends_avoided.moved p) ∙ b.is_not_in_end;
    }
      where
        from : (q : Point) × (Has (behind_suspends f) q × Goes q b.first)
        from = pair_back Goes (behind_suspends f) (behind_suspends (with_edge_blocks f)) behind_paired b.first b.is_first

        path : (q : Point) → Goes q b.first → (b.first ≡ moved f p) ⊎ ((has_point (end_points (with_edge_blocks f)) b.first ≡ false) × LeadsNow b.first (moved f p)) → (q ≡ p) ⊎ ((has_point (end_points f) q ≡ false) × Leads f (end_points f) q p)
        path q (inl e) (inl s) = inl (moved_apart f q p (sym e ∙ s))
        path q (inl e) (inr a) = inr (
          sym (ends_avoided.moved q) ∙ ap (λ (x : Point). has_point (end_points (with_edge_blocks f)) x) (sym e) ∙ a.0,
          leads_home f (with_edge_blocks f) (moved f) (threads f named) (end_points f) (end_points (with_edge_blocks f)) ends_avoided q p (subst (λ (x : Point). LeadsNow x (moved f p)) e a.1),
        )
        path q (inr i) (inl s) = absurd (i.apart p s)
        path q (inr i) (inr a) = ahead_home f (with_edge_blocks f) (moved f) (threads f named) (end_points f) (end_points (with_edge_blocks f)) ends_avoided b.first q p i.next a.1

    pub behind_both : (p : Point) → IsBehindSuspend f p ↔ IsBehindSuspend (with_edge_blocks f) (moved f p)
    behind_both p = (behind_forth p, behind_home p)
