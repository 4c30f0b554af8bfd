-- How blocks are entered, where edges have blocks.
use Rattle.std.proofs.Common.{◌≡◌, ℕ, zero, suc, ◌+◌, ◌<◌, inl, inr, Bool, true, false, List, [], ◌∷◌, length, refl, sym, ap, ◌∙◌, subst, arith}
use Rattle.std.proofs.lemmas.Option.{slice_get_past}
use Rattle.std.specs.Prelude.{Some, None, Option, map, nat_lt, option_map, slice_get, unwrap_or, if◌then◌else◌, ◌==◌}
use Rattle.pass_edges_proof.proofs.edges.paths.Behind.{case_split, label_below}
use Rattle.pass_edges_proof.proofs.edges.paths.Blocks.{entry_moved, get_block, get_none, own_number, position_moved, spot}
use Rattle.pass_edges_proof.proofs.edges.paths.Edges.{Split, edge_between, edge_spot, edges_of_block, moved_nexts, target_named}
use Rattle.pass_edges_proof.proofs.edges.paths.Legs.{term_split}
use Rattle.pass_edges_proof.proofs.edges.paths.Slots.{phi_taken}
use Rattle.pass_edges_proof.proofs.edges.paths.Tables.{among_filter, edge_among, flag_at, leads_to, table_at}
use Rattle.pass_edges_proof.specs.edges.paths.Labels.{AreSplit, IsAmong}
use Rattle.pass_early_proof.specs.ir_laws.paths.threads.Labels.{HasLabelsBelow, HasNamedLabels}
use Rattle.pass_early_proof.specs.ir_laws.facts.threads.Moved.{ArePaired}
use Rattle.pass_edges_proof.specs.edges.paths.Phis.{AreLabelsOnce}
use Rattle.pass_edges_proof.specs.edges.paths.Spots.{moved, table_of}
use Rattle.pass_edges.specs.EdgeBlocks.{split_block, split_cases, split_label, split_phi, split_term, with_edge_blocks}
use Rattle.pass_edges.specs.Edges.{after_edge, edges_at, edges_of, ends_in_suspend, has_phis, phi_flags}
use Rattle.pass_edges.specs.declared.edge.Edge.{Edge}
use Rattle.pass_early_proof.specs.ir_laws.paths.branches.Ways.{AreFetched}
use Rattle.pass_edges_proof.specs.edges.states.Ways.{Enters, Goes, PhisTake, TakesSame}
use Rattle.pass_early_proof.specs.ir_laws.facts.branches.Ways.{TermsPaired}
use Rattle.pass_edges_proof.specs.edges.states.MovedState.{HaveSwitches, Keeps, edge_function, placed, placed_block}
use Rattle.pass_early_proof.specs.ir_laws.facts.branches.MovedState.{IsSwitch}
use Rattle.pass_edges_proof.proofs.edges.states.Parts.{by_kind}
use Rattle.pass_early_proof.specs.run_states.sound_states.Sound.{IsSuspendAt}
use Rattle.ir_model.specs.declared.instr.Case.{Case}
use Rattle.ir_model.specs.declared.instr.Instr.{Instr}
use Rattle.ir_model.specs.declared.instr.Terminator.{Terminator}
use Rattle.ir_model.specs.declared.operand.Intrinsic.{Intrinsic}
use Rattle.pass_early_proof.specs.ir_paths.Windows.{instr_at, instr_in, is_call_of, label_at, label_in, label_of_term}
use Rattle.pass_early_proof.specs.ir_paths.declared.point.Point.{Point}
use Rattle.pass_early_proof.specs.run_laws.changed.Changed.{Each}
use Rattle.std.proofs.lemmas.Bool.{le-ltb}
use Rattle.ir_model.specs.Names.{first_where, position_of}
use Rattle.ir_model.specs.declared.instr.Phi.{Phi}
use Rattle.ir_model.specs.declared.module.Block.{Block}
use Rattle.ir_model.specs.declared.module.Function.{Function}
use Rattle.pass_early_proof.proofs.ir_paths.Search.{Has, eq_from, eq_itself, or_left, or_right, same_point-itself}
use Rattle.pass_early_proof.specs.ir_paths.Paths.{entry_point, has_point, nexts, nexts_in, same_point, targets}
use Rattle.pass_early_proof.specs.run_step.Step.{Nowhere, fetch, fetch_in, fetch_or, label_of, phis_of}
use Rattle.pass_early_proof.proofs.ir_laws.facts.Members.{at_each as each_at}

-- ---- the block at the position of a label

first_passes : (test : Block → Bool) (bs : List Block) (k : ℕ) → first_where test bs ≡ Some k → (b : Block) → slice_get bs k ≡ Some b → test b ≡ true
first_passes test [] k e b s = absurd (cc)
first_passes test (x ∷ bs) zero e b s = on (test x) refl e (cc)
  where
    none : (o : Option ℕ) → option_map suc o ≡ Some 0 → ⊥
    none None z = cc
    none (Some j) z = cc

    on : (t : Bool) → test x ≡ t → (if t then Some 0 else option_map suc (first_where test bs)) ≡ Some 0 → x ≡ b → test b ≡ true
    on true d z same = ap test (sym same) ∙ d
    on false d z same = absurd (none (first_where test bs) z)
first_passes test (x ∷ bs) (suc k) e b s = on (test x) e (λ z. first_passes test bs k z b s)
  where
    back : (o : Option ℕ) → option_map suc o ≡ Some (suc k) → o ≡ Some k
    back None z = absurd (cc)
    back (Some j) z = cc

    on : (t : Bool) → (if t then Some 0 else option_map suc (first_where test bs)) ≡ Some (suc k) → (first_where test bs ≡ Some k → test b ≡ true) → test b ≡ true
    on true z again = absurd (cc)
    on false z again = again (back (first_where test bs) z)

pub labelled : (f : Function) (t : ℕ) (b : Block) → slice_get f.blocks (position_of f t) ≡ Some b → b.label ≡ t
labelled f t b = on (first_where (λ (x : Block). x.label == t) f.blocks) refl
  where
    on : (o : Option ℕ) → first_where (λ (x : Block). x.label == t) f.blocks ≡ o → slice_get f.blocks (unwrap_or o (length f.blocks)) ≡ Some b → b.label ≡ t
    on None e s = let none = slice_get_past f.blocks (length f.blocks) (omega arith) in absurd (cc)
    on (Some k) e s = eq_from b.label t (first_passes (λ (x : Block). x.label == t) f.blocks k e b s)

module _ (f : Function) (named : HasNamedLabels f) (once : AreLabelsOnce f) where
  abbrev g : Function
  g = with_edge_blocks f

  -- the block at a label's position then
  none_then : (t : ℕ) → t < length f.names → slice_get f.blocks (position_of f t) ≡ None → slice_get (with_edge_blocks f).blocks (position_of (with_edge_blocks f) t) ≡ None
  none_then t lt e = ap (slice_get (with_edge_blocks f).blocks) (position_moved f t lt) ∙ get_none (phi_flags f) (table_of f) (position_of f t) (length f.names) f.blocks e

  some_then : (t : ℕ) → t < length f.names → (b : Block) → slice_get f.blocks (position_of f t) ≡ Some b → slice_get (with_edge_blocks f).blocks (position_of (with_edge_blocks f) t) ≡ Some (split_block (phi_flags f) (table_of f) (own_number f (position_of f t)) b)
  some_then t lt b e = ap (slice_get (with_edge_blocks f).blocks) (position_moved f t lt) ∙ get_block (phi_flags f) (table_of f) (position_of f t) (length f.names) f.blocks b e

  no_phis : (ps : List Phi) → has_phis ps ≡ false → ps ≡ []
  no_phis [] h = refl
  no_phis (p ∷ ps) h = absurd (cc)

  direct_phis : (t l k : ℕ) → t < length f.names → unwrap_or (slice_get (phi_flags f) t) false ≡ false → PhisTake f (with_edge_blocks f) (position_of f t) (position_of (with_edge_blocks f) t) l k
  direct_phis t l k lt flag = on (slice_get f.blocks (position_of f t)) refl
    where
      on : (o : Option Block) → slice_get f.blocks (position_of f t) ≡ o → ArePaired (TakesSame l k) (phis_of o) (phis_of (slice_get (with_edge_blocks f).blocks (position_of (with_edge_blocks f) t)))
      on None e = subst (λ (o : Option Block). ArePaired (TakesSame l k) [] (phis_of o)) (sym (none_then t lt e)) tt
      on (Some b) e =
          let none : b.phis ≡ [] = no_phis b.phis (sym (flag_at f once named (position_of f t) b e) ∙ ap (λ (x : ℕ). unwrap_or (slice_get (phi_flags f) x) false) (labelled f t b e) ∙ flag) in
          subst (λ (o : Option Block). ArePaired (TakesSame l k) b.phis (phis_of o)) (sym (some_then t lt b e))
          (subst (λ (ps : List Phi). ArePaired (TakesSame l k) ps (map (split_phi (edges_at (table_of f) b.label)) ps)) (sym none) tt)

  phis_over : (label : ℕ) → label < length f.names → (d : Edge) → IsAmong (edges_at (table_of f) label) d → (ps : List Phi) → ArePaired (TakesSame d.from d.label) ps (map (split_phi (edges_at (table_of f) label)) ps)
  phis_over label lt d a [] = tt
  phis_over label lt d a (p ∷ ps) = (record { result = refl; ty = refl; operand = phi_taken f label lt p.incoming d a }, phis_over label lt d a ps)

  over_phis : (t : ℕ) → t < length f.names → (d : Edge) → IsAmong (edges_at (table_of f) t) d → PhisTake f (with_edge_blocks f) (position_of f t) (position_of (with_edge_blocks f) t) d.from d.label
  over_phis t lt d a = on (slice_get f.blocks (position_of f t)) refl
    where
      on : (o : Option Block) → slice_get f.blocks (position_of f t) ≡ o → ArePaired (TakesSame d.from d.label) (phis_of o) (phis_of (slice_get (with_edge_blocks f).blocks (position_of (with_edge_blocks f) t)))
      on None e = subst (λ (o : Option Block). ArePaired (TakesSame d.from d.label) [] (phis_of o)) (sym (none_then t lt e)) tt
      on (Some b) e =
          subst (λ (o : Option Block). ArePaired (TakesSame d.from d.label) b.phis (phis_of o)) (sym (some_then t lt b e))
          (subst (λ (x : ℕ). ArePaired (TakesSame d.from d.label) b.phis (map (split_phi (edges_at (table_of f) x)) b.phis)) (sym (labelled f t b e)) (phis_over t lt d a b.phis))

  -- an edge of a block is taken directly, or over its own block
  pub way : (k : ℕ) (b : Block) (t l : ℕ) → slice_get f.blocks k ≡ Some b → t < length f.names → Split f k b t l → Enters f (with_edge_blocks f) (moved f) k t l
  way k b t l e lt (inl d) = inl (record {
    to = ap (entry_point (with_edge_blocks f)) d.0 ∙ entry_moved f t lt;
    phis = subst (λ (x : ℕ). PhisTake f (with_edge_blocks f) (position_of f t) (position_of (with_edge_blocks f) x) (label_of (slice_get f.blocks k)) (label_of (slice_get (with_edge_blocks f).blocks (spot f k)))) (sym d.0)
        (direct_phis t (label_of (slice_get f.blocks k)) (label_of (slice_get (with_edge_blocks f).blocks (spot f k))) lt d.1);
  })
  way k b t l e lt (inr a) = inr (record {
    edge = d;
    got = edge_spot f named k b a.at d e a.got;
    target = refl;
    between = edge_between f named k b d e lt a;
    to = entry_moved f t lt;
    phis = subst (λ (x : ℕ). PhisTake f (with_edge_blocks f) (position_of f t) (position_of (with_edge_blocks f) t) x l) (sym (ap label_of e)) (over_phis t lt d there);
  })
    where
      d : Edge
      d = record { from = b.label; target = t; label = l }

      there : IsAmong (edges_at (table_of f) t) d
      there = subst (λ (es : List Edge). IsAmong es d) (sym (table_at f t lt))
          (among_filter (leads_to t) (edges_of (phi_flags f) f) d (eq_itself t) (edge_among (phi_flags f) (table_of f) k (length f.names) f.blocks b d e a))

  -- ---- the labels of terminators

  abbrev GoesNow : Point → ℕ → ℕ → Type 0
  GoesNow p t l = Goes f (with_edge_blocks f) (moved f) p t l

  pairs : (p : Point) (b : Block) → slice_get f.blocks p.block ≡ Some b → (ts ls : List ℕ) → Each (λ t. t < length f.names) ts → AreSplit (phi_flags f) b.label (edges_of_block f p.block b) ts ls → ((y : Point) → Has (map (entry_point (with_edge_blocks f)) ls) y → Has (nexts (with_edge_blocks f) (moved f p)) y) → ArePaired (GoesNow p) ts ls
  pairs p b e [] [] low split there = tt
  pairs p b e [] (l ∷ ls) low split there = absurd split
  pairs p b e (t ∷ ts) [] low split there = absurd split
  pairs p b e (t ∷ ts) (l ∷ ls) low split there = (
    (way p.block b t l e low.0 split.0, there (entry_point (with_edge_blocks f) l) (or_left (same_point (entry_point (with_edge_blocks f) l) (entry_point (with_edge_blocks f) l)) (has_point (map (entry_point (with_edge_blocks f)) ls) (entry_point (with_edge_blocks f) l)) (same_point-itself (entry_point (with_edge_blocks f) l)))),
    pairs p b e ts ls low.1 split.1 (λ y h. there y (or_right (same_point y (entry_point (with_edge_blocks f) l)) (has_point (map (entry_point (with_edge_blocks f)) ls) y) h)),
  )

  by_cases : (W : ℕ → ℕ → Type 0) (resumes : Bool) (n : ℕ) (cases : List Case) → ArePaired W (map (λ (k : Case). k.target) cases) (map (λ (k : Case). k.target) (split_cases (phi_flags f) resumes n cases)) → ArePaired (λ (k : Case) (j : Case). (j.arg ≡ k.arg) × W k.target j.target) cases (split_cases (phi_flags f) resumes n cases)
  by_cases W resumes n [] h = tt
  by_cases W resumes n (k ∷ cases) h = ((refl, h.0), by_cases W resumes (after_edge (phi_flags f) resumes n k.target) cases h.1)

  by_targets : (W : ℕ → ℕ → Type 0) (resumes : Bool) (n : ℕ) (t : Terminator) → ArePaired W (targets t) (targets (split_term (phi_flags f) resumes n t)) → TermsPaired W t (split_term (phi_flags f) resumes n t)
  by_targets W resumes n (Terminator.Jump label) h = h.0
  by_targets W resumes n (Terminator.Branch c a b) h = (refl, (h.0, h.1.0))
  by_targets W resumes n (Terminator.Switch arg default cases) h = (refl, (h.0, by_cases W resumes (after_edge (phi_flags f) false n default) cases h.1))
  by_targets W resumes n (Terminator.Ret value) h = refl
  by_targets W resumes n Terminator.Unreachable h = tt

  fetch_split : (p : Point) → AreFetched (GoesNow p) (fetch f p.block p.at) (fetch (with_edge_blocks f) (spot f p.block) p.at)
  fetch_split p = on (slice_get f.blocks p.block) refl
    where
      new_term : Block → Terminator
      new_term b = split_term (phi_flags f) (ends_in_suspend b.instrs) (own_number f p.block) b.term

      terms : (b : Block) → slice_get f.blocks p.block ≡ Some b → (p.at == length b.instrs) ≡ true → TermsPaired (GoesNow p) b.term (split_term (phi_flags f) (ends_in_suspend b.instrs) (own_number f p.block) b.term)
      terms b e s =
          by_targets (GoesNow p) (ends_in_suspend b.instrs) (own_number f p.block) b.term
          (pairs p b e (targets b.term) (targets (split_term (phi_flags f) (ends_in_suspend b.instrs) (own_number f p.block) b.term)) (target_named f named p.block b e)
          (term_split (phi_flags f) b.label (ends_in_suspend b.instrs) (own_number f p.block) b.term)
          (λ y h. subst (λ (ps : List Point). Has ps y) (sym (moved_nexts f p b e ∙ end_nexts (eq_from p.at (length b.instrs) s))) h))
        where
          inside : p.at ≡ length b.instrs → nat_lt p.at (length b.instrs) ≡ false
          inside d = le-ltb p.at (length b.instrs) (omega (arith, d))

          end_nexts : p.at ≡ length b.instrs → (if nat_lt p.at (length b.instrs) then record { block = spot f p.block; at = p.at + 1 } ∷ [] else if p.at == length b.instrs then map (entry_point (with_edge_blocks f)) (targets (split_term (phi_flags f) (ends_in_suspend b.instrs) (own_number f p.block) b.term)) else []) ≡ map (entry_point (with_edge_blocks f)) (targets (split_term (phi_flags f) (ends_in_suspend b.instrs) (own_number f p.block) b.term))
          end_nexts d = λ i. (if inside d i then record { block = spot f p.block; at = p.at + 1 } ∷ [] else if s i then map (entry_point (with_edge_blocks f)) (targets (split_term (phi_flags f) (ends_in_suspend b.instrs) (own_number f p.block) b.term)) else [])

      instrs : (b : Block) → slice_get f.blocks p.block ≡ Some b → (o : Option Instr) (last : Bool) → (p.at == length b.instrs) ≡ last → AreFetched (GoesNow p) (fetch_or o last b.term) (fetch_or o last (split_term (phi_flags f) (ends_in_suspend b.instrs) (own_number f p.block) b.term))
      instrs b e (Some i) last s = refl
      instrs b e None true s = terms b e s
      instrs b e None false s = tt

      on : (o : Option Block) → slice_get f.blocks p.block ≡ o → AreFetched (GoesNow p) (fetch_in o p.at) (fetch (with_edge_blocks f) (spot f p.block) p.at)
      on None e = subst (λ (x : Option Block). AreFetched (GoesNow p) Nowhere (fetch_in x p.at)) (sym (get_none (phi_flags f) (table_of f) p.block (length f.names) f.blocks e)) tt
      on (Some b) e =
          subst (λ (x : Option Block). AreFetched (GoesNow p) (fetch_in (Some b) p.at) (fetch_in x p.at)) (sym (get_block (phi_flags f) (table_of f) p.block (length f.names) f.blocks b e))
          (instrs b e (slice_get b.instrs p.at) (p.at == length b.instrs) refl)

  -- ---- the labels behind a suspend

  switch_split : (n k : ℕ) (b : Block) → slice_get f.blocks k ≡ Some b → (t : Terminator) → t ≡ b.term → IsSwitch t → Enters f (with_edge_blocks f) (moved f) k (label_of_term n t) (label_of_term n (split_term (phi_flags f) (ends_in_suspend b.instrs) (own_number f k) t))
  switch_split n k b e (Terminator.Switch arg default cases) d s =
      way k b (label_in n cases default) (label_in n (split_cases (phi_flags f) (ends_in_suspend b.instrs) (after_edge (phi_flags f) false (own_number f k) default) cases) (split_label (phi_flags f) false (own_number f k) default)) e
      (label_below n (length f.names) (Terminator.Switch arg default cases) (let lt = (each_at (HasLabelsBelow (length f.names)) f.blocks k b named e).label in omega (arith, lt)) (subst (λ (x : Terminator). Each (λ l. l < length f.names) (targets x)) (sym d) (target_named f named k b e)))
      (case_split (phi_flags f) b.label (edges_of_block f k b) n (after_edge (phi_flags f) false (own_number f k) default) (ends_in_suspend b.instrs) cases default (split_label (phi_flags f) false (own_number f k) default) all.0 all.1)
    where
      all : AreSplit (phi_flags f) b.label (edges_of_block f k b) (targets (Terminator.Switch arg default cases)) (targets (split_term (phi_flags f) (ends_in_suspend b.instrs) (own_number f k) (Terminator.Switch arg default cases)))
      all = subst (λ (x : Terminator). AreSplit (phi_flags f) b.label (edges_of_block f k b) (targets x) (targets (split_term (phi_flags f) (ends_in_suspend b.instrs) (own_number f k) x))) (sym d) (term_split (phi_flags f) b.label (ends_in_suspend b.instrs) (own_number f k) b.term)
  switch_split n k b e (Terminator.Jump label) d s = absurd s
  switch_split n k b e (Terminator.Branch c x y) d s = absurd s
  switch_split n k b e (Terminator.Ret value) d s = absurd s
  switch_split n k b e Terminator.Unreachable d s = absurd s

  label_split : HaveSwitches f → (n : ℕ) (p : Point) (i : Instr) → instr_at f p ≡ Some i → is_call_of Intrinsic.CoroSuspend i ≡ true → Enters f (with_edge_blocks f) (moved f) p.block (label_at n (slice_get f.blocks p.block)) (label_at n (slice_get (with_edge_blocks f).blocks (spot f p.block)))
  label_split switches n p i is calls = on (slice_get f.blocks p.block) refl
    where
      on : (o : Option Block) → slice_get f.blocks p.block ≡ o → Enters f (with_edge_blocks f) (moved f) p.block (label_at n o) (label_at n (slice_get (with_edge_blocks f).blocks (spot f p.block)))
      on None e = let none = ap (λ (x : Option Block). instr_in x p.at) e in absurd (cc)
      on (Some b) e =
          subst (λ (x : Option Block). Enters f (with_edge_blocks f) (moved f) p.block (label_of_term n b.term) (label_at n x)) (sym (get_block (phi_flags f) (table_of f) p.block (length f.names) f.blocks b e))
          (switch_split n p.block b e b.term refl (switches p b i is calls e))

-- ---- functions of either kind

same_phis : (l : ℕ) (ps : List Phi) → ArePaired (TakesSame l l) ps ps
same_phis l [] = tt
same_phis l (p ∷ ps) = (record { result = refl; ty = refl; operand = refl }, same_phis l ps)

abbrev stay : Point → Point
stay p = record { block = p.block; at = p.at }

direct_plain : (f : Function) (from t : ℕ) → Enters f f stay from t t
direct_plain f from t = inl (record { to = refl; phis = same_phis (label_of (slice_get f.blocks from)) (phis_of (slice_get f.blocks (position_of f t))) })

abbrev placing : (ℕ → ℕ) → Point → Point
placing to p = record { block = to p.block; at = p.at }

-- the labels behind a suspend
pub label_enters : (f : Function) → Keeps f → (n : ℕ) (p : Point) → IsSuspendAt f p → Enters f (edge_function f) (placed f) p.block (label_at n (slice_get f.blocks p.block)) (label_at n (slice_get (edge_function f).blocks (placed_block f p.block)))
label_enters f keeps n p h = by_kind (λ g to c. Enters f g (placing to) p.block (label_at n (slice_get f.blocks p.block)) (label_at n (slice_get g.blocks (to p.block)))) f
    (λ e. let r = keeps e in label_split f r.labels r.once r.switches n p h.instr h.is h.suspends)
    (λ e. direct_plain f p.block (label_at n (slice_get f.blocks p.block)))

module _ (f : Function) (p : Point) where
  abbrev GoesPlain : ℕ → ℕ → Type 0
  GoesPlain t l = Goes f f stay p t l

  plain_pairs : (ts : List ℕ) → ((y : Point) → Has (map (entry_point f) ts) y → Has (nexts f p) y) → ArePaired GoesPlain ts ts
  plain_pairs [] there = tt
  plain_pairs (t ∷ ts) there = (
    (direct_plain f p.block t, there (entry_point f t) (or_left (same_point (entry_point f t) (entry_point f t)) (has_point (map (entry_point f) ts) (entry_point f t)) (same_point-itself (entry_point f t)))),
    plain_pairs ts (λ y h. there y (or_right (same_point y (entry_point f t)) (has_point (map (entry_point f) ts) y) h)),
  )

  plain_cases : (cases : List Case) → ArePaired GoesPlain (map (λ (k : Case). k.target) cases) (map (λ (k : Case). k.target) cases) → ArePaired (λ (k : Case) (j : Case). (j.arg ≡ k.arg) × GoesPlain k.target j.target) cases cases
  plain_cases [] h = tt
  plain_cases (k ∷ cases) h = ((refl, h.0), plain_cases cases h.1)

  plain_term : (t : Terminator) → ArePaired GoesPlain (targets t) (targets t) → TermsPaired GoesPlain t t
  plain_term (Terminator.Jump label) h = h.0
  plain_term (Terminator.Branch c a b) h = (refl, (h.0, h.1.0))
  plain_term (Terminator.Switch arg default cases) h = (refl, (h.0, plain_cases cases h.1))
  plain_term (Terminator.Ret value) h = refl
  plain_term Terminator.Unreachable h = tt

  fetch_plain : AreFetched GoesPlain (fetch f p.block p.at) (fetch f p.block p.at)
  fetch_plain = on (slice_get f.blocks p.block) refl
    where
      terms : (b : Block) → slice_get f.blocks p.block ≡ Some b → (p.at == length b.instrs) ≡ true → TermsPaired GoesPlain b.term b.term
      terms b e s = plain_term b.term (plain_pairs (targets b.term) (λ y h. subst (λ (ps : List Point). Has ps y) (sym (ap (nexts_in f p) e ∙ end_nexts (eq_from p.at (length b.instrs) s))) h))
        where
          inside : p.at ≡ length b.instrs → nat_lt p.at (length b.instrs) ≡ false
          inside d = le-ltb p.at (length b.instrs) (omega (arith, d))

          end_nexts : p.at ≡ length b.instrs → (if nat_lt p.at (length b.instrs) then record { block = p.block; at = p.at + 1 } ∷ [] else if p.at == length b.instrs then map (entry_point f) (targets b.term) else []) ≡ map (entry_point f) (targets b.term)
          end_nexts d = λ i. (if inside d i then record { block = p.block; at = p.at + 1 } ∷ [] else if s i then map (entry_point f) (targets b.term) else [])

      instrs : (b : Block) → slice_get f.blocks p.block ≡ Some b → (o : Option Instr) (last : Bool) → (p.at == length b.instrs) ≡ last → AreFetched GoesPlain (fetch_or o last b.term) (fetch_or o last b.term)
      instrs b e (Some i) last s = refl
      instrs b e None true s = terms b e s
      instrs b e None false s = tt

      on : (o : Option Block) → slice_get f.blocks p.block ≡ o → AreFetched GoesPlain (fetch_in o p.at) (fetch_in o p.at)
      on None e = tt
      on (Some b) e = instrs b e (slice_get b.instrs p.at) (p.at == length b.instrs) refl

-- what stands at a place
pub fetch_kept : (f : Function) → Keeps f → (p : Point) → AreFetched (Goes f (edge_function f) (placed f) p) (fetch f p.block p.at) (fetch (edge_function f) (placed_block f p.block) p.at)
fetch_kept f keeps p = by_kind (λ g to c. AreFetched (Goes f g (placing to) p) (fetch f p.block p.at) (fetch g (to p.block) p.at)) f
    (λ e. let r = keeps e in fetch_split f r.labels r.once p)
    (λ e. fetch_plain f p)
