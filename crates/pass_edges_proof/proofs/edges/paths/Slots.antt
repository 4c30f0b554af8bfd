-- The ramp slots of a function whose edges have blocks are those of the function.
use Rattle.std.proofs.Common.{◌≡◌, ℕ, zero, suc, ◌<◌, Bool, true, List, [], ◌∷◌, length, refl, sym, ap, ◌∙◌, subst}
use Rattle.std.proofs.lemmas.List.{length-map}
use Rattle.std.proofs.lemmas.Option.{slice_get-map}
use Rattle.std.specs.List.{list_any}
use Rattle.std.specs.Prelude.{Some, None, Option, filter_map, flat_map, map, option_and_then, option_map, option_to_list, slice_get, ◌||◌, ◌==◌}
use Rattle.pass_edges.specs.EdgeBlocks.{incoming_on, split_block, split_phi, split_term, with_edge_blocks}
use Rattle.pass_edges.specs.Edges.{edges_at, edges_of, ends_in_suspend, has_phis, phi_flags}
use Rattle.pass_edges.specs.declared.edge.Edge.{Edge}
use Rattle.ir_model.specs.declared.instr.Incoming.{Incoming}
use Rattle.ir_model.specs.declared.instr.Instr.{Instr}
use Rattle.ir_model.specs.declared.instr.Phi.{Phi}
use Rattle.ir_model.specs.declared.instr.Terminator.{Terminator}
use Rattle.ir_model.specs.declared.module.Block.{Block}
use Rattle.ir_model.specs.declared.module.Function.{Function}
use Rattle.ir_model.specs.declared.operand.Intrinsic.{Intrinsic}
use Rattle.pass_early_proof.proofs.ir_paths.Right.{facts_of_right}
use Rattle.pass_early_proof.specs.ir_paths.Facts.{facts_of}
use Rattle.pass_early_proof.specs.ir_paths.Paths.{has_point}
use Rattle.pass_early_proof.specs.ir_paths.Slots.{IsBehindSuspend, IsRampSlot, addresses_of, addresses_within, allocas_in, allocas_of, exposed_in_block, exposes, geps_from, has_name, is_escaped, is_gep, local_of, occurs_in_phi, occurs_in_term, promise_of, touches, touching_points}
use Rattle.pass_early_proof.specs.ir_paths.Windows.{call_operand, instr_at, is_call_of, points_where}
use Rattle.pass_early_proof.specs.ir_paths.declared.point.Point.{Point}
use Rattle.pass_early_proof.specs.run_step.Step.{incoming_from}
use Rattle.pass_early_proof.proofs.ir_laws.facts.Truth.{same_truth}
use Rattle.pass_early_proof.proofs.ir_laws.facts.Members.{at_each as each_at, each_by}
use Rattle.pass_early_proof.specs.run_laws.changed.Changed.{Each}
use Rattle.pass_edges_proof.proofs.edges.paths.Behind.{behind_forth, behind_home}
use Rattle.pass_edges_proof.proofs.edges.paths.Phis.{IsKept, same_occurs, same_taken}
use Rattle.pass_early_proof.proofs.ir_laws.paths.expanded.Ways.{has_map}
use Rattle.pass_edges_proof.proofs.edges.paths.Points.{map_has, points_moved}
use Rattle.pass_edges_proof.proofs.edges.paths.Tables.{IsSplitFrom, filter_among, flag_at, one_edge, split_from, table_at}
use Rattle.pass_edges_proof.proofs.edges.paths.Whole.{any_split, flat_split}
use Rattle.pass_edges_proof.proofs.edges.paths.Windows.{instr_moved}
use Rattle.pass_early_proof.specs.ir_laws.paths.threads.Labels.{HasLabelsBelow, HasNamedLabels}
use Rattle.pass_edges_proof.specs.edges.paths.Labels.{IsAmong}
use Rattle.pass_edges_proof.specs.edges.paths.Phis.{AreLabelsOnce, ArePhisForEdges, IsForEdge}
use Rattle.pass_edges_proof.specs.edges.paths.Spots.{moved, table_of}

pub term_occurs : (v : ℕ) (flags : List Bool) (resumes : Bool) (n : ℕ) (t : Terminator) → occurs_in_term v (split_term flags resumes n t) ≡ occurs_in_term v t
term_occurs v flags resumes n (Terminator.Jump label) = refl
term_occurs v flags resumes n (Terminator.Branch c a b) = refl
term_occurs v flags resumes n (Terminator.Switch arg default cases) = refl
term_occurs v flags resumes n (Terminator.Ret None) = refl
term_occurs v flags resumes n (Terminator.Ret (Some arg)) = refl
term_occurs v flags resumes n Terminator.Unreachable = refl

module _ (f : Function) where
  abbrev g : Function
  g = with_edge_blocks f

  pub same_allocas : allocas_of (with_edge_blocks f) ≡ allocas_of f
  same_allocas = flat_split (phi_flags f) (table_of f) allocas_in refl (length f.names) f.blocks

  gep_count : length (points_where is_gep g) ≡ length (points_where is_gep f)
  gep_count = ap length (points_moved is_gep f) ∙ length-map (points_where is_gep f) (moved f)

  within_same : (n a : ℕ) → addresses_within n g a ≡ addresses_within n f a
  within_same zero a = refl
  within_same (suc n) a =
      ap (λ (vs : List ℕ). a ∷ flat_map (λ (b : Block). geps_from (has_name vs) b.instrs) (with_edge_blocks f).blocks) (within_same n a)
      ∙ ap (λ (vs : List ℕ). a ∷ vs) (flat_split (phi_flags f) (table_of f) (geps_from (has_name (addresses_within n f a))) refl (length f.names) f.blocks)

  pub same_addresses : (a : ℕ) → addresses_of g a ≡ addresses_of f a
  same_addresses a = ap (λ (n : ℕ). addresses_within n (with_edge_blocks f) a) gep_count ∙ within_same (length (points_where is_gep f)) a

  same_touching : (a : ℕ) → touching_points g a ≡ map (moved f) (touching_points f a)
  same_touching a =
      ap (λ (vs : List ℕ). points_where (touches vs) (with_edge_blocks f)) (same_addresses a)
      ∙ points_moved (touches (addresses_of f a)) f

  -- ---- the promise

  abbrev is_id : Instr → Bool
  is_id i = is_call_of Intrinsic.CoroId i

  abbrev promise_at : Option Instr → Option ℕ
  promise_at o = option_and_then (λ (i : Instr). local_of (call_operand i 1)) o

  pub same_promise : promise_of (with_edge_blocks f) ≡ promise_of f
  same_promise =
      ap (λ (ps : List Point). promise_at (option_and_then (instr_at (with_edge_blocks f)) (slice_get ps 0))) (points_moved is_id f)
      ∙ ap (λ (o : Option Point). promise_at (option_and_then (instr_at (with_edge_blocks f)) o)) (slice_get-map (moved f) (points_where is_id f) 0)
      ∙ on (slice_get (points_where is_id f) 0)
    where
      on : (o : Option Point) → promise_at (option_and_then (instr_at (with_edge_blocks f)) (option_map (moved f) o)) ≡ promise_at (option_and_then (instr_at f) o)
      on None = refl
      on (Some p) = ap promise_at (instr_moved f p)

  module _ (named : HasNamedLabels f) (once : AreLabelsOnce f) (phis : ArePhisForEdges f) where
    -- ---- phis

    -- each operand of a phi stays, for an edge's block
    pub operands_kept : (v k : ℕ) (b : Block) → slice_get f.blocks k ≡ Some b → Each (λ (p : Phi). Each (IsKept v p.incoming (edges_at (table_of f) b.label)) p.incoming) b.phis
    operands_kept v k b e = on b.phis refl (each_at (λ (c : Block). Each (λ (p : Phi). Each (IsForEdge f c.label p) p.incoming) c.phis) f.blocks k b phis e)
      where
        below : b.label < length f.names
        below = (each_at (HasLabelsBelow (length f.names)) f.blocks k b named e).label

        operands : has_phis b.phis ≡ true → (p : Phi) (is : List Incoming) → Each (IsForEdge f b.label p) is → Each (IsKept v p.incoming (edges_at (table_of f) b.label)) is
        operands some p [] h = tt
        operands some p (i ∷ is) h =
            let s : IsSplitFrom f i.from b.label = split_from f i.from b.label below (flag_at f once named k b e ∙ some) h.0.comes in
            (record { edge = s.edge; is_from = s.is_from; among = s.among; first = h.0.first }, operands some p is h.1)

        all : has_phis b.phis ≡ true → (ps : List Phi) → Each (λ (p : Phi). Each (IsForEdge f b.label p) p.incoming) ps → Each (λ (p : Phi). Each (IsKept v p.incoming (edges_at (table_of f) b.label)) p.incoming) ps
        all some [] h = tt
        all some (p ∷ ps) h = (operands some p p.incoming h.0, all some ps h.1)

        on : (ps : List Phi) → b.phis ≡ ps → Each (λ (p : Phi). Each (IsForEdge f b.label p) p.incoming) b.phis → Each (λ (p : Phi). Each (IsKept v p.incoming (edges_at (table_of f) b.label)) p.incoming) b.phis
        on [] s h = subst (Each (λ (p : Phi). Each (IsKept v p.incoming (edges_at (table_of f) b.label)) p.incoming)) (sym s) tt
        on (p ∷ ps) s h = all (ap has_phis s) b.phis h

    phis_occur : (v : ℕ) (es : List Edge) (ps : List Phi) → Each (λ (p : Phi). Each (IsKept v p.incoming es) p.incoming) ps → list_any (occurs_in_phi v) (map (split_phi es) ps) ≡ list_any (occurs_in_phi v) ps
    phis_occur v es [] h = refl
    phis_occur v es (p ∷ ps) h =
        let first = same_occurs v es p h.0 in
        let rest = phis_occur v es ps h.1 in
        λ i. first i || rest i

    -- ---- escaped slots

    abbrev KeepsPhis : ℕ → Block → Type 0
    KeepsPhis v b = Each (λ (p : Phi). Each (IsKept v p.incoming (edges_at (table_of f) b.label)) p.incoming) b.phis

    exposed_split : (v n : ℕ) (b : Block) → KeepsPhis v b → exposed_in_block v (split_block (phi_flags f) (table_of f) n b) ≡ exposed_in_block v b
    exposed_split v n b h =
        let first = phis_occur v (edges_at (table_of f) b.label) b.phis h in
        let last = term_occurs v (phi_flags f) (ends_in_suspend b.instrs) n b.term in
        λ i. first i || list_any (exposes v) b.instrs || last i

    exposed_anywhere : (v : ℕ) → list_any (exposed_in_block v) (with_edge_blocks f).blocks ≡ list_any (exposed_in_block v) f.blocks
    exposed_anywhere v =
        any_split (phi_flags f) (table_of f) (exposed_in_block v) (exposed_in_block v) (KeepsPhis v) (exposed_split v) (λ e. refl) (length f.names) f.blocks
        (each_by (KeepsPhis v) f.blocks (operands_kept v))

    any_same : (t u : ℕ → Bool) → ((v : ℕ) → t v ≡ u v) → (vs : List ℕ) → list_any t vs ≡ list_any u vs
    any_same t u h [] = refl
    any_same t u h (v ∷ vs) = let rest = any_same t u h vs in λ i. h v i || rest i

    pub same_escaped : (a : ℕ) → is_escaped g a ≡ is_escaped f a
    same_escaped a =
        ap (λ (vs : List ℕ). list_any (λ v. list_any (exposed_in_block v) (with_edge_blocks f).blocks) vs) (same_addresses a)
        ∙ any_same (λ v. list_any (exposed_in_block v) (with_edge_blocks f).blocks) (λ v. list_any (exposed_in_block v) f.blocks) exposed_anywhere (addresses_of f a)

    -- ---- ramp slots

    ramp_forth : (a : ℕ) → IsRampSlot f a → IsRampSlot g a
    ramp_forth a r = record {
      is_not_promise = ap (λ (o : Option ℕ). has_name (option_to_list o) a) same_promise ∙ r.is_not_promise;
      is_not_escaped = same_escaped a ∙ r.is_not_escaped;
      in_ramp = λ p h b.
          let from = map_has (moved f) (touching_points f a) p (ap (λ (ps : List Point). has_point ps p) (sym (same_touching a)) ∙ h) in
          r.in_ramp from.point from.there (behind_home f named from.point (subst (IsBehindSuspend (with_edge_blocks f)) from.is b));
    }

    ramp_home : (a : ℕ) → IsRampSlot g a → IsRampSlot f a
    ramp_home a r = record {
      is_not_promise = ap (λ (o : Option ℕ). has_name (option_to_list o) a) (sym same_promise) ∙ r.is_not_promise;
      is_not_escaped = sym (same_escaped a) ∙ r.is_not_escaped;
      in_ramp = λ p h b. r.in_ramp (moved f p) (ap (λ (ps : List Point). has_point ps (moved f p)) (same_touching a) ∙ has_map (moved f) (touching_points f a) p h) (behind_forth f named p b);
    }

    pub same_ramp_slots : (a : ℕ) → has_name (facts_of (with_edge_blocks f)).ramp_slots a ≡ has_name (facts_of f).ramp_slots a
    same_ramp_slots a = same_truth (has_name (facts_of g).ramp_slots a) (has_name (facts_of f).ramp_slots a)
        (λ h.
        let own = ((facts_of_right g).ramp_slots a).0 h in
        ((facts_of_right f).ramp_slots a).1 (ap (λ (vs : List ℕ). has_name vs a) (sym same_allocas) ∙ own.0, ramp_home a own.1))
        (λ h.
        let own = ((facts_of_right f).ramp_slots a).0 h in
        ((facts_of_right g).ramp_slots a).1 (ap (λ (vs : List ℕ). has_name vs a) same_allocas ∙ own.0, ramp_forth a own.1))

-- ---- what phis take

-- a phi takes from an edge's block what it took from the block from which the edge comes
pub phi_taken : (f : Function) → (label : ℕ) → label < length f.names → (is : List Incoming) (d : Edge) → IsAmong (edges_at (table_of f) label) d → incoming_from (filter_map (incoming_on is) (edges_at (table_of f) label)) d.label ≡ incoming_from is d.from
phi_taken f label lt is d a = same_taken is d.from d.label (edges_at (table_of f) label) d one refl a
  where
    own : (e : Edge) → IsAmong (edges_at (table_of f) label) e → IsAmong (edges_of (phi_flags f) f) e
    own e b = filter_among (λ (x : Edge). x.target == label) (edges_of (phi_flags f) f) e (subst (λ (es : List Edge). IsAmong es e) (table_at f label lt) b)

    one : Each (λ (e : Edge). e.label ≡ d.label → e.from ≡ d.from) (edges_at (table_of f) label)
    one = each_by (λ (e : Edge). e.label ≡ d.label → e.from ≡ d.from) (edges_at (table_of f) label) (λ k e s same. ap (λ (x : Edge). x.from) (one_edge f e d (own e (record { at = k; got = s })) (own d a) same))
