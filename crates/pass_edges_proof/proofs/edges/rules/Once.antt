-- Where edges have blocks, the labels of a phi's operands are different, and jumps alone lead to blocks with phis.
use Rattle.std.proofs.Common.{Bool, List, None, Option, Some, [], ap, arith, false, filter, if◌then◌else◌, length, map, option_map, refl, subst, suc, sym, true, ℕ, ⊎_elim, ◌<◌, ◌∙◌, ◌∷◌, ◌≡◌, ◌≤◌, inl, inr}
use Rattle.std.proofs.lemmas.Option.{slice_get-map}
use Rattle.std.specs.List.{cons_option}
use Rattle.std.specs.Prelude.{filter_map, slice_get}
use Rattle.pass_edges_proof.proofs.edges.paths.Tables.{AreLabelled, all_labelled, leads_to, table_at}
use Rattle.pass_early_proof.specs.ir_laws.paths.threads.Labels.{HasLabelsBelow, HasNamedLabels}
use Rattle.pass_edges_proof.specs.edges.paths.Phis.{AreLabelsOnce}
use Rattle.pass_edges_proof.specs.edges.paths.Spots.{table_of}
use Rattle.pass_edges_proof.proofs.edges.rules.Edges.{led_by_edge}
use Rattle.pass_edges_proof.proofs.edges.rules.Homes.{IsEdge, IsOwn, home}
use Rattle.pass_edges_proof.specs.edges.rules.Phis.{ArePhisEnteredByJumps}
use Rattle.pass_edges.specs.EdgeBlocks.{edge_block, incoming_on, incoming_with, operand_from, split_phi, with_edge_blocks}
use Rattle.pass_edges.specs.Edges.{edges_at, edges_of, has_phis, phi_flags}
use Rattle.pass_edges.specs.declared.edge.Edge.{Edge}
use Rattle.pass_early_proof.specs.rule_phis.Edges.{incoming_labels, leads}
use Rattle.pass_early_proof.specs.flow_solver.Paths.{IsListed}
use Rattle.ir_model.specs.declared.instr.Incoming.{Incoming}
use Rattle.ir_model.specs.declared.instr.Phi.{Phi}
use Rattle.ir_model.specs.declared.instr.Terminator.{Terminator}
use Rattle.ir_model.specs.declared.module.Block.{Block}
use Rattle.ir_model.specs.declared.module.Function.{Function}
use Rattle.ir_model.specs.declared.operand.Operand.{Operand}
use Rattle.pass_early_proof.proofs.ir_laws.facts.Members.{at_each as each_at}
use Rattle.pass_early_proof.specs.ir_laws.paths.woven_rules.Pairs.{AreDifferent}
use Rattle.pass_early_proof.specs.rule_laws.rules.woven_rules.Pairs.{AreIncomingOnce}

-- ---- numbers that rise

abbrev IsRising : ℕ → List ℕ → Type 0
IsRising n [] = Unit {0}
IsRising n (m ∷ ns) = (n ≤ m) × IsRising (suc m) ns

rising_from : (n k : ℕ) (ns : List ℕ) → n ≤ k → IsRising k ns → IsRising n ns
rising_from n k [] le h = tt
rising_from n k (m ∷ ns) le h = let low : k ≤ m = h.0 in (omega (arith, le, low), h.1)

rising_low : (n m : ℕ) (ns : List ℕ) → IsRising n ns → IsListed m ns → n ≤ m
rising_low n m [] h l = absurd l
rising_low n m (k ∷ ns) h (inl e) = let low : n ≤ k = h.0 in omega (arith, low, e)
rising_low n m (k ∷ ns) h (inr l) = let low : n ≤ k = h.0 in let again : suc k ≤ m = rising_low (suc k) m ns h.1 l in omega (arith, low, again)

rising_different : (n : ℕ) (ns : List ℕ) → IsRising n ns → AreDifferent ns
rising_different n [] h = tt
rising_different n (m ∷ ns) h = (λ l. let low : suc m ≤ m = rising_low (suc m) m ns h.1 l in absurd (omega (arith, low)), rising_different (suc m) ns h.1)

-- ---- the labels of edges

labelled_rising : (n : ℕ) (es : List Edge) → AreLabelled n es → IsRising n (map (λ e. e.label) es)
labelled_rising n [] h = tt
labelled_rising n (e ∷ es) h =
    let is : e.label ≡ n = h.0 in
    (omega (arith, is), subst (λ (k : ℕ). IsRising (suc k) (map (λ d. d.label) es)) (sym is) (labelled_rising (suc n) es h.1))

filter_rising : (t : Edge → Bool) (n : ℕ) (es : List Edge) → IsRising n (map (λ e. e.label) es) → IsRising n (map (λ e. e.label) (filter t es))
filter_rising t n [] h = tt
filter_rising t n (e ∷ es) h = on (t e) (filter_rising t (suc e.label) es h.1)
  where
    on : (b : Bool) → IsRising (suc e.label) (map (λ d. d.label) (filter t es)) → IsRising n (map (λ d. d.label) (if b then e ∷ filter t es else filter t es))
    on true again = (h.0, again)
    on false again = let low : n ≤ e.label = h.0 in rising_from n (suc e.label) (map (λ d. d.label) (filter t es)) (omega (arith, low)) again

taken_rising : (is : List Incoming) (n : ℕ) (es : List Edge) → IsRising n (map (λ e. e.label) es) → IsRising n (incoming_labels (filter_map (incoming_on is) es))
taken_rising is n [] h = tt
taken_rising is n (e ∷ es) h = on (operand_from is e.from) (taken_rising is (suc e.label) es h.1)
  where
    on : (o : Option Operand) → IsRising (suc e.label) (incoming_labels (filter_map (incoming_on is) es)) → IsRising n (incoming_labels (cons_option (incoming_with e.label o) (filter_map (incoming_on is) es)))
    on (Some x) again = (h.0, again)
    on None again = let low : n ≤ e.label = h.0 in rising_from n (suc e.label) (incoming_labels (filter_map (incoming_on is) es)) (omega (arith, low)) again

-- ---- phis

module _ (f : Function) (named : HasNamedLabels f) where
  below : (k : ℕ) (b : Block) → slice_get f.blocks k ≡ Some b → b.label < length f.names
  below k b there = (each_at (HasLabelsBelow (length f.names)) f.blocks k b named there).label

  different : (label : ℕ) → label < length f.names → (is : List Incoming) → AreDifferent (incoming_labels (filter_map (incoming_on is) (edges_at (table_of f) label)))
  different label lt is =
      subst (λ (es : List Edge). AreDifferent (incoming_labels (filter_map (incoming_on is) es))) (sym (table_at f label lt))
      (rising_different (length f.names) (incoming_labels (filter_map (incoming_on is) (filter (leads_to label) (edges_of (phi_flags f) f))))
      (taken_rising is (length f.names) (filter (leads_to label) (edges_of (phi_flags f) f))
      (filter_rising (leads_to label) (length f.names) (edges_of (phi_flags f) f) (labelled_rising (length f.names) (edges_of (phi_flags f) f) (all_labelled (phi_flags f) (length f.names) f.blocks)))))

  own_phi : (k : ℕ) (b : Block) (j : ℕ) (p : Phi) → slice_get f.blocks k ≡ Some b → slice_get (map (split_phi (edges_at (table_of f) b.label)) b.phis) j ≡ Some p → AreDifferent (incoming_labels p.incoming)
  own_phi k b j p there e = on (slice_get b.phis j) (sym (slice_get-map (split_phi (edges_at (table_of f) b.label)) b.phis j) ∙ e)
    where
      on : (o : Option Phi) → option_map (split_phi (edges_at (table_of f) b.label)) o ≡ Some p → AreDifferent (incoming_labels p.incoming)
      on None s = absurd (cc)
      on (Some x) s =
          let same : split_phi (edges_at (table_of f) b.label) x ≡ p = cc in
          subst (λ (y : Phi). AreDifferent (incoming_labels y.incoming)) same (different b.label (below k b there) x.incoming)

  pub incoming_once : AreIncomingOnce (with_edge_blocks f)
  incoming_once at j c p there stands = ⊎_elim
      (λ (x : IsOwn f at c). own_phi x.index x.block j p x.got (ap (λ (y : Block). slice_get y.phis j) (sym x.is) ∙ stands))
      (λ (x : IsEdge f at c). let none : slice_get (edge_block x.edge).phis j ≡ Some p = ap (λ (y : Block). slice_get y.phis j) (sym x.is) ∙ stands in absurd (cc))
      (home f at c there)

  -- ---- blocks with phis

  module _ (once : AreLabelsOnce f) where
    phis_were : (es : List Edge) (ps : List Phi) → has_phis (map (split_phi es) ps) ≡ true → has_phis ps ≡ true
    phis_were es [] h = h
    phis_were es (p ∷ ps) h = refl

    jump_on : (k : ℕ) (b : Block) → slice_get f.blocks k ≡ Some b → has_phis b.phis ≡ true → (at : ℕ) (c : Block) → slice_get (with_edge_blocks f).blocks at ≡ Some c → leads b.label c ≡ true → c.term ≡ Terminator.Jump b.label
    jump_on k b there some at c got h =
        let x = led_by_edge f named once k b there some at c got h in
        ap (λ (y : Block). y.term) x.own.is ∙ ap Terminator.Jump x.target

    pub entered_by_jumps : ArePhisEnteredByJumps (with_edge_blocks f)
    entered_by_jumps k j b c there some got h = ⊎_elim
        (λ (x : IsOwn f k b).
        let label : b.label ≡ x.block.label = ap (λ (y : Block). y.label) x.is in
        jump_on x.index x.block x.got (phis_were (edges_at (table_of f) x.block.label) x.block.phis (ap (λ (y : Block). has_phis y.phis) (sym x.is) ∙ some)) j c got (ap (λ (n : ℕ). leads n c) (sym label) ∙ h)
        ∙ ap Terminator.Jump (sym label))
        (λ (x : IsEdge f k b). let none : false ≡ true = ap (λ (y : Block). has_phis y.phis) (sym x.is) ∙ some in absurd (cc))
        (home f k b there)
