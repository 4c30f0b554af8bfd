-- The framed form of a coroutine has the edges of the edged one, and so its jumps leave the same windows.
use Rattle.std.proofs.Common.{◌≡◌, inl, inr, ⊎_elim, ℕ, zero, suc, ◌<◌, List, [], ◌∷◌, Option, Some, refl, sym, ap, ◌∙◌, subst}
use Rattle.std.specs.Prelude.{slice_get}
use Rattle.pass_frames_proof.specs.flow_solver.Paths.{IsListed}
use Rattle.pass_frames_proof.proofs.ir_laws.facts.Truth.{same_truth}
use Rattle.pass_frames_proof.specs.ir_model.Names.{position_of}
use Rattle.pass_frames_proof.specs.ir_model.declared.instr.Instr.{Instr}
use Rattle.pass_frames_proof.specs.ir_model.declared.instr.Terminator.{Terminator}
use Rattle.pass_frames_proof.specs.ir_model.declared.module.Block.{Block}
use Rattle.pass_frames_proof.specs.ir_paths.Facts.{IsWindow}
use Rattle.pass_frames_proof.specs.ir_paths.Paths.{targets}
use Rattle.pass_frames_proof.specs.ir_paths.Windows.{leaves}
use Rattle.pass_frames_proof.specs.ir_paths.declared.point.Window.{Window}
use Rattle.pass_frames_proof.specs.pass_cells.Cells.{fetches_of}
use Rattle.pass_frames_proof.specs.pass_fetch.Instrs.{fetched_term}
use Rattle.pass_frames_proof.specs.pass_fetch.declared.fetch.Fetch.{Fetch}
use Rattle.pass_frames_meaning.proofs.ends.Chains.{AreEdges, HasEdge, IsChain, len, pt}
use Rattle.pass_frames_meaning.proofs.ends.Left.{IsOut, leaves_if}
use Rattle.pass_frames_meaning.proofs.ends.Targets.{is_target}
use Rattle.pass_frames_proof.proofs.code.Ends.{last_far, term_is}
use Rattle.pass_frames_proof.proofs.code.Framed.{entry_made, others_made}
use Rattle.pass_frames_proof.proofs.code.Passes.{block_is}
use Rattle.pass_frames_proof.proofs.jumping.Labels.{position_same}
use Rattle.pass_frames_proof.proofs.jumping.Places.{led_term}
use Rattle.pass_frames_proof.specs.Code.{address_state, end_term, last_state, load_name, slot_table}
use Rattle.pass_frames_proof.specs.Framings.{IsFraming}
use Rattle.pass_frames_proof.specs.Layers.{passed}
use Rattle.pass_frames_proof.specs.Passes.{block_at}
use Rattle.pass_frames_proof.specs.Places.{Framing, edged, entry_layer, framed, instrs_at, placed_layer, plan}

fetched_targets : (t : List (Option Fetch)) (n : ℕ) (e : Terminator) → targets (fetched_term t n e) ≡ targets e
fetched_targets t n (Terminator.Jump label) = refl
fetched_targets t n (Terminator.Branch x a b) = refl
fetched_targets t n (Terminator.Switch arg default cases) = refl
fetched_targets t n (Terminator.Ret v) = refl
fetched_targets t n Terminator.Unreachable = refl

module _ (x : Framing) (is : IsFraming x) where
  end_targets : (k : ℕ) (e : Terminator) → targets (end_term x (last_state x k) e) ≡ targets e
  end_targets k e =
      fetched_targets (slot_table x) (address_state (last_state x k)).0
      (fetched_term (fetches_of (plan x)) (load_name (last_state x k)) e)
      ∙ fetched_targets (fetches_of (plan x)) (load_name (last_state x k)) e

  -- a block of the framed form has the labels
  record HasSame (k : ℕ) (b : Block) : Type 0 where
    block : Block
    there : slice_get (framed x).blocks k ≡ Some block
    targets_are : targets block.term ≡ targets b.term

  same_at : (k : ℕ) (b : Block) → slice_get (edged x).blocks k ≡ Some b → HasSame k b
  same_at zero b e =
      let made = entry_made x b e in
      record {
        block = made.0;
        there = made.1;
        targets_are =
            ap targets (made.2.term
            ∙ ap (λ (js : List Instr). (entry_layer x).term (passed (entry_layer x) (entry_layer x).start js) b.term)
            (sym (ap (λ (c : Block). c.instrs) (block_is (edged x) 0 b e)))
            ∙ led_term (placed_layer x 0) (instrs_at x 0) b.term
            ∙ term_is x is 0 (last_state x 0) (last_far x is 0) b.term)
            ∙ end_targets 0 b.term;
      }
  same_at (suc k) b e =
      let made = others_made x (suc k) (λ z. absurd (cc)) b e in
      record {
        block = made.0;
        there = made.1;
        targets_are =
            ap targets (made.2.term
            ∙ ap (λ (js : List Instr). (placed_layer x (suc k)).term
            (passed (placed_layer x (suc k)) (placed_layer x (suc k)).start js) b.term)
            (sym (ap (λ (c : Block). c.instrs) (block_is (edged x) (suc k) b e)))
            ∙ term_is x is (suc k) (last_state x (suc k)) (last_far x is (suc k)) b.term)
            ∙ end_targets (suc k) b.term;
      }

  module _ (k : ℕ) (got : slice_get (edged x).blocks k ≡ Some (block_at (edged x) k)) where
    same : HasSame k (block_at (edged x) k)
    same = same_at k (block_at (edged x) k) got

    same_block : block_at (framed x) k ≡ same.block
    same_block = block_is (framed x) k same.block same.there

    pub framed_got : slice_get (framed x).blocks k ≡ Some (block_at (framed x) k)
    framed_got = same.there ∙ ap Some (sym same_block)

    pub framed_targets : targets (block_at (framed x) k).term ≡ targets (block_at (edged x) k).term
    framed_targets = ap (λ (b : Block). targets b.term) same_block ∙ same.targets_are

    position_is : (label : ℕ) → IsListed label (targets (block_at (edged x) k).term)
        → position_of (framed x) label ≡ position_of (edged x) label
    position_is label l =
        position_same x label (position_of (edged x) label) (is_target x is k label got l).labelled

    edge_forth : (j : ℕ) → HasEdge (edged x) k j → HasEdge (framed x) k j
    edge_forth j e = record {
      got = framed_got;
      label = e.label;
      listed = subst (IsListed e.label) (sym framed_targets) e.listed;
      to = position_is e.label e.listed ∙ e.to;
    }

    -- with a block there
    edge_back : (j : ℕ) → HasEdge (framed x) k j
        → HasEdge (edged x) k j × (slice_get (edged x).blocks j ≡ Some (block_at (edged x) j))
    edge_back j e =
        let listed : IsListed e.label (targets (block_at (edged x) k).term) =
        subst (IsListed e.label) framed_targets e.listed in
        let to : position_of (edged x) e.label ≡ j = sym (position_is e.label listed) ∙ e.to in (
          record { got = got; label = e.label; listed = listed; to = to },
          subst (λ (n : ℕ). slice_get (edged x).blocks n ≡ Some (block_at (edged x) n)) to
              (is_target x is k e.label got listed).there,
        )

  edges_forth : (a b : ℕ) (ms : List ℕ) (i j : ℕ) → AreEdges (edged x) a b i ms j → AreEdges (framed x) a b i ms j
  edges_forth a b [] i j e = edge_forth i e.got j e
  edges_forth a b (m ∷ ms) i j e = (edge_forth i e.0.got m e.0, (e.1.0, edges_forth a b ms m j e.1.1))

  edges_back : (a b : ℕ) (ms : List ℕ) (i j : ℕ) → slice_get (edged x).blocks i ≡ Some (block_at (edged x) i)
      → AreEdges (framed x) a b i ms j → AreEdges (edged x) a b i ms j
  edges_back a b [] i j got e = (edge_back i got j e).0
  edges_back a b (m ∷ ms) i j got e =
      let z = edge_back i got m e.0 in (z.0, (e.1.0, edges_back a b ms m j z.1 e.1.1))

  chain_forth : (a b i j : ℕ) → IsChain (edged x) a b i j → IsChain (framed x) a b i j
  chain_forth a b i j c = record { between = c.between; edges = edges_forth a b c.between i j c.edges }

  chain_back : (a b i j : ℕ) → slice_get (edged x).blocks i ≡ Some (block_at (edged x) i)
      → IsChain (framed x) a b i j → IsChain (edged x) a b i j
  chain_back a b i j got c = record { between = c.between; edges = edges_back a b c.between i j got c.edges }

  -- ---- one window

  module _ (a na b nb ma mb : ℕ) (lower : na < len (edged x) a) (upper : nb < len (edged x) b)
      (lower2 : ma < len (framed x) a) (upper2 : mb < len (framed x) b)
      (here : slice_get (edged x).blocks a ≡ Some (block_at (edged x) a))
      (there : slice_get (edged x).blocks b ≡ Some (block_at (edged x) b))
      (order : ((a ≡ b) × (na < nb) → (a ≡ b) × (ma < mb)) × ((a ≡ b) × (ma < mb) → (a ≡ b) × (na < nb))) where
    abbrev Old : ℕ → ℕ → Type 0
    Old k j = IsOut (edged x) a na b nb lower upper here there k j

    abbrev New : ℕ → ℕ → Type 0
    New k j = IsOut (framed x) a ma b mb lower2 upper2 (framed_got a here) (framed_got b there) k j

    out_forth : (k j : ℕ) → slice_get (edged x).blocks j ≡ Some (block_at (edged x) j) → Old k j → New k j
    out_forth k j got o = record {
      on = record {
        apart = λ z. o.on.apart (order.1 z);
        from = ⊎_elim (λ e. inl e) (λ z. inr (z.0, chain_forth a b a k z.1)) o.on.from;
        to = chain_forth a b k b o.on.to;
      };
      away = o.away;
      out = λ s. o.out (record {
        other = s.other;
        from = chain_back a b a j here s.from;
        to = chain_back a b j b got s.to;
      });
    }

    out_back : (k j : ℕ) → slice_get (edged x).blocks k ≡ Some (block_at (edged x) k) → New k j → Old k j
    out_back k j got o = record {
      on = record {
        apart = λ z. o.on.apart (order.0 z);
        from = ⊎_elim (λ e. inl e) (λ z. inr (z.0, chain_back a b a k here z.1)) o.on.from;
        to = chain_back a b k b got o.on.to;
      };
      away = o.away;
      out = λ s. o.out (record {
        other = s.other;
        from = chain_forth a b a j s.from;
        to = chain_forth a b j b s.to;
      });
    }

    pub same_leaves : (v w : Window) → v.save ≡ pt a na → v.suspend ≡ pt b nb → IsWindow (edged x) v
        → w.save ≡ pt a ma → w.suspend ≡ pt b mb → IsWindow (framed x) w → (k j : ℕ)
        → slice_get (edged x).blocks k ≡ Some (block_at (edged x) k)
        → slice_get (edged x).blocks j ≡ Some (block_at (edged x) j)
        → leaves (pt k (len (framed x) k)) (pt j 0) w ≡ leaves (pt k (len (edged x) k)) (pt j 0) v
    same_leaves v w vs vu vr ws wu wr k j got to =
        let old = leaves_if (edged x) a na b nb lower upper here there v vs vu vr k j got to in
        let new = leaves_if (framed x) a ma b mb lower2 upper2 (framed_got a here) (framed_got b there) w ws wu wr k j
        (framed_got k got) (framed_got j to) in
        same_truth (leaves (pt k (len (framed x) k)) (pt j 0) w) (leaves (pt k (len (edged x) k)) (pt j 0) v)
        (λ h. old.1 (out_back k j got (new.0 h))) (λ h. new.1 (out_forth k j to (old.0 h)))
