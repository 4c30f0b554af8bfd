-- The uses of phis, which stand on edges: where edges have blocks, they stand on the edges out of those.
use Rattle.std.proofs.Common.{Bool, List, None, Option, Some, [], ap, false, if◌then◌else◌, length, option_map, refl, subst, suc, sym, true, unwrap_or, zero, ℕ, ⊎_elim, ◌+◌, ◌<◌, ◌==◌, ◌∙◌, ◌∷◌, ◌≡◌}
use Rattle.std.proofs.lemmas.Option.{slice_get-map}
use Rattle.std.specs.List.{cons_option}
use Rattle.std.specs.Prelude.{filter_map, slice_get}
use Rattle.pass_edges_proof.proofs.edges.paths.Blocks.{position_edge, spot}
use Rattle.pass_edges_proof.proofs.edges.paths.Edges.{edges_of_block}
use Rattle.pass_early_proof.specs.ir_laws.paths.threads.Labels.{HasNamedLabels}
use Rattle.pass_edges_proof.specs.edges.paths.Phis.{AreLabelsOnce, ArePhisForEdges, IsForEdge}
use Rattle.pass_edges_proof.specs.edges.paths.Spots.{table_of}
use Rattle.pass_edges_proof.proofs.edges.rules.Edges.{first_operand, label_below}
use Rattle.pass_edges_proof.proofs.edges.rules.Homes.{IsEdge, IsOwn, edge_from, home, own_block, own_there}
use Rattle.pass_edges_proof.proofs.edges.rules.Labels.{edge_to_label, label_to_edge}
use Rattle.pass_edges.specs.EdgeBlocks.{edge_block, incoming_on, incoming_with, operand_from, split_phi, with_edge_blocks}
use Rattle.pass_edges.specs.Edges.{edges_at}
use Rattle.pass_edges.specs.declared.edge.Edge.{Edge}
use Rattle.ir_model.specs.Names.{first_where, position_of}
use Rattle.ir_model.specs.declared.instr.Incoming.{Incoming}
use Rattle.ir_model.specs.declared.instr.Phi.{Phi}
use Rattle.ir_model.specs.declared.module.Block.{Block}
use Rattle.ir_model.specs.declared.module.Function.{Function}
use Rattle.ir_model.specs.declared.operand.Operand.{Operand}
use Rattle.pass_early_proof.proofs.ir_paths.Search.{eq_from}
use Rattle.pass_early_proof.proofs.ir_laws.facts.Members.{at_each as each_at}
use Rattle.pass_early_proof.specs.run_laws.changed.Changed.{Each}
use Rattle.pass_early_proof.specs.frame_crossing.EdgeUses.{IsUsedOn}
use Rattle.pass_early_proof.proofs.ir_laws.facts.Numbers.{IsTakenBy}
use Rattle.pass_early_proof.proofs.rule_laws.frames.rows.EdgeUses.{taken_by, used_on}

-- ---- labels and positions

-- a block at the position of a label has the label
first_passes : (label : ℕ) (bs : List Block) (k : ℕ) (b : Block) → unwrap_or (first_where (λ (c : Block). c.label == label) bs) (length bs) ≡ k → slice_get bs k ≡ Some b → b.label ≡ label
first_passes label [] k b e s = absurd (cc)
first_passes label (c ∷ bs) k b e s = on (c.label == label) refl e (λ j d g. first_passes label bs j b d g)
  where
    further : (o : Option ℕ) → unwrap_or (option_map suc o) (suc (length bs)) ≡ suc (unwrap_or o (length bs))
    further None = refl
    further (Some j) = refl

    behind : (j : ℕ) → suc j ≡ k → slice_get bs j ≡ Some b
    behind j same = ap (slice_get (c ∷ bs)) same ∙ s

    on : (t : Bool) → (c.label == label) ≡ t → unwrap_or (if t then Some 0 else option_map suc (first_where (λ (x : Block). x.label == label) bs)) (suc (length bs)) ≡ k → ((j : ℕ) → unwrap_or (first_where (λ (x : Block). x.label == label) bs) (length bs) ≡ j → slice_get bs j ≡ Some b → b.label ≡ label) → b.label ≡ label
    on true h d again =
        let first : Some c ≡ Some b = ap (slice_get (c ∷ bs)) d ∙ s in
        let same : c ≡ b = cc in
        ap (λ (x : Block). x.label) (sym same) ∙ eq_from c.label label h
    on false h d again =
        again (unwrap_or (first_where (λ (x : Block). x.label == label) bs) (length bs)) refl
        (behind (unwrap_or (first_where (λ (x : Block). x.label == label) bs) (length bs)) (sym (further (first_where (λ (x : Block). x.label == label) bs)) ∙ d))

pub label_there : (f : Function) (label k : ℕ) (b : Block) → position_of f label ≡ k → slice_get f.blocks k ≡ Some b → b.label ≡ label
label_there f label k b e s = first_passes label f.blocks k b e s

-- ---- where edges have blocks

module _ (f : Function) (named : HasNamedLabels f) (once : AreLabelsOnce f) where
  abbrev g : Function
  g = with_edge_blocks f

  -- a phi takes for an edge what it took for the block from which the edge comes
  taken_at : (is : List Incoming) (es : List Edge) (i : ℕ) (e : Edge) (x : Operand) → slice_get es i ≡ Some e → operand_from is e.from ≡ Some x → (n : ℕ) × (slice_get (filter_map (incoming_on is) es) n ≡ Some (record { value = x; from = e.label }))
  taken_at is [] i e x s h = absurd (cc)
  taken_at is (d ∷ es) zero e x s h = on (cc)
    where
      on : d ≡ e → (n : ℕ) × (slice_get (filter_map (incoming_on is) (d ∷ es)) n ≡ Some (record { value = x; from = e.label }))
      on same = (
        0,
        ap (λ (o : Option Operand). slice_get (cons_option (incoming_with d.label o) (filter_map (incoming_on is) es)) 0) (ap (λ (y : Edge). operand_from is y.from) same ∙ h)
            ∙ ap (λ (y : Edge). Some (record { value = x; from = y.label })) same,
      )
  taken_at is (d ∷ es) (suc i) e x s h = on (operand_from is d.from) (taken_at is es i e x s h)
    where
      on : (o : Option Operand) → (n : ℕ) × (slice_get (filter_map (incoming_on is) es) n ≡ Some (record { value = x; from = e.label })) → (n : ℕ) × (slice_get (cons_option (incoming_with d.label o) (filter_map (incoming_on is) es)) n ≡ Some (record { value = x; from = e.label }))
      on None again = again
      on (Some y) again = (suc again.0, again.1)

  -- the edge for which an operand is taken then
  record IsTakenFor (is : List Incoming) (es : List Edge) (i : Incoming) : Type 0 where
    index : ℕ
    edge : Edge
    there : slice_get es index ≡ Some edge
    label : i.from ≡ edge.label
    taken : operand_from is edge.from ≡ Some i.value

  taken_for : (is : List Incoming) (es : List Edge) (n : ℕ) (i : Incoming) → slice_get (filter_map (incoming_on is) es) n ≡ Some i → IsTakenFor is es i
  taken_for is [] n i s = absurd (cc)
  taken_for is (e ∷ es) n i s = on (operand_from is e.from) refl n s (taken_for is es)
    where
      later : IsTakenFor is es i → IsTakenFor is (e ∷ es) i
      later x = record { index = suc x.index; edge = x.edge; there = x.there; label = x.label; taken = x.taken }

      on : (o : Option Operand) → operand_from is e.from ≡ o → (n : ℕ) → slice_get (cons_option (incoming_with e.label o) (filter_map (incoming_on is) es)) n ≡ Some i → ((m : ℕ) (j : Incoming) → slice_get (filter_map (incoming_on is) es) m ≡ Some j → IsTakenFor is es j) → IsTakenFor is (e ∷ es) i
      on None d m t again = later (again m i t)
      on (Some x) d zero t again =
          let same : record { value = x; from = e.label } ≡ i = cc in
          record { index = 0; edge = e; there = refl; label = sym (ap (λ (j : Incoming). j.from) same); taken = d ∙ ap (λ (j : Incoming). Some j.value) same }
      on (Some x) d (suc m) t again = later (again m i t)

  -- a use on an edge stands on the edge out of the edge's block
  pub used_forth : ArePhisForEdges f → (v k : ℕ) (b : Block) (i : ℕ) (e : Edge) → slice_get f.blocks k ≡ Some b → slice_get (edges_of_block f k b) i ≡ Some e → IsUsedOn f v k (position_of f e.target) → IsUsedOn g v (spot f k + suc i) (spot f (position_of f e.target))
  used_forth for_edges v k b i e there got used =
      let x = taken_by f v k (position_of f e.target) used in
      let label : x.block.label ≡ e.target = label_there f e.target (position_of f e.target) x.block refl x.got in
      let below : x.block.label < length f.names = label_below f named once (position_of f e.target) x.block x.got in
      let among = label_to_edge f x.block.label k b i e below there got (sym label) in
      let from : b.label ≡ x.incoming.from = label_there f x.incoming.from k b x.source there in
      let each = each_at (λ (p : Phi). Each (IsForEdge f x.block.label p) p.incoming) x.block.phis x.at x.phi (each_at (λ (c : Block). Each (λ (p : Phi). Each (IsForEdge f c.label p) p.incoming) c.phis) f.blocks (position_of f e.target) x.block for_edges x.got) x.stands in
      let first = (each_at (IsForEdge f x.block.label x.phi) x.phi.incoming x.index x.incoming each x.there).first in
      let own : operand_from x.phi.incoming e.from ≡ Some (Operand.Local v) = ap (operand_from x.phi.incoming) ((edge_from f k b i e got).0 ∙ from) ∙ first ∙ ap (λ (y : Operand). Some y) x.value in
      let taken = taken_at x.phi.incoming (edges_at (table_of f) x.block.label) among.at e (Operand.Local v) among.got own in
      used_on g v (spot f k + suc i) (spot f (position_of f e.target))
      (record {
        block = own_block f (position_of f e.target) x.block;
        got = own_there f (position_of f e.target) x.block x.got;
        at = x.at;
        phi = split_phi (edges_at (table_of f) x.block.label) x.phi;
        stands = slice_get-map (split_phi (edges_at (table_of f) x.block.label)) x.block.phis x.at ∙ ap (option_map (split_phi (edges_at (table_of f) x.block.label))) x.stands;
        index = taken.0;
        incoming = record { value = Operand.Local v; from = e.label };
        there = taken.1;
        source = position_edge f named k b i e there got;
        value = refl;
      })

  -- where a use on an edge stood
  pub record WasUsed (v x y : ℕ) : Type 0 where
    pub index : ℕ
    pub block : Block
    pub got : slice_get f.blocks index ≡ Some block
    pub position : ℕ
    pub edge : Edge
    pub there : slice_get (edges_of_block f index block) position ≡ Some edge
    pub from : x ≡ spot f index + suc position
    pub to : y ≡ spot f (position_of f edge.target)
    pub used : IsUsedOn f v index (position_of f edge.target)

  own_used : (v x t : ℕ) (c : Block) (n : ℕ) (p : Phi) (m : ℕ) (i : Incoming) → slice_get f.blocks t ≡ Some c → slice_get c.phis n ≡ Some p → slice_get (filter_map (incoming_on p.incoming) (edges_at (table_of f) c.label)) m ≡ Some i → position_of g i.from ≡ x → i.value ≡ Operand.Local v → WasUsed v x (spot f t)
  own_used v x t c n p m i there stands had source value =
      let y = taken_for p.incoming (edges_at (table_of f) c.label) m i had in
      let e : Edge = y.edge in
      let z = edge_to_label f c.label e (label_below f named once t c there) (record { at = y.index; got = y.there }) in
      let at : position_of f e.target ≡ t = ap (position_of f) z.target ∙ once t c there in
      let o = first_operand p.incoming e.from i.value y.taken in
      let from : o.incoming.from ≡ z.home.block.label = o.from ∙ (edge_from f z.home.index z.home.block z.home.position e z.home.there).0 in
      record {
        index = z.home.index;
        block = z.home.block;
        got = z.home.got;
        position = z.home.position;
        edge = e;
        there = z.home.there;
        from = sym source ∙ ap (position_of g) y.label ∙ position_edge f named z.home.index z.home.block z.home.position e z.home.got z.home.there;
        to = ap (spot f) (sym at);
        used = subst (IsUsedOn f v z.home.index) (sym at) (used_on f v z.home.index t (record {
          block = c;
          got = there;
          at = n;
          phi = p;
          stands = stands;
          index = o.index;
          incoming = o.incoming;
          there = o.got;
          source = ap (position_of f) from ∙ once z.home.index z.home.block z.home.got;
          value = o.value ∙ value;
        }));
      }

  pub used_home : (v x y : ℕ) → IsUsedOn g v x y → WasUsed v x y
  used_home v x y used =
      let t = taken_by g v x y used in
      ⊎_elim
      (λ (o : IsOwn f y t.block). subst (WasUsed v x) (sym o.stands) (of_own t o (slice_get o.block.phis t.at) refl (sym (slice_get-map (split_phi (edges_at (table_of f) o.block.label)) o.block.phis t.at) ∙ ap (λ (c : Block). slice_get c.phis t.at) (sym o.is) ∙ t.stands)))
      (λ (o : IsEdge f y t.block). let none : slice_get (edge_block o.edge).phis t.at ≡ Some t.phi = ap (λ (c : Block). slice_get c.phis t.at) (sym o.is) ∙ t.stands in absurd (cc))
      (home f y t.block t.got)
    where
      of_own : (t : IsTakenBy g v x y) (o : IsOwn f y t.block) (q : Option Phi) → slice_get o.block.phis t.at ≡ q → option_map (split_phi (edges_at (table_of f) o.block.label)) q ≡ Some t.phi → WasUsed v x (spot f o.index)
      of_own t o None d s = absurd (cc)
      of_own t o (Some p) d s =
          let same : split_phi (edges_at (table_of f) o.block.label) p ≡ t.phi = cc in
          own_used v x o.index o.block t.at p t.index t.incoming o.got d (ap (λ (z : Phi). slice_get z.incoming t.index) same ∙ t.there) t.source t.value
