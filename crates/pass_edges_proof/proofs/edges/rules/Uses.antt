-- Where edges have blocks, no use is undefined that was none (rule F2).
use Rattle.std.proofs.Common.{Bool, List, None, Option, Some, [], ap, arith, false, if◌then◌else◌, length, map, refl, subst, suc, sym, true, ℕ, ⊎_elim, ◌++◌, ◌+◌, ◌<◌, ◌==◌, ◌∙◌, ◌∷◌, ◌≡◌, inl, inr, unwrap_or}
use Rattle.std.specs.List.{cons_option}
use Rattle.std.specs.Prelude.{filter_map, option_to_list, slice_get}
use Rattle.pass_early_proof.specs.ir_base.declared.outcome.Place.{Place}
use Rattle.pass_early_proof.specs.rule_uses.Undefined.{Entry, IsFirstUndefined, IsUndefined, Next, ReachesWithout}
use Rattle.pass_early_proof.specs.rule_uses.Uses.{Use, block_uses, block_values, blocks_uses, incoming_use, incoming_uses, instr_uses, local_of, locals_in, made_by_instrs, made_by_phis, phi_uses, phi_values, use_of, uses_at, uses_of, values_at, values_in}
use Rattle.pass_early_proof.proofs.ir_laws.facts.Members.{each_behind, at_each as each_at}
use Rattle.pass_early_proof.proofs.rule_laws.rules.renamed.Outside.{each_left, each_right}
use Rattle.pass_early_proof.proofs.rule_laws.rules.renamed.Uses.{AreOfBlock, none_undefined, of_block, three_kinds}
use Rattle.pass_early_proof.proofs.rule_laws.rules.path_rules.SavedUses.{all_defined}
use Rattle.pass_edges_proof.proofs.edges.paths.Blocks.{own_number, position_edge, position_moved, spot}
use Rattle.pass_edges_proof.proofs.edges.paths.Edges.{edges_of_block}
use Rattle.pass_early_proof.specs.ir_laws.paths.threads.Labels.{HasLabelsBelow, HasNamedLabels}
use Rattle.pass_edges_proof.specs.edges.paths.Labels.{IsAmong}
use Rattle.pass_edges_proof.specs.edges.paths.Phis.{AreLabelsOnce}
use Rattle.pass_edges_proof.specs.edges.paths.Spots.{table_of}
use Rattle.pass_edges_proof.proofs.edges.rules.Homes.{IsEdge, IsOwn, edge_from, edge_spots, edge_target, home, own_block, own_there, spots_apart, spots_no_edge, target_home, target_low}
use Rattle.pass_edges_proof.proofs.edges.rules.Labels.{ComesFromBlock, edge_to_label}
use Rattle.pass_edges_proof.proofs.edges.rules.Operands.{ending_operands_same}
use Rattle.pass_edges.specs.EdgeBlocks.{edge_block, incoming_on, incoming_with, split_phi, with_edge_blocks, operand_from}
use Rattle.pass_edges.specs.Edges.{edges_at, ends_in_suspend, phi_flags}
use Rattle.pass_edges.specs.declared.edge.Edge.{Edge}
use Rattle.pass_early_proof.proofs.flow_solver.Lists.{listed_at, place_of as place_in}
use Rattle.pass_early_proof.specs.flow_solver.Paths.{IsListed}
use Rattle.pass_early_proof.specs.ir_parts.Contents.{ending_operands, instr_operands, result_of}
use Rattle.pass_early_proof.specs.ir_parts.Parts.{instr_place}
use Rattle.ir_model.specs.Names.{position_of}
use Rattle.ir_model.specs.declared.instr.Incoming.{Incoming}
use Rattle.ir_model.specs.declared.instr.Instr.{Instr}
use Rattle.ir_model.specs.declared.instr.Phi.{Phi}
use Rattle.ir_model.specs.declared.module.Block.{Block}
use Rattle.ir_model.specs.declared.module.Function.{Function}
use Rattle.ir_model.specs.declared.operand.Operand.{Operand}
use Rattle.pass_early_proof.proofs.ir_paths.Search.{eq_from}
use Rattle.pass_early_proof.specs.ir_paths.Paths.{targets}
use Rattle.pass_early_proof.specs.run_laws.changed.Changed.{Each}
use Rattle.pass_early_proof.proofs.rule_laws.frame_crossing.Blocks.{edge_is_out, target_is_edge}

-- ---- what blocks make

made_same : (es : List Edge) (before : List ℕ) (ps : List Phi) → made_by_phis before (map (split_phi es) ps) ≡ made_by_phis before ps
made_same es before [] = refl
made_same es before (p ∷ ps) = made_same es (p.result ∷ before) ps

module _ (f : Function) (named : HasNamedLabels f) where
  abbrev g : Function
  g = with_edge_blocks f

  -- the values before the instructions, and all, are those of the block
  pub phi_values_same : (k : ℕ) (b : Block) → phi_values (own_block f k b) ≡ phi_values b
  phi_values_same k b = made_same (edges_at (table_of f) b.label) [] b.phis

  pub values_same : (k : ℕ) (b : Block) → block_values (own_block f k b) ≡ block_values b
  values_same k b = ap (λ (before : List ℕ). made_by_instrs before b.instrs) (phi_values_same k b)

  values_own : (k : ℕ) (b : Block) → slice_get f.blocks k ≡ Some b → values_at g (spot f k) ≡ values_at f k
  values_own k b there = ap values_in (own_there f k b there) ∙ values_same k b ∙ sym (ap values_in there)

  -- ---- paths of blocks

  -- what a path to a block then says of the function: one to the block, or to the block from which an edge comes
  record Reaches (v x : ℕ) : Type 0 where
    own : (k : ℕ) → x ≡ spot f k → ReachesWithout f v k
    edge : (k : ℕ) (b : Block) (i : ℕ) (e : Edge) → slice_get f.blocks k ≡ Some b → slice_get (edges_of_block f k b) i ≡ Some e → x ≡ spot f k + suc i → ReachesWithout f v k × (IsListed v (values_at f k) → ⊥)

  -- where an edge leads to a block of the function
  to_own : (v k t : ℕ) (b : Block) → slice_get f.blocks k ≡ Some b → IsListed t (targets b.term) → ReachesWithout f v k → (IsListed v (values_at f k) → ⊥) → (x : ℕ) → x ≡ spot f (position_of f t) → Reaches v x
  to_own v k t b there l reached unmade x same = record {
    own = λ j e. subst (ReachesWithout f v) (spots_apart f (position_of f t) j (sym same ∙ e)) (Next k (position_of f t) reached unmade (target_is_edge f k t b there l));
    edge = λ j c i d here got e. absurd (spots_no_edge f named j c i d here got (position_of f t) (sym same ∙ e));
  }

  -- where it leads to an edge's block
  to_edge : (v k i : ℕ) (b : Block) (e : Edge) → slice_get f.blocks k ≡ Some b → slice_get (edges_of_block f k b) i ≡ Some e → ReachesWithout f v k → (IsListed v (values_at f k) → ⊥) → (x : ℕ) → x ≡ spot f k + suc i → Reaches v x
  to_edge v k i b e there got reached unmade x same = record {
    own = λ j d. absurd (spots_no_edge f named k b i e there got j (sym d ∙ same));
    edge = λ j c n d here had is.
        let one : k ≡ j = edge_spots f k j b c i n e d there got here had (sym same ∙ is) in
        (subst (ReachesWithout f v) one reached, subst (λ (z : ℕ). IsListed v (values_at f z) → ⊥) one unmade);
  }

  moved_label : (t : ℕ) → t < length f.names → position_of g t ≡ spot f (position_of f t)
  moved_label t lt = position_moved f t lt

  onward : (v from to : ℕ) (c : Block) (label : ℕ) → slice_get g.blocks from ≡ Some c → IsListed label (targets c.term) → to ≡ position_of g label → Reaches v from → (IsListed v (values_at g from) → ⊥) → Reaches v to
  onward v from to c label there l leads_to_it so_far unmade = ⊎_elim of_own of_edge (home f from c there)
    where
      of_own : IsOwn f from c → Reaches v to
      of_own x =
          let place = place_in (targets (own_block f x.index x.block).term) label (subst (λ (y : Block). IsListed label (targets y.term)) x.is l) in
          let t = target_home f x.index x.block place.0 label place.1 in
          let reached : ReachesWithout f v x.index = so_far.own x.index x.stands in
          let still : IsListed v (values_at f x.index) → ⊥ = λ m. unmade (subst (IsListed v) (sym (ap (values_at g) x.stands ∙ values_own x.index x.block x.got)) m) in
          let listed : IsListed t.target (targets x.block.term) = listed_at (targets x.block.term) place.0 t.target t.got in
          ⊎_elim
          (λ (y : (label ≡ t.target) × (unwrap_or (slice_get (phi_flags f) t.target) false ≡ false)). to_own v x.index t.target x.block x.got listed reached still to (leads_to_it ∙ ap (position_of g) y.0 ∙ moved_label t.target (target_low f named x.index x.block t.target x.got listed)))
          (λ (a : IsAmong (edges_of_block f x.index x.block) (record { from = x.block.label; target = t.target; label = label })).
          let e : Edge = record { from = x.block.label; target = t.target; label = label } in
          to_edge v x.index a.at x.block e x.got a.got reached still to (leads_to_it ∙ position_edge f named x.index x.block a.at e x.got a.got))
          t.split

      of_edge : IsEdge f from c → Reaches v to
      of_edge x =
          let both = so_far.edge x.index x.block x.position x.edge x.got x.there x.stands in
          let own : IsListed x.edge.target (targets x.block.term) = edge_target f x.index x.block x.position x.edge x.there in
          to_own v x.index x.edge.target x.block x.got own both.0 both.1 to
          (leads_to_it ∙ ap (position_of g) (only (subst (λ (y : Block). IsListed label (targets y.term)) x.is l)) ∙ moved_label x.edge.target (target_low f named x.index x.block x.edge.target x.got own))
        where
          only : IsListed label (x.edge.target ∷ []) → label ≡ x.edge.target
          only (inl e) = e
          only (inr m) = absurd m

  reach : (v x : ℕ) → ReachesWithout g v x → Reaches v x
  reach v _ Entry = record {
    own = λ k e. let first : 0 ≡ k = spots_apart f 0 k e in subst (ReachesWithout f v) first Entry;
    edge = λ k b i e there got same. absurd (omega (arith, same));
  }
  reach v _ (Next from to h unmade edge) =
      let x = edge_is_out g from to edge in
      onward v from to x.block x.label x.is_block x.is_target x.leads (reach v from h) unmade

  -- ---- uses

  abbrev Fine : Function → Use → Type 0
  Fine h u = IsUndefined h u → ⊥

  pub moved_fine : (p q : Place) (k v : ℕ) (before : List ℕ) → Fine f (use_of p k before v) → Fine g (use_of q (spot f k) before v)
  moved_fine p q k v before fine u = fine (record { reaches = (reach v (spot f k) u.reaches).own k refl; not_before = u.not_before; no_param = u.no_param })

  values_fine : (p q : Place) (k : ℕ) (before : List ℕ) (vs : List ℕ) → Each (Fine f) (map (use_of p k before) vs) → Each (Fine g) (map (use_of q (spot f k) before) vs)
  values_fine p q k before [] h = tt
  values_fine p q k before (v ∷ vs) h = (moved_fine p q k v before h.0, values_fine p q k before vs h.1)

  instrs_fine : (func k at to : ℕ) (before : List ℕ) (is : List Instr) → Each (Fine f) (instr_uses func k at before is) → Each (Fine g) (instr_uses func (spot f k) to before is)
  instrs_fine func k at to before [] h = tt
  instrs_fine func k at to before (i ∷ is) h =
      let first : List Use = uses_at (instr_place func k at) k before (instr_operands i) in
      let rest : List Use = instr_uses func k (at + 1) (option_to_list (result_of i) ++ before) is in
      each_behind (Fine g) (uses_at (instr_place func (spot f k) to) (spot f k) before (instr_operands i)) (instr_uses func (spot f k) (to + 1) (option_to_list (result_of i) ++ before) is)
      (values_fine (instr_place func k at) (instr_place func (spot f k) to) k before (locals_in (instr_operands i)) (each_left (Fine f) first rest h))
      (instrs_fine func k (at + 1) (to + 1) (option_to_list (result_of i) ++ before) is (each_right (Fine f) first rest h))

  -- the use of what a phi takes for a label
  taken_fine : (p : Place) (is : List Incoming) (label v : ℕ) → Each (Fine f) (incoming_uses f p is) → operand_from is label ≡ Some (Operand.Local v) → Fine f (use_of p (position_of f label) (values_at f (position_of f label)) v)
  taken_fine p [] label v h e = absurd (cc)
  taken_fine p (i ∷ is) label v h e = on (i.from == label) refl e (taken_fine p is label v (each_right (Fine f) (map (incoming_use f p i) (option_to_list (local_of i.value))) (incoming_uses f p is) h))
    where
      own : Each (Fine f) (map (incoming_use f p i) (option_to_list (local_of i.value)))
      own = each_left (Fine f) (map (incoming_use f p i) (option_to_list (local_of i.value))) (incoming_uses f p is) h

      first : i.value ≡ Operand.Local v → Fine f (use_of p (position_of f i.from) (values_at f (position_of f i.from)) v)
      first same = (subst (λ (x : Operand). Each (Fine f) (map (incoming_use f p i) (option_to_list (local_of x)))) same own).0

      on : (b : Bool) → (i.from == label) ≡ b → (if b then Some i.value else operand_from is label) ≡ Some (Operand.Local v) → (operand_from is label ≡ Some (Operand.Local v) → Fine f (use_of p (position_of f label) (values_at f (position_of f label)) v)) → Fine f (use_of p (position_of f label) (values_at f (position_of f label)) v)
      on true s d again =
          let value : i.value ≡ Operand.Local v = cc in
          subst (λ (n : ℕ). Fine f (use_of p (position_of f n) (values_at f (position_of f n)) v)) (eq_from i.from label s) (first value)
      on false s d again = again d

  module _ (once : AreLabelsOnce f) where
    -- what is used on an edge was used at the end of the block from which the edge comes
    pub edge_fine : (p q : Place) (k : ℕ) (b : Block) (i : ℕ) (e : Edge) (v : ℕ) → slice_get f.blocks k ≡ Some b → slice_get (edges_of_block f k b) i ≡ Some e → Fine f (use_of p (position_of f e.from) (values_at f (position_of f e.from)) v) → Fine g (use_of q (position_of g e.label) (values_at g (position_of g e.label)) v)
    edge_fine p q k b i e v there got fine u =
        let at : position_of f e.from ≡ k = ap (position_of f) (edge_from f k b i e got).0 ∙ once k b there in
        let both = (reach v (position_of g e.label) u.reaches).edge k b i e there got (position_edge f named k b i e there got) in
        fine (record {
          reaches = subst (ReachesWithout f v) (sym at) both.0;
          not_before = subst (λ (n : ℕ). IsListed v (values_at f n) → ⊥) (sym at) both.1;
          no_param = u.no_param;
        })

    incoming_fine : (p q : Place) (is : List Incoming) (es : List Edge) → ((i : ℕ) (e : Edge) → slice_get es i ≡ Some e → ComesFromBlock f e) → Each (Fine f) (incoming_uses f p is) → Each (Fine g) (incoming_uses g q (filter_map (incoming_on is) es))
    incoming_fine p q is [] homes h = tt
    incoming_fine p q is (e ∷ es) homes h = on (operand_from is e.from) refl (incoming_fine p q is es (λ i d s. homes (suc i) d s) h)
      where
        one : (x : Operand) → operand_from is e.from ≡ Some x → Each (Fine g) (map (incoming_use g q (record { value = x; from = e.label })) (option_to_list (local_of x)))
        one (Operand.Local v) d = let y = homes 0 e refl in (edge_fine p q y.index y.block y.position e v y.got y.there (taken_fine p is e.from v h d), tt)
        one _ d = tt

        on : (o : Option Operand) → operand_from is e.from ≡ o → Each (Fine g) (incoming_uses g q (filter_map (incoming_on is) es)) → Each (Fine g) (incoming_uses g q (cons_option (incoming_with e.label o) (filter_map (incoming_on is) es)))
        on None d again = again
        on (Some x) d again =
            each_behind (Fine g) (map (incoming_use g q (record { value = x; from = e.label })) (option_to_list (local_of x))) (incoming_uses g q (filter_map (incoming_on is) es))
            (one x d) again

    phis_fine : (func k l at to : ℕ) (es : List Edge) (ps : List Phi) → ((i : ℕ) (e : Edge) → slice_get es i ≡ Some e → ComesFromBlock f e) → Each (Fine f) (phi_uses f func k at ps) → Each (Fine g) (phi_uses g func l to (map (split_phi es) ps))
    phis_fine func k l at to es [] homes h = tt
    phis_fine func k l at to es (p ∷ ps) homes h =
        let first : List Use = incoming_uses f (instr_place func k at) p.incoming in
        let rest : List Use = phi_uses f func k (at + 1) ps in
        each_behind (Fine g) (incoming_uses g (instr_place func l to) (filter_map (incoming_on p.incoming) es)) (phi_uses g func l (to + 1) (map (split_phi es) ps))
        (incoming_fine (instr_place func k at) (instr_place func l to) p.incoming es homes (each_left (Fine f) first rest h))
        (phis_fine func k l (at + 1) (to + 1) es ps homes (each_right (Fine f) first rest h))

    module _ (func : ℕ) where
      own_fine : (k : ℕ) (b : Block) → slice_get f.blocks k ≡ Some b → AreOfBlock (Fine f) f func k b → Each (Fine g) (block_uses g func (spot f k) (own_block f k b))
      unfolding block_uses
      own_fine k b there h =
          let c : Block = own_block f k b in
          let l : ℕ = spot f k in
          let phis : List Use = phi_uses g func l 0 c.phis in
          let instrs : List Use = instr_uses func l (length c.phis) (phi_values c) b.instrs in
          let q : Place = instr_place func l (length c.phis + length b.instrs) in
          let end : List Use = uses_at q l (block_values c) (ending_operands c.term) in
          let lt : b.label < length f.names = (each_at (HasLabelsBelow (length f.names)) f.blocks k b named there).label in
          each_behind (Fine g) phis (instrs ++ end)
          (phis_fine func k l 0 0 (edges_at (table_of f) b.label) b.phis (λ i e s. (edge_to_label f b.label e lt (record { at = i; got = s })).home) h.phis)
          (each_behind (Fine g) instrs end
          (subst (λ (before : List ℕ). Each (Fine g) (instr_uses func l (length c.phis) before b.instrs)) (sym (phi_values_same k b)) (instrs_fine func k (length b.phis) (length c.phis) (phi_values b) b.instrs h.instrs))
          (subst (λ (before : List ℕ). Each (Fine g) (uses_at q l before (ending_operands c.term))) (sym (values_same k b))
          (subst (λ (xs : List Operand). Each (Fine g) (uses_at q l (block_values b) xs)) (sym (ending_operands_same (phi_flags f) (ends_in_suspend b.instrs) (own_number f k) b.term))
          (values_fine (instr_place func k (length b.phis + length b.instrs)) q k (block_values b) (locals_in (ending_operands b.term)) h.term))))

      edge_block_fine : (at : ℕ) (e : Edge) → Each (Fine g) (block_uses g func at (edge_block e))
      unfolding block_uses
      edge_block_fine at e = tt

      all_blocks : (at : ℕ) (bs : List Block) → ((k : ℕ) (c : Block) → slice_get bs k ≡ Some c → Each (Fine g) (block_uses g func (at + k) c)) → Each (Fine g) (blocks_uses g func at bs)
      all_blocks at [] h = tt
      all_blocks at (c ∷ bs) h =
          each_behind (Fine g) (block_uses g func at c) (blocks_uses g func (at + 1) bs)
          (let same : at + 0 ≡ at = omega arith in subst (λ (n : ℕ). Each (Fine g) (block_uses g func n c)) same (h 0 c refl))
          (all_blocks (at + 1) bs (λ k d e. let same : at + suc k ≡ at + 1 + k = omega arith in subst (λ (n : ℕ). Each (Fine g) (block_uses g func n d)) same (h (suc k) d e)))

      pub uses_kept : IsFirstUndefined f (uses_of func f) None → IsFirstUndefined (with_edge_blocks f) (uses_of func (with_edge_blocks f)) None
      uses_kept none =
          let fine : Each (Fine f) (uses_of func f) = none_undefined f (uses_of func f) None none refl in
          all_defined g (uses_of func g)
          (all_blocks 0 g.blocks (λ k c there.
          let same : k ≡ 0 + k = omega arith in
          subst (λ (n : ℕ). Each (Fine g) (block_uses g func n c)) same
          (⊎_elim
          (λ (x : IsOwn f k c). subst (λ (n : ℕ). Each (Fine g) (block_uses g func n c)) (sym x.stands) (subst (λ (d : Block). Each (Fine g) (block_uses g func (spot f x.index) d)) (sym x.is) (own_fine x.index x.block x.got (three_kinds (Fine f) f func x.index x.block (of_block (Fine f) f func x.index x.block fine x.got)))))
          (λ (x : IsEdge f k c). subst (λ (d : Block). Each (Fine g) (block_uses g func k d)) (sym x.is) (edge_block_fine k x.edge))
          (home f k c there))))
