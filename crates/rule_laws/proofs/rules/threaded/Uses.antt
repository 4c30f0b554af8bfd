-- Where edges lead over blocks of their own, no use is undefined that was none (rule F2), and what asks for begin stands behind it.
use Rattle.std.proofs.Common.{◌≡◌, ⊎_elim, inl, inr, ℕ, zero, suc, ◌+◌, List, [], ◌∷◌, ◌++◌, None, Option, Some, ap, length, map, refl, subst, sym, ◌∙◌, arith}
use Rattle.std.specs.Prelude.{option_to_list, slice_get}
use Rattle.ir_laws.specs.ir_base.declared.outcome.Place.{Place}
use Rattle.rule_uses.specs.Undefined.{Entry, IsFirstUndefined, IsUndefined, Next, ReachesWithout}
use Rattle.rule_uses.specs.Uses.{Use, block_uses, block_values, blocks_uses, incoming_use, incoming_uses, instr_uses, local_of, locals_in, phi_uses, phi_values, use_of, uses_at, uses_of, values_at, values_in}
use Rattle.ir_laws.proofs.facts.Members.{each_behind}
use Rattle.rule_laws.proofs.rules.renamed.Outside.{each_left, each_right}
use Rattle.rule_laws.proofs.rules.renamed.Uses.{AreOfBlock, none_undefined, of_block, three_kinds}
use Rattle.rule_laws.proofs.rules.path_rules.SavedUses.{all_defined}
use Rattle.ir_laws.specs.flow_solver.Paths.{IsListed}
use Rattle.ir_parts.specs.Contents.{ending_operands, instr_operands, result_of}
use Rattle.ir_parts.specs.Parts.{instr_place}
use Rattle.ir_laws.specs.ir_model.Names.{position_of}
use Rattle.ir_laws.specs.ir_model.declared.instr.Incoming.{Incoming}
use Rattle.ir_laws.specs.ir_model.declared.instr.Instr.{Instr}
use Rattle.ir_laws.specs.ir_model.declared.instr.Phi.{Phi}
use Rattle.ir_laws.specs.ir_model.declared.module.Block.{Block}
use Rattle.ir_laws.specs.ir_model.declared.module.Function.{Function}
use Rattle.ir_laws.specs.ir_model.declared.operand.Operand.{Operand}
use Rattle.ir_laws.specs.ir_paths.Paths.{targets}
use Rattle.rule_laws.specs.rules.replaced.Splittable.{AreBegun, AreBlocksBegun}
use Rattle.ir_laws.specs.run_laws.changed.Changed.{Each}
use Rattle.frame_contents.proofs.frame_crossing.Blocks.{edge_is_out, target_is_edge}
use Rattle.ir_laws.proofs.paths.threaded.Threads.{IsBlockOver, IsMovedBlock, IsOver, Moves, between, ended}
use Rattle.rule_laws.proofs.rules.threaded.Threads.{IsThreaded}

-- the labels of the phis of a function are those of blocks, which are moved
abbrev pub ArePhisMoved : Function → Function → Moves → Type 0
ArePhisMoved f g s = (k : ℕ) (b : Block) (n : ℕ) (p : Phi) (j : ℕ) (i : Incoming) → slice_get f.blocks k ≡ Some b → slice_get b.phis n ≡ Some p → slice_get p.incoming j ≡ Some i → position_of g i.from ≡ s.spot (position_of f i.from)

module _ (f g : Function) (s : Moves) (t : IsThreaded f g s) where
  values_own : (k : ℕ) → values_at g (s.spot k) ≡ values_at f k
  values_own k = on (slice_get f.blocks k) refl
    where
      on : (o : Option Block) → slice_get f.blocks k ≡ o → values_at g (s.spot k) ≡ values_in o
      on None e = ap values_in (t.missing k e)
      on (Some b) e = ap values_in (t.there k b e)

  -- ---- paths of blocks

  -- what a path to a block then says of the function: one to the block, or to the block from which an edge comes
  record Reaches (v x : ℕ) : Type 0 where
    own : (k : ℕ) → x ≡ s.spot k → ReachesWithout f v k
    over : (k target label : ℕ) → IsOver f g s k target label → x ≡ position_of g label → ReachesWithout f v k × (IsListed v (values_at f k) → ⊥)

  same_label : (x k l : ℕ) (target label u w : ℕ) → IsOver f g s k target label → IsOver f g s l u w → x ≡ position_of g label → x ≡ position_of g w → label ≡ w
  same_label x k l target label u w p q d e =
      let both : Some (between label target) ≡ Some (between w u) = sym p.got ∙ ap (slice_get g.blocks) (sym d ∙ e) ∙ q.got in
      let one : between label target ≡ between w u = cc in
      ap (λ (b : Block). b.label) one

  -- where an edge leads to a block of the function
  to_own : (v k u : ℕ) (b : Block) → slice_get f.blocks k ≡ Some b → IsListed u (targets b.term) → ReachesWithout f v k → (IsListed v (values_at f k) → ⊥) → (x : ℕ) → x ≡ s.spot (position_of f u) → Reaches v x
  to_own v k u b there l reached unmade x same = record {
    own = λ j e. subst (ReachesWithout f v) (t.spots (position_of f u) j (sym same ∙ e)) (Next k (position_of f u) reached unmade (target_is_edge f k u b there l));
    over = λ j target label o e. absurd (o.apart (position_of f u) (sym same ∙ e));
  }

  -- where it leads to the block on it
  to_over : (v k u w : ℕ) (b : Block) → slice_get f.blocks k ≡ Some b → IsListed w (targets (s.term k b)) → IsOver f g s k u w → ReachesWithout f v k → (IsListed v (values_at f k) → ⊥) → (x : ℕ) → x ≡ position_of g w → Reaches v x
  to_over v k u w b there named over reached unmade x same = record {
    own = λ j e. absurd (over.apart j (sym e ∙ same));
    over = λ j target label o e.
        let one : w ≡ label = same_label x k j u w target label over o same e in
        let is : k ≡ j = o.one k b there (subst (λ (l : ℕ). IsListed l (targets (s.term k b))) one named) in
        (subst (ReachesWithout f v) is reached, subst (λ (z : ℕ). IsListed v (values_at f z) → ⊥) is unmade);
  }

  onward : (v from to : ℕ) (c : Block) (label : ℕ) → slice_get g.blocks from ≡ Some c → IsListed label (targets c.term) → to ≡ position_of g label → Reaches v from → (IsListed v (values_at g from) → ⊥) → Reaches v to
  onward v from to c label there l leads so_far unmade = ⊎_elim of_own of_over (t.home from c there)
    where
      of_own : IsMovedBlock f s from c → Reaches v to
      of_own x =
          let named : IsListed label (targets (s.term x.index x.block)) = subst (λ (y : Block). IsListed label (targets y.term)) x.is l in
          let y = t.back x.index x.block label x.got named in
          let reached : ReachesWithout f v x.index = so_far.own x.index x.stands in
          let still : IsListed v (values_at f x.index) → ⊥ = λ m. unmade (subst (IsListed v) (sym (ap (values_at g) x.stands ∙ values_own x.index)) m) in
          ⊎_elim
          (λ (same : label ≡ y.target). to_own v x.index y.target x.block x.got y.listed reached still to (leads ∙ ap (position_of g) same ∙ t.old x.index x.block y.target x.got y.listed))
          (λ (o : IsOver f g s x.index y.target label). to_over v x.index y.target label x.block x.got named o reached still to leads)
          y.way

      of_over : IsBlockOver f g s from c → Reaches v to
      of_over x =
          let both = so_far.over x.index x.target x.label x.over x.stands in
          to_own v x.index x.target x.block x.got x.listed both.0 both.1 to
          (leads ∙ ap (position_of g) (only (subst (λ (y : Block). IsListed label (targets y.term)) x.is l)) ∙ t.old x.index x.block x.target x.got x.listed)
        where
          only : IsListed label (x.target ∷ []) → label ≡ x.target
          only (inl e) = e
          only (inr m) = absurd m

  reach : (v x : ℕ) → ReachesWithout g v x → Reaches v x
  reach v _ Entry = record {
    own = λ k e. let first : 0 ≡ k = t.spots 0 k (t.entry ∙ e) in subst (ReachesWithout f v) first Entry;
    over = λ k target label o same. absurd (o.apart 0 (t.entry ∙ same));
  }
  reach v _ (Next from to h unmade edge) =
      let x = edge_is_out g from to edge in
      onward v from to x.block x.label x.is_block x.is_target x.leads (reach v from h) unmade

  pub reach_home : (v k : ℕ) → ReachesWithout g v (s.spot k) → ReachesWithout f v k
  reach_home v k h = (reach v (s.spot k) h).own k refl

  -- ---- uses

  abbrev Fine : Function → Use → Type 0
  Fine h u = IsUndefined h u → ⊥

  moved_fine : (p q : Place) (k v : ℕ) (before : List ℕ) → Fine f (use_of p k before v) → Fine g (use_of q (s.spot k) before v)
  moved_fine p q k v before fine u = fine (record { reaches = reach_home v k u.reaches; not_before = u.not_before; no_param = λ l. u.no_param (subst (IsListed v) (sym t.params) l) })

  values_fine : (p q : Place) (k : ℕ) (before : List ℕ) (vs : List ℕ) → Each (Fine f) (map (use_of p k before) vs) → Each (Fine g) (map (use_of q (s.spot k) before) vs)
  values_fine p q k before [] h = tt
  values_fine p q k before (v ∷ vs) h = (moved_fine p q k v before h.0, values_fine p q k before vs h.1)

  instrs_fine : (func k at : ℕ) (before : List ℕ) (is : List Instr) → Each (Fine f) (instr_uses func k at before is) → Each (Fine g) (instr_uses func (s.spot k) at before is)
  instrs_fine func k at before [] h = tt
  instrs_fine func k at before (i ∷ is) h =
      let first : List Use = uses_at (instr_place func k at) k before (instr_operands i) in
      let rest : List Use = instr_uses func k (at + 1) (option_to_list (result_of i) ++ before) is in
      each_behind (Fine g) (uses_at (instr_place func (s.spot k) at) (s.spot k) before (instr_operands i)) (instr_uses func (s.spot k) (at + 1) (option_to_list (result_of i) ++ before) is)
      (values_fine (instr_place func k at) (instr_place func (s.spot k) at) k before (locals_in (instr_operands i)) (each_left (Fine f) first rest h))
      (instrs_fine func k (at + 1) (option_to_list (result_of i) ++ before) is (each_right (Fine f) first rest h))

  module _ (moved : ArePhisMoved f g s) where
    abbrev IsFromMoved : Incoming → Type 0
    IsFromMoved i = position_of g i.from ≡ s.spot (position_of f i.from)

    one_fine : (p q : Place) (i : Incoming) (vs : List ℕ) → IsFromMoved i → Each (Fine f) (map (incoming_use f p i) vs) → Each (Fine g) (map (incoming_use g q i) vs)
    one_fine p q i [] e h = tt
    one_fine p q i (v ∷ vs) e h = (
      subst (λ (n : ℕ). Fine g (use_of q n (values_at g n) v)) (sym e)
          (subst (λ (before : List ℕ). Fine g (use_of q (s.spot (position_of f i.from)) before v)) (sym (values_own (position_of f i.from))) (moved_fine p q (position_of f i.from) v (values_at f (position_of f i.from)) h.0)),
      one_fine p q i vs e h.1,
    )

    incoming_fine : (p q : Place) (is : List Incoming) → ((j : ℕ) (i : Incoming) → slice_get is j ≡ Some i → IsFromMoved i) → Each (Fine f) (incoming_uses f p is) → Each (Fine g) (incoming_uses g q is)
    incoming_fine p q [] e h = tt
    incoming_fine p q (i ∷ is) e h =
        let first : List Use = map (incoming_use f p i) (option_to_list (local_of i.value)) in
        each_behind (Fine g) (map (incoming_use g q i) (option_to_list (local_of i.value))) (incoming_uses g q is)
        (one_fine p q i (option_to_list (local_of i.value)) (e 0 i refl) (each_left (Fine f) first (incoming_uses f p is) h))
        (incoming_fine p q is (λ j x d. e (suc j) x d) (each_right (Fine f) first (incoming_uses f p is) h))

    phis_fine : (func k l at : ℕ) (ps : List Phi) → ((n : ℕ) (p : Phi) (j : ℕ) (i : Incoming) → slice_get ps n ≡ Some p → slice_get p.incoming j ≡ Some i → IsFromMoved i) → Each (Fine f) (phi_uses f func k at ps) → Each (Fine g) (phi_uses g func l at ps)
    phis_fine func k l at [] e h = tt
    phis_fine func k l at (p ∷ ps) e h =
        let first : List Use = incoming_uses f (instr_place func k at) p.incoming in
        let rest : List Use = phi_uses f func k (at + 1) ps in
        each_behind (Fine g) (incoming_uses g (instr_place func l at) p.incoming) (phi_uses g func l (at + 1) ps)
        (incoming_fine (instr_place func k at) (instr_place func l at) p.incoming (λ j i d. e 0 p j i refl d) (each_left (Fine f) first rest h))
        (phis_fine func k l (at + 1) ps (λ n q j i d s. e (suc n) q j i d s) (each_right (Fine f) first rest h))

    module _ (func : ℕ) where
      own_fine : (k : ℕ) (b : Block) → slice_get f.blocks k ≡ Some b → AreOfBlock (Fine f) f func k b → Each (Fine g) (block_uses g func (s.spot k) (ended b (s.term k b)))
      unfolding block_uses
      own_fine k b there h =
          let l : ℕ = s.spot k in
          let phis : List Use = phi_uses g func l 0 b.phis in
          let instrs : List Use = instr_uses func l (length b.phis) (phi_values b) b.instrs in
          let q : Place = instr_place func l (length b.phis + length b.instrs) in
          let end : List Use = uses_at q l (block_values b) (ending_operands (s.term k b)) in
          each_behind (Fine g) phis (instrs ++ end)
          (phis_fine func k l 0 b.phis (λ n p j i d e. moved k b n p j i there d e) h.phis)
          (each_behind (Fine g) instrs end
          (instrs_fine func k (length b.phis) (phi_values b) b.instrs h.instrs)
          (subst (λ (xs : List Operand). Each (Fine g) (uses_at q l (block_values b) xs)) (sym (t.operands k b))
          (values_fine (instr_place func k (length b.phis + length b.instrs)) q k (block_values b) (locals_in (ending_operands b.term)) h.term)))

      over_fine : (at l u : ℕ) → Each (Fine g) (block_uses g func at (between l u))
      unfolding block_uses
      over_fine at l u = tt

      all_blocks : (at : ℕ) (bs : List Block) → ((k : ℕ) (c : Block) → slice_get bs k ≡ Some c → Each (Fine g) (block_uses g func (at + k) c)) → Each (Fine g) (blocks_uses g func at bs)
      all_blocks at [] h = tt
      all_blocks at (c ∷ bs) h =
          each_behind (Fine g) (block_uses g func at c) (blocks_uses g func (at + 1) bs)
          (let same : at + 0 ≡ at = omega arith in subst (λ (n : ℕ). Each (Fine g) (block_uses g func n c)) same (h 0 c refl))
          (all_blocks (at + 1) bs (λ k d e. let same : at + suc k ≡ at + 1 + k = omega arith in subst (λ (n : ℕ). Each (Fine g) (block_uses g func n d)) same (h (suc k) d e)))

      pub uses_kept : IsFirstUndefined f (uses_of func f) None → IsFirstUndefined g (uses_of func g) None
      uses_kept none =
          let fine : Each (Fine f) (uses_of func f) = none_undefined f (uses_of func f) None none refl in
          all_defined g (uses_of func g)
          (all_blocks 0 g.blocks (λ k c there.
          let same : k ≡ 0 + k = omega arith in
          subst (λ (n : ℕ). Each (Fine g) (block_uses g func n c)) same
          (⊎_elim
          (λ (x : IsMovedBlock f s k c). subst (λ (n : ℕ). Each (Fine g) (block_uses g func n c)) (sym x.stands) (subst (λ (d : Block). Each (Fine g) (block_uses g func (s.spot x.index) d)) (sym x.is) (own_fine x.index x.block x.got (three_kinds (Fine f) f func x.index x.block (of_block (Fine f) f func x.index x.block fine x.got)))))
          (λ (x : IsBlockOver f g s k c). subst (λ (d : Block). Each (Fine g) (block_uses g func k d)) (sym x.is) (over_fine k x.label x.target))
          (t.home k c there))))

  -- ---- begin

  module _ (begin : ℕ) where
    begun_own : (k : ℕ) (before : List ℕ) (is : List Instr) → AreBegun f begin k before is → AreBegun g begin (s.spot k) before is
    begun_own k before [] h = tt
    begun_own k before (i ∷ is) h = (λ asks reached. h.0 asks (reach_home begin k reached), begun_own k (option_to_list (result_of i) ++ before) is h.1)

    begun_at : (at : ℕ) (bs : List Block) → AreBlocksBegun f begin at bs → (k : ℕ) (b : Block) → slice_get bs k ≡ Some b → AreBegun f begin (at + k) (phi_values b) b.instrs
    begun_at at [] h k b e = absurd (cc)
    begun_at at (c ∷ bs) h zero b e =
        let same : c ≡ b = cc in
        let z : at ≡ at + 0 = omega arith in
        subst (λ (n : ℕ). AreBegun f begin n (phi_values b) b.instrs) z (subst (λ (d : Block). AreBegun f begin at (phi_values d) d.instrs) same h.0)
    begun_at at (c ∷ bs) h (suc k) b e = let z : at + 1 + k ≡ at + suc k = omega arith in subst (λ (n : ℕ). AreBegun f begin n (phi_values b) b.instrs) z (begun_at (at + 1) bs h.1 k b e)

    all_begun : (at : ℕ) (bs : List Block) → ((k : ℕ) (c : Block) → slice_get bs k ≡ Some c → AreBegun g begin (at + k) (phi_values c) c.instrs) → AreBlocksBegun g begin at bs
    all_begun at [] h = tt
    all_begun at (c ∷ bs) h = (
      let same : at + 0 ≡ at = omega arith in subst (λ (n : ℕ). AreBegun g begin n (phi_values c) c.instrs) same (h 0 c refl),
      all_begun (at + 1) bs (λ k d e. let same : at + suc k ≡ at + 1 + k = omega arith in subst (λ (n : ℕ). AreBegun g begin n (phi_values d) d.instrs) same (h (suc k) d e)),
    )

    pub begun_kept : AreBlocksBegun f begin 0 f.blocks → AreBlocksBegun g begin 0 g.blocks
    begun_kept h =
        all_begun 0 g.blocks (λ k c there.
        let same : k ≡ 0 + k = omega arith in
        subst (λ (n : ℕ). AreBegun g begin n (phi_values c) c.instrs) same
        (⊎_elim
        (λ (x : IsMovedBlock f s k c).
        let z : 0 + x.index ≡ x.index = omega arith in
        subst (λ (n : ℕ). AreBegun g begin n (phi_values c) c.instrs) (sym x.stands)
        (subst (λ (d : Block). AreBegun g begin (s.spot x.index) (phi_values d) d.instrs) (sym x.is)
        (begun_own x.index (phi_values x.block) x.block.instrs (subst (λ (n : ℕ). AreBegun f begin n (phi_values x.block) x.block.instrs) z (begun_at 0 f.blocks h x.index x.block x.got)))))
        (λ (x : IsBlockOver f g s k c). subst (λ (d : Block). AreBegun g begin k (phi_values d) d.instrs) (sym x.is) tt)
        (t.home k c there)))
