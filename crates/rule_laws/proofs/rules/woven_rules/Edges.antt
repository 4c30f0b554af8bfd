-- Blocks, labels and edges stay, so the rule on phis and edges does (F1), where a phi's labels are all different.
use Rattle.std.proofs.Common.{◌≡◌, ◌⊎◌, inl, inr, ℕ, zero, suc, ◌+◌, Bool, true, false, List, [], ◌∷◌, ◌++◌, length, refl, sym, ap, ◌∙◌, subst}
use Rattle.std.specs.List.{list_all, list_any}
use Rattle.std.specs.Prelude.{None, Option, Some, filter, map, not, option_map, slice_get, unwrap_or, if◌then◌else◌, ◌==◌, ◌&&◌, ◌||◌}
use Rattle.flow_blocks.specs.Edges.{block_edges, edges_of_blocks}
use Rattle.rule_uses.specs.Uses.{values_at}
use Rattle.ir_laws.specs.ir_base.declared.outcome.Place.{Place}
use Rattle.ir_laws.proofs.facts.Truth.{itself, and_both, and_first, and_second, not_breaks}
use Rattle.ir_laws.proofs.facts.local_rules.Woven.{other_number}
use Rattle.ir_laws.proofs.paths.source_rules.Locals.{Apart}
use Rattle.rule_phis.specs.Edges.{block_at, breaks_edges, differs, first_wrong_edge, fits_edges, has, incoming_labels, into_block, is_empty, is_entry, leads, predecessors}
use Rattle.rule_phis.specs.Operands.{same_operand}
use Rattle.ir_laws.specs.flow_solver.Paths.{IsListed}
use Rattle.ir_laws.specs.ir_model.Names.{first_where, position_of}
use Rattle.ir_laws.specs.ir_model.declared.instr.Incoming.{Incoming}
use Rattle.ir_laws.specs.ir_model.declared.instr.Phi.{Phi}
use Rattle.ir_laws.specs.ir_model.declared.module.Block.{Block}
use Rattle.ir_laws.specs.ir_model.declared.module.Function.{Function}
use Rattle.ir_laws.specs.ir_model.declared.module.Module.{Module}
use Rattle.ir_laws.specs.ir_model.declared.operand.Operand.{Operand}
use Rattle.ir_laws.specs.ir_paths.Paths.{targets}
use Rattle.rule_phis.proofs.SameOperands.{decided}
use Rattle.ir_laws.specs.run_laws.changed.Changed.{Each}
use Rattle.rule_laws.proofs.rules.woven_rules.Carried.{Carries, carried}
use Rattle.rule_laws.proofs.rules.woven_rules.Laid.{AllLabelsOnce, HasLabelsOnce, each_once, once_each, AreLaidBlocks, IsLike, NoneLaid, OneLaid}
use Rattle.rule_laws.proofs.rules.woven_rules.Operands.{same_incoming, same_labels}
use Rattle.ir_laws.specs.paths.woven_rules.Pairs.{AreDifferent}
use Rattle.rule_laws.specs.rules.woven_rules.Pairs.{AreIncomingOnce}
use Rattle.ir_laws.specs.facts.woven_rules.Pairs.{Empty, Pair, Pairwise}
use Rattle.rule_laws.specs.rules.woven_rules.Parts.{PhiStays}
use Rattle.rule_laws.specs.rules.woven_rules.Blocks.{AreWovenBlocks, IsWoven, NoBlock, OneBlock}
use Rattle.rule_laws.specs.rules.woven_rules.Weaving.{IsInPlace, Weaving}
use Rattle.rule_laws.proofs.rules.shape.Edges.{targets_are}

-- ---- phis whose labels are all different

operand_itself : (x : Operand) → same_operand x x ≡ true
operand_itself x = sym (decided true x x ((λ t. refl), (λ e. refl)))

none_any : {A : Type 0} (t : A → Bool) (xs : List A) → ((x : A) → IsListed x xs → t x ≡ false) → list_any t xs ≡ false
none_any t [] h = refl
none_any t (x ∷ xs) h = (λ k. h x (inl refl) k || none_any t xs (λ y l. h y (inr l)) k)

label_listed : (is : List Incoming) (j : Incoming) → IsListed j is → IsListed j.from (incoming_labels is)
label_listed [] j l = absurd l
label_listed (i ∷ is) j (inl e) = inl (ap (λ (x : Incoming). x.from) e)
label_listed (i ∷ is) j (inr l) = inr (label_listed is j l)

same_there : (is : List Incoming) → Apart (incoming_labels is) → (j : Incoming) → IsListed j is → differs is j ≡ false
same_there [] h j l = absurd l
same_there (i ∷ is) h j (inl e) =
    ap (λ (b : Bool). if b then not (same_operand i.value j.value) else differs is j) (ap (λ (x : Incoming). i.from == x.from) e ∙ itself i.from)
    ∙ ap (λ (x : Incoming). not (same_operand i.value x.value)) e ∙ ap not (operand_itself i.value)
same_there (i ∷ is) h j (inr l) =
    ap (λ (b : Bool). if b then not (same_operand i.value j.value) else differs is j) (other_number i.from j.from (λ e. h.0 (subst (λ (n : ℕ). IsListed n (incoming_labels is)) (sym e) (label_listed is j l))))
    ∙ same_there is h.1 j l

none_differs : (is : List Incoming) → AreDifferent (incoming_labels is) → list_any (differs is) is ≡ false
none_differs is h = none_any (differs is) is (same_there is h)

fits_again : (labels : List ℕ) (is js : List Incoming) → incoming_labels js ≡ incoming_labels is → AreDifferent (incoming_labels is) → fits_edges labels is ≡ true → fits_edges labels js ≡ true
fits_again labels is js same once e =
    let rest : Bool = list_all (has labels) (incoming_labels is) && not (list_any (differs is) is) in
    and_both (list_all (has (incoming_labels js)) labels) (list_all (has labels) (incoming_labels js) && not (list_any (differs js) js))
    (ap (λ (ls : List ℕ). list_all (has ls) labels) same ∙ and_first (list_all (has (incoming_labels is)) labels) rest e)
    (and_both (list_all (has labels) (incoming_labels js)) (not (list_any (differs js) js))
    (ap (list_all (has labels)) same ∙ and_first (list_all (has labels) (incoming_labels is)) (not (list_any (differs is) is)) (and_second (list_all (has (incoming_labels is)) labels) rest e))
    (ap not (none_differs js (subst AreDifferent (sym same) once))))

module _ (w : Weaving) (m : Module) (f g : Function) where
  -- ---- blocks

  label_of : Block → ℕ
  label_of b = b.label

  filtered : (label : ℕ) (block : ℕ) (bs cs : List Block) → AreLaidBlocks w m f g block bs cs → map (λ b. b.label) (filter (leads label) cs) ≡ map (λ b. b.label) (filter (leads label) bs)
  filtered label block _ _ (NoneLaid _) = refl
  filtered label block _ _ (OneLaid _ b c bs cs s rest) =
      ap (λ (ls : List ℕ). map (λ b. b.label) (if has ls label then c ∷ filter (leads label) cs else filter (leads label) cs)) (same_labels (IsLike w f g) b.term c.term s.term)
      ∙ on (leads label b) (filtered label (block + 1) bs cs rest)
    where
      on : (t : Bool) → map (λ b. b.label) (filter (leads label) cs) ≡ map (λ b. b.label) (filter (leads label) bs) → map (λ b. b.label) (if t then c ∷ filter (leads label) cs else filter (leads label) cs) ≡ map (λ b. b.label) (if t then b ∷ filter (leads label) bs else filter (leads label) bs)
      on true more = λ k. s.label k ∷ more k
      on false more = more

  same_first : (label block : ℕ) (bs cs : List Block) → AreLaidBlocks w m f g block bs cs → first_where (λ b. b.label == label) cs ≡ first_where (λ b. b.label == label) bs
  same_first label block _ _ (NoneLaid _) = refl
  same_first label block _ _ (OneLaid _ b c bs cs s rest) = λ k. if s.label k == label then Some 0 else option_map suc (same_first label (block + 1) bs cs rest k)

  same_length : (block : ℕ) (bs cs : List Block) → AreLaidBlocks w m f g block bs cs → length cs ≡ length bs
  same_length block _ _ (NoneLaid _) = refl
  same_length block _ _ (OneLaid _ b c bs cs s rest) = ap suc (same_length (block + 1) bs cs rest)

  module _ (blocks : AreLaidBlocks w m f g 0 f.blocks g.blocks) where
    pub same_predecessors : (label : ℕ) → predecessors g label ≡ predecessors f label
    same_predecessors label = filtered label 0 f.blocks g.blocks blocks

    pub same_position : (label : ℕ) → position_of g label ≡ position_of f label
    same_position label = λ k. unwrap_or (same_first label 0 f.blocks g.blocks blocks k) (same_length 0 f.blocks g.blocks blocks k)

    edges_same : (at block : ℕ) (bs cs : List Block) → AreLaidBlocks w m f g block bs cs → edges_of_blocks g at cs ≡ edges_of_blocks f at bs
    edges_same at block _ _ (NoneLaid _) = refl
    edges_same at block _ _ (OneLaid _ b c bs cs s rest) =
        let labels : targets c.term ≡ targets b.term = targets_are c.term ∙ same_labels (IsLike w f g) b.term c.term s.term ∙ sym (targets_are b.term) in
        λ k. map (λ to. (at, to)) (map (λ (label : ℕ). same_position label k) (labels k)) ++ edges_same (at + 1) (block + 1) bs cs rest k

    pub same_edges : block_edges g ≡ block_edges f
    unfolding block_edges
    same_edges = edges_same 0 0 f.blocks g.blocks blocks

    into_same : (k block : ℕ) (bs cs : List Block) → AreLaidBlocks w m f g block bs cs → into_block (predecessors g) (slice_get cs k) ≡ into_block (predecessors f) (slice_get bs k)
    into_same k block _ _ (NoneLaid _) = refl
    into_same zero block _ _ (OneLaid _ b c bs cs s rest) = same_predecessors c.label ∙ ap (predecessors f) s.label
    into_same (suc k) block _ _ (OneLaid _ b c bs cs s rest) = into_same k (block + 1) bs cs rest

    into_there : (o : Option ℕ) → into_block (predecessors g) (block_at g o) ≡ into_block (predecessors f) (block_at f o)
    into_there None = refl
    into_there (Some k) = into_same k 0 f.blocks g.blocks blocks

    abbrev sources : Place → List ℕ
    sources p = into_block (predecessors f) (block_at f p.block)

    phi_fits : (p : Place) (x y : Phi) → PhiStays (λ (from : ℕ). IsLike w f g) x y → HasLabelsOnce x ⊎ (y ≡ x)
        → not (fits_edges (sources p) x.incoming) ≡ false → not (fits_edges (sources p) y.incoming) ≡ false
    phi_fits p x y s (inl once) e =
        not_breaks (fits_edges (sources p) x.incoming) (fits_edges (sources p) y.incoming)
        (fits_again (sources p) x.incoming y.incoming
        (same_incoming (λ (from : ℕ). IsLike w f g) x.incoming y.incoming s.incoming) once) e
    phi_fits p x y s (inr same) e = ap (λ (z : Phi). not (fits_edges (sources p) z.incoming)) same ∙ e

    edges_carried : Carries w m f g (breaks_edges f) (breaks_edges g)
    edges_carried =
        record {
          signature = λ p e. refl;
          head = λ p b c same e. ap (λ (ls : List ℕ). is_entry p.block && not (is_empty ls)) (same_predecessors c.label ∙ ap (predecessors f) same) ∙ e;
          phi = λ p x y s once e.
              ap (λ (ls : List ℕ). not (fits_edges ls y.incoming)) (into_there p.block) ∙ phi_fits p x y s once e;
          put = λ block q j e s. refl;
          remain = λ p q i j same s e. refl;
          ending = λ p q t u s e. refl;
        }

    pub edges_woven : (k : ℕ) → first_wrong_edge k f ≡ None → first_wrong_edge k g ≡ None
    edges_woven k = carried w m f g (breaks_edges f) (breaks_edges g) edges_carried k blocks

-- ---- labels of phis stay different

phis_once : (R : ℕ → Operand → Operand → Type 0) (ps qs : List Phi) → Pairwise (PhiStays R) ps qs → Each HasLabelsOnce ps → Each HasLabelsOnce qs
phis_once R _ _ Empty h = tt
phis_once R _ _ (Pair p q ps qs s rest) h = (subst AreDifferent (sym (same_incoming R p.incoming q.incoming s.incoming)) h.0, phis_once R ps qs rest h.1)

blocks_once : (w : Weaving) (m : Module) (f g : Function) (block : ℕ) (bs cs : List Block) → AreWovenBlocks w m f g block bs cs → AllLabelsOnce bs → AllLabelsOnce cs
blocks_once w m f g block _ _ (NoBlock _) h = tt
blocks_once w m f g block _ _ (OneBlock _ b c bs cs s rest) h = (
  phis_once (λ (from : ℕ). IsInPlace w f (values_at g (position_of g from))) b.phis c.phis s.phis h.0,
  blocks_once w m f g (block + 1) bs cs rest h.1,
)

pub incoming_woven : (w : Weaving) (m : Module) (f g : Function) → IsWoven w m f g → AreIncomingOnce f → AreIncomingOnce g
incoming_woven w m f g h once = each_once g (blocks_once w m f g 0 f.blocks g.blocks h.blocks (once_each f once))
