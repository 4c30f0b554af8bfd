-- The rule of edges (F1) in a part: its phis have the labels of the blocks that lead there, and none leads to its entry.
use Rattle.std.proofs.Common.{Bool, List, [], ap, arith, false, inl, inr, refl, subst, suc, sym, true, zero, ℕ, ⊎_elim, ◌∙◌, ◌∷◌, ◌≡◌, ◌⊎◌}
use Rattle.std.specs.List.{cons_option, list_all, list_any}
use Rattle.std.specs.Prelude.{None, Option, Some, filter, filter_map, if◌then◌else◌, map, not, slice_get, ◌&&◌, ◌==◌, ◌||◌}
use Rattle.pass_split.specs.Parts.{origins_for, part_names}
use Rattle.pass_split.specs.Pieces.{comes_from, incoming_from, pieced_incoming, pieced_phi}
use Rattle.pass_split.specs.Reached.{is_flagged, kept_block, kept_phi, pruned, reached}
use Rattle.pass_split.specs.declared.origin.Origin.{Origin}
use Rattle.pass_fetch_proof.proofs.ir_laws.facts.Truth.{itself, and_both}
use Rattle.pass_fetch_proof.proofs.ir_laws.facts.local_rules.Woven.{other_number}
use Rattle.pass_fetch_proof.proofs.rule_laws.rules.path_rules.Holding.{part_none, to_parts}
use Rattle.pass_fetch_proof.proofs.rule_laws.rule_phis.SameOperands.{decided}
use Rattle.pass_fetch_proof.specs.rule_phis.Edges.{breaks_edges, differs, first_wrong_edge, fits_edges, has, incoming_labels, into_block, is_empty, predecessors}
use Rattle.pass_fetch_proof.specs.rule_phis.Operands.{same_operand}
use Rattle.pass_fetch_proof.specs.flow_solver.Paths.{IsListed}
use Rattle.pass_fetch_proof.specs.frame_layout.declared.layout.Layout.{Layout}
use Rattle.pass_fetch_proof.specs.ir_parts.Parts.{parts_of}
use Rattle.pass_fetch_proof.specs.pass_intrinsics.Shapes.{shape_of}
use Rattle.pass_fetch_proof.specs.pass_intrinsics.declared.shape.Part.{Part}
use Rattle.pass_fetch_proof.specs.pass_intrinsics.declared.shape.Shape.{Shape}
use Rattle.ir_model.specs.declared.instr.Incoming.{Incoming}
use Rattle.ir_model.specs.declared.instr.Phi.{Phi}
use Rattle.ir_model.specs.declared.module.Block.{Block}
use Rattle.ir_model.specs.declared.module.Function.{Function}
use Rattle.ir_model.specs.declared.module.Module.{Module}
use Rattle.pass_fetch_proof.specs.ir_paths.Paths.{targets}
use Rattle.pass_exits_proof.proofs.split.edges.Cuttable.{IsCuttable, IsPiece}
use Rattle.pass_exits_proof.proofs.split.edges.Entered.{IsEntered, entered, to_predecessors}
use Rattle.pass_fetch_proof.proofs.rule_laws.rules.edges.Entered.{from_predecessors, has_listed}
use Rattle.pass_exits_proof.proofs.split.edges.Entries.{entry_flagged, entry_unled, first_block, first_kept}
use Rattle.pass_exits_proof.proofs.split.edges.Labels.{IsPartBlock, OfBack, OfDone, OfEntry, OfNone, OfPiece, one_home, part_home, phis_of_piece, whole}
use Rattle.pass_exits_proof.proofs.split.edges.Led.{led_is_named, named_is_led}
use Rattle.pass_fetch_proof.proofs.ir_laws.paths.edges.Lists.{all_of, from_chosen, from_filtered, from_mapped, listed_at, to_chosen, to_filtered}
use Rattle.pass_exits_proof.proofs.split.edges.Pieces.{block_marks, phis_of}
use Rattle.pass_fetch_proof.proofs.ir_laws.facts.Numbers.{label_of}
use Rattle.pass_exits_proof.proofs.split.edges.Sources.{cuttable, pruned_part}
use Rattle.pass_fetch_proof.proofs.ir_laws.paths.replaced.Known.{listed_mapped}
use Rattle.pass_exits_proof.specs.split.rules.Parted.{IsPartOf}
use Rattle.pass_exits_proof.specs.split.rules.Splittable.{IsSplittable}
use Rattle.pass_fetch_proof.specs.ir_laws.paths.woven_rules.Pairs.{AreDifferent}

-- ---- phis

-- an operand that goes on has the label from which its edge comes
pub incoming_is : (i j : Incoming) (o : Option ℕ) → incoming_from i o ≡ Some j → o ≡ Some j.from
incoming_is i j None e = absurd (cc)
incoming_is i j (Some l) e =
    let same : record { value = i.value; from = l } ≡ j = cc in
    ap (λ (x : Incoming). Some x.from) same

-- operands of a phi that are chosen by their labels stay different
chosen_different : (g : Incoming → Option Incoming) (is : List Incoming) → AreDifferent (incoming_labels is) → ((i j a b : Incoming) → IsListed i is → IsListed j is → g i ≡ Some a → g j ≡ Some b → a.from ≡ b.from → i.from ≡ j.from) → AreDifferent (incoming_labels (filter_map g is))
chosen_different g [] h apart = tt
chosen_different g (i ∷ is) h apart = on (g i) refl (chosen_different g is h.1 (λ j k a b l n d e same. apart j k a b (inr l) (inr n) d e same))
  where
    on : (o : Option Incoming) → g i ≡ o → AreDifferent (incoming_labels (filter_map g is)) → AreDifferent (incoming_labels (cons_option o (filter_map g is)))
    on None d rest = rest
    on (Some a) d rest = (
      λ l.
          let b = from_mapped (λ (j : Incoming). j.from) (filter_map g is) a.from l in
          let j = from_chosen g is b.0 b.1.0 in
          let same : i.from ≡ j.0.from = apart i j.0 a b.0 (inl refl) (inr j.1.0) d j.1.1 b.1.1 in
          h.0 (subst (λ (n : ℕ). IsListed n (incoming_labels is)) (sym same) (listed_mapped (λ (k : Incoming). k.from) is j.0 j.1.0)),
      rest,
    )

filtered_different : (t : Incoming → Bool) (is : List Incoming) → AreDifferent (incoming_labels is) → AreDifferent (incoming_labels (filter t is))
filtered_different t [] h = tt
filtered_different t (i ∷ is) h = on (t i) (filtered_different t is h.1)
  where
    on : (b : Bool) → AreDifferent (incoming_labels (filter t is)) → AreDifferent (incoming_labels (if b then i ∷ filter t is else filter t is))
    on true rest = (
      λ l.
          let b = from_mapped (λ (j : Incoming). j.from) (filter t is) i.from l in
          let j = from_filtered t is b.0 b.1.0 in
          h.0 (subst (λ (n : ℕ). IsListed n (incoming_labels is)) (sym b.1.1) (listed_mapped (λ (k : Incoming). k.from) is b.0 j.0)),
      rest,
    )
    on false rest = rest

-- where the labels are different, no two operands for one label differ
alone_there : (is : List Incoming) → AreDifferent (incoming_labels is) → (j : Incoming) → IsListed j is → differs is j ≡ false
alone_there [] h j l = absurd l
alone_there (i ∷ is) h j (inl e) =
    ap (λ (x : Incoming). if i.from == x.from then not (same_operand i.value x.value) else differs is x) e
    ∙ ap (λ (b : Bool). if b then not (same_operand i.value i.value) else differs is i) (itself i.from)
    ∙ ap not (sym (decided true i.value i.value ((λ t. refl), (λ d. refl))))
alone_there (i ∷ is) h j (inr l) =
    ap (λ (b : Bool). if b then not (same_operand i.value j.value) else differs is j) (other_number i.from j.from (λ e. h.0 (subst (λ (n : ℕ). IsListed n (incoming_labels is)) (sym e) (listed_mapped (λ (k : Incoming). k.from) is j l))))
    ∙ alone_there is h.1 j l

none_of_all : (t : Incoming → Bool) (is : List Incoming) → ((j : Incoming) → IsListed j is → t j ≡ false) → list_any t is ≡ false
none_of_all t [] h = refl
none_of_all t (i ∷ is) h = ap (λ (b : Bool). b || list_any t is) (h i (inl refl)) ∙ none_of_all t is (λ j l. h j (inr l))

no_number : (ns : List ℕ) → ((n : ℕ) → IsListed n ns → ⊥) → is_empty ns ≡ true
no_number [] h = refl
no_number (n ∷ ns) h = absurd (h n (inl refl))

-- ---- a part

module _ (m : Module) (k : ℕ) (f : Function) (begin : ℕ) (x : IsSplittable m k f begin) (layout : Layout) (part : Part) where
  abbrev s : Shape
  s = shape_of f layout

  abbrev h : Function
  h = f

  abbrev os : List Origin
  os = origins_for s part h

  ok : IsCuttable s part h
  ok = cuttable m k f begin x layout part

  module _ (p : Function) (blocks : p.blocks ≡ whole s part h) (names : p.names ≡ part_names s part h os) where
    abbrev flags : List Bool
    flags = reached p

    abbrev g : Function
    g = pruned p

    -- a block that is left is one of the part's
    pub record IsKept (c : Block) : Type 0 where
      pub before : Block
      pub listed : IsListed before (whole s part h)
      pub flagged : is_flagged (reached p) before.label ≡ true
      pub is : c ≡ kept_block (reached p) before

    pub kept_home : (c : Block) → IsListed c (pruned p).blocks → IsKept c
    kept_home c l =
        let y = from_mapped (kept_block flags) (filter (λ (b : Block). is_flagged flags b.label) p.blocks) c l in
        let z = from_filtered (λ (b : Block). is_flagged flags b.label) p.blocks y.0 y.1.0 in
        record { before = y.0; listed = subst (λ (bs : List Block). IsListed y.0 bs) blocks z.0; flagged = z.1; is = y.1.1 }

    pub kept_there : (c : Block) → IsListed c (whole s part h) → is_flagged (reached p) c.label ≡ true → IsListed (kept_block (reached p) c) (pruned p).blocks
    kept_there c l e =
        listed_mapped (kept_block flags) (filter (λ (b : Block). is_flagged flags b.label) p.blocks) c
        (to_filtered (λ (b : Block). is_flagged flags b.label) p.blocks c (subst (λ (bs : List Block). IsListed c bs) (sym blocks) l) e)

    module _ (b : Block) (y : Phi) (listed : IsListed b h.blocks) (there : IsListed y b.phis) where
      e : IsEntered m k f begin x layout part b y
      e = entered m k f begin x layout part b y listed there

      abbrev pieced : List Incoming
      pieced = filter_map (pieced_incoming s part os b.label) y.incoming

      abbrev now : List Incoming
      now = filter (λ (i : Incoming). is_flagged flags i.from) pieced

      has_source : (n : ℕ) → IsListed n (predecessors g b.label) → has (incoming_labels now) n ≡ true
      has_source n l =
          let c = from_predecessors g b.label n l in
          let d = kept_home c.block c.listed in
          let leads : IsListed b.label (targets d.before.term) = subst (λ (z : Block). IsListed b.label (targets z.term)) d.is c.leads_there in
          let z = led_is_named m k f begin x layout part b y listed e d.before d.listed leads in
          let i = from_mapped (λ (j : Incoming). j.from) y.incoming z.source.label z.named in
          let j : Incoming = record { value = i.0.value; from = d.before.label } in
          let got : pieced_incoming s part os b.label i.0 ≡ Some j = ap (λ (o : Option Origin). incoming_from i.0 (comes_from s part b.label i.0.from o)) (ap (slice_get os) (sym i.1.1) ∙ z.origin) in
          let kept : IsListed j now = to_filtered (λ (q : Incoming). is_flagged flags q.from) pieced j (to_chosen (pieced_incoming s part os b.label) y.incoming i.0 j i.1.0 got) d.flagged in
          let same : n ≡ d.before.label = c.is ∙ ap label_of d.is in
          subst (λ (v : ℕ). has (incoming_labels now) v ≡ true) (sym same) (has_listed (incoming_labels now) d.before.label (listed_mapped (λ (q : Incoming). q.from) now j kept))

      -- from which operand one comes
      record IsFrom (j : Incoming) : Type 0 where
        incoming : Incoming
        listed_incoming : IsListed incoming y.incoming
        comes : comes_from s part b.label incoming.from (slice_get os incoming.from) ≡ Some j.from

      is_from : (j : Incoming) → IsListed j pieced → IsFrom j
      is_from j l =
          let i = from_chosen (pieced_incoming s part os b.label) y.incoming j l in
          record { incoming = i.0; listed_incoming = i.1.0; comes = incoming_is i.0 j (comes_from s part b.label i.0.from (slice_get os i.0.from)) i.1.1 }

      has_label : (n : ℕ) → IsListed n (incoming_labels now) → has (predecessors g b.label) n ≡ true
      has_label n l =
          let j = from_mapped (λ (q : Incoming). q.from) now n l in
          let c = from_filtered (λ (q : Incoming). is_flagged flags q.from) pieced j.0 j.1.0 in
          let i = is_from j.0 c.0 in
          let z = named_is_led m k f begin x layout part b y listed e i.incoming.from j.0.from (listed_mapped (λ (q : Incoming). q.from) y.incoming i.incoming i.listed_incoming) i.comes in
          let flagged : is_flagged flags z.piece.label ≡ true = ap (is_flagged flags) z.has_label ∙ c.1 in
          let same : n ≡ z.piece.label = j.1.1 ∙ sym z.has_label in
          subst (λ (v : ℕ). has (predecessors g b.label) v ≡ true) (sym same)
          (has_listed (predecessors g b.label) z.piece.label (to_predecessors g b.label (kept_block flags z.piece) (kept_there z.piece z.listed_piece flagged) z.leads_there))

      apart : (i j a c : Incoming) → IsListed i y.incoming → IsListed j y.incoming → pieced_incoming s part os b.label i ≡ Some a → pieced_incoming s part os b.label j ≡ Some c → a.from ≡ c.from → i.from ≡ j.from
      apart i j a c l n d q same =
          let u = named_is_led m k f begin x layout part b y listed e i.from a.from (listed_mapped (λ (r : Incoming). r.from) y.incoming i l) (incoming_is i a (comes_from s part b.label i.from (slice_get os i.from)) d) in
          let w = named_is_led m k f begin x layout part b y listed e j.from c.from (listed_mapped (λ (r : Incoming). r.from) y.incoming j n) (incoming_is j c (comes_from s part b.label j.from (slice_get os j.from)) q) in
          let one : u.source ≡ w.source = one_home s part h ok a.from u.source w.source u.listed_source w.listed_source u.kind (subst (λ (v : ℕ). (v ≡ w.source.label) ⊎ IsListed v (block_marks s part w.source)) (sym same) w.kind) in
          u.is ∙ ap label_of one ∙ sym w.is

      now_different : AreDifferent (incoming_labels now)
      now_different = filtered_different (λ (i : Incoming). is_flagged flags i.from) pieced (chosen_different (pieced_incoming s part os b.label) y.incoming e.fits.once apart)

      pub phi_fits : fits_edges (predecessors (pruned p) b.label) (kept_phi (reached p) (pieced_phi s part os b.label y)).incoming ≡ true
      phi_fits =
          and_both (list_all (has (incoming_labels now)) (predecessors g b.label)) (list_all (has (predecessors g b.label)) (incoming_labels now) && not (list_any (differs now) now)) (all_of (has (incoming_labels now)) (predecessors g b.label) has_source)
          (and_both (list_all (has (predecessors g b.label)) (incoming_labels now)) (not (list_any (differs now) now)) (all_of (has (predecessors g b.label)) (incoming_labels now) has_label)
          (ap not (none_of_all (differs now) now (alone_there now now_different))))

    -- ---- the rule

    -- a phi that is left fits the edges into its block
    pub kept_phi_fits : (c : Block) (z : Phi) → IsListed c (pruned p).blocks → IsListed z c.phis → fits_edges (predecessors (pruned p) c.label) z.incoming ≡ true
    kept_phi_fits c z l n =
        let d = kept_home c l in
        let w = from_mapped (kept_phi flags) d.before.phis z (subst (λ (b : Block). IsListed z b.phis) d.is n) in
        subst (λ (b : Block). fits_edges (predecessors g b.label) z.incoming ≡ true) (sym d.is)
        (subst (λ (q : Phi). fits_edges (predecessors g d.before.label) q.incoming ≡ true) (sym w.1.1) (before d.before d.listed w.0 w.1.0))
      where
        piece : (b : Block) (q : Phi) → IsListed q b.phis → (v : IsPiece s part os h.blocks (whole s part h) b) → fits_edges (predecessors (pruned p) b.label) (kept_phi (reached p) q).incoming ≡ true
        piece b q n v =
            ⊎_elim
            (λ (both : (b.label ≡ v.block.label) × (b.phis ≡ map (pieced_phi s part os v.block.label) v.block.phis)).
            let r = from_mapped (pieced_phi s part os v.block.label) v.block.phis q (subst (λ (ps : List Phi). IsListed q ps) both.1 n) in
            subst (λ (t : Phi). fits_edges (predecessors g b.label) (kept_phi flags t).incoming ≡ true) (sym r.1.1)
            (subst (λ (u : ℕ). fits_edges (predecessors g u) (kept_phi flags (pieced_phi s part os v.block.label r.0)).incoming ≡ true) (sym both.0) (phi_fits v.block r.0 v.listed r.1.0)))
            (λ (none : b.phis ≡ []). absurd (subst (λ (ps : List Phi). IsListed q ps) none n))
            (phis_of_piece s part h b v)

        before : (b : Block) → IsListed b (whole s part h) → (q : Phi) → IsListed q b.phis → fits_edges (predecessors (pruned p) b.label) (kept_phi (reached p) q).incoming ≡ true
        before b l q n = on (part_home s part h b l)
          where
            on : IsPartBlock s part h b → fits_edges (predecessors (pruned p) b.label) (kept_phi (reached p) q).incoming ≡ true
            on (OfEntry e is) = absurd (subst (λ (ps : List Phi). IsListed q ps) (ap phis_of is) n)
            on (OfNone e is) = absurd (subst (λ (ps : List Phi). IsListed q ps) (ap phis_of is) n)
            on (OfBack e v) = absurd (subst (λ (ps : List Phi). IsListed q ps) (ap phis_of v.is) n)
            on (OfPiece v) = piece b q n v
            on (OfDone is) = absurd (subst (λ (ps : List Phi). IsListed q ps) (ap phis_of is) n)

    entry_empty : (c : Block) → slice_get (pruned p).blocks 0 ≡ Some c → is_empty (predecessors (pruned p) c.label) ≡ true
    entry_empty c there =
        let b = first_kept flags p.blocks (entry_flagged m k f begin x layout part p blocks names) c there in
        let first : slice_get (whole s part h) 0 ≡ Some b.0 = ap (λ (bs : List Block). slice_get bs 0) (sym blocks) ∙ b.1.0 in
        no_number (predecessors g c.label)
        (λ n l.
        let d = from_predecessors g c.label n l in
        let w = kept_home d.block d.listed in
        let leads : IsListed b.0.label (targets w.before.term) = subst (λ (v : ℕ). IsListed v (targets w.before.term)) (ap label_of b.1.1) (subst (λ (z : Block). IsListed c.label (targets z.term)) w.is d.leads_there) in
        let r = first_block m k f begin x layout part in
        entry_unled m k f begin x layout part r.0 b.0 r.1 first w.before w.listed leads)

    pub edges_kept : (l : ℕ) → first_wrong_edge l (pruned p) ≡ None
    edges_kept l =
        part_none (breaks_edges g) (parts_of l g) (to_parts (λ z. breaks_edges g z.0 z.1 ≡ false) l g (record {
          signature = refl;
          blocks = λ at c there. record {
            head = entry at c there;
            phis = λ j z e. ap not (ap (λ (o : Option Block). fits_edges (into_block (predecessors g) o) z.incoming) there ∙ kept_phi_fits c z (listed_at g.blocks at c there) (listed_at c.phis j z e));
            instrs = λ j i e. refl;
            ending = refl;
          };
        }))
      where
        entry : (at : ℕ) (c : Block) → slice_get (pruned p).blocks at ≡ Some c → ((at == 0) && not (is_empty (predecessors (pruned p) c.label))) ≡ false
        entry zero c there = ap not (entry_empty c there)
        entry (suc at) c there = ap (λ (t : Bool). t && not (is_empty (predecessors (pruned p) c.label))) (other_number (suc at) 0 (λ e. absurd (omega (arith, e))))

-- F1 holds of the parts of a coroutine
pub part_edges_kept : (m : Module) (k l : ℕ) (layout : Layout) (part : Part) (begin : ℕ) (f g : Function) → IsSplittable m k f begin → IsPartOf (shape_of f layout) f part g → first_wrong_edge l g ≡ None
part_edges_kept m k l layout part begin f g x is =
    let y = pruned_part (shape_of f layout) part f g is in
    subst (λ (q : Function). first_wrong_edge l q ≡ None) (sym y.is) (edges_kept m k f begin x layout part y.before y.blocks y.names l)
