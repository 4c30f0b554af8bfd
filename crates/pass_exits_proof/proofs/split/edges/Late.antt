-- The allocas of a part stand in its entry block (F3).
use Rattle.std.proofs.Common.{◌≡◌, ◌⊎◌, inl, inr, ℕ, zero, suc, ◌+◌, ◌<◌, Bool, true, false, List, [], ◌∷◌, length, refl, sym, ap, ◌∙◌, subst}
use Rattle.std.specs.Prelude.{None, Some, filter, map, slice_get, if◌then◌else◌}
use Rattle.pass_fetch_proof.specs.ir_base.declared.outcome.Place.{Place}
use Rattle.pass_split.specs.Parts.{origins_for, part_names}
use Rattle.pass_fetch_proof.specs.pass_front.Front.{is_alloca}
use Rattle.pass_split.specs.Reached.{is_flagged, kept_block, kept_blocks, pruned, reached}
use Rattle.pass_fetch_proof.proofs.rule_laws.rules.path_rules.Holding.{part_none, to_parts}
use Rattle.pass_fetch_proof.specs.flow_solver.Paths.{IsListed}
use Rattle.pass_fetch_proof.specs.frame_layout.declared.layout.Layout.{Layout}
use Rattle.pass_fetch_proof.specs.ir_parts.Parts.{instr_place, parts_of}
use Rattle.pass_fetch_proof.specs.pass_intrinsics.Cuts.{goes_on}
use Rattle.pass_fetch_proof.specs.pass_intrinsics.Shapes.{shape_of}
use Rattle.pass_fetch_proof.specs.pass_intrinsics.declared.shape.Part.{Part}
use Rattle.pass_fetch_proof.specs.pass_intrinsics.declared.shape.Shape.{Shape}
use Rattle.ir_model.specs.declared.instr.Instr.{Instr}
use Rattle.ir_model.specs.declared.module.Block.{Block}
use Rattle.ir_model.specs.declared.module.Function.{Function}
use Rattle.ir_model.specs.declared.module.Module.{Module}
use Rattle.pass_fetch_proof.specs.ir_paths.Paths.{targets}
use Rattle.pass_fetch_proof.specs.rule_locals.Entries.{allocates_late, first_late_alloca}
use Rattle.pass_fetch_proof.specs.rule_locals.Instrs.{on_instr}
use Rattle.pass_exits_proof.proofs.split.edges.Cuttable.{IsCuttable, IsPieceLabel, no_entry}
use Rattle.pass_exits_proof.proofs.split.edges.Entries.{IsEntryLabel, OfLater, OfRamp, edge_from, entry_flagged, entry_is, first_block, first_unled, mark_from}
use Rattle.pass_exits_proof.proofs.split.edges.Fronts.{first_has, ramp_has}
use Rattle.pass_exits_proof.proofs.split.edges.Kept.{kept_home}
use Rattle.pass_exits_proof.proofs.split.edges.Labels.{IsPartBlock, OfBack, OfDone, OfEntry, OfNone, OfPiece, is_mark, label_of_piece, one_home, part_different, part_home, whole}
use Rattle.pass_fetch_proof.proofs.ir_laws.paths.edges.Lists.{from_filtered, from_mapped, listed_at}
use Rattle.pass_exits_proof.proofs.split.edges.Pieces.{block_marks, labels}
use Rattle.pass_fetch_proof.proofs.ir_laws.facts.Numbers.{label_of}
use Rattle.pass_exits_proof.proofs.split.edges.Returns.{entry_label_is}
use Rattle.pass_exits_proof.proofs.split.edges.Sources.{cuttable, pruned_part}
use Rattle.pass_fetch_proof.proofs.ir_laws.paths.replaced.Known.{listed_mapped}
use Rattle.pass_exits_proof.proofs.split.rules.Reached.{flagged_is_led}
use Rattle.pass_exits_proof.specs.split.rules.Parted.{IsPartOf}
use Rattle.pass_exits_proof.specs.split.rules.Reached.{Edge, Entry, IsLedTo}
use Rattle.pass_exits_proof.specs.split.rules.Splittable.{IsSplittable}
use Rattle.pass_fetch_proof.specs.ir_laws.paths.woven_rules.Pairs.{AreDifferent}

-- ---- the rule, instruction by instruction

not_late : (place : Place) (i : Instr) → is_alloca i ≡ false → allocates_late place i ≡ false
not_late place (Instr.Alloca r ty align) e = absurd (cc)
not_late place _ e = refl

first_allowed : (l j : ℕ) (i : Instr) → allocates_late (instr_place l 0 j) i ≡ false
first_allowed l j (Instr.Alloca r ty align) = refl
first_allowed l j _ = refl

-- what is kept of all but the first block comes from them
kept_tail : (flags : List Bool) (b : Block) (bs : List Block) → is_flagged flags b.label ≡ true → (at : ℕ) (c : Block) → slice_get (kept_blocks flags (b ∷ bs)) (suc at) ≡ Some c → (d : Block) × (IsListed d bs × (c ≡ kept_block flags d))
kept_tail flags b bs e at c there = on (is_flagged flags b.label) e there
  where
    on : (t : Bool) → t ≡ true → slice_get (map (kept_block flags) (if t then b ∷ filter (λ d. is_flagged flags d.label) bs else filter (λ d. is_flagged flags d.label) bs)) (suc at) ≡ Some c → (d : Block) × (IsListed d bs × (c ≡ kept_block flags d))
    on true k q =
        let y = from_mapped (kept_block flags) (filter (λ (d : Block). is_flagged flags d.label) bs) c (listed_at (map (kept_block flags) (filter (λ (d : Block). is_flagged flags d.label) bs)) at c q) in
        let z = from_filtered (λ (d : Block). is_flagged flags d.label) bs y.0 y.1.0 in
        (y.0, (z.0, y.1.1))
    on false k q = absurd (cc)

module _ (m : Module) (k : ℕ) (f : Function) (begin : ℕ) (x : IsSplittable m k f begin) (layout : Layout) (part : Part) where
  abbrev s : Shape
  s = shape_of f layout

  abbrev h : Function
  h = f

  ok : IsCuttable s part h
  ok = cuttable m k f begin x layout part

  module _ (p : Function) (blocks : p.blocks ≡ whole s part h) (names : p.names ≡ part_names s part h (origins_for s part h)) where
    in_whole : (c : Block) → IsListed c p.blocks → IsListed c (whole s part h)
    in_whole c l = subst (λ (bs : List Block). IsListed c bs) blocks l

    kind_there : (r : Block) → IsListed r h.blocks → (label : ℕ) → (label ≡ r.label) ⊎ IsListed label (block_marks s part r) → IsPieceLabel s label
    kind_there r l label (inl e) = inl (subst (λ (n : ℕ). n < s.base) (sym e) (ok.low r l))
    kind_there r l label (inr n) = inr (is_mark s part h ok r l label n)

    -- a part that goes on reaches no piece of the function's entry block
    pub entry_unreached : goes_on part ≡ true → (r : Block) → slice_get h.blocks 0 ≡ Some r → (label : ℕ) → IsLedTo p label → (label ≡ r.label) ⊎ IsListed label (block_marks s part r) → ⊥
    entry_unreached g r n label (Entry _ l) q = no_entry s label (kind_there r (listed_at h.blocks 0 r n) label q) (entry_label_is m k f begin x layout part g p blocks names label l)
    entry_unreached g r n label (Edge from _ led l) q =
        let y = edge_from p from label l in
        on y.block y.has_label (in_whole y.block y.listed) y.leads (λ a. entry_unreached g r n from led a) q
      where
        on : (c : Block) → c.label ≡ from → IsListed c (whole s part h) → IsListed label (targets c.term) → ((from ≡ r.label) ⊎ IsListed from (block_marks s part r) → ⊥) → (label ≡ r.label) ⊎ IsListed label (block_marks s part r) → ⊥
        on c is w t again (inl e) = first_unled m k f begin x layout part r n c w (subst (λ (v : ℕ). IsListed v (targets c.term)) e t)
        on c is w t again (inr e) =
            let z = mark_from s part h ok c label w t (is_mark s part h ok r (listed_at h.blocks 0 r n) label e) in
            let one : z.source.block ≡ r = one_home s part h ok label z.source.block r z.source.listed (listed_at h.blocks 0 r n) (inr z.marks) (inr e) in
            again (subst (λ (b : Block). (from ≡ b.label) ⊎ IsListed from (block_marks s part b)) one (subst (λ (v : ℕ). (v ≡ z.source.block.label) ⊎ IsListed v (block_marks s part z.source.block)) is (label_of_piece s part h c z.source)))

    -- a block with an alloca that is reached is the entry
    entry_has : (e : Block) → slice_get (whole s part h) 0 ≡ Some e → (c : Block) → IsListed c (whole s part h) → is_flagged (reached p) c.label ≡ true → (i : Instr) → IsListed i c.instrs → is_alloca i ≡ true → c.label ≡ e.label
    entry_has e w c l flagged i n a = on (part_home s part h c l) (entry_is s part h (first_block m k f begin x layout part).0 e (first_block m k f begin x layout part).1 w)
      where
        nothing : (js : List Instr) → js ≡ [] → IsListed i js → ⊥
        nothing js d q = subst (λ (ks : List Instr). IsListed i ks) d q

        on : IsPartBlock s part h c → IsEntryLabel s part h e.label → c.label ≡ e.label
        on (OfEntry g d) (OfLater v q) = ap label_of d ∙ sym q
        on (OfEntry g d) (OfRamp o r u q) = let both : true ≡ false = sym g ∙ o in absurd (cc)
        on (OfNone g d) q = absurd (nothing c.instrs (ap (λ (b : Block). b.instrs) d) n)
        on (OfBack g y) q = absurd (nothing c.instrs (ap (λ (b : Block). b.instrs) y.is) n)
        on (OfDone d) q = absurd (nothing c.instrs (ap (λ (b : Block). b.instrs) d) n)
        on (OfPiece z) (OfRamp o r u q) =
            let both : Some z.block ≡ Some r = sym (first_has m k f begin x layout part c z i n a) ∙ u in
            let same : z.block ≡ r = cc in
            ramp_has m k f begin x layout part o c z i n a ∙ ap label_of same ∙ sym q
        on (OfPiece z) (OfLater g q) = absurd (entry_unreached g z.block (first_has m k f begin x layout part c z i n a) c.label (flagged_is_led p c.label flagged) (label_of_piece s part h c z))

    rest_none : (bs : List Block) → p.blocks ≡ bs → (at : ℕ) (c : Block) → slice_get (kept_blocks (reached p) bs) (suc at) ≡ Some c → IsListed c (pruned p).blocks → (i : Instr) → IsListed i c.instrs → is_alloca i ≡ false
    rest_none [] e at c there l i n = absurd (cc)
    rest_none (b ∷ bs) e at c there l i n = on (is_alloca i) refl
      where
        first : slice_get (whole s part h) 0 ≡ Some b
        first = ap (λ (cs : List Block). slice_get cs 0) (sym blocks ∙ e)

        different : AreDifferent (labels (b ∷ bs))
        different = subst (λ (cs : List Block). AreDifferent (labels cs)) (sym blocks ∙ e) (part_different s part h ok)

        on : (t : Bool) → is_alloca i ≡ t → is_alloca i ≡ false
        on false a = a
        on true a =
            let d = kept_tail (reached p) b bs (entry_flagged m k f begin x layout part p blocks names b (ap (λ (cs : List Block). slice_get cs 0) e)) at c there in
            let w = kept_home m k f begin x layout part p blocks names c l in
            let same : w.before.label ≡ b.label = entry_has b first w.before w.listed w.flagged i (subst (λ (q : Block). IsListed i q.instrs) w.is n) a in
            absurd (different.0 (subst (λ (v : ℕ). IsListed v (labels bs)) (ap label_of (sym d.1.1 ∙ w.is) ∙ same) (listed_mapped label_of bs d.0 d.1.0)))

    pub allocas_kept : (l : ℕ) → first_late_alloca l (pruned p) ≡ None
    allocas_kept l =
        part_none (on_instr allocates_late) (parts_of l (pruned p)) (to_parts (λ z. on_instr allocates_late z.0 z.1 ≡ false) l (pruned p) (record {
          signature = refl;
          blocks = λ at c there. record { head = refl; phis = λ j z e. refl; instrs = λ j i e. one at c there j i e; ending = refl };
        }))
      where
        one : (at : ℕ) (c : Block) → slice_get (pruned p).blocks at ≡ Some c → (j : ℕ) (i : Instr) → slice_get c.instrs j ≡ Some i → allocates_late (instr_place l at (length c.phis + j)) i ≡ false
        one zero c there j i e = first_allowed l (length c.phis + j) i
        one (suc at) c there j i e = not_late (instr_place l (suc at) (length c.phis + j)) i (rest_none p.blocks refl at c there (listed_at (pruned p).blocks (suc at) c there) i (listed_at c.instrs j i e))

pub part_allocas_kept : (m : Module) (k l : ℕ) (layout : Layout) (part : Part) (begin : ℕ) (f g : Function) → IsSplittable m k f begin → IsPartOf (shape_of f layout) f part g → first_late_alloca l g ≡ None
part_allocas_kept m k l layout part begin f g x is =
    let y = pruned_part (shape_of f layout) part f g is in
    subst (λ (q : Function). first_late_alloca l q ≡ None) (sym y.is) (allocas_kept m k f begin x layout part y.before y.blocks y.names l)
