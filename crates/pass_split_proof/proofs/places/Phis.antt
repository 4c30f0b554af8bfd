-- What phis take in a part: labels go over to the last pieces of their blocks, and labels that aren't reached go.
use Rattle.std.proofs.Common.{◌≡◌, inl, inr, ℕ, Bool, true, false, List, [], ◌∷◌, refl, sym, ap, ◌∙◌, subst, ◌⊎◌}
use Rattle.std.specs.List.{cons_option}
use Rattle.std.specs.Prelude.{None, Option, Some, filter, filter_map, map, slice_get, if◌then◌else◌, ◌==◌}
use Rattle.pass_proofs.specs.flow_solver.Paths.{IsListed}
use Rattle.pass_proofs.specs.frame_layout.declared.layout.Layout.{Layout}
use Rattle.pass_proofs.proofs.ir_laws.facts.Numbers.{label_of}
use Rattle.pass_proofs.proofs.ir_laws.facts.Truth.{equal_numbers, itself}
use Rattle.pass_proofs.proofs.ir_laws.facts.local_rules.Woven.{other_number}
use Rattle.pass_proofs.specs.ir_model.declared.instr.Incoming.{Incoming}
use Rattle.pass_proofs.specs.ir_model.declared.instr.Phi.{Phi}
use Rattle.pass_proofs.specs.ir_model.declared.module.Block.{Block}
use Rattle.pass_proofs.specs.ir_model.declared.module.Function.{Function}
use Rattle.pass_proofs.specs.ir_model.declared.module.Module.{Module}
use Rattle.pass_proofs.specs.ir_model.declared.operand.Operand.{Operand}
use Rattle.pass_proofs.specs.ir_paths.Paths.{targets}
use Rattle.pass_proofs.specs.pass_intrinsics.Shapes.{shape_of}
use Rattle.pass_proofs.specs.pass_intrinsics.declared.shape.Part.{Part}
use Rattle.pass_proofs.specs.pass_intrinsics.declared.shape.Shape.{Shape}
use Rattle.pass_proofs.proofs.split.edges.Entered.{IsEntered, entered}
use Rattle.pass_proofs.proofs.split.edges.Kept.{incoming_is}
use Rattle.pass_proofs.proofs.split.edges.Labels.{one_home}
use Rattle.pass_proofs.proofs.split.edges.Led.{its_origin, named_is_led}
use Rattle.pass_proofs.proofs.split.edges.Pieces.{block_marks}
use Rattle.pass_proofs.proofs.split.edges.Sources.{cuttable}
use Rattle.pass_split_proof.specs.places.Places.{entering}
use Rattle.pass_proofs.specs.split.rules.Splittable.{IsSplittable}
use Rattle.pass_proofs.specs.pass_split.Parts.{origins_for}
use Rattle.pass_proofs.specs.pass_split.Pieces.{comes_from, incoming_from as incoming_of, origin_in, pieced_incoming, pieced_phi}
use Rattle.pass_proofs.specs.pass_split.Reached.{is_flagged, kept_phi}
use Rattle.pass_proofs.specs.pass_split.declared.origin.Origin.{Origin}
use Rattle.pass_proofs.specs.rule_phis.Edges.{incoming_labels}
use Rattle.pass_proofs.specs.run_step.Step.{incoming_from}

-- ---- labels that stay

module _ (flags : List Bool) (l : ℕ) (flagged : is_flagged flags l ≡ true) where
  kept_incoming : (is : List Incoming) → incoming_from (filter (λ i. is_flagged flags i.from) is) l ≡ incoming_from is l
  kept_incoming [] = refl
  kept_incoming (i ∷ is) = on (is_flagged flags i.from) refl (kept_incoming is)
    where
      goes : is_flagged flags i.from ≡ false → (i.from == l) ≡ false
      goes e = other_number i.from l (λ same. let no : true ≡ false = sym flagged ∙ ap (is_flagged flags) (sym same)
          ∙ e in absurd (cc))

      on : (b : Bool) → is_flagged flags i.from ≡ b
          → incoming_from (filter (λ j. is_flagged flags j.from) is) l ≡ incoming_from is l
          → incoming_from (if b then i ∷ filter (λ j. is_flagged flags j.from) is else filter
          (λ j. is_flagged flags j.from) is) l ≡ incoming_from (i ∷ is) l
      on true e rest = ap (λ (x : Operand). if i.from == l then i.value else x) rest
      on false e rest = rest ∙ ap (λ (b : Bool). if b then i.value else incoming_from is l) (sym (goes e))

  -- from a label that stays phis take the same
  pub kept_entering : (ps : List Phi) → entering l (map (kept_phi flags) ps) ≡ entering l ps
  kept_entering [] = refl
  kept_entering (p ∷ ps) = λ k. (p.result, (p.ty, kept_incoming p.incoming k)) ∷ kept_entering ps k

-- ---- labels that go over to others

-- the operands for one label alone go over to another one
chosen_incoming : (g : Incoming → Option Incoming) (n l : ℕ) (is : List Incoming) → ((i : Incoming) → IsListed i is
    → i.from ≡ n → g i ≡ Some (record { value = i.value; from = l })) → ((i j : Incoming) → IsListed i is
    → g i ≡ Some j → j.from ≡ l → i.from ≡ n) → incoming_from (filter_map g is) l ≡ incoming_from is n
chosen_incoming g n l [] to from = refl
chosen_incoming g n l (i ∷ is) to from
    = on (i.from == n) refl (chosen_incoming g n l is (λ j m e. to j (inr m) e) (λ j k m d e. from j k (inr m) d e))
  where
    passed : (o : Option Incoming) → g i ≡ o → (i.from == n) ≡ false
        → incoming_from (filter_map g is) l ≡ incoming_from is n
        → incoming_from (cons_option o (filter_map g is)) l ≡ incoming_from is n
    passed None d e rest = rest
    passed (Some j) d e rest =
        let other : (j.from == l) ≡ false = other_number j.from l (λ same. let no : true ≡ false = sym (itself n)
        ∙ ap (λ (k : ℕ). k == n) (sym (from i j (inl refl) d same)) ∙ e in absurd (cc)) in
        ap (λ (b : Bool). if b then j.value else incoming_from (filter_map g is) l) other ∙ rest

    on : (b : Bool) → (i.from == n) ≡ b → incoming_from (filter_map g is) l ≡ incoming_from is n
        → incoming_from (cons_option (g i) (filter_map g is)) l ≡ (if b then i.value else incoming_from is n)
    on true e rest =
        ap (λ (o : Option Incoming). incoming_from (cons_option o (filter_map g is)) l)
        (to i (inl refl) (equal_numbers i.from n e))
        ∙ ap (λ (b : Bool). if b then i.value else incoming_from (filter_map g is) l) (itself l)
    on false e rest = passed (g i) refl e rest

module _ (m : Module) (k : ℕ) (f : Function) (begin : ℕ) (x : IsSplittable m k f begin) (layout : Layout)
    (part : Part) where
  abbrev s : Shape
  s = shape_of f layout

  abbrev os : List Origin
  os = origins_for s part f

  -- on an edge from the last piece of a block phis take what they take on the edge from the block
  module _ (d b : Block) (l : ℕ) (from : IsListed d f.blocks) (to : IsListed b f.blocks)
      (leads : IsListed b.label (targets d.term)) (last : origin_in s part (Origin.Piece d.label) d.instrs ≡
      Origin.Piece l) where
    module _ (y : Phi) (there : IsListed y b.phis) where
      e : IsEntered m k f begin x layout part b y
      e = entered m k f begin x layout part b y to there

      origin : slice_get os d.label ≡ Some (Origin.Piece l)
      origin = its_origin m k f begin x layout part d from (e.no_suspend d from leads)
          ∙ ap (λ (o : Origin). Some o) last

      comes : comes_from s part b.label d.label (slice_get os d.label) ≡ Some l
      comes = ap (comes_from s part b.label d.label) origin

      goes_over : (i : Incoming) → IsListed i y.incoming → i.from ≡ d.label
          → pieced_incoming s part os b.label i ≡ Some (record { value = i.value; from = l })
      goes_over i n same = ap (incoming_of i) (ap (λ (q : ℕ). comes_from s part b.label q (slice_get os q)) same
          ∙ comes)

      alone : (i j : Incoming) → IsListed i y.incoming → pieced_incoming s part os b.label i ≡ Some j → j.from ≡ l
          → i.from ≡ d.label
      alone i j n made same =
          let u = named_is_led m k f begin x layout part b y to e i.from j.from (listed_labels y.incoming i n)
          (incoming_is i j (comes_from s part b.label i.from (slice_get os i.from)) made) in
          let w = named_is_led m k f begin x layout part b y to e d.label l (e.fits.to d from leads) comes in
          let one : u.source ≡ w.source = one_home s part f (cuttable m k f begin x layout part) l u.source w.source
          u.listed_source w.listed_source (subst (λ (v : ℕ). (v ≡ u.source.label)
          ⊎ IsListed v (block_marks s part u.source)) same u.kind) w.kind in
          u.is ∙ ap label_of one ∙ sym w.is
        where
          listed_labels : (is : List Incoming) (j : Incoming) → IsListed j is → IsListed j.from (incoming_labels is)
          listed_labels [] j h = absurd h
          listed_labels (q ∷ is) j (inl same) = inl (ap (λ (z : Incoming). z.from) same)
          listed_labels (q ∷ is) j (inr h) = inr (listed_labels is j h)

      phi_takes : incoming_from (pieced_phi s part os b.label y).incoming l ≡ incoming_from y.incoming d.label
      phi_takes = chosen_incoming (pieced_incoming s part os b.label) d.label l y.incoming goes_over alone

    all_take : (ps : List Phi) → ((y : Phi) → IsListed y ps → IsListed y b.phis)
        → entering l (map (pieced_phi s part os b.label) ps) ≡ entering d.label ps
    all_take [] h = refl
    all_take (y ∷ ps) h = λ q. (y.result, (y.ty, phi_takes y (h y (inl refl)) q)) ∷ all_take ps (λ z n. h z (inr n)) q

    pub takes : entering l (map (pieced_phi s part os b.label) b.phis) ≡ entering d.label b.phis
    takes = all_take b.phis (λ y n. n)
