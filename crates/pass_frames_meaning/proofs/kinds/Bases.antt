-- Whose distance is kept goes back to a local slot: its base is the slot, or the distance of that is kept too.
use Rattle.std.proofs.Common.{◌≡◌, ◌⊎◌, inl, inr, ⊎_elim, ℕ, zero, suc, ◌<◌, Bool, true, List, [], ◌∷◌, length, replicate, Option, Some, None, refl, sym, ap, ◌∙◌, subst}
use Rattle.std.specs.Prelude.{slice_get, slice_set, unwrap_or}
use Rattle.pass_frames_proof.specs.flow_solver.Paths.{IsListed}
use Rattle.pass_frames_proof.specs.frame_classes.declared.class.SlotClass.{SlotClass}
use Rattle.pass_frames_proof.proofs.ir_laws.facts.Lists.{get_within}
use Rattle.pass_frames_proof.specs.ir_model.Ty.{Ty}
use Rattle.pass_frames_proof.specs.ir_model.declared.instr.Instr.{Instr}
use Rattle.pass_frames_proof.specs.ir_model.declared.module.Block.{Block}
use Rattle.pass_frames_proof.specs.ir_model.declared.operand.Arg.{Arg}
use Rattle.pass_frames_proof.specs.ir_model.declared.operand.Operand.{Operand}
use Rattle.pass_frames_proof.specs.ir_parts.Contents.{result_of}
use Rattle.pass_frames_proof.specs.ir_paths.Slots.{allocas_of}
use Rattle.pass_frames_proof.specs.ir_paths.Windows.{instr_at, instr_in}
use Rattle.pass_frames_proof.specs.ir_paths.declared.point.Point.{Point}
use Rattle.pass_frames_proof.specs.pass_cells.Kept.{entry, is_flagged, joined, keeping_of}
use Rattle.pass_frames_proof.specs.pass_cells.Links.{bases_of, marks_of, roots_of, slots_of, with_base, with_bases_by, with_bases_in}
use Rattle.pass_frames_proof.specs.pass_frames.Tables.{class_flags}
use Rattle.pass_frames_meaning.proofs.kinds.Chains.{base_leads, no_own_base, root_base, root_slot, slot_root}
use Rattle.pass_frames_meaning.proofs.kinds.Marks.{cell_told, marks_closed}
use Rattle.pass_frames_meaning.proofs.others.Names.{once, point_there, result_low}
use Rattle.pass_frames_proof.proofs.distances.Apart.{has_root}
use Rattle.pass_frames_proof.specs.Framings.{IsFraming}
use Rattle.pass_frames_proof.specs.Passes.{no_block}
use Rattle.pass_frames_proof.specs.Places.{Framing, edged, instrs_at, plan}
use Rattle.pass_frames_proof.specs.Related.{root_of}
use Rattle.pass_frames_proof.specs.pass_cells.declared.keeping.Keeping.{Keeping}
use Rattle.pass_frames_proof.proofs.pass_proofs.cells.rules.Links.{distance_there}
use Rattle.pass_frames_proof.proofs.pass_proofs.edges.paths.Slots.{same_allocas}
use Rattle.pass_frames_proof.proofs.pass_proofs.frames.shape.Fits.{flags_are_allocas}
use Rattle.pass_frames_proof.proofs.rule_laws.rules.source_rules.Slots.{alloca_of}

-- ---- the table of bases

-- a getelementptr of a base gives the name
record IsGepFrom (i : Instr) (v u : ℕ) : Type 0 where
  inbounds : Bool
  ty : Ty
  indices : List Arg
  is : i ≡ Instr.Gep v inbounds ty (Operand.Local u) indices

set_cases : (t : List (Option ℕ)) (r b v u : ℕ) → entry (slice_set t r (Some b)) v ≡ Some u
    → (entry t v ≡ Some u) ⊎ ((r ≡ v) × (b ≡ u))
set_cases [] r b v u e = inl e
set_cases (x ∷ t) zero b zero u e = inr (refl, let same : b ≡ u = cc in same)
set_cases (x ∷ t) zero b (suc v) u e = inl e
set_cases (x ∷ t) (suc r) b zero u e = inl e
set_cases (x ∷ t) (suc r) b (suc v) u e =
    ⊎_elim (λ h. inl h) (λ h. inr (ap suc h.0, h.1)) (set_cases t r b v u e)

one_based : (t : List (Option ℕ)) (i : Instr) (v u : ℕ) → entry (with_base t i) v ≡ Some u
    → (entry t v ≡ Some u) ⊎ IsGepFrom i v u
one_based t (Instr.Gep r inbounds ty (Operand.Local b) indices) v u e =
    ⊎_elim (λ h. inl h) (λ h. inr (record {
      inbounds = inbounds;
      ty = ty;
      indices = indices;
      is = λ j. Instr.Gep (h.0 j) inbounds ty (Operand.Local (h.1 j)) indices;
    })) (set_cases t r b v u e)
one_based t _ v u e = inl e

record HasGepFrom (is : List Instr) (v u : ℕ) : Type 0 where
  at : ℕ
  instr : Instr
  there : slice_get is at ≡ Some instr
  gep : IsGepFrom instr v u

instrs_based : (t : List (Option ℕ)) (is : List Instr) (v u : ℕ) → entry (with_bases_in t is) v ≡ Some u
    → (entry t v ≡ Some u) ⊎ HasGepFrom is v u
instrs_based t [] v u e = inl e
instrs_based t (i ∷ is) v u e = ⊎_elim
    (λ h. ⊎_elim (λ old. inl old) (λ g. inr (record { at = 0; instr = i; there = refl; gep = g })) (one_based t i v u h))
    (λ g. inr (record { at = suc g.at; instr = g.instr; there = g.there; gep = g.gep }))
    (instrs_based (with_base t i) is v u e)

record HasGepFromIn (bs : List Block) (v u : ℕ) : Type 0 where
  block : ℕ
  one : Block
  found : slice_get bs block ≡ Some one
  has : HasGepFrom one.instrs v u

blocks_based : (t : List (Option ℕ)) (bs : List Block) (v u : ℕ) → entry (with_bases_by t bs) v ≡ Some u
    → (entry t v ≡ Some u) ⊎ HasGepFromIn bs v u
blocks_based t [] v u e = inl e
blocks_based t (b ∷ bs) v u e = ⊎_elim
    (λ h. ⊎_elim (λ old. inl old) (λ g. inr (record { block = 0; one = b; found = refl; has = g }))
    (instrs_based t b.instrs v u h))
    (λ g. inr (record { block = suc g.block; one = g.one; found = g.found; has = g.has }))
    (blocks_based (with_bases_in t b.instrs) bs v u e)

none_yet : (n v u : ℕ) → entry (replicate n None) v ≡ Some u → ⊥
none_yet zero v u e = cc
none_yet (suc n) zero u e = cc
none_yet (suc n) (suc v) u e = none_yet n v u e

-- what a table tells is told within it
told_within : (t : List (Option ℕ)) (v u : ℕ) → entry t v ≡ Some u → v < length t
told_within t v u e = on (slice_get t v) refl e
  where
    on : (o : Option (Option ℕ)) → slice_get t v ≡ o → joined o ≡ Some u → v < length t
    on None d h = absurd (cc)
    on (Some o) d h = get_within t v o d

module _ (x : Framing) (is : IsFraming x) where
  abbrev pub bases : List (Option ℕ)
  bases = bases_of (edged x)

  abbrev local : List Bool
  local = class_flags x.function x.contents.classes SlotClass.Local

  abbrev slots : List (Option ℕ)
  slots = slots_of local bases

  abbrev kept : Keeping
  kept = keeping_of (length (edged x).names) x.contents.crossing

  gep_of : (v u : ℕ) → entry bases v ≡ Some u → HasGepFromIn (edged x).blocks v u
  gep_of v u e = ⊎_elim (λ h. absurd (none_yet (length (edged x).names) v u h)) (λ g. g)
      (blocks_based (replicate (length (edged x).names) None) (edged x).blocks v u e)

  gep_stands : (v u : ℕ) (g : HasGepFromIn (edged x).blocks v u)
      → instr_at (edged x) (record { block = g.block; at = g.has.at }) ≡ Some g.has.instr
  gep_stands v u g = ap (λ (o : Option Block). instr_in o g.has.at) g.found ∙ g.has.there

  -- ---- local slots

  slot_listed : (s : ℕ) → is_flagged local s ≡ true → IsListed s (allocas_of (edged x))
  slot_listed s e =
      subst (IsListed s) (sym (same_allocas x.function))
      (flags_are_allocas x.function x.contents.classes SlotClass.Local s e)

  no_gep : (s align u : ℕ) (ty : Ty) (i : Instr) → IsGepFrom i s u → i ≡ Instr.Alloca s ty align → ⊥
  no_gep s align u ty i g e =
      let both : Instr.Gep s g.inbounds g.ty (Operand.Local u) g.indices ≡ Instr.Alloca s ty align = sym g.is ∙ e in
      absurd (cc)

  -- an alloca has no base
  pub no_base : (s : ℕ) → IsListed s (allocas_of (edged x)) → entry bases s ≡ None
  no_base s l = on (entry bases s) refl
    where
      on : (o : Option ℕ) → entry bases s ≡ o → o ≡ None
      on None e = refl
      on (Some u) e =
          let a = alloca_of (edged x) s l in
          let g = gep_of s u e in
          absurd (no_gep s a.align u a.ty g.has.instr g.has.gep
          (once x is (record { block = g.block; at = g.has.at }) a.point g.has.instr (Instr.Alloca s a.ty a.align) s
          (gep_stands s u g) a.stands (ap result_of g.has.gep.is) refl))

  root_is : (v s : ℕ) → root_of x v ≡ Some s → (entry (roots_of bases) v ≡ Some s)
      × IsListed s (allocas_of (edged x))
  root_is v s e = let z = slot_root local bases v s e in (z.0, slot_listed s z.1)

  pub root_listed : (v s : ℕ) → root_of x v ≡ Some s → IsListed s (allocas_of (edged x))
  root_listed v s e = (root_is v s e).1

  pub root_flagged : (v s : ℕ) → root_of x v ≡ Some s → is_flagged local s ≡ true
  root_flagged v s e = (slot_root local bases v s e).1

  based : (v s : ℕ) → root_of x v ≡ Some s → (u : ℕ) × (entry bases v ≡ Some u)
  based v s e = on (root_is v s e)
    where
      on : (entry (roots_of bases) v ≡ Some s) × IsListed s (allocas_of (edged x))
          → (u : ℕ) × (entry bases v ≡ Some u)
      on z = root_base bases v s z.0 (no_base s z.1)

  -- a name of which a distance is kept is a getelementptr's
  pub cell_gep : (v d : ℕ) → entry (plan x).cells v ≡ Some d
      → (p : Point) × (inbounds : Bool) × (ty : Ty) × (base : Operand) × (indices : List Arg)
      × (instr_at (edged x) p ≡ Some (Instr.Gep v inbounds ty base indices))
  cell_gep v d e =
      let root = has_root x is v d e in
      let base = based v root.0 root.1 in
      let g = gep_of v base.0 base.1 in (
        record { block = g.block; at = g.has.at },
        g.has.gep.inbounds,
        g.has.gep.ty,
        Operand.Local base.0,
        g.has.gep.indices,
        gep_stands v base.0 g ∙ ap Some g.has.gep.is,
      )

  -- what has a base is no alloca's name, and is one of the coroutine's
  pub no_alloca_base : (v s : ℕ) → root_of x v ≡ Some s → IsListed v (allocas_of (edged x)) → ⊥
  no_alloca_base v s e l =
      let b = based v s e in
      let none : None ≡ Some b.0 = sym (no_base v l) ∙ b.1 in
      absurd (cc)

  pub base_low : (v s : ℕ) → root_of x v ≡ Some s → v < length (edged x).names
  base_low v s e =
      let b = based v s e in
      let g = gep_of v b.0 b.1 in
      result_low x is g.block g.has.at v g.has.instr
      (ap (λ (o : Option Block). slice_get (unwrap_or o no_block).instrs g.has.at) g.found ∙ g.has.there)
      (ap result_of g.has.gep.is)

  within : (u s : ℕ) → entry slots u ≡ Some s → u < length bases
  within u s e = let z = based u s e in told_within bases u z.0 z.1

  -- ---- a name whose distance is kept

  abbrev marks : List Bool
  marks = marks_of bases slots kept.values

  marked : (v cell : ℕ) → entry (plan x).cells v ≡ Some cell → is_flagged marks v ≡ true
  marked v cell e = (distance_there (length (edged x).names) (length kept.values) kept.places marks v cell e).marked

  pub record GoesOn (v s u : ℕ) : Type 0 where
    -- the base is the slot, of which no distance is kept, or a name whose distance is kept
    pub from : ((u ≡ s) × (entry (plan x).cells u ≡ None))
        ⊎ ((cell : ℕ) × (entry (plan x).cells u ≡ Some cell) × (root_of x u ≡ Some s))
    pub other : u ≡ v → ⊥

  module _ (v cell s u : ℕ) (told : entry (plan x).cells v ≡ Some cell) (root : root_of x v ≡ Some s)
      (base : entry bases v ≡ Some u) where
    last : entry bases s ≡ None
    last = no_base s (root_listed v s root)

    by_slot : u ≡ s → entry (plan x).cells u ≡ None
    by_slot same = on (entry (plan x).cells u) refl
      where
        on : (o : Option ℕ) → entry (plan x).cells u ≡ o → o ≡ None
        on None e = refl
        on (Some d) e =
            let z = has_root x is u d e in
            let b = based u z.0 z.1 in
            let none : None ≡ Some b.0 = sym last ∙ ap (entry bases) (sym same) ∙ b.1 in
            absurd (cc)

    by_name : entry (roots_of bases) u ≡ Some s
        → (d : ℕ) × (entry (plan x).cells u ≡ Some d) × (root_of x u ≡ Some s)
    by_name e =
        let flag = (slot_root local bases v s root).1 in
        let slot : entry slots u ≡ Some s = root_slot local bases u s e flag in
        let mark = marks_closed bases slots within kept.values v u s (marked v cell told) base slot in
        let z = cell_told (length (edged x).names) (length kept.values) kept.places 0 0 marks u mark in
        (z.0, z.1, slot)

    pub goes_on : GoesOn v s u
    goes_on = record {
      from = ⊎_elim (λ same. inl (same, by_slot same)) (λ e. inr (by_name e))
          (base_leads bases v u s (root_is v s root).0 last base);
      other = λ same. no_own_base bases v s (root_is v s root).0 last
          (base ∙ ap Some same);
    }

  -- the getelementptr that stands there has the base of the table
  pub base_of : (k at r : ℕ) (inbounds : Bool) (ty : Ty) (base : Operand) (indices : List Arg)
      → slice_get (instrs_at x k) at ≡ Some (Instr.Gep r inbounds ty base indices) → (s : ℕ) → root_of x r ≡ Some s
      → (u : ℕ) × (base ≡ Operand.Local u) × (entry bases r ≡ Some u)
  base_of k at r inbounds ty base indices there s root =
      let b = based r s root in
      let g = gep_of r b.0 b.1 in
      let same : Instr.Gep r inbounds ty base indices ≡ g.has.instr =
      once x is (record { block = k; at = at }) (record { block = g.block; at = g.has.at })
      (Instr.Gep r inbounds ty base indices) g.has.instr r
      (point_there x is k at (Instr.Gep r inbounds ty base indices) there) (gep_stands r b.0 g) refl
      (ap result_of g.has.gep.is) in
      let both : Instr.Gep r inbounds ty base indices
      ≡ Instr.Gep r g.has.gep.inbounds g.has.gep.ty (Operand.Local b.0) g.has.gep.indices = same ∙ g.has.gep.is in
      (b.0, base_same r inbounds ty base indices g.has.gep.inbounds g.has.gep.ty b.0 g.has.gep.indices both, b.1)
    where
      base_same : (r : ℕ) (inbounds : Bool) (ty : Ty) (base : Operand) (indices : List Arg) (inbounds' : Bool)
          (ty' : Ty) (u : ℕ) (indices' : List Arg)
          → Instr.Gep r inbounds ty base indices ≡ Instr.Gep r inbounds' ty' (Operand.Local u) indices'
          → base ≡ Operand.Local u
      base_same r inbounds ty base indices inbounds' ty' u indices' e = cc
