-- Names of a coroutine whose frame may be built: the result of a call is its own, and no distance goes on from it.
use Rattle.std.proofs.Common.{◌≡◌, ◌⊎◌, inl, inr, ⊎_elim, ℕ, zero, suc, ◌<◌, Bool, List, [], ◌∷◌, length, replicate, Option, Some, None, refl, sym, ap, ◌∙◌, subst}
use Rattle.std.specs.Prelude.{option_map, slice_get, slice_set, unwrap_or}
use Rattle.std.proofs.lemmas.Option.{slice_get-map}
use Rattle.pass_frames_proof.specs.flow_solver.Paths.{IsListed}
use Rattle.pass_frames_proof.specs.frame_classes.declared.class.SlotClass.{SlotClass}
use Rattle.pass_frames_proof.proofs.ir_laws.facts.Members.{at_each}
use Rattle.pass_frames_proof.specs.ir_model.Ty.{Ty}
use Rattle.pass_frames_proof.specs.ir_model.declared.instr.Instr.{Instr}
use Rattle.pass_frames_proof.specs.ir_model.declared.module.Block.{Block}
use Rattle.pass_frames_proof.specs.ir_model.declared.module.Function.{Function}
use Rattle.pass_frames_proof.specs.ir_model.declared.operand.Arg.{Arg}
use Rattle.pass_frames_proof.specs.ir_model.declared.operand.Operand.{Operand}
use Rattle.pass_frames_proof.specs.ir_parts.Contents.{result_of}
use Rattle.pass_frames_proof.specs.ir_paths.Windows.{instr_at, instr_in}
use Rattle.pass_frames_proof.specs.ir_paths.declared.point.Point.{Point}
use Rattle.pass_frames_proof.specs.pass_cells.Kept.{entry, joined}
use Rattle.pass_frames_proof.specs.pass_cells.Links.{bases_of, further, jumped, roots_after, roots_of, slot_by, slots_of, with_base, with_bases_by, with_bases_in}
use Rattle.pass_frames_proof.specs.pass_frames.Tables.{class_flags}
use Rattle.pass_frames_meaning.specs.Called.{IsCalling}
use Rattle.pass_frames_meaning.specs.Plain.{IsNoAlloca, IsNoGep}
use Rattle.pass_frames_proof.proofs.distances.Apart.{has_root}
use Rattle.pass_frames_proof.specs.Framings.{IsFraming}
use Rattle.pass_frames_proof.specs.Lines.{IsNoRoot}
use Rattle.pass_frames_proof.specs.Ordinary.{IsPlainName}
use Rattle.pass_frames_proof.specs.Passes.{no_block}
use Rattle.pass_frames_proof.specs.Places.{Framing, edged, instrs_at, plan}
use Rattle.pass_frames_proof.specs.Related.{root_of}
use Rattle.pass_frames_proof.proofs.pass_proofs.cells.rules.Links.{slot_flagged}
use Rattle.pass_frames_proof.proofs.pass_proofs.edges.paths.Slots.{same_allocas}
use Rattle.pass_frames_proof.proofs.pass_proofs.frames.shape.Fits.{flags_are_allocas}
use Rattle.pass_frames_proof.proofs.rule_laws.rules.named_results.Named.{locals_tabled}
use Rattle.pass_frames_proof.proofs.rule_laws.rules.renamed.Uses.{result_spelt}
use Rattle.pass_frames_proof.proofs.rule_laws.rules.source_rules.Locals.{same_instr}
use Rattle.pass_frames_proof.proofs.rule_laws.rules.source_rules.Slots.{alloca_of}
use Rattle.pass_frames_proof.specs.rule_laws.rules.function_rules.Kept.{KeepsFunctionRules}

-- ---- chains of bases

-- the end of a chain of no name that isn't a getelementptr's
unfolding_chain : (t : List (Option ℕ)) (v s : ℕ) → entry (jumped t) v ≡ Some s → (u : ℕ) × (entry t v ≡ Some u)
unfolding_chain t v s e = on (slice_get t v) refl (sym (ap joined (slice_get-map (further t) t v)) ∙ e)
  where
    on : (o : Option (Option ℕ)) → slice_get t v ≡ o → joined (option_map (further t) o) ≡ Some s
        → (u : ℕ) × (entry t v ≡ Some u)
    on None d h = absurd (cc)
    on (Some None) d h = absurd (cc)
    on (Some (Some u)) d h = (u, ap joined d)

chain_based : (k : ℕ) (t : List (Option ℕ)) (v s : ℕ) → entry (roots_after k t) v ≡ Some s
    → (u : ℕ) × (entry t v ≡ Some u)
unfolding roots_after
chain_based zero t v s e = (s, e)
chain_based (suc k) t v s e =
    let z = chain_based k (jumped t) v s e in
    unfolding_chain t v z.0 z.1

root_based : (bases : List (Option ℕ)) (v s : ℕ) → entry (roots_of bases) v ≡ Some s
    → (u : ℕ) × (entry bases v ≡ Some u)
unfolding roots_of
root_based bases v s e = chain_based 64 bases v s e

pub slot_based : (local : List Bool) (bases : List (Option ℕ)) (v s : ℕ) → entry (slots_of local bases) v ≡ Some s
    → (u : ℕ) × (entry bases v ≡ Some u)
slot_based local bases v s e =
    on (slice_get (roots_of bases) v) refl (sym (ap joined (slice_get-map (slot_by local) (roots_of bases) v)) ∙ e)
  where
    on : (o : Option (Option ℕ)) → slice_get (roots_of bases) v ≡ o → joined (option_map (slot_by local) o) ≡ Some s
        → (u : ℕ) × (entry bases v ≡ Some u)
    on None d h = absurd (cc)
    on (Some None) d h = absurd (cc)
    on (Some (Some u)) d h = root_based bases v u (ap joined d)

-- ---- what has a base is a getelementptr's result

pub record IsGepOf (v : ℕ) (i : Instr) : Type 0 where
  pub inbounds : Bool
  pub ty : Ty
  pub base : Operand
  pub indices : List Arg
  pub is : i ≡ Instr.Gep v inbounds ty base indices

set_entry : (t : List (Option ℕ)) (r b v u : ℕ) → entry (slice_set t r (Some b)) v ≡ Some u
    → (entry t v ≡ Some u) ⊎ (v ≡ r)
set_entry [] r b v u e = inl e
set_entry (x ∷ t) zero b zero u e = inr refl
set_entry (x ∷ t) zero b (suc v) u e = inl e
set_entry (x ∷ t) (suc r) b zero u e = inl e
set_entry (x ∷ t) (suc r) b (suc v) u e = ⊎_elim (λ h. inl h) (λ h. inr (ap suc h)) (set_entry t r b v u e)

one_base : (t : List (Option ℕ)) (i : Instr) (v u : ℕ) → entry (with_base t i) v ≡ Some u
    → (entry t v ≡ Some u) ⊎ IsGepOf v i
one_base t (Instr.Gep r inbounds ty (Operand.Local b) indices) v u e =
    ⊎_elim (λ h. inl h) (λ h. inr (record {
      inbounds = inbounds;
      ty = ty;
      base = Operand.Local b;
      indices = indices;
      is = ap (λ (n : ℕ). Instr.Gep n inbounds ty (Operand.Local b) indices) (sym h);
    })) (set_entry t r b v u e)
one_base t _ v u e = inl e

pub record HasGep (is : List Instr) (v : ℕ) : Type 0 where
  pub at : ℕ
  pub instr : Instr
  pub there : slice_get is at ≡ Some instr
  pub gep : IsGepOf v instr

instrs_based : (t : List (Option ℕ)) (is : List Instr) (v u : ℕ) → entry (with_bases_in t is) v ≡ Some u
    → (entry t v ≡ Some u) ⊎ HasGep is v
instrs_based t [] v u e = inl e
instrs_based t (i ∷ is) v u e = ⊎_elim
    (λ h. ⊎_elim (λ old. inl old) (λ g. inr (record { at = 0; instr = i; there = refl; gep = g })) (one_base t i v u h))
    (λ g. inr (record { at = suc g.at; instr = g.instr; there = g.there; gep = g.gep }))
    (instrs_based (with_base t i) is v u e)

pub record HasGepIn (bs : List Block) (v : ℕ) : Type 0 where
  pub block : ℕ
  pub one : Block
  pub found : slice_get bs block ≡ Some one
  pub has : HasGep one.instrs v

blocks_based : (t : List (Option ℕ)) (bs : List Block) (v u : ℕ) → entry (with_bases_by t bs) v ≡ Some u
    → (entry t v ≡ Some u) ⊎ HasGepIn bs v
blocks_based t [] v u e = inl e
blocks_based t (b ∷ bs) v u e = ⊎_elim
    (λ h. ⊎_elim (λ old. inl old) (λ g. inr (record { block = 0; one = b; found = refl; has = g }))
    (instrs_based t b.instrs v u h))
    (λ g. inr (record { block = suc g.block; one = g.one; found = g.found; has = g.has }))
    (blocks_based (with_bases_in t b.instrs) bs v u e)

none_yet : (n v u : ℕ) → entry (replicate n None) v ≡ Some u → ⊥
none_yet zero v u e = cc
none_yet (suc n) zero u e = cc
none_yet (suc n) (suc v) u e = none_yet n v u e

pub base_made : (f : Function) (v u : ℕ) → entry (bases_of f) v ≡ Some u → HasGepIn f.blocks v
base_made f v u e = ⊎_elim (λ h. absurd (none_yet (length f.names) v u h)) (λ g. g)
    (blocks_based (replicate (length f.names) None) f.blocks v u e)

-- ---- a coroutine

module _ (x : Framing) (is : IsFraming x) where
  rules : KeepsFunctionRules x.code is.position (edged x)
  rules = is.frameable.rules

  -- where an instruction stands
  pub point_there : (k at : ℕ) (i : Instr) → slice_get (instrs_at x k) at ≡ Some i
      → instr_at (edged x) (record { block = k; at = at }) ≡ Some i
  point_there k at i e = on (slice_get (edged x).blocks k) refl e
    where
      on : (o : Option Block) → slice_get (edged x).blocks k ≡ o → slice_get (unwrap_or o no_block).instrs at ≡ Some i
          → instr_in (slice_get (edged x).blocks k) at ≡ Some i
      on None d h = absurd (cc)
      on (Some b) d h = ap (λ (o : Option Block). instr_in o at) d ∙ h

  pub result_low : (k at r : ℕ) (i : Instr) → slice_get (instrs_at x k) at ≡ Some i → result_of i ≡ Some r
      → r < length (edged x).names
  result_low k at r i e given = on (slice_get (edged x).blocks k) refl e
    where
      on : (o : Option Block) → slice_get (edged x).blocks k ≡ o → slice_get (unwrap_or o no_block).instrs at ≡ Some i
          → r < length (edged x).names
      on None d h = absurd (cc)
      on (Some b) d h = named (result_of i) given
          (at_each _ b.instrs at i (at_each _ (edged x).blocks k b
          (locals_tabled is.position (edged x) rules.tabled).results d) h)
        where
          named : (o : Option ℕ) → o ≡ Some r
              → Rattle.pass_frames_proof.specs.ir_laws.facts.expanded.Tokens.IsNamedResult (length (edged x).names) o
              → r < length (edged x).names
          named None q n = absurd (cc)
          named (Some v) q n = let same : v ≡ r = cc in subst (λ (u : ℕ). u < length (edged x).names) same n

  -- N1
  pub once : (p q : Point) (i j : Instr) (r : ℕ) → instr_at (edged x) p ≡ Some i → instr_at (edged x) q ≡ Some j
      → result_of i ≡ Some r → result_of j ≡ Some r → i ≡ j
  once p q i j r d e a b = same_instr is.position (edged x) rules.definitions p q i j r d e
      (sym (result_spelt i) ∙ a) (sym (result_spelt j) ∙ b)

  -- a root of distances is an alloca's
  pub root_alloca : (u slot : ℕ) → root_of x u ≡ Some slot
      → Rattle.pass_frames_proof.proofs.rule_laws.rules.source_rules.Slots.HasAlloca (edged x) slot
  root_alloca u slot e = alloca_of (edged x) slot
      (subst (IsListed slot) (sym (same_allocas x.function))
      (flags_are_allocas x.function x.contents.classes SlotClass.Local slot
      (slot_flagged (class_flags x.function x.contents.classes SlotClass.Local) (bases_of (edged x)) u slot e)))

  module _ (k at : ℕ) (i : Instr) (there : slice_get (instrs_at x k) at ≡ Some i) (r : ℕ)
      (given : result_of i ≡ Some r) where
    module _ (other : IsNoAlloca i) where
      not_alloca : (name align : ℕ) (ty : Ty) → i ≡ Instr.Alloca name ty align → ⊥
      not_alloca name align ty e = subst IsNoAlloca e other

      -- it isn't an alloca's name
      pub alloca_apart : (l m align : ℕ) (ty : Ty)
          → slice_get (instrs_at x l) m ≡ Some (Instr.Alloca r ty align) → ⊥
      alloca_apart l m align ty e = not_alloca r align ty
          (once (record { block = k; at = at }) (record { block = l; at = m }) i (Instr.Alloca r ty align) r
          (point_there k at i there) (point_there l m (Instr.Alloca r ty align) e) given refl)

      pub no_root : IsNoRoot x r
      no_root u slot root same =
          let a = root_alloca u slot root in
          not_alloca slot a.align a.ty
          (once (record { block = k; at = at }) a.point i (Instr.Alloca slot a.ty a.align) slot
          (point_there k at i there) a.stands (given ∙ ap Some (sym same)) refl)

      pub plain_by : entry (plan x).cells r ≡ None → IsPlainName x r
      plain_by none = record {
        name = record { low = result_low k at r i there given; no_root = no_root };
        no_distance = none;
      }

    module _ (no_gep : IsNoGep i) where
      not_gep : IsGepOf r i → ⊥
      not_gep g = subst IsNoGep g.is no_gep

      pub no_distance : entry (plan x).cells r ≡ None
      no_distance = on (entry (plan x).cells r) refl
        where
          on : (o : Option ℕ) → entry (plan x).cells r ≡ o → o ≡ None
          on None e = refl
          on (Some c) e =
              let root = has_root x is r c e in
              let base = slot_based (class_flags x.function x.contents.classes SlotClass.Local) (bases_of (edged x)) r
              root.0 root.1 in
              let g = base_made (edged x) r base.0 base.1 in
              absurd (not_gep (subst (IsGepOf r) (sym (once (record { block = k; at = at })
              (record { block = g.block; at = g.has.at }) i g.has.instr r (point_there k at i there)
              (ap (λ (o : Option Block). instr_in o g.has.at) g.found ∙ g.has.there) given
              (ap result_of g.has.gep.is))) g.has.gep))

  -- ---- results of calls

  no_alloca_calls : (i : Instr) → IsCalling i → IsNoAlloca i
  no_alloca_calls (Instr.Call result must_tail ty callee args) calls = tt
  no_alloca_calls _ calls = absurd calls

  no_gep_calls : (i : Instr) → IsCalling i → IsNoGep i
  no_gep_calls (Instr.Call result must_tail ty callee args) calls = tt
  no_gep_calls _ calls = absurd calls

  module _ (k at : ℕ) (i : Instr) (there : slice_get (instrs_at x k) at ≡ Some i) (calls : IsCalling i) (r : ℕ)
      (given : result_of i ≡ Some r) where
    pub no_alloca : (l m align : ℕ) (ty : Ty) → slice_get (instrs_at x l) m ≡ Some (Instr.Alloca r ty align) → ⊥
    no_alloca = alloca_apart k at i there r given (no_alloca_calls i calls)

    pub plain_name : IsPlainName x r
    plain_name = plain_by k at i there r given (no_alloca_calls i calls) (no_distance k at i there r given
        (no_gep_calls i calls))
