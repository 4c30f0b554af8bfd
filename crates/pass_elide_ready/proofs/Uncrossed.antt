-- What is used once, behind its definition in the same block, crosses no suspend.
use Rattle.std.proofs.Common.{◌≡◌, inl, inr, ⊎_elim, ℕ, ◌+◌, ◌<◌, ◌≤◌, sym, ap, ◌∙◌, subst, arith}
use Rattle.std.proofs.lemmas.Bool.{cases_lt}
use Rattle.std.specs.Prelude.{Some, slice_get}
use Rattle.pass_elide_edges.proofs.pass_elide_proof.ElidedFound.{fetched}
use Rattle.pass_elide_edges.specs.pass_elide_proof.Places.{instrs_of}
use Rattle.pass_elide_ready.proofs.OneUse.{IsUsedThere, no_phi_use, one_place, used_there}
use Rattle.pass_elide_edges.specs.pass_elide_proof.pass_proofs.flow_solver.Paths.{IsListed}
use Rattle.pass_elide_edges.specs.pass_elide_proof.pass_proofs.frame_crossing.Crossing.{Crosses}
use Rattle.pass_elide_edges.specs.pass_elide_proof.pass_proofs.frame_crossing.Paths.{Across, IsNeeded, IsNeededFrom, Next, OnEdge, Use, phis_at, used_by}
use Rattle.pass_elide_edges.specs.pass_elide_proof.pass_proofs.ir_model.Names.{position_of}
use Rattle.pass_elide_edges.specs.pass_elide_proof.pass_proofs.ir_model.declared.instr.Instr.{Instr}
use Rattle.pass_elide_edges.specs.pass_elide_proof.pass_proofs.ir_model.declared.module.Function.{Function}
use Rattle.pass_elide_edges.specs.pass_elide_proof.pass_proofs.ir_parts.Contents.{result_of}
use Rattle.pass_elide_edges.specs.pass_elide_proof.pass_proofs.ir_paths.Windows.{destroy_label, resume_label}
use Rattle.pass_elide_edges.specs.pass_elide_proof.pass_proofs.ir_paths.declared.point.Point.{Point}
use Rattle.pass_elide_edges.specs.pass_elide_proof.pass_proofs.rule_shape.Uses.{uses_of}
use Rattle.pass_elide_edges.specs.pass_elide_proof.pass_proofs.run_step.Step.{AtInstr, fetch}

module _ (f : Function) (v q to : ℕ) (once : uses_of f v ≤ 1) (use_there : IsListed v (used_by (fetch f q to))) where
  place : IsUsedThere v f q to
  place = used_there v f q to use_there

  -- ---- what an instruction gives

  module _ (j : ℕ) (i : Instr) (there : slice_get (instrs_of f q) j ≡ Some i) (gives : result_of i ≡ Some v)
      (before : j < to) where
    needed_behind : (block at : ℕ) → IsNeeded f v block at → (block ≡ q) × (j < at)
    needed_behind _ _ (Use block at outside l) =
        let same = one_place v f once block at q to (used_there v f block at l) place in
        let is : at ≡ to = same.1 in
        (same.0, omega (arith, is, before))
    needed_behind _ _ (Next block at k outside stands other more) =
        let x = needed_behind block (at + 1) more in
        let lt : j < at + 1 = x.1 in
        ⊎_elim
        (λ (h : j < at). (x.0, h))
        (λ (le : at ≤ j).
        let e : at ≡ j = omega (arith, lt, le) in
        let both : AtInstr k ≡ AtInstr i = sym stands ∙ (λ z. fetch f (x.0 z) (e z)) ∙ fetched f q j i there in
        let same : k ≡ i = cc in
        absurd (other (ap result_of same ∙ gives)))
        (cases_lt j at)
    needed_behind _ _ (OnEdge block at label outside branches l) =
        absurd (no_phi_use v f once q to place block (position_of f label) l)
    needed_behind _ _ (Across block at label outside branches bare more) =
        let x = needed_behind (position_of f label) 0 more in
        let lt : j < 0 = x.1 in
        absurd (omega (arith, lt))

    from_edge : (block label : ℕ) → IsNeededFrom f v block label → ⊥
    from_edge block label (inl l) = no_phi_use v f once q to place block (position_of f label) l
    from_edge block label (inr n) =
        let x = needed_behind (position_of f label) 0 n.1 in
        let lt : j < 0 = x.1 in
        omega (arith, lt)

    pub crosses_none : (s : Point) → Crosses f v s → ⊥
    crosses_none s c = ⊎_elim (from_edge s.block (resume_label f s)) (from_edge s.block (destroy_label f s)) c.needed

  -- ---- what a phi gives

  module _ (phi : IsListed v (phis_at f q)) where
    needed_in : (block at : ℕ) → IsNeeded f v block at → block ≡ q
    needed_in _ _ (Use block at outside l) = (one_place v f once block at q to (used_there v f block at l) place).0
    needed_in _ _ (Next block at k outside stands other more) = needed_in block (at + 1) more
    needed_in _ _ (OnEdge block at label outside branches l) =
        absurd (no_phi_use v f once q to place block (position_of f label) l)
    needed_in _ _ (Across block at label outside branches bare more) =
        let same = needed_in (position_of f label) 0 more in
        absurd (bare (subst (λ (n : ℕ). IsListed v (phis_at f n)) (sym same) phi))

    from_front : (block label : ℕ) → IsNeededFrom f v block label → ⊥
    from_front block label (inl l) = no_phi_use v f once q to place block (position_of f label) l
    from_front block label (inr n) =
        let same = needed_in (position_of f label) 0 n.1 in
        n.0 (subst (λ (k : ℕ). IsListed v (phis_at f k)) (sym same) phi)

    pub phi_crosses_none : (s : Point) → Crosses f v s → ⊥
    phi_crosses_none s c =
        ⊎_elim (from_front s.block (resume_label f s)) (from_front s.block (destroy_label f s)) c.needed
