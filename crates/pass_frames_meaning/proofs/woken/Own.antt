-- Allocas of an entry that lie in no frame, in front of the framed form's entry.
use Rattle.std.proofs.Common.{◌≡◌, inl, ℕ, zero, suc, ◌+◌, ◌<◌, ◌≤◌, false, List, [], ◌∷◌, ◌++◌, take, Some, None, refl, sym, subst, arith}
use Rattle.std.specs.Prelude.{slice_get}
use Rattle.pass_frames_proof.specs.flow_solver.Paths.{IsListed}
use Rattle.pass_frames_proof.proofs.ir_laws.paths.source_rules.Locals.{listed_left, listed_right}
use Rattle.pass_frames_proof.specs.ir_model.Ty.{Ty}
use Rattle.pass_frames_proof.specs.ir_model.declared.instr.Instr.{Instr}
use Rattle.pass_frames_proof.specs.ir_paths.Slots.{allocas_in}
use Rattle.pass_frames_proof.specs.pass_cells.Kept.{entry}
use Rattle.pass_frames_proof.proofs.allocating.Stands.{one_further, stands_in_front}
use Rattle.pass_frames_proof.proofs.anew.Lists.{allocas_append, allocas_apart}
use Rattle.pass_frames_proof.proofs.entering.Stand.{between}
use Rattle.pass_frames_proof.specs.ir_laws.paths.woven_rules.Pairs.{AreDifferent}
use Rattle.pass_frames_proof.specs.Entering.{AreAllocasBetween, allocas_up_to, front_allocas}
use Rattle.pass_frames_proof.specs.Framings.{IsFraming}
use Rattle.pass_frames_proof.specs.Places.{Framing, instrs_at, offsets, plan}
use Rattle.pass_frames_proof.specs.Waking.{StandsInFront}
use Rattle.pass_frames_proof.specs.pass_proofs.addresses.rules.Addresses.{lies_in_frame}

-- an alloca of a line is one of a longer one
pub joined_left : (v : ℕ) (is js : List Instr) → IsListed v (allocas_in is) → IsListed v (allocas_in (is ++ js))
joined_left v is js l = subst (IsListed v) (sym (allocas_append is js))
    (listed_left v (allocas_in is) (allocas_in js) l)

joined_right : (v : ℕ) (is js : List Instr) → IsListed v (allocas_in js) → IsListed v (allocas_in (is ++ js))
joined_right v is js l = subst (IsListed v) (sym (allocas_append is js))
    (listed_right v (allocas_in is) (allocas_in js) l)

-- one that stands before a position
pub taken_listed : (is : List Instr) (n at v align : ℕ) (ty : Ty) → slice_get is at ≡ Some (Instr.Alloca v ty align)
    → at < n → IsListed v (allocas_in (take n is))
taken_listed is zero at v align ty e lt = absurd (omega (arith, lt))
taken_listed [] (suc n) at v align ty e lt = absurd (cc)
taken_listed (i ∷ is) (suc n) zero v align ty e lt =
    let same : Instr.Alloca v ty align ≡ i = cc in
    subst (λ (j : Instr). IsListed v (allocas_in (j ∷ take n is))) same (inl refl)
taken_listed (i ∷ is) (suc n) (suc at) v align ty e lt =
    joined_right v (i ∷ []) (take n is) (taken_listed is n at v align ty e (omega (arith, lt)))

module _ (x : Framing) (is : IsFraming x) (at v align : ℕ) (ty : Ty)
    (there : slice_get (instrs_at x 0) at ≡ Some (Instr.Alloca v ty align))
    (unkept : entry (plan x).places v ≡ None) (outside : lies_in_frame (offsets x) v ≡ false) where
  abbrev i : Instr
  i = Instr.Alloca v ty align

  -- it stands in front of each place behind
  pub own_before : (n : ℕ) → at < n → IsListed v (allocas_in (allocas_up_to x n))
  own_before n lt =
      let b : AreAllocasBetween x (at + 1) n = between x at i there (at + 1) n (omega (arith, lt)) in
      subst (λ (js : List Instr). IsListed v (allocas_in js)) (sym b.next_is)
      (joined_left v (allocas_up_to x (at + 1)) b.line
      (subst (λ (js : List Instr). IsListed v (allocas_in js))
      (sym (one_further x is at v align ty there unkept outside))
      (joined_right v (allocas_up_to x at) (i ∷ []) (inl refl))))

  -- and of none before
  pub own_behind : AreDifferent (allocas_in (front_allocas x)) → (n : ℕ) → n ≤ at
      → IsListed v (allocas_in (allocas_up_to x n)) → ⊥
  own_behind different n le l =
      let b : AreAllocasBetween x n at = between x at i there n at le in
      let s : StandsInFront x at v ty align = stands_in_front x is at v align ty there unkept outside in
      allocas_apart (allocas_up_to x at) (i ∷ s.rest)
      (subst (λ (js : List Instr). AreDifferent (allocas_in js)) s.is different) v
      (subst (λ (js : List Instr). IsListed v (allocas_in js)) (sym b.next_is)
      (joined_left v (allocas_up_to x n) b.line l)) (inl refl)
