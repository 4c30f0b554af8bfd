-- Whether an alloca gives a ramp slot is told by a search.
use Rattle.std.proofs.Common.{◌≡◌, ◌⊎◌, inl, inr, ℕ, zero, suc, Bool, true, false, List, [], ◌∷◌, ◌++◌, Option, Some}
use Rattle.std.proofs.Common.{None, refl, sym, ap, ◌∙◌, subst, ◌||◌}
use Rattle.std.proofs.lemmas.Bool.{eq-eqb}
use Rattle.std.specs.Prelude.{flat_map, slice_get, ◌==◌}
use Rattle.pass_renewed_proof.specs.ir_model.Ty.{Ty}
use Rattle.pass_renewed_proof.specs.ir_model.declared.instr.Instr.{Instr}
use Rattle.pass_renewed_proof.specs.ir_model.declared.module.Block.{Block}
use Rattle.pass_renewed_proof.specs.ir_model.declared.module.Function.{Function}
use Rattle.pass_renewed_proof.proofs.ir_paths.Right.{facts_of_right}
use Rattle.pass_renewed_proof.proofs.ir_paths.Search.{or_left, or_right}
use Rattle.pass_renewed_proof.specs.ir_paths.Facts.{facts_of}
use Rattle.pass_renewed_proof.specs.ir_paths.Slots.{IsRampSlot, allocas_in, allocas_of, has_name}
use Rattle.pass_renewed_proof.specs.SlotRules.{IsMadeOnce}
use Rattle.pass_renewed_proof.specs.run_step.Step.{AtInstr, fetch_in, fetch_or}

-- ---- an alloca is among those of its function

named_first : (xs ys : List ℕ) (v : ℕ) → has_name xs v ≡ true → has_name (xs ++ ys) v ≡ true
named_first [] ys v h = absurd (cc)
named_first (x ∷ xs) ys v h = on (x == v) (named_first xs ys v) h
  where
    on : (t : Bool) → (has_name xs v ≡ true → has_name (xs ++ ys) v ≡ true) → (t || has_name xs v) ≡ true
        → (t || has_name (xs ++ ys) v) ≡ true
    on true rest e = refl
    on false rest e = rest e

itself : (v : ℕ) → (v == v) ≡ true
itself v = eq-eqb v v refl

listed_in : (v : ℕ) (ty : Ty) (align : ℕ) (is : List Instr) (k : ℕ) → slice_get is k ≡ Some (Instr.Alloca v ty align)
    → has_name (allocas_in is) v ≡ true
listed_in v ty align [] k e = absurd (cc)
listed_in v ty align (i ∷ is) zero e =
    let same : i ≡ Instr.Alloca v ty align = cc in
    subst (λ (j : Instr). has_name (allocas_in (j ∷ is)) v ≡ true) (sym same) (or_left (v == v) _ (itself v))
listed_in v ty align (i ∷ is) (suc k) e = later i (listed_in v ty align is k e)
  where
    later : (i : Instr) → has_name (allocas_in is) v ≡ true → has_name (allocas_in (i ∷ is)) v ≡ true
    later (Instr.Alloca name t a) h = or_right (name == v) _ h
    later _ h = h

listed : (f : Function) (v : ℕ) → IsMadeOnce f v → has_name (allocas_of f) v ≡ true
listed f v made = on f.blocks made.stands
  where
    at_place : (b : Block) (o : Option Instr) (t : Bool) → fetch_or o t b.term
        ≡ AtInstr (Instr.Alloca v made.ty made.align)
        → o ≡ Some (Instr.Alloca v made.ty made.align)
    at_place b (Some j) t h = let same : j ≡ Instr.Alloca v made.ty made.align = cc in ap Some same
    at_place b None true h = absurd (cc)
    at_place b None false h = absurd (cc)

    on : (bs : List Block) → fetch_in (slice_get bs 0) made.at ≡ AtInstr (Instr.Alloca v made.ty made.align)
        → has_name (flat_map (λ b. allocas_in b.instrs) bs) v ≡ true
    on [] h = absurd (cc)
    on (b ∷ bs) h = named_first (allocas_in b.instrs) (flat_map (λ c. allocas_in c.instrs) bs) v
        (listed_in v made.ty made.align b.instrs made.at (at_place b _ _ h))

pub is_ramp_or_not : (f : Function) (v : ℕ) → IsMadeOnce f v → IsRampSlot f v ⊎ (IsRampSlot f v → ⊥)
is_ramp_or_not f v made = on (has_name (facts_of f).ramp_slots v) refl
  where
    on : (t : Bool) → has_name (facts_of f).ramp_slots v ≡ t → IsRampSlot f v ⊎ (IsRampSlot f v → ⊥)
    on true e = inl (((facts_of_right f).ramp_slots v).0 e).1
    on false e = inr (λ r.
        let no : true ≡ false = sym (((facts_of_right f).ramp_slots v).1 (listed f v made, r)) ∙ e in absurd (cc))
