-- Slots that may be made anew are ramp slots in the second run alone.
use Rattle.std.proofs.Common.{◌≡◌, ℕ, zero, suc, Bool, true, false, List, [], ◌∷◌, Option, Some, None, refl}
use Rattle.std.proofs.Common.{ap, ◌∙◌, ◌||◌, ◌&&◌, ◌==◌, arith}
use Rattle.std.proofs.lemmas.List.Folds.{list_any-append}
use Rattle.std.proofs.lemmas.Map.Views.{any-filter_same}
use Rattle.std.specs.Prelude.{IsTrue, filter, flat_map, slice_get}
use Rattle.pass_kept_proof.specs.ir_model.Ty.{Ty}
use Rattle.pass_kept_proof.specs.ir_model.declared.instr.Instr.{Instr}
use Rattle.pass_kept_proof.specs.ir_model.declared.instr.Terminator.{Terminator}
use Rattle.pass_kept_proof.specs.ir_model.declared.module.Block.{Block}
use Rattle.pass_kept_proof.specs.ir_model.declared.module.Function.{Function}
use Rattle.pass_kept_proof.specs.ir_model.declared.module.Module.{Module}
use Rattle.pass_kept_proof.specs.ir_paths.Facts.{AreFactsOf}
use Rattle.pass_kept_proof.specs.ir_paths.Slots.{allocas_in, allocas_of, has_name}
use Rattle.pass_kept_proof.specs.ir_paths.declared.point.Facts.{Facts}
use Rattle.pass_kept_proof.proofs.Same.{eq_itself, or_left}
use Rattle.pass_kept_proof.specs.run_source.Source.{is_among}
use Rattle.pass_kept_proof.specs.run_step.Step.{AtInstr, fetch_in, fetch_or}
use Rattle.pass_kept_proof.specs.run_step.declared.world.Slot.{Slot}
use Rattle.pass_renewed_proof.specs.Renewed.{renewed_facts}
use Rattle.pass_renewed_proof.specs.SlotRules.{KeepsSlots}

or_more : (a b : Bool) → b ≡ true → (a || b) ≡ true
or_more true b e = refl
or_more false b e = e

-- ---- an alloca is listed

more_listed : (a : ℕ) (i : Instr) (is : List Instr) → has_name (allocas_in is) a ≡ true
    → has_name (allocas_in (i ∷ is)) a ≡ true
more_listed a (Instr.Alloca name ty align) is h = or_more (name == a) _ h
more_listed a _ is h = h

instr_listed : (a : ℕ) (ty : Ty) (align : ℕ) (is : List Instr) (at : ℕ) → slice_get is at ≡ Some (Instr.Alloca a ty
    align) → has_name (allocas_in is) a ≡ true
instr_listed a ty align [] at e = absurd (cc)
instr_listed a ty align (i ∷ is) zero e = ap (λ o. has_name (listed_of o) a) e ∙ or_left (a == a) _ (eq_itself a)
  where
    listed_of : Option Instr → List ℕ
    listed_of None = []
    listed_of (Some j) = allocas_in (j ∷ is)
instr_listed a ty align (i ∷ is) (suc at) e = more_listed a i is (instr_listed a ty align is at e)

fetched : (o : Option Instr) (u : Bool) (t : Terminator) (i : Instr) → fetch_or o u t ≡ AtInstr i → o ≡ Some i
fetched (Some j) u t i e = cc
fetched None true t i e = absurd (cc)
fetched None false t i e = absurd (cc)

alloca_listed : (bs : List Block) (a at : ℕ) (ty : Ty) (align : ℕ)
    → fetch_in (slice_get bs 0) at ≡ AtInstr (Instr.Alloca a ty align)
    → has_name (flat_map (λ (b : Block). allocas_in b.instrs) bs) a ≡ true
alloca_listed [] a at ty align e = absurd (cc)
alloca_listed (b ∷ bs) a at ty align e = list_any-append (λ u. u == a) (allocas_in b.instrs) _ ∙ or_left _ _
    (instr_listed a ty align b.instrs at (fetched (slice_get b.instrs at) _ b.term (Instr.Alloca a ty align) e))

-- ---- the facts

module _ (m : Module) (f : Function) (flags : ℕ → Bool) (roots : ℕ → Option ℕ) (keeps : KeepsSlots m f flags roots)
    (slot : Slot) (flagged : IsTrue (flags slot.alloca)) where
  pub no_ramp_slot : (facts : Facts) → AreFactsOf f facts → is_among facts.ramp_slots slot ≡ false
  no_ramp_slot facts are = on (is_among facts.ramp_slots slot) refl
    where
      on : (u : Bool) → is_among facts.ramp_slots slot ≡ u → is_among facts.ramp_slots slot ≡ false
      on true e = absurd ((keeps.is_local slot.alloca flagged).0 ((are.ramp_slots slot.alloca).0 e).1)
      on false e = e

  made_listed : has_name (allocas_of f) slot.alloca ≡ true
  made_listed = let made = keeps.made slot.alloca flagged in alloca_listed f.blocks slot.alloca made.at made.ty
      made.align made.stands

flagged_names : (flags : ℕ → Bool) (names : List ℕ) (a : ℕ) → has_name (filter flags names) a ≡ (flags a && has_name
    names a)
flagged_names flags names a = any-filter_same (λ u. u == a) flags (flags a) (λ k e. ap flags (is_eq k a e)) names
  where
    is_eq : (n k : ℕ) → (n == k) ≡ true → n ≡ k
    is_eq n k e = grind arith

pub both_names : (f : Function) (flags : ℕ → Bool) (facts : Facts) (slot : Slot)
    → is_among (renewed_facts flags f facts).ramp_slots slot ≡ ((flags slot.alloca && has_name (allocas_of f)
    slot.alloca) || is_among facts.ramp_slots slot)
both_names f flags facts slot = list_any-append (λ u. u == slot.alloca) (filter flags (allocas_of f)) facts.ramp_slots
    ∙ ap (λ u. u || is_among facts.ramp_slots slot) (flagged_names flags (allocas_of f) slot.alloca)

-- of any other slot both say the same
pub same_ramp_slot : (f : Function) (flags : ℕ → Bool) (facts : Facts) (slot : Slot) → flags slot.alloca ≡ false
    → is_among (renewed_facts flags f facts).ramp_slots slot ≡ is_among facts.ramp_slots slot
same_ramp_slot f flags facts slot off = both_names f flags facts slot ∙ ap (λ u. (u && has_name (allocas_of f)
    slot.alloca) || is_among facts.ramp_slots slot) off

pub renewed_ramp_slot : (m : Module) (f : Function) (flags : ℕ → Bool) (roots : ℕ → Option ℕ)
    → KeepsSlots m f flags roots → (facts : Facts) (slot : Slot) → IsTrue (flags slot.alloca)
    → is_among (renewed_facts flags f facts).ramp_slots slot ≡ true
renewed_ramp_slot m f flags roots keeps facts slot flagged = both_names f flags facts slot ∙ (λ j. (flagged j &&
    made_listed m f flags roots keeps slot flagged j) || is_among facts.ramp_slots slot)
