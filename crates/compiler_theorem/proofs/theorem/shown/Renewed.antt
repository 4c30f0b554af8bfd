-- Slots that aren't made anew stand alone in blocks of the run that makes slots anew.
use Rattle.std.proofs.Common.{◌≡◌, ℕ, zero, suc, ◌+◌, ◌≤◌, Bool, true, false, List, [], ◌∷◌, Some, None, refl, sym, ap, ◌∙◌, subst, arith}
use Rattle.std.proofs.lemmas.Bool.{false≢true}
use Rattle.std.specs.List.{Contains}
use Rattle.std.specs.Prelude.{IsTrue, slice_get, ◌==◌}
use Rattle.compiler.specs.ir_model.declared.module.Module.{Module}
use Rattle.pass_frames_meaning.specs.pass_renewed_proof.Beside.{AreInstancesBeside, AreSlots, Both, First, IsInstanceBeside, NoSlots, Second}
use Rattle.pass_frames_meaning.specs.pass_renewed_proof.Ledger.{Ledger}
use Rattle.pass_frames_meaning.specs.pass_renewed_proof.Renewed.{Flags, Roots}
use Rattle.compiler.specs.run_laws.embedded.Making.{whole_home}
use Rattle.compiler.specs.run_laws.memory.Pointers.{home_of}
use Rattle.compiler.specs.run_memory.declared.block.MemoryBlock.{MemoryBlock}
use Rattle.pass_frames_meaning.proofs.run_slots.Times.{equal_is, itself as same_number}
use Rattle.pass_frames_meaning.specs.run_slots.Slots.{once_if, times}
use Rattle.compiler.specs.run_source.declared.state.Instance.{Instance}
use Rattle.compiler.specs.run_step.declared.world.Slot.{Slot}

-- ---- a slot of an instance

-- a slot of one alloca in both
pub record IsBoth (l : Ledger) (ts : List Slot) (slot : Slot) : Type 0 where
  pub block : ℕ
  pub home : home_of l.homes slot.block ≡ whole_home block
  pub unseated : l.seats slot.block ≡ None
  pub own : Contains ts (record { alloca = slot.alloca; block = block })

further : (l : Ledger) (t : Slot) (ts : List Slot) (slot : Slot) → IsBoth l ts slot → IsBoth l (t ∷ ts) slot
further l t ts slot h = let own = h.own in record {
  block = h.block;
  home = h.home;
  unseated = h.unseated;
  own = (suc own.0, omega (arith, own.1), own.2);
}

module _ (l : Ledger) (Seated Owns : Slot → Type 0) (flags : ℕ → Bool) (seated : (s : Slot) → Seated s
    → IsTrue (flags s.alloca)) where
  pub both_slot : (ss ts : List Slot) → AreSlots l Seated Owns flags ss ts → (slot : Slot) → Contains ss slot
      → flags slot.alloca ≡ false → IsBoth l ts slot
  both_slot _ _ NoSlots slot (k, lt, e) off = absurd (omega (arith, lt))
  both_slot _ _ (Both alloca b c ss ts plain home none rest) slot (zero, lt, e) off = record {
    block = c;
    home = subst (λ (s : Slot). home_of l.homes s.block ≡ whole_home c) e home;
    unseated = subst (λ (s : Slot). l.seats s.block ≡ None) e none;
    own = (0, omega arith, ap (λ (s : Slot). record { alloca = s.alloca; block = c }) e);
  }
  both_slot _ _ (Both alloca b c ss ts plain home none rest) slot (suc k, lt, e) off =
      further l (record { alloca = alloca; block = c }) ts slot
      (both_slot ss ts rest slot (k, omega (arith, lt), e) off)
  both_slot _ _ (First s ss ts own rest) slot (zero, lt, e) off =
      absurd (false≢true (sym off ∙ ap (λ (z : Slot). flags z.alloca) (sym e) ∙ seated s own))
  both_slot _ _ (First s ss ts own rest) slot (suc k, lt, e) off =
      both_slot ss ts rest slot (k, omega (arith, lt), e) off
  both_slot _ _ (Second t ss ts own rest) slot c off = further l t ts slot (both_slot ss ts rest slot c off)

-- ---- slots of the other run

-- a block of the second list's slots is whole home to one of the first list, or was made anew
pub data IsOneOfBoth (l : Ledger) (ss : List Slot) (c : ℕ) : Type 0 where
  Old : (b : ℕ) → 1 ≤ times b ss → home_of l.homes b ≡ whole_home c → IsOneOfBoth l ss c
  New : (depth : ℕ) → l.owners c ≡ Some depth → IsOneOfBoth l ss c

module _ (l : Ledger) (Seated Owns : Slot → Type 0) (flags : ℕ → Bool) (owned : (t : Slot) → Owns t
    → (depth : ℕ) × (l.owners t.block ≡ Some depth)) where
  more : (s : Slot) (ss : List Slot) (c : ℕ) → IsOneOfBoth l ss c → IsOneOfBoth l (s ∷ ss) c
  more s ss c (Old b some home) = Old b (omega (arith, some)) home
  more s ss c (New depth own) = New depth own

  itself : (b : ℕ) → once_if (b == b) ≡ 1
  itself b = ap once_if (same_number b)

  pub one_of_both : (ss ts : List Slot) → AreSlots l Seated Owns flags ss ts → (c : ℕ) → 1 ≤ times c ts
      → IsOneOfBoth l ss c
  one_of_both _ _ NoSlots c some = absurd (omega (arith, some))
  one_of_both _ _ (Both alloca b d ss ts plain home none rest) c some =
      on (d == c) refl (λ k. one_of_both ss ts rest c k)
    where
      on : (t : Bool) → (d == c) ≡ t → (1 ≤ times c ts → IsOneOfBoth l ss c)
          → IsOneOfBoth l (record { alloca = alloca; block = b } ∷ ss) c
      on true e again =
          let k = itself b in
          Old b (omega (arith, k)) (home ∙ ap whole_home (equal_is d c e))
      on false e again =
          let k : once_if (d == c) ≡ 0 = ap once_if e in
          more (record { alloca = alloca; block = b }) ss c (again (omega (arith, k, some)))
  one_of_both _ _ (First s ss ts own rest) c some = more s ss c (one_of_both ss ts rest c some)
  one_of_both _ _ (Second t ss ts own rest) c some = on (t.block == c) refl (λ k. one_of_both ss ts rest c k)
    where
      on : (u : Bool) → (t.block == c) ≡ u → (1 ≤ times c ts → IsOneOfBoth l ss c) → IsOneOfBoth l ss c
      on true e again =
          let k = owned t own in
          New k.0 (ap l.owners (sym (equal_is t.block c e)) ∙ k.1)
      on false e again = let k : once_if (t.block == c) ≡ 0 = ap once_if e in again (omega (arith, k, some))

-- ---- instances

pub record HasInstance (m : Module) (flags : Flags) (roots : Roots) (l : Ledger) (memory : List MemoryBlock)
    (ys : List Instance) (i : ℕ) (x : Instance) : Type 0 where
  pub instance : Instance
  pub there : slice_get ys i ≡ Some instance
  pub number : ℕ
  pub beside : IsInstanceBeside m flags roots l memory number x instance

pub instance_beside : (m : Module) (flags : Flags) (roots : Roots) (l : Ledger) (memory : List MemoryBlock) (k : ℕ)
    (xs ys : List Instance) → AreInstancesBeside m flags roots l memory k xs ys → (i : ℕ) (x : Instance)
    → slice_get xs i ≡ Some x → HasInstance m flags roots l memory ys i x
instance_beside m flags roots l memory k [] ys h i x e = absurd (cc)
instance_beside m flags roots l memory k (z ∷ xs) [] h i x e = absurd h
instance_beside m flags roots l memory k (z ∷ xs) (y ∷ ys) h zero x e =
    let same : z ≡ x = cc in
    record {
      instance = y;
      there = refl;
      number = k;
      beside = subst (λ (u : Instance). IsInstanceBeside m flags roots l memory k u y) same h.0;
    }
instance_beside m flags roots l memory k (z ∷ xs) (y ∷ ys) h (suc i) x e =
    let r = instance_beside m flags roots l memory (k + 1) xs ys h.1 i x e in
    record { instance = r.instance; there = r.there; number = r.number; beside = r.beside }
