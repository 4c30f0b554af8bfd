-- What is known of slots and frames in each state of a run in which no call gives a frame.
use Rattle.std.proofs.Common.{◌≡◌, ◌≤◌, ◌+◌, ◌∙◌, ◌==◌, ◌∷◌, [], ap, arith, Bool, false, List, refl, suc, sym, true, zero, ℕ}
use Rattle.std.specs.Prelude.{Some, slice_get}
use Rattle.pass_elide_proof.proofs.Killing.{IsSlotOf}
use Rattle.pass_elide_proof.proofs.OwnSlots.{counted_own}
use Rattle.pass_elide_proof.specs.OwnSlots.{CountsSlots, HaveNoSlots}
use Rattle.pass_elide_proof.specs.Returning.{HaveOwnBlocks, IsAllocaBlock, IsListed}
use Rattle.pass_proofs.proofs.ir_laws.facts.Truth.{equal_numbers}
use Rattle.pass_proofs.specs.run_memory.Memory.{is_killed}
use Rattle.pass_proofs.specs.run_memory.declared.block.MemoryBlock.{MemoryBlock}
use Rattle.pass_proofs.specs.run_source.declared.state.Activation.{Activation}
use Rattle.pass_proofs.specs.run_source.declared.state.Instance.{Instance}
use Rattle.pass_proofs.specs.run_source.declared.state.State.{State}
use Rattle.pass_proofs.specs.run_step.declared.world.Slot.{Slot}
use Rattle.run_slots.specs.Slots.{IsSlottedState, is_killed_in, once_if, times, times_in, times_on}

-- ---- a slot that is counted

counted_slot : (zs : List Slot) (n : ℕ) → 1 ≤ times n zs → IsSlotOf zs n
counted_slot [] n le = absurd (omega (arith, le))
counted_slot (z ∷ zs) n le = on (z.block == n) refl le (counted_slot zs n)
  where
    on : (b : Bool) → (z.block == n) ≡ b → 1 ≤ once_if b + times n zs → (1 ≤ times n zs → IsSlotOf zs n)
        → IsSlotOf (z ∷ zs) n
    on true is le again = record { position = 0; slot = z; there = refl; same = equal_numbers z.block n is }
    on false is le again =
        let h = again (omega (arith, le)) in
        record { position = suc h.position; slot = h.slot; there = h.there; same = h.same }

-- a row that has it
record HasRow (rows : List Activation) (n : ℕ) : Type 0 where
  pub number : ℕ
  pub row : Activation
  pub there : slice_get rows number ≡ Some row
  pub slot : IsSlotOf row.slots n

counted_row : (rows : List Activation) (n : ℕ) → 1 ≤ times_on rows n → HasRow rows n
counted_row [] n le = absurd (omega (arith, le))
counted_row (a ∷ rows) n le = on (times n a.slots) refl le (counted_row rows n)
  where
    on : (k : ℕ) → times n a.slots ≡ k → 1 ≤ k + times_on rows n → (1 ≤ times_on rows n → HasRow rows n)
        → HasRow (a ∷ rows) n
    on zero is le again =
        let h = again (omega (arith, le)) in
        record { number = suc h.number; row = h.row; there = h.there; slot = h.slot }
    on (suc k) is le again =
        record { number = 0; row = a; there = refl; slot = counted_slot a.slots n (omega (arith, is)) }

-- ---- instances have none

none_in : (n : ℕ) (xs : List Instance) → ((i : ℕ) (x : Instance) → slice_get xs i ≡ Some x → x.slots ≡ [])
    → times_in n xs ≡ 0
none_in n [] none = refl
none_in n (x ∷ xs) none =
    let first : times n x.slots ≡ 0 = ap (times n) (none 0 x refl) in
    let rest = none_in n xs (λ i y at. none (suc i) y at) in
    omega (arith, first, rest)

same_some : {A : Type 0} (x y : A) → Some x ≡ Some y → x ≡ y
same_some x y e = cc

module _ (s : State) (h : IsSlottedState s) (none : HaveNoSlots s) where
  abbrev own : ℕ → ℕ
  own n = times_on (s.top ∷ s.below) n

  no_more : (n : ℕ) → times_in n s.instances ≡ 0
  no_more n = none_in n s.instances none

  counts : CountsSlots s
  counts = record {
    blocks = λ n le.
        let more = no_more n in
        let slot = h.slotted.there n (omega (arith, le, more)) in
        record {
          block = slot.block;
          there = slot.there;
          made = slot.made;
          unkilled = ap is_killed_in (sym slot.there) ∙ h.slotted.fresh n le;
        };
    once = λ n. let one = h.slotted.once n in let more = no_more n in omega (arith, one, more);
  }

  listed : (b : ℕ) → IsAllocaBlock s.world.memory b → IsListed s b
  listed b block =
      let more = no_more b in
      let some = h.slotted.listed b block.block block.there block.made block.unkilled in
      let row = counted_row (s.top ∷ s.below) b (omega (arith, more, some)) in
      record {
        number = row.number;
        position = row.slot.position;
        slot = row.slot.slot;
        has = record { activation = row.row; there = row.there; slot = row.slot.there };
        same = row.slot.same;
      }

  pub own_blocks : HaveOwnBlocks s
  own_blocks = record {
    slots = counted_own s counts;
    listed = listed;
    heaps = λ i x z at there.
        let frame = h.slotted.frames i x at in
        ap (λ (y : MemoryBlock). y.kind) (same_some z frame.block (sym there ∙ frame.there)) ∙ frame.heap;
    gone = λ i x z at freed there.
        let frame = h.slotted.frames i x at in
        ap (λ (y : MemoryBlock). is_killed y.life) (same_some z frame.block (sym there ∙ frame.there))
        ∙ frame.gone freed;
  }
