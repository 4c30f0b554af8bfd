-- Memories in which the blocks of slots were killed.
use Rattle.std.proofs.Common.{◌≡◌, ◌⊎◌, ◌∙◌, ◌∷◌, [], ap, Bool, false, inl, inr, ⊎_elim, List, refl, subst, suc, sym, zero, ℕ, length}
use Rattle.std.specs.Option.{option_map_or}
use Rattle.std.specs.Prelude.{Some, slice_get}
use Rattle.pass_proofs.proofs.ir_laws.facts.Truth.{is_number}
use Rattle.pass_proofs.proofs.run_laws.memory.Written.{changed_elsewhere, changed_here}
use Rattle.pass_proofs.proofs.run_laws.transfer.Places.{given_back}
use Rattle.pass_proofs.specs.run_laws.memory.Pointers.{Home}
use Rattle.pass_proofs.specs.run_laws.memory.Standing.{AreByteRights}
use Rattle.pass_proofs.specs.run_laws.transfer.Places.{AreStanding, IsEmpty}
use Rattle.pass_proofs.specs.run_memory.Memory.{Rights, killed, killed_block, same_kind}
use Rattle.pass_proofs.specs.run_memory.declared.block.Kind.{Kind}
use Rattle.pass_proofs.specs.run_memory.declared.block.MemoryBlock.{MemoryBlock}
use Rattle.pass_proofs.specs.run_step.Step.{without_slots}
use Rattle.pass_proofs.specs.run_step.declared.world.Slot.{Slot}

-- ---- slots

pub record IsSlotOf (slots : List Slot) (b : ℕ) : Type 0 where
  pub position : ℕ
  pub slot : Slot
  pub there : slice_get slots position ≡ Some slot
  pub same : slot.block ≡ b

pub slot_or_none : (slots : List Slot) (b : ℕ) → IsSlotOf slots b ⊎ (IsSlotOf slots b → ⊥)
slot_or_none [] b = inr (λ h. let no = h.there in absurd (cc))
slot_or_none (z ∷ zs) b =
    ⊎_elim
    (λ same. inl (record { position = 0; slot = z; there = refl; same = same }))
    (λ ne. ⊎_elim
    (λ h. inl (record { position = suc h.position; slot = h.slot; there = h.there; same = h.same }))
    (λ none. inr (neither ne none))
    (slot_or_none zs b))
    (is_number z.block b)
  where
    neither : (z.block ≡ b → ⊥) → (IsSlotOf zs b → ⊥) → IsSlotOf (z ∷ zs) b → ⊥
    neither ne none h = on h.position h.there
      where
        on : (k : ℕ) → slice_get (z ∷ zs) k ≡ Some h.slot → ⊥
        on zero at = let is : z ≡ h.slot = cc in ne (ap (λ (y : Slot). y.block) is ∙ h.same)
        on (suc k) at = none (record { position = k; slot = h.slot; there = at; same = h.same })

-- ---- their blocks

pub spared : (m : List MemoryBlock) (slots : List Slot) (b : ℕ) → (IsSlotOf slots b → ⊥)
    → slice_get (without_slots m slots) b ≡ slice_get m b
spared m [] b none = refl
spared m (z ∷ zs) b none =
    spared (killed m z.block) zs b (λ h. none (record {
      position = suc h.position;
      slot = h.slot;
      there = h.there;
      same = h.same;
    }))
    ∙ changed_elsewhere m z.block b killed_block (λ same. none (record {
      position = 0;
      slot = z;
      there = refl;
      same = sym same;
    }))

still_dead : (m : List MemoryBlock) (slots : List Slot) (b : ℕ) (x : MemoryBlock)
    → slice_get m b ≡ Some (killed_block x) → slice_get (without_slots m slots) b ≡ Some (killed_block x)
still_dead m [] b x dead = dead
still_dead m (z ∷ zs) b x dead =
    still_dead (killed m z.block) zs b x
    (⊎_elim
    (λ same. subst (λ (n : ℕ). slice_get (killed m n) b ≡ Some (killed_block x)) (sym same)
    (changed_here m b killed_block (killed_block x) dead))
    (λ ne. changed_elsewhere m z.block b killed_block (λ same. ne (sym same)) ∙ dead)
    (is_number z.block b))

pub struck : (m : List MemoryBlock) (slots : List Slot) (b : ℕ) (x : MemoryBlock) → slice_get m b ≡ Some x
    → IsSlotOf slots b → slice_get (without_slots m slots) b ≡ Some (killed_block x)
struck m [] b x there h = let no = h.there in absurd (cc)
struck m (z ∷ zs) b x there h =
    on h.position h.there (is_number z.block b) (struck (killed m z.block) zs b x)
  where
    on : (k : ℕ) → slice_get (z ∷ zs) k ≡ Some h.slot → (z.block ≡ b) ⊎ (z.block ≡ b → ⊥)
        → (slice_get (killed m z.block) b ≡ Some x → IsSlotOf zs b
        → slice_get (without_slots (killed m z.block) zs) b ≡ Some (killed_block x))
        → slice_get (without_slots (killed m z.block) zs) b ≡ Some (killed_block x)
    on k at (inl same) again =
        still_dead (killed m z.block) zs b x
        (subst (λ (n : ℕ). slice_get (killed m n) b ≡ Some (killed_block x)) (sym same)
        (changed_here m b killed_block x there))
    on zero at (inr ne) again =
        let is : z ≡ h.slot = cc in absurd (ne (ap (λ (y : Slot). y.block) is ∙ h.same))
    on (suc k) at (inr ne) again =
        again (changed_elsewhere m z.block b killed_block (λ same. ne (sym same)) ∙ there) (record {
          position = k;
          slot = h.slot;
          there = at;
          same = h.same;
        })

kill_long : (m : List MemoryBlock) (b : ℕ) → length (killed m b) ≡ length m
kill_long [] b = refl
kill_long (x ∷ m) zero = refl
kill_long (x ∷ m) (suc b) = ap suc (kill_long m b)

pub slots_long : (m : List MemoryBlock) (slots : List Slot) → length (without_slots m slots) ≡ length m
slots_long m [] = refl
slots_long m (z ∷ zs) = slots_long (killed m z.block) zs ∙ kill_long m z.block

-- ---- kinds stay

abbrev pub has_kind : Kind → List MemoryBlock → ℕ → Bool
has_kind k m b = option_map_or (λ (x : MemoryBlock). same_kind x.kind k) (slice_get m b) false

kill_kind : (k : Kind) (m : List MemoryBlock) (c b : ℕ) → has_kind k (killed m c) b ≡ has_kind k m b
kill_kind k [] c b = refl
kill_kind k (x ∷ m) zero zero = refl
kill_kind k (x ∷ m) zero (suc b) = refl
kill_kind k (x ∷ m) (suc c) zero = refl
kill_kind k (x ∷ m) (suc c) (suc b) = kill_kind k m c b

pub slots_kind : (k : Kind) (m : List MemoryBlock) (slots : List Slot) (b : ℕ)
    → has_kind k (without_slots m slots) b ≡ has_kind k m b
slots_kind k m [] b = refl
slots_kind k m (z ∷ zs) b = slots_kind k (killed m z.block) zs b ∙ kill_kind k m z.block b

-- ---- a memory stands in another one, of which blocks are killed in which nothing stands

pub killed_stand : (rights target : Rights) (homes : List Home) (m n : List MemoryBlock) (slots : List Slot)
    → AreByteRights rights → AreByteRights target
    → ((k : ℕ) (z : Slot) → slice_get slots k ≡ Some z → IsEmpty homes m z.block) → AreStanding rights target homes m n
    → AreStanding rights target homes m (without_slots n slots)
killed_stand rights target homes m n [] law law' empty st = st
killed_stand rights target homes m n (z ∷ zs) law law' empty st =
    killed_stand rights target homes m (killed n z.block) zs law law' (λ k y at. empty (suc k) y at)
    (given_back rights target homes m n z.block law law' (empty 0 z refl) st)
