-- In a run whose calls give no frames, frames begin blocks of allocators, which are owned until they are freed.
use Rattle.std.proofs.Common.{◌≡◌, ◌≤◌, ◌+◌, ℕ, Bool, true, false, not, List, [], ◌∷◌, refl, sym, ap, ◌∙◌, arith, ◌||◌, ◌==◌}
use Rattle.std.specs.Option.{option_map_or}
use Rattle.std.specs.Prelude.{None, Some, is_some, slice_get}
use Rattle.pass_elide_proof.proofs.Begins.{no_both}
use Rattle.pass_elide_proof.proofs.Given.{frames_of}
use Rattle.pass_elide_proof.specs.Beginning.{HasNoHeapSlot, HaveFrames, IsNoHeapSlot}
use Rattle.pass_elide_proof.specs.Elision.{Elision, elided, framed}
use Rattle.pass_elide_proof.specs.Sound.{IsSoundState}
use Rattle.pass_proofs.proofs.ir_laws.facts.Truth.{itself}
use Rattle.pass_proofs.proofs.run_laws.memory.Written.{same_some}
use Rattle.pass_proofs.specs.run_framed.Framed.{is_given}
use Rattle.pass_proofs.specs.run_laws.changed.Changed.{Each}
use Rattle.pass_proofs.specs.run_memory.Memory.{is_killed, is_live, same_kind}
use Rattle.pass_proofs.specs.run_memory.declared.block.Kind.{Kind}
use Rattle.pass_proofs.specs.run_memory.declared.block.Life.{Life}
use Rattle.pass_proofs.specs.run_memory.declared.block.MemoryBlock.{MemoryBlock}
use Rattle.pass_proofs.specs.run_source.declared.state.Activation.{Activation}
use Rattle.pass_proofs.specs.run_source.declared.state.Instance.{Instance}
use Rattle.pass_proofs.specs.run_source.declared.state.State.{State}
use Rattle.pass_proofs.specs.run_step.declared.world.Slot.{Slot}
use Rattle.run_slots.specs.Slots.{IsFrameBlock, IsSlotBlock, IsSlottedState, is_alloca_block, once_if, times, times_in, times_on}

dead_not_live : (l : Life) → is_killed l ≡ true → is_live l ≡ false
dead_not_live Life.Live h = absurd (cc)
dead_not_live Life.Ended h = refl
dead_not_live Life.Killed h = refl

no_slot : (k : Kind) → k ≡ Kind.Allocator → (same_kind k Kind.Slot || same_kind k Kind.Stack) ≡ false
no_slot k is = ap (λ (q : Kind). same_kind q Kind.Slot || same_kind q Kind.Stack) is

-- ---- frames

module _ (s : State) (h : IsSlottedState s) where
  abbrev m : List MemoryBlock
  m = s.world.memory

  module _ (i : ℕ) (x : Instance) (there : slice_get s.instances i ≡ Some x) where
    frame : IsFrameBlock m x
    frame = h.slotted.frames i x there

    pub frame_owned : (z : MemoryBlock) → slice_get m x.block ≡ Some z → is_live z.life ≡ true → z.owned ≡ None → ⊥
    frame_owned z at live unowned = by x.freed refl
      where
        same : frame.block ≡ z
        same = same_some frame.block z (sym frame.there ∙ at)

        by : (b : Bool) → x.freed ≡ b → ⊥
        by false unfreed =
            no_both (is_some z.owned) (ap is_some unowned)
            (ap (λ (u : MemoryBlock). is_some u.owned) (sym same) ∙ frame.owned unfreed)
        by true freed =
            no_both (is_live z.life)
            (dead_not_live z.life (ap (λ (u : MemoryBlock). is_killed u.life) (sym same) ∙ frame.gone freed)) live

    pub frame_dead : (z : MemoryBlock) → x.freed ≡ true → slice_get m x.block ≡ Some z → is_live z.life ≡ false
    frame_dead z freed at =
        dead_not_live z.life
        (ap (λ (u : MemoryBlock). is_killed u.life) (sym (same_some frame.block z (sym frame.there ∙ at)))
        ∙ frame.gone freed)

    pub frame_allocated : is_given m x ≡ false
    frame_allocated =
        (λ j. option_map_or (λ (y : MemoryBlock). same_kind y.kind Kind.Stack) (frame.there j) false
        || not (frame.start j == 0))
        ∙ ap (λ (q : Kind). same_kind q Kind.Stack || not (0 == 0)) frame.heap

  -- ---- slots

  no_heap : (z : Slot) → IsSlotBlock m z.block → IsNoHeapSlot m z
  no_heap z k x at heap =
      let same : k.block ≡ x = same_some k.block x (sym k.there ∙ at) in
      no_both (is_alloca_block x) (no_slot x.kind heap)
      (ap is_alloca_block (sym same) ∙ k.made)

  slots_of_one : (ss : List Slot) → ((n : ℕ) → 1 ≤ times n ss → IsSlotBlock m n) → Each (IsNoHeapSlot m) ss
  slots_of_one [] k = tt
  slots_of_one (z ∷ ss) k = (
    no_heap z (k z.block (here (z.block == z.block) (itself z.block) (times z.block ss))),
    slots_of_one ss (λ n le. k n (behind (once_if (z.block == n)) (times n ss) le)),
  )
    where
      here : (b : Bool) → b ≡ true → (n : ℕ) → 1 ≤ once_if b + n
      here true is n = omega arith
      here false is n = absurd (cc)

      behind : (a n : ℕ) → 1 ≤ n → 1 ≤ a + n
      behind a n le = omega (arith, le)

  slots_of_all : (bs : List Activation) → ((n : ℕ) → 1 ≤ times_on bs n → IsSlotBlock m n)
      → Each (HasNoHeapSlot m) bs
  slots_of_all [] k = tt
  slots_of_all (a ∷ bs) k = (
    slots_of_one a.slots (λ n le. k n (left (times n a.slots) (times_on bs n) le)),
    slots_of_all bs (λ n le. k n (right (times n a.slots) (times_on bs n) le)),
  )
    where
      left : (a n : ℕ) → 1 ≤ a → 1 ≤ a + n
      left a n le = omega (arith, le)

      right : (a n : ℕ) → 1 ≤ n → 1 ≤ a + n
      right a n le = omega (arith, le)

  pub no_heap_slots : Each (HasNoHeapSlot m) (s.top ∷ s.below)
  no_heap_slots =
      slots_of_all (s.top ∷ s.below) (λ n le.
      h.slotted.there n (more (times_on (s.top ∷ s.below) n) (times_in n s.instances) le))
    where
      more : (a n : ℕ) → 1 ≤ a → 1 ≤ a + n
      more a n le = omega (arith, le)

pub slotted_frames : (e : Elision) (s t : State) → IsSlottedState s → IsSoundState (framed e) s
    → IsSoundState (elided e) t → HaveFrames e s t
slotted_frames e s t h first second =
    frames_of e s t first second (λ i x z there. frame_owned s h i x there z) (no_heap_slots s h)
