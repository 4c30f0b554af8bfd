-- Instances own their blocks until these are freed, and no slot has the block of an allocator, in each state of a run.
use Rattle.std.proofs.Common.{◌≡◌, true, false, refl, ap, ◌∙◌, subst, ◌||◌}
use Rattle.std.specs.Prelude.{slice_get}
use Rattle.pass_frames_meaning.proofs.slotted.Facts.{block_of, one_of}
use Rattle.pass_frames_meaning.specs.Giving.{AreFramesOwned, HasNoHeapSlots}
use Rattle.pass_frames_proof.specs.run_memory.Memory.{is_owned, same_kind}
use Rattle.pass_frames_proof.specs.run_memory.declared.block.Kind.{Kind}
use Rattle.pass_frames_proof.specs.run_memory.declared.block.MemoryBlock.{MemoryBlock}
use Rattle.run_slots.proofs.Times.{same_there}
use Rattle.run_slots.specs.Slots.{IsSlottedState, is_alloca_block}
use Rattle.pass_frames_proof.specs.run_source.declared.state.State.{State}

no_heap : (k : Kind) → (same_kind k Kind.Slot || same_kind k Kind.Stack) ≡ true → same_kind k Kind.Allocator ≡ false
no_heap Kind.Slot e = refl
no_heap Kind.Stack e = refl
no_heap Kind.Allocator e = absurd (cc)
no_heap Kind.Global e = absurd (cc)
no_heap Kind.Constant e = absurd (cc)

pub frames_owned : (s : State) → IsSlottedState s → AreFramesOwned s
frames_owned s h = record {
  each = λ i x e unfreed. let f = h.slotted.frames i x e in ap is_owned f.there ∙ f.owned unfreed;
}

pub no_heap_slots : (s : State) → IsSlottedState s → HasNoHeapSlots s
no_heap_slots s h = record {
  each = λ a l slot c z there.
      let b = block_of s h slot.block (one_of s h a l slot c) in
      no_heap z.kind (subst (λ (x : MemoryBlock). is_alloca_block x ≡ true)
      (same_there (slice_get s.world.memory slot.block) b.block z b.there there) b.made);
}
