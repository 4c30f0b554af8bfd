-- A stack block that an instance owned is owned no more: the memories stand beside each other as before.
use Rattle.std.proofs.Common.{◌≡◌, ℕ, true, false, List, Option, Some, None, refl}
use Rattle.std.specs.Prelude.{slice_get}
use Rattle.std.specs.Option.{option_map_or}
use Rattle.std.proofs.lemmas.Bool.{false≢true}
use Rattle.pass_split_proof.proofs.given_begins.Owners.{owner_beside, owner_frames}
use Rattle.pass_split_proof.specs.states.Instances.{AreFrames, AreLaidFrames}
use Rattle.pass_split_proof.specs.states.Memories.{AreBeside}
use Rattle.pass_proofs.specs.run_framed.Framed.{FramedGiven, is_stack_block}
use Rattle.pass_proofs.specs.run_memory.Memory.{disown, disowned, same_kind}
use Rattle.pass_proofs.specs.run_memory.declared.block.Kind.{Kind}
use Rattle.pass_proofs.specs.run_memory.declared.block.MemoryBlock.{MemoryBlock}
use Rattle.pass_proofs.specs.run_source.declared.state.Instance.{Instance}

-- a stack block is no allocator's
stack_kind : (k : Kind) → same_kind k Kind.Stack ≡ true → k ≡ Kind.Allocator → ⊥
stack_kind Kind.Allocator e f = absurd (false≢true e)
stack_kind Kind.Stack e f = cc
stack_kind Kind.Slot e f = cc
stack_kind Kind.Global e f = cc
stack_kind Kind.Constant e f = cc

record IsStack (m : List MemoryBlock) (b : ℕ) : Type 0 where
  block : MemoryBlock
  there : slice_get m b ≡ Some block
  other : block.kind ≡ Kind.Allocator → ⊥

module _ (g : FramedGiven) (xs : List Instance) (m n : List MemoryBlock) (b : ℕ) (stack : is_stack_block m b ≡ true)
  where
    it : IsStack m b
    it = on (slice_get m b) refl stack
      where
        on : (o : Option MemoryBlock) → slice_get m b ≡ o
            → option_map_or (λ (x : MemoryBlock). same_kind x.kind Kind.Stack) o false ≡ true → IsStack m b
        on None e h = absurd (false≢true h)
        on (Some u) e h = record { block = u; there = e; other = stack_kind u.kind h }

    pub disowned_frames : AreFrames g xs m n → AreFrames g xs (disown m b) n
    disowned_frames frames = owner_frames g xs m n b disowned (λ y. refl) it.block it.there it.other frames

    pub disowned_beside : AreLaidFrames g xs m → AreBeside g xs m n → AreBeside g xs (disown m b) n
    disowned_beside frames beside = owner_beside g xs m n b disowned (λ y. refl) it.block it.there it.other beside
        frames
