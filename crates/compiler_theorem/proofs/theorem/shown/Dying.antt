-- What lives after slots have died is what it was before, and no slot of these.
use Rattle.std.proofs.Common.{◌≡◌, false, ℕ, true, List, Some, ap, ◌∙◌, arith}
use Rattle.std.specs.Prelude.{slice_get}
use Rattle.compiler.specs.run_memory.Memory.{is_live, killed_block}
use Rattle.compiler.specs.run_memory.declared.block.MemoryBlock.{MemoryBlock}
use Rattle.pass_frames_meaning.proofs.run_slots.Times.{Dies, IsLeft, Stays, same_there, without_at, without_back}
use Rattle.pass_frames_meaning.specs.run_slots.Slots.{times}
use Rattle.compiler.specs.run_step.Step.{without_slots}
use Rattle.compiler.specs.run_step.declared.world.Slot.{Slot}

pub record HasLived (m : List MemoryBlock) (ss : List Slot) (n : ℕ) (w : MemoryBlock) : Type 0 where
  pub there : slice_get m n ≡ Some w
  pub none : times n ss ≡ 0

pub has_lived : (m : List MemoryBlock) (ss : List Slot) (n : ℕ) (w : MemoryBlock)
    → slice_get (without_slots m ss) n ≡ Some w → is_live w.life ≡ true → HasLived m ss n w
has_lived m ss n w e live = let z = without_back m ss n w e in on z.0 z.1 (without_at m ss n z.0 z.1)
  where
    dead : (z : MemoryBlock) → killed_block z ≡ w → ⊥
    dead z d = let no : false ≡ true = ap (λ (u : MemoryBlock). is_live u.life) d ∙ live in absurd (cc)

    on : (z : MemoryBlock) → slice_get m n ≡ Some z → IsLeft ss n z (slice_get (without_slots m ss) n)
        → HasLived m ss n w
    on z d (Stays none h) = record {
      there = d ∙ ap Some (same_there (slice_get (without_slots m ss) n) z w h e);
      none = none;
    }
    on z d (Dies some h) = absurd (dead z (same_there (slice_get (without_slots m ss) n) (killed_block z) w h e))

-- a block that is no slot of these stays as it is
pub stays_there : (m : List MemoryBlock) (ss : List Slot) (n : ℕ) (z : MemoryBlock) → slice_get m n ≡ Some z
    → times n ss ≡ 0 → slice_get (without_slots m ss) n ≡ Some z
stays_there m ss n z e none = on (without_at m ss n z e)
  where
    on : IsLeft ss n z (slice_get (without_slots m ss) n) → slice_get (without_slots m ss) n ≡ Some z
    on (Stays h d) = d
    on (Dies h d) = absurd (omega (arith, h, none))

-- and each block stays somehow
pub still_there : (m : List MemoryBlock) (ss : List Slot) (n : ℕ) (z : MemoryBlock) → slice_get m n ≡ Some z
    → (w : MemoryBlock) × (slice_get (without_slots m ss) n ≡ Some w)
still_there m ss n z e = on (without_at m ss n z e)
  where
    on : IsLeft ss n z (slice_get (without_slots m ss) n)
        → (w : MemoryBlock) × (slice_get (without_slots m ss) n ≡ Some w)
    on (Stays h d) = (z, d)
    on (Dies h d) = (killed_block z, d)
