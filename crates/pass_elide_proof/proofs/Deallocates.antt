-- What a deallocation of a block asks of the memory, and what it leaves.
use Rattle.std.proofs.Common.{◌≡◌, ◌+◌, ℕ, zero, suc, Bool, true, false, List, [], ◌∷◌, length, not, Ok, Err, Result, refl, sym, ap, ◌∙◌, subst, ◌&&◌, ◌==◌}
use Rattle.std.specs.Prelude.{None, Option, Some, if◌then◌else◌, slice_get, slice_set}
use Rattle.pass_proofs.proofs.ir_laws.facts.Truth.{both_true}
use Rattle.pass_proofs.specs.ir_base.declared.cause.Cause.{Cause}
use Rattle.pass_proofs.specs.run_memory.Memory.{disown, disowned, is_owned, is_unkilled, killed, killed_block, with_block}
use Rattle.pass_proofs.specs.run_memory.declared.block.Kind.{Kind}
use Rattle.pass_proofs.specs.run_memory.declared.block.MemoryBlock.{MemoryBlock}
use Rattle.pass_proofs.specs.run_memory.declared.pointer.Offset.{Offset}
use Rattle.pass_proofs.specs.run_memory.declared.pointer.Pointer.{Pointer}
use Rattle.pass_proofs.specs.run_memory.declared.pointer.Value.{Value}
use Rattle.pass_proofs.specs.run_source.Source.{if_let_go, let_go, may_be_freed}
use Rattle.pass_proofs.specs.run_source.State.{next, with_instance, with_memory}
use Rattle.pass_proofs.specs.run_source.declared.state.Instance.{Instance}
use Rattle.pass_proofs.specs.run_source.declared.state.State.{State}
use Rattle.pass_proofs.specs.run_step.Results.{and_then}
use Rattle.pass_proofs.specs.run_step.Step.{deallocated, without_slots}
use Rattle.pass_proofs.specs.run_step.declared.world.Slot.{Slot}

-- the state behind it, where an instance was let go or none
abbrev pub behind_it : State → ℕ → Offset → Result State Cause
behind_it v b o =
    and_then (deallocated v.world.memory (Value.Ptr (Pointer.At b o))) (λ memory. Ok (next (with_memory v memory)))

abbrev killed_when : (start owned : Bool) → List MemoryBlock → ℕ → Result (List MemoryBlock) Cause
killed_when start owned m b = if not start then Err Cause.Free else if owned then Err Cause.Owned else Ok (killed m b)

abbrev given_state : State → Result State Cause
given_state v = Ok v

-- the start of an allocator's block that nobody owns was given, and the block is killed
pub record Kills (v : State) (b : ℕ) (o : Offset) (after : State) : Type 0 where
  pub start : (o.bits == 0) ≡ true
  pub unkilled : is_unkilled Kind.Allocator (slice_get v.world.memory b) ≡ true
  pub unowned : is_owned (slice_get v.world.memory b) ≡ false
  pub is : next (with_memory v (killed v.world.memory b)) ≡ after

same_given : (v w : State) → given_state v ≡ given_state w → v ≡ w
same_given v w e = cc

pub kills : (v : State) (b : ℕ) (o : Offset) (after : State) → behind_it v b o ≡ Ok after → Kills v b o after
kills v b o after e =
    on (o.bits == 0) (is_unkilled Kind.Allocator (slice_get v.world.memory b)) (is_owned (slice_get v.world.memory b))
    refl refl refl e
  where
    on : (p q owned : Bool) → (o.bits == 0) ≡ p → is_unkilled Kind.Allocator (slice_get v.world.memory b) ≡ q
        → is_owned (slice_get v.world.memory b) ≡ owned
        → and_then (killed_when (p && q) owned v.world.memory b) (λ memory. given_state (next (with_memory v memory)))
        ≡ given_state after → Kills v b o after
    on true true false ep eq er h = record {
      start = ep;
      unkilled = eq;
      unowned = er;
      is = same_given (next (with_memory v (killed v.world.memory b))) after h;
    }
    on true true true ep eq er h = absurd (cc)
    on true false owned ep eq er h = absurd (cc)
    on false q owned ep eq er h = absurd (cc)

pub kills_too : (v : State) (b : ℕ) (o : Offset) → (o.bits == 0) ≡ true
    → is_unkilled Kind.Allocator (slice_get v.world.memory b) ≡ true
    → is_owned (slice_get v.world.memory b) ≡ false
    → behind_it v b o ≡ Ok (next (with_memory v (killed v.world.memory b)))
kills_too v b o start unkilled unowned =
    λ i. and_then (killed_when (start i && unkilled i) (unowned i) v.world.memory b)
    (λ memory. given_state (next (with_memory v memory)))

-- ---- an instance that is let go

pub disowned_too : (m : List MemoryBlock) (b : ℕ) → killed (disown m b) b ≡ killed m b
disowned_too [] b = refl
disowned_too (x ∷ m) zero = refl
disowned_too (x ∷ m) (suc b) = ap (λ (l : List MemoryBlock). x ∷ l) (disowned_too m b)

pub goes_if : (s : State) (j : ℕ) (x : Instance) (may : Bool) → may_be_freed x ≡ may
    → if_let_go s (Some (j, x)) ≡ (if may then let_go s j x else s)
goes_if s j x may is = ap (λ (c : Bool). if c then let_go s j x else s) is

-- it has no slots, and its frame is in the block
pub let_go_of : (s : State) (j b : ℕ) (x : Instance) → x.slots ≡ [] → x.block ≡ b
    → let_go s j x ≡ with_memory (with_instance s j (record x { freed = true })) (disown s.world.memory b)
let_go_of s j b x none same =
    λ i. with_memory (with_instance s j (record x { freed = true }))
    (disown (without_slots s.world.memory (none i)) (same i))
