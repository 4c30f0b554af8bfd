-- The hooks that make slots anew keep the sizes of blocks, and so do those of a source.
use Rattle.std.proofs.Common.{◌≡◌, ℕ, Bool, true, false, not, List, [], ◌∷◌, Option, Some, None, Result, Ok, Err, ◌&&◌}
use Rattle.std.specs.Prelude.{if◌then◌else◌, is_none}
use Rattle.pass_frames_proof.specs.ir_base.declared.cause.Cause.{Cause}
use Rattle.pass_frames_proof.specs.ir_model.Names.{function_at}
use Rattle.pass_frames_proof.specs.ir_paths.declared.point.Point.{Point}
use Rattle.pass_frames_meaning.proofs.sized.Memory.{GivesSizes, killed_keeps, more_sizes, own_keeps, same_sizes}
use Rattle.pass_frames_meaning.proofs.sized.Memory.{start_keeps}
use Rattle.pass_frames_meaning.proofs.sized.Memory.{without_keeps}
use Rattle.pass_frames_meaning.specs.Sized.{IsLonger, KeepsSizes, StaysLonger, sizes_of}
use Rattle.pass_frames_proof.specs.pass_kept_proof.Kept.{Keep, kept}
use Rattle.pass_frames_proof.specs.pass_renewed_proof.Renewed.{RenewedGiven, renew_after, renewed_from, renewed_slot, with_life}
use Rattle.pass_renewed_meaning.specs.run_hooks.Meanings.{kept_hooks, renewed_hooks}
use Rattle.pass_frames_proof.specs.run_memory.Memory.{killed, own, start}
use Rattle.pass_frames_proof.specs.run_memory.declared.block.Kind.{Kind}
use Rattle.pass_frames_proof.specs.run_memory.declared.block.MemoryBlock.{MemoryBlock}
use Rattle.pass_frames_proof.specs.run_memory.declared.pointer.Value.{Value}
use Rattle.pass_frames_proof.specs.run_source.Source.{begin, begin_at, begun, change_own, finish, is_among, is_over, kill_late, new_slot}
use Rattle.pass_frames_proof.specs.run_source.Source.{push, resumed, slots_of, with_new_slots}
use Rattle.pass_frames_proof.specs.run_source.State.{function_of, gives, own_facts, own_frame, own_instance, with_memory, with_slots}
use Rattle.pass_frames_proof.specs.run_source.State.{with_status}
use Rattle.pass_frames_proof.specs.run_source.declared.state.Instance.{Instance}
use Rattle.pass_frames_proof.specs.run_source.declared.state.Mode.{Mode}
use Rattle.pass_frames_proof.specs.run_source.declared.state.State.{State}
use Rattle.pass_frames_proof.specs.run_source.declared.state.Status.{Status}
use Rattle.pass_frames_proof.specs.run_source_tables.Given.{Given}
use Rattle.pass_frames_proof.specs.run_step.Results.{and_then, found, ok_if}
use Rattle.pass_frames_proof.specs.run_step.Step.{block_of, without_slots}
use Rattle.pass_frames_proof.specs.run_step.declared.world.Slot.{Slot}

after_longer : (g : RenewedGiven) (s : State) (from label : ℕ) (o : Option Point) (t : List (ℕ × ℕ))
    → IsLonger t (sizes_of s.world.memory) → IsLonger t (sizes_of (renew_after g s from label o).world.memory)
after_longer g s from label None t h = h
after_longer g s from label (Some p) t h = h

-- a slot is placed
slot_longer : (g : Given) (s : State) (slot : Slot) → IsLonger (sizes_of s.world.memory)
    (sizes_of (new_slot g s slot).world.memory)
slot_longer g s slot = on (own_instance s)
  where
    late : (p : ℕ × Instance) (b : Bool) → IsLonger (sizes_of s.world.memory)
        (sizes_of (if b then with_memory s (killed s.world.memory slot.block) else s).world.memory)
    late p true = killed_keeps s.world.memory slot.block
    late p false = same_sizes (sizes_of s.world.memory)

    on : (o : Option (ℕ × Instance)) → IsLonger (sizes_of s.world.memory)
        (sizes_of (with_new_slots (own_facts g s).ramp_slots o (kill_late (own_facts g s).ramp_slots o s slot)
        (slot ∷ [])).world.memory)
    on None = same_sizes (sizes_of s.world.memory)
    on (Some (i, x)) = late (i, x) (is_over x && not (is_among (own_facts g s).ramp_slots slot))

place_longer : (g : RenewedGiven) (s : State) (slot : Slot) (mode : Mode) → IsLonger (sizes_of s.world.memory)
    (sizes_of (renewed_slot g s slot mode).world.memory)
place_longer g s slot (Mode.Entering from label) =
    after_longer g (with_slots s (slot ∷ s.top.slots)) from label
    (renewed_from (g.flags s.top.func) (function_of g.given s) s.top.at) (sizes_of s.world.memory)
    (same_sizes (sizes_of s.world.memory))
place_longer g s slot Mode.Plain = slot_longer g.given s slot
place_longer g s slot Mode.Ramp = slot_longer g.given s slot
place_longer g s slot Mode.Resumed = slot_longer g.given s slot
place_longer g s slot (Mode.GivenRamp frame) = slot_longer g.given s slot

life_longer : (g : RenewedGiven) (s : State) (slot : Slot) (mode : Mode) → IsLonger (sizes_of s.world.memory)
    (sizes_of (renewed_slot g (with_life g s slot) slot mode).world.memory)
life_longer g s slot mode = on (g.flags s.top.func slot.alloca)
  where
    on : (b : Bool) → IsLonger (sizes_of s.world.memory) (sizes_of (renewed_slot g
        (if b then with_memory s (start s.world.memory slot.block) else s) slot mode).world.memory)
    on true = more_sizes (sizes_of s.world.memory) (sizes_of (start s.world.memory slot.block))
        (sizes_of (renewed_slot g (with_memory s (start s.world.memory slot.block)) slot mode).world.memory)
        (start_keeps s.world.memory slot.block)
        (place_longer g (with_memory s (start s.world.memory slot.block)) slot mode)
    on false = place_longer g s slot mode

begin_longer : (g : Given) (s : State) (result : Option ℕ) (mem : Value)
    → StaysLonger (sizes_of s.world.memory) (begin g s result mem)
begin_longer g s result mem = on (is_none s.top.instance)
  where
    last : (memory : List MemoryBlock) → IsLonger (sizes_of s.world.memory) (sizes_of memory) → (o : Option ℕ)
        → StaysLonger (sizes_of s.world.memory) (and_then (and_then (found Cause.Begin o)
        (λ b. Ok (begun g (with_memory s memory) b 0))) (λ t. Ok (gives t result mem)))
    last memory h None = tt
    last memory h (Some b) = h

    by : (r : Result (List MemoryBlock) Cause) → GivesSizes s.world.memory r
        → StaysLonger (sizes_of s.world.memory) (and_then (and_then r (λ memory.
        and_then (found Cause.Begin (block_of mem)) (λ b. Ok (begun g (with_memory s memory) b 0))))
        (λ t. Ok (gives t result mem)))
    by (Err cause) h = tt
    by (Ok memory) h = last memory h (block_of mem)

    on : (b : Bool) → StaysLonger (sizes_of s.world.memory) (and_then (ok_if b Cause.Begin s)
        (λ z. and_then (begin_at g z mem Kind.Allocator) (λ t. Ok (gives t result mem))))
    on true = by (own s.world.memory mem (own_frame g s).size Kind.Allocator)
        (own_keeps s.world.memory mem (own_frame g s).size Kind.Allocator)
    on false = tt

finish_longer : (s : State) → IsLonger (sizes_of s.world.memory) (sizes_of (finish s).world.memory)
finish_longer s = without_keeps s.world.memory (slots_of (own_instance s))

pub renewed_keeps_sizes : (g : RenewedGiven) → KeepsSizes (renewed_hooks g)
renewed_keeps_sizes g = record {
  go_on = λ s i x suspend values label.
      after_longer g (push (with_status s i x Status.Running)
      (resumed i x suspend (kept (g.keep x.coroutine suspend) values))) suspend.block label
      (renewed_from (g.flags x.coroutine) (function_at g.given.code x.coroutine) 0) (sizes_of s.world.memory)
      (same_sizes (sizes_of s.world.memory));
  place = λ s slot. life_longer g s slot s.top.mode;
  start = λ s result mem. begin_longer g.given s result mem;
  close = λ s. finish_longer s;
  call = λ s x r e. absurd (cc);
}

-- a source's do, of which a resume hands on some values
pub kept_keeps_sizes : (g : Given) (keep : Keep) → KeepsSizes (kept_hooks g keep)
kept_keeps_sizes g keep = record {
  go_on = λ s i x suspend values label. same_sizes (sizes_of s.world.memory);
  place = λ s slot. slot_longer g s slot;
  start = λ s result mem. begin_longer g s result mem;
  close = λ s. finish_longer s;
  call = λ s x r e. absurd (cc);
}
