-- The hooks that make slots anew write no bytes, and give the topmost activation at most the new slot.
use Rattle.std.proofs.Common.{◌≡◌, ◌⊎◌, inr, ℕ, Bool, true, false, not, List, [], ◌∷◌, ◌++◌, Option, Some, None}
use Rattle.std.proofs.Common.{Result, Ok, Err, ◌&&◌}
use Rattle.std.proofs.Common.{refl}
use Rattle.std.specs.Prelude.{filter, if◌then◌else◌, is_none}
use Rattle.pass_frames_proof.specs.flow_solver.Paths.{IsListed}
use Rattle.pass_frames_proof.specs.ir_base.declared.cause.Cause.{Cause}
use Rattle.pass_frames_proof.specs.ir_model.Names.{function_at}
use Rattle.pass_frames_proof.specs.ir_paths.declared.point.Point.{Point}
use Rattle.pass_frames_meaning.proofs.blank.Memory.{GivesBlanks, killed_blank, own_blank, start_blank, without_blank}
use Rattle.pass_frames_meaning.specs.Blank.{HasSlotMore, IsBlankAt, KeepsBlank, KeepsEarlywise, StaysBlank}
use Rattle.pass_frames_proof.specs.pass_kept_proof.Kept.{kept}
use Rattle.pass_frames_proof.specs.pass_renewed_proof.Renewed.{RenewedGiven, renew_after, renewed_from, renewed_slot}
use Rattle.pass_frames_proof.specs.pass_renewed_proof.Renewed.{with_life}
use Rattle.pass_renewed_meaning.proofs.run_hooks.Keeping.{renewed_keeps}
use Rattle.pass_renewed_meaning.proofs.run_hooks.LeftKeeping.{renewed_keeps_last}
use Rattle.pass_renewed_meaning.specs.run_hooks.Meanings.{renewed_hooks}
use Rattle.pass_frames_proof.specs.run_memory.Memory.{killed, own, start}
use Rattle.pass_frames_proof.specs.run_memory.declared.block.Kind.{Kind}
use Rattle.pass_frames_proof.specs.run_memory.declared.block.MemoryBlock.{MemoryBlock}
use Rattle.pass_frames_proof.specs.run_memory.declared.pointer.Value.{Value}
use Rattle.pass_frames_proof.specs.run_source.Source.{begin, begin_at, begun, finish, is_among, is_over, kill_late}
use Rattle.pass_frames_proof.specs.run_source.Source.{new_slot}
use Rattle.pass_frames_proof.specs.run_source.Source.{push, resumed, slots_of, with_new_slots}
use Rattle.pass_frames_proof.specs.run_source.State.{function_of, gives, own_facts, own_frame, own_instance}
use Rattle.pass_frames_proof.specs.run_source.State.{with_memory, with_slots}
use Rattle.pass_frames_proof.specs.run_source.State.{with_status}
use Rattle.pass_frames_proof.specs.run_source.declared.state.Instance.{Instance}
use Rattle.pass_frames_proof.specs.run_source.declared.state.Mode.{Mode}
use Rattle.pass_frames_proof.specs.run_source.declared.state.State.{State}
use Rattle.pass_frames_proof.specs.run_source.declared.state.Status.{Status}
use Rattle.pass_frames_proof.specs.run_source_tables.Given.{Given}
use Rattle.pass_frames_proof.specs.run_step.Results.{and_then, found, ok_if}
use Rattle.pass_frames_proof.specs.run_step.Step.{block_of}
use Rattle.pass_frames_proof.specs.run_step.declared.world.Slot.{Slot}

-- ---- bytes

module _ (n : ℕ) where
  after_blank : (g : RenewedGiven) (s : State) (from label : ℕ) (o : Option Point) → IsBlankAt s.world.memory n
      → IsBlankAt (renew_after g s from label o).world.memory n
  after_blank g s from label None h = h
  after_blank g s from label (Some p) h = h

  -- a slot is placed
  slot_blank : (g : Given) (s : State) (slot : Slot) → IsBlankAt s.world.memory n
      → IsBlankAt (new_slot g s slot).world.memory n
  slot_blank g s slot h = on (own_instance s)
    where
      late : (p : ℕ × Instance) (b : Bool)
          → IsBlankAt (if b then with_memory s (killed s.world.memory slot.block) else s).world.memory n
      late p true = killed_blank s.world.memory slot.block n h
      late p false = h

      on : (o : Option (ℕ × Instance)) → IsBlankAt (with_new_slots (own_facts g s).ramp_slots o
          (kill_late (own_facts g s).ramp_slots o s slot) (slot ∷ [])).world.memory n
      on None = h
      on (Some (i, x)) = late (i, x) (is_over x && not (is_among (own_facts g s).ramp_slots slot))

  place_blank : (g : RenewedGiven) (s : State) (slot : Slot) (mode : Mode) → IsBlankAt s.world.memory n
      → IsBlankAt (renewed_slot g s slot mode).world.memory n
  place_blank g s slot (Mode.Entering from label) h =
      after_blank g (with_slots s (slot ∷ s.top.slots)) from label
      (renewed_from (g.flags s.top.func) (function_of g.given s) s.top.at) h
  place_blank g s slot Mode.Plain h = slot_blank g.given s slot h
  place_blank g s slot Mode.Ramp h = slot_blank g.given s slot h
  place_blank g s slot Mode.Resumed h = slot_blank g.given s slot h
  place_blank g s slot (Mode.GivenRamp frame) h = slot_blank g.given s slot h

  life_blank : (g : RenewedGiven) (s : State) (slot : Slot) (mode : Mode) → IsBlankAt s.world.memory n
      → IsBlankAt (renewed_slot g (with_life g s slot) slot mode).world.memory n
  life_blank g s slot mode h = on (g.flags s.top.func slot.alloca)
    where
      on : (b : Bool) → IsBlankAt (renewed_slot g
          (if b then with_memory s (start s.world.memory slot.block) else s) slot mode).world.memory n
      on true = place_blank g (with_memory s (start s.world.memory slot.block)) slot mode
          (start_blank s.world.memory slot.block n h)
      on false = place_blank g s slot mode h

  begin_blank : (g : Given) (s : State) (result : Option ℕ) (mem : Value) → IsBlankAt s.world.memory n
      → StaysBlank n (begin g s result mem)
  begin_blank g s result mem h = on (is_none s.top.instance)
    where
      last : (memory : List MemoryBlock) → IsBlankAt memory n → (o : Option ℕ)
          → StaysBlank n (and_then (and_then (found Cause.Begin o)
          (λ b. Ok (begun g (with_memory s memory) b 0))) (λ t. Ok (gives t result mem)))
      last memory k None = tt
      last memory k (Some b) = k

      by : (r : Result (List MemoryBlock) Cause) → GivesBlanks n r
          → StaysBlank n (and_then (and_then r (λ memory.
          and_then (found Cause.Begin (block_of mem)) (λ b. Ok (begun g (with_memory s memory) b 0))))
          (λ t. Ok (gives t result mem)))
      by (Err cause) k = tt
      by (Ok memory) k = last memory k (block_of mem)

      on : (b : Bool) → StaysBlank n (and_then (ok_if b Cause.Begin s)
          (λ z. and_then (begin_at g z mem Kind.Allocator) (λ t. Ok (gives t result mem))))
      on true = by (own s.world.memory mem (own_frame g s).size Kind.Allocator)
          (own_blank s.world.memory mem (own_frame g s).size Kind.Allocator n h)
      on false = tt

  finish_blank : (s : State) → IsBlankAt s.world.memory n → IsBlankAt (finish s).world.memory n
  finish_blank s h = without_blank s.world.memory (slots_of (own_instance s)) n h

pub renewed_keeps_blank : (g : RenewedGiven) → KeepsBlank (renewed_hooks g)
renewed_keeps_blank g = record {
  go_on = λ n s i x suspend values label h.
      after_blank n g (push (with_status s i x Status.Running)
      (resumed i x suspend (kept (g.keep x.coroutine suspend) values))) suspend.block label
      (renewed_from (g.flags x.coroutine) (function_at g.given.code x.coroutine) 0) h;
  place = λ n s slot h. life_blank n g s slot s.top.mode h;
  start = λ n s result mem h. begin_blank n g.given s result mem h;
  close = λ n s h. finish_blank n s h;
  ungiven = λ s block at. refl;
}

-- ---- slots

some_joined : (p : Slot → Bool) (slot : Slot) (ss : List Slot) (z : Slot) → IsListed z (filter p (slot ∷ []) ++ ss)
    → (z ≡ slot) ⊎ IsListed z ss
some_joined p slot ss z k = on (p slot) k
  where
    on : (b : Bool) → IsListed z ((if b then slot ∷ [] else []) ++ ss) → (z ≡ slot) ⊎ IsListed z ss
    on true h = h
    on false h = inr h

slot_more : (g : Given) (s : State) (slot : Slot) → HasSlotMore s (new_slot g s slot) slot
slot_more g s slot = by (own_instance s)
  where
    ramp : List ℕ
    ramp = (own_facts g s).ramp_slots

    by : (o : Option (ℕ × Instance)) → HasSlotMore s (with_new_slots ramp o (kill_late ramp o s slot) (slot ∷ [])) slot
    by None = record { func = refl; slots = λ z k. k }
    by (Some p) = on (is_over p.1 && not (is_among ramp slot))
      where
        on : (b : Bool) → HasSlotMore s (with_new_slots ramp (Some p)
            (if b then with_memory s (killed s.world.memory slot.block) else s) (slot ∷ [])) slot
        on true = record { func = refl; slots = some_joined (is_among ramp) slot s.top.slots }
        on false = record { func = refl; slots = some_joined (is_among ramp) slot s.top.slots }

renews_more : (g : RenewedGiven) (s : State) (slot : Slot) (from label : ℕ) (o : Option Point)
    → HasSlotMore s (renew_after g (with_slots s (slot ∷ s.top.slots)) from label o) slot
renews_more g s slot from label (Some p) = record { func = refl; slots = λ z k. k }
renews_more g s slot from label None = record { func = refl; slots = λ z k. k }

mode_more : (g : RenewedGiven) (s : State) (slot : Slot) (mode : Mode) → HasSlotMore s (renewed_slot g s slot mode) slot
mode_more g s slot (Mode.Entering from label) =
    renews_more g s slot from label (renewed_from (g.flags s.top.func) (function_of g.given s) s.top.at)
mode_more g s slot Mode.Plain = slot_more g.given s slot
mode_more g s slot Mode.Ramp = slot_more g.given s slot
mode_more g s slot Mode.Resumed = slot_more g.given s slot
mode_more g s slot (Mode.GivenRamp frame) = slot_more g.given s slot

place_more : (g : RenewedGiven) (s : State) (slot : Slot) (mode : Mode)
    → HasSlotMore s (renewed_slot g (with_life g s slot) slot mode) slot
place_more g s slot mode = on (g.flags s.top.func slot.alloca)
  where
    on : (b : Bool) → HasSlotMore s (renewed_slot g
        (if b then with_memory s (start s.world.memory slot.block) else s) slot mode) slot
    on true =
        let k = mode_more g (with_memory s (start s.world.memory slot.block)) slot mode in
        record { func = k.func; slots = k.slots }
    on false = mode_more g s slot mode

pub renewed_keeps_early : (g : RenewedGiven) → KeepsEarlywise (renewed_hooks g)
renewed_keeps_early g = record {
  last = renewed_keeps_last g;
  reached = renewed_keeps g;
  place = λ s slot. place_more g s slot s.top.mode;
  ungiven = λ s block at. refl;
}
