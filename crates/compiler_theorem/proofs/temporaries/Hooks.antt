-- The hooks of framed runs end no block, and keep what holds of each slot.
use Rattle.std.proofs.Common.{◌≡◌, ℕ, Bool, true, false, List, [], ◌∷◌, ◌++◌, length, Option, Some, None, Result}
use Rattle.std.proofs.Common.{Ok, Err, refl, subst}
use Rattle.std.specs.Prelude.{if◌then◌else◌, filter, is_none, not, slice_get, ◌&&◌, ◌==◌}
use Rattle.compiler.specs.ir_base.declared.cause.Cause.{Cause}
use Rattle.compiler.specs.ir_model.Names.{function_at}
use Rattle.compiler.specs.ir_model.declared.module.Function.{Function}
use Rattle.compiler.specs.ir_model.declared.instr.Instr.{Instr}
use Rattle.compiler.specs.ir_model.declared.module.Module.{Module}
use Rattle.compiler.specs.ir_model.declared.operand.Callee.{Callee}
use Rattle.compiler.specs.ir_paths.declared.point.Point.{Point}
use Rattle.compiler_theorem.proofs.temporaries.Memory.{GivesUses, disown_used, own_used, without_used}
use Rattle.compiler_theorem.specs.temporaries.Uses.{IsUsedAt, KeepsUses, StaysUsed, Use}
use Rattle.compiler.specs.run_framed.Framed.{FramedGiven, alloca_from, are_finished_at, begin_given_at, begin_in_block}
use Rattle.compiler.specs.run_framed.Framed.{begin_in_frame, disown_given, enter_after, enter_given, frame_around}
use Rattle.compiler.specs.run_framed.Framed.{framed_begin, framed_slot, given_call, given_ramp, has_room, has_size}
use Rattle.compiler.specs.run_framed.Framed.{is_stack_block, last_value, reentry_values}
use Rattle.pass_frames_meaning.proofs.run_hooks.Reached.{own_is}
use Rattle.pass_frames_meaning.specs.run_hooks.Meanings.{framed_hooks}
use Rattle.compiler.specs.run_memory.Memory.{disown, own}
use Rattle.compiler.specs.run_memory.declared.block.Kind.{Kind}
use Rattle.compiler.specs.run_memory.declared.block.MemoryBlock.{MemoryBlock}
use Rattle.compiler.specs.run_memory.declared.pointer.Pointer.{Pointer}
use Rattle.compiler.specs.run_memory.declared.pointer.Value.{Value}
use Rattle.pass_frames_meaning.proofs.sized.Slotwise.{changed_kept, kept_filtered, kept_joined, kept_more}
use Rattle.pass_frames_meaning.proofs.sized.Slotwise.{kept_set}
use Rattle.pass_frames_meaning.proofs.sized.Slotwise.{own_changed}
use Rattle.pass_frames_meaning.specs.Sized.{IsSlotwise, KeepsSlotwise, StaysSlotwise}
use Rattle.compiler.specs.run_source.Source.{begin, begin_at, begun, called, finish, is_among, is_live_at}
use Rattle.compiler.specs.run_source.Source.{new_instance, push, resumed, slots_of}
use Rattle.compiler.specs.run_source.State.{frame_address_of, function_of, gives, own_facts, own_frame, own_instance}
use Rattle.compiler.specs.run_source.State.{with_memory, with_slots, with_status}
use Rattle.compiler.specs.run_source.declared.state.Instance.{Instance}
use Rattle.compiler.specs.run_source.declared.state.Mode.{Mode}
use Rattle.compiler.specs.run_source.declared.state.State.{State}
use Rattle.compiler.specs.run_source.declared.state.Status.{Status}
use Rattle.compiler.specs.run_source_tables.Given.{Given}
use Rattle.compiler.specs.run_step.Results.{and_then, found, ok_if}
use Rattle.compiler.specs.run_step.Step.{AtInstr, Fetched, block_of, fetch}
use Rattle.compiler.specs.run_step.Values.{Env, arg_values}
use Rattle.compiler.specs.run_step.declared.world.Slot.{Slot}

-- ---- blocks

module _ (u : Use) (n : ℕ) where
  after_used : (g : FramedGiven) (s : State) (from label : ℕ) (o : Option Point) → IsUsedAt u s.world.memory n
      → IsUsedAt u (enter_after g s from label o).world.memory n
  after_used g s from label None h = h
  after_used g s from label (Some p) h = h

  place_used : (g : FramedGiven) (s : State) (slot : Slot) (mode : Mode) → IsUsedAt u s.world.memory n
      → IsUsedAt u (framed_slot g s slot mode).world.memory n
  place_used g s slot (Mode.Entering from label) h =
      after_used g (with_slots s (slot ∷ s.top.slots)) from label
      (alloca_from (function_of g.given s) s.top.at) h
  place_used g s slot Mode.Plain h = h
  place_used g s slot Mode.Ramp h = h
  place_used g s slot Mode.Resumed h = h
  place_used g s slot (Mode.GivenRamp frame) h = h

  begin_at_used : (g : Given) (s : State) (result : Option ℕ) (mem : Value) (kind : Kind) → IsUsedAt u s.world.memory n
      → StaysUsed u n (and_then (begin_at g s mem kind) (λ z. Ok (gives z result mem)))
  begin_at_used g s result mem kind h =
      by (own s.world.memory mem (own_frame g s).size kind)
      (own_used u s.world.memory mem (own_frame g s).size kind n h)
    where
      last : (memory : List MemoryBlock) → IsUsedAt u memory n → (o : Option ℕ)
          → StaysUsed u n (and_then (and_then (found Cause.Begin o)
          (λ b. Ok (begun g (with_memory s memory) b 0))) (λ t. Ok (gives t result mem)))
      last memory k None = tt
      last memory k (Some b) = k

      by : (r : Result (List MemoryBlock) Cause) → GivesUses u n r
          → StaysUsed u n (and_then (and_then r (λ memory.
          and_then (found Cause.Begin (block_of mem)) (λ b. Ok (begun g (with_memory s memory) b 0))))
          (λ t. Ok (gives t result mem)))
      by (Err cause) k = tt
      by (Ok memory) k = last memory k (block_of mem)

  begin_used : (g : Given) (s : State) (result : Option ℕ) (mem : Value) → IsUsedAt u s.world.memory n
      → StaysUsed u n (begin g s result mem)
  begin_used g s result mem h = on (is_none s.top.instance)
    where
      on : (b : Bool) → StaysUsed u n (and_then (ok_if b Cause.Begin s)
          (λ z. and_then (begin_at g z mem Kind.Allocator) (λ t. Ok (gives t result mem))))
      on true = begin_at_used g s result mem Kind.Allocator h
      on false = tt

  given_used : (g : FramedGiven) (s : State) (result : Option ℕ) (frame : Value) → IsUsedAt u s.world.memory n
      → StaysUsed u n (and_then (begin_given_at g s frame) (λ z. Ok (gives z result frame)))
  given_used g s result (Value.Ptr (Pointer.At b o)) h =
      on (has_room g o.bits (own_frame g.given s).size (frame_around g s.instances b o.bits))
    where
      in_block : (c : Bool) → StaysUsed u n
          (and_then (and_then (ok_if c Cause.Begin s)
          (λ z. begin_at g.given z (Value.Ptr (Pointer.At b o)) Kind.Stack))
          (λ z. Ok (gives z result (Value.Ptr (Pointer.At b o)))))
      in_block true = begin_at_used g.given s result (Value.Ptr (Pointer.At b o)) Kind.Stack h
      in_block false = tt

      in_frame : (c : Bool) → StaysUsed u n
          (and_then (ok_if c Cause.Begin (begun g.given s b o.bits))
          (λ z. Ok (gives z result (Value.Ptr (Pointer.At b o)))))
      in_frame true = h
      in_frame false = tt

      on : (c : Bool) → StaysUsed u n
          (and_then (if c then begin_in_frame g s b o else begin_in_block g s b o)
          (λ z. Ok (gives z result (Value.Ptr (Pointer.At b o)))))
      on true = in_frame (is_live_at s.world.memory b)
      on false = in_block ((o.bits == 0) && has_size s.world.memory b (own_frame g.given s).size)
  given_used g s result _ h = tt

  framed_begin_used : (g : FramedGiven) (s : State) (result : Option ℕ) (memory : Value) (mode : Mode)
      → IsUsedAt u s.world.memory n → StaysUsed u n (framed_begin g s result memory mode)
  framed_begin_used g s result memory (Mode.GivenRamp frame) h =
      on (is_none s.top.instance && are_finished_at s.instances frame)
    where
      on : (b : Bool) → StaysUsed u n
          (and_then (ok_if b Cause.Begin s)
          (λ z. and_then (begin_given_at g z frame) (λ z. Ok (gives z result frame))))
      on true = given_used g s result frame h
      on false = tt
  framed_begin_used g s result memory _ h = begin_used g.given s result memory h

  disowned_used : (s : State) (o : Option (ℕ × Instance)) → IsUsedAt u s.world.memory n
      → IsUsedAt u (disown_given s o).world.memory n
  disowned_used s None h = h
  disowned_used s (Some (i, x)) h = on (is_stack_block s.world.memory x.block && (x.start == 0))
    where
      on : (b : Bool)
          → IsUsedAt u (if b then with_memory s (disown s.world.memory x.block) else s).world.memory n
      on true = disown_used u s.world.memory x.block n h
      on false = h

pub framed_keeps_uses : (g : FramedGiven)
    → ((s : State) (block at : ℕ) → given_call g s (fetch (function_of g.given s) block at) ≡ None)
    → KeepsUses (framed_hooks g)
framed_keeps_uses g none = record {
  go_on = λ u n s i x suspend values label h.
      after_used u n g (push (with_status s i x Status.Running)
      (resumed i x suspend (reentry_values (function_at g.given.code x.coroutine) (frame_address_of x)))) suspend.block
      label (alloca_from (function_at g.given.code x.coroutine) 0) h;
  place = λ u n s slot h. place_used u n g s slot s.top.mode h;
  start = λ u n s result mem h. framed_begin_used u n g s result mem s.top.mode h;
  close = λ u n s h.
      disowned_used u n (finish s) (own_instance s) (without_used u s.world.memory (slots_of (own_instance s)) n h);
  ungiven = none;
}

-- ---- slots

module _ (W : Function → Slot → Type 0) where
  own_kept : (m : Module) (s : State) (slot : Slot) → W (function_at m s.top.func) slot → IsSlotwise W m s
      → IsSlotwise W m (with_slots s (slot ∷ s.top.slots))
  own_kept m s slot k h = record { stack = ((k, h.stack.0), h.stack.1); instances = h.instances }

  begun_kept : (g : Given) (s : State) (memory : List MemoryBlock) (b from : ℕ) (result : Option ℕ) (mem : Value)
      → IsSlotwise W g.code s → IsSlotwise W g.code (gives (begun g (with_memory s memory) b from) result mem)
  begun_kept g s memory b from result mem h =
      let f = function_at g.code s.top.func in
      let ramp = (own_facts g s).ramp_slots in
      record {
        stack = (
          kept_joined W f (filter (is_among ramp) s.top.slots) []
              (kept_filtered W f (is_among ramp) s.top.slots h.stack.0) tt,
          h.stack.1,
        );
        instances = kept_set W g.code (s.instances ++ new_instance s.top.func b from ∷ []) (length s.instances) _
            (kept_joined W f (filter (λ slot. not (is_among ramp slot)) s.top.slots) []
            (kept_filtered W f (λ slot. not (is_among ramp slot)) s.top.slots h.stack.0) tt)
            (kept_more W g.code s.instances (new_instance s.top.func b from) tt h.instances);
      }

  begin_at_kept : (g : Given) (s : State) (result : Option ℕ) (mem : Value) (kind : Kind) → IsSlotwise W g.code s
      → StaysSlotwise W g.code (and_then (begin_at g s mem kind) (λ z. Ok (gives z result mem)))
  begin_at_kept g s result mem kind h = by (own s.world.memory mem (own_frame g s).size kind)
    where
      last : (memory : List MemoryBlock) (o : Option ℕ)
          → StaysSlotwise W g.code (and_then
          (and_then (found Cause.Begin o) (λ b. Ok (begun g (with_memory s memory) b 0)))
          (λ z. Ok (gives z result mem)))
      last memory None = tt
      last memory (Some b) = begun_kept g s memory b 0 result mem h

      by : (o : Result (List MemoryBlock) Cause)
          → StaysSlotwise W g.code (and_then (and_then o
          (λ memory. and_then (found Cause.Begin (block_of mem))
          (λ b. Ok (begun g (with_memory s memory) b 0)))) (λ z. Ok (gives z result mem)))
      by (Err cause) = tt
      by (Ok memory) = last memory (block_of mem)

  begin_kept : (g : Given) (s : State) (result : Option ℕ) (mem : Value) → IsSlotwise W g.code s
      → StaysSlotwise W g.code (begin g s result mem)
  begin_kept g s result mem h = on (is_none s.top.instance)
    where
      on : (b : Bool) → StaysSlotwise W g.code (and_then (ok_if b Cause.Begin s)
          (λ z. and_then (begin_at g z mem Kind.Allocator) (λ z. Ok (gives z result mem))))
      on true = begin_at_kept g s result mem Kind.Allocator h
      on false = tt

  finish_kept : (m : Module) (s : State) → IsSlotwise W m s → IsSlotwise W m (finish s)
  finish_kept m s h =
      let k = own_changed W m s h (λ x. record x { status = Status.Finished }) (λ x. (refl, refl)) (own_instance s)
      (λ i x e. own_is s i x e) in
      record { stack = k.stack; instances = k.instances }

  pushed_kept : (m : Module) (s : State) (i : ℕ) (x : Instance) (at : Point) (vs : Env) → IsSlotwise W m s
      → slice_get s.instances i ≡ Some x
      → IsSlotwise W m (push (with_status s i x Status.Running) (resumed i x at vs))
  pushed_kept m s i x at vs h e =
      let k = changed_kept W m s h i x (record x { status = Status.Running }) e refl refl in
      record { stack = (tt, k.stack); instances = k.instances }

  enters_kept : (m : Module) (g : FramedGiven) (s : State) (from label : ℕ) (o : Option Point) → IsSlotwise W m s
      → IsSlotwise W m (enter_after g s from label o)
  enters_kept m g s from label (Some p) h = record { stack = h.stack; instances = h.instances }
  enters_kept m g s from label None h = record { stack = h.stack; instances = h.instances }

  framed_slot_kept : (g : FramedGiven) (s : State) (slot : Slot) (mode : Mode)
      → W (function_of g.given s) slot → IsSlotwise W g.given.code s
      → IsSlotwise W g.given.code (framed_slot g s slot mode)
  framed_slot_kept g s slot (Mode.Entering from label) k h =
      enters_kept g.given.code g (with_slots s (slot ∷ s.top.slots)) from label
      (alloca_from (function_of g.given s) s.top.at) (own_kept g.given.code s slot k h)
  framed_slot_kept g s slot _ k h = own_kept g.given.code s slot k h

  given_kept : (g : FramedGiven) (s : State) (result : Option ℕ) (frame : Value) → IsSlotwise W g.given.code s
      → StaysSlotwise W g.given.code (and_then (begin_given_at g s frame) (λ z. Ok (gives z result frame)))
  given_kept g s result (Value.Ptr (Pointer.At b o)) h =
      on (has_room g o.bits (own_frame g.given s).size (frame_around g s.instances b o.bits))
    where
      in_block : (c : Bool) → StaysSlotwise W g.given.code
          (and_then (and_then (ok_if c Cause.Begin s)
          (λ z. begin_at g.given z (Value.Ptr (Pointer.At b o)) Kind.Stack))
          (λ z. Ok (gives z result (Value.Ptr (Pointer.At b o)))))
      in_block true = begin_at_kept g.given s result (Value.Ptr (Pointer.At b o)) Kind.Stack h
      in_block false = tt

      in_frame : (c : Bool) → StaysSlotwise W g.given.code
          (and_then (ok_if c Cause.Begin (begun g.given s b o.bits))
          (λ z. Ok (gives z result (Value.Ptr (Pointer.At b o)))))
      in_frame true = begun_kept g.given s s.world.memory b o.bits result (Value.Ptr (Pointer.At b o)) h
      in_frame false = tt

      on : (c : Bool) → StaysSlotwise W g.given.code
          (and_then (if c then begin_in_frame g s b o else begin_in_block g s b o)
          (λ z. Ok (gives z result (Value.Ptr (Pointer.At b o)))))
      on true = in_frame (is_live_at s.world.memory b)
      on false = in_block ((o.bits == 0) && has_size s.world.memory b (own_frame g.given s).size)
  given_kept g s result _ h = tt

  framed_begin_kept : (g : FramedGiven) (s : State) (result : Option ℕ) (memory : Value) (mode : Mode)
      → IsSlotwise W g.given.code s → StaysSlotwise W g.given.code (framed_begin g s result memory mode)
  framed_begin_kept g s result memory (Mode.GivenRamp frame) h =
      on (is_none s.top.instance && are_finished_at s.instances frame)
    where
      on : (b : Bool) → StaysSlotwise W g.given.code
          (and_then (ok_if b Cause.Begin s)
          (λ z. and_then (begin_given_at g z frame) (λ z. Ok (gives z result frame))))
      on true = given_kept g s result frame h
      on false = tt
  framed_begin_kept g s result memory _ h = begin_kept g.given s result memory h

  ramp_kept : (g : FramedGiven) (s : State) (result : Option ℕ) (vs : List Value) (o : Option ℕ)
      (r : Result State Cause) → enter_given g s result vs o ≡ Some r → IsSlotwise W g.given.code s
      → StaysSlotwise W g.given.code r
  ramp_kept g s result vs None r e h = absurd (cc)
  ramp_kept g s result vs (Some func) r e h =
      let k : Ok (push s (called g.given.code func vs result (Mode.GivenRamp (last_value vs)))) ≡ r = cc in
      subst (StaysSlotwise W g.given.code) k (record { stack = (tt, h.stack); instances = h.instances })

  call_kept : (g : FramedGiven) (s : State) (x : Fetched) (r : Result State Cause) → given_call g s x ≡ Some r
      → IsSlotwise W g.given.code s → StaysSlotwise W g.given.code r
  call_kept g s (AtInstr (Instr.Call result must_tail ty (Callee.Named n) args)) r e h =
      ramp_kept g s result (arg_values g.given.code s.top.values args) (given_ramp g.given.code n) r e h
  call_kept g s _ r e h = absurd (cc)

  disowned_kept : (m : Module) (s : State) (o : Option (ℕ × Instance)) → IsSlotwise W m s
      → IsSlotwise W m (disown_given s o)
  disowned_kept m s None h = h
  disowned_kept m s (Some (i, x)) h = on (is_stack_block s.world.memory x.block && (x.start == 0))
    where
      on : (b : Bool) → IsSlotwise W m (if b then with_memory s (disown s.world.memory x.block) else s)
      on true = record { stack = h.stack; instances = h.instances }
      on false = h

  pub framed_keeps_slotwise : (g : FramedGiven) → KeepsSlotwise W (framed_hooks g)
  framed_keeps_slotwise g = record {
    go_on = λ s i x at vs label h e.
        enters_kept g.given.code g (push (with_status s i x Status.Running) (resumed i x at
        (reentry_values (function_at g.given.code x.coroutine) (frame_address_of x)))) at.block label
        (alloca_from (function_at g.given.code x.coroutine) 0)
        (pushed_kept g.given.code s i x at
        (reentry_values (function_at g.given.code x.coroutine) (frame_address_of x)) h e);
    place = λ s slot r k h. framed_slot_kept g s slot s.top.mode k h;
    start = λ s result memory h. framed_begin_kept g s result memory s.top.mode h;
    close = λ s h. disowned_kept g.given.code (finish s) (own_instance s) (finish_kept g.given.code s h);
    call = call_kept g;
  }
