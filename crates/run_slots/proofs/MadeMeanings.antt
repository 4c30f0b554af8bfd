-- The hooks of the four meanings keep it that each slot is that of an alloca of its function.
use Rattle.std.proofs.Common.{◌≡◌, ℕ, Bool, true, false, List, [], ◌∷◌, ◌++◌, length, Option, Some, None, Result}
use Rattle.std.proofs.Common.{Ok, Err, refl, sym, ap, ◌∙◌, subst}
use Rattle.std.specs.Prelude.{if◌then◌else◌, filter, is_none, not, slice_get, ◌&&◌, ◌==◌}
use Rattle.run_hooks.specs.ir_base.declared.cause.Cause.{Cause}
use Rattle.run_hooks.specs.ir_model.Names.{function_at}
use Rattle.run_hooks.specs.ir_model.declared.instr.Instr.{Instr}
use Rattle.run_hooks.specs.ir_model.declared.module.Module.{Module}
use Rattle.run_hooks.specs.ir_model.declared.operand.Callee.{Callee}
use Rattle.run_hooks.specs.ir_paths.declared.point.Point.{Point}
use Rattle.run_hooks.specs.pass_kept_proof.Kept.{Keep, kept}
use Rattle.run_hooks.specs.pass_renewed_proof.Renewed.{RenewedGiven, renew_after, renewed_from, renewed_slot, with_life}
use Rattle.run_hooks.specs.run_framed.Framed.{FramedGiven, alloca_from, are_finished_at, begin_given_at, begin_in_block}
use Rattle.run_hooks.specs.run_framed.Framed.{begin_in_frame, disown_given, enter_after, enter_given, frame_around}
use Rattle.run_hooks.specs.run_framed.Framed.{framed_begin, framed_slot, given_call, given_ramp, has_room, has_size}
use Rattle.run_hooks.specs.run_framed.Framed.{is_stack_block, last_value, reentry_values}
use Rattle.run_hooks.proofs.Reached.{late_instances, own_function, own_is}
use Rattle.run_hooks.specs.Meanings.{framed_hooks, hooks_by, kept_hooks, renewed_hooks, source_hooks}
use Rattle.run_hooks.specs.Reached.{IsReachedState}
use Rattle.run_hooks.specs.run_memory.Memory.{disown, killed, own, start}
use Rattle.run_hooks.specs.run_memory.declared.block.Kind.{Kind}
use Rattle.run_hooks.specs.run_memory.declared.block.MemoryBlock.{MemoryBlock}
use Rattle.run_hooks.specs.run_memory.declared.pointer.Pointer.{Pointer}
use Rattle.run_hooks.specs.run_memory.declared.pointer.Value.{Value}
use Rattle.run_slots.proofs.Made.{changed_made, made_at, made_filtered, made_joined, made_more, made_set, own_changed}
use Rattle.run_slots.specs.Made.{AreMade, IsMadeAt, IsMadeState, KeepsMade, StaysMade}
use Rattle.run_hooks.specs.run_source.Source.{Continues, begin, begin_at, begun, called, continue, finish, is_among, is_live_at}
use Rattle.run_hooks.specs.run_source.Source.{is_over, kill_late, new_instance, new_slot, push, resumed, with_new_slots}
use Rattle.run_hooks.specs.run_source.State.{frame_address_of, function_of, gives, own_facts, own_frame, own_instance}
use Rattle.run_hooks.specs.run_source.State.{with_memory, with_slots, with_status}
use Rattle.run_hooks.specs.run_source.declared.state.Instance.{Instance}
use Rattle.run_hooks.specs.run_source.declared.state.Mode.{Mode}
use Rattle.run_hooks.specs.run_source.declared.state.State.{State}
use Rattle.run_hooks.specs.run_source.declared.state.Status.{Status}
use Rattle.run_hooks.specs.run_source_tables.Given.{Given}
use Rattle.run_hooks.specs.run_step.Results.{and_then, found, ok_if}
use Rattle.run_hooks.specs.run_step.Step.{AtInstr, Fetched, block_of}
use Rattle.run_hooks.specs.run_step.Values.{Env, arg_values}
use Rattle.run_hooks.specs.run_step.declared.world.Slot.{Slot}

-- ---- slots

own_made : (m : Module) (s : State) (slot : Slot) → IsMadeAt (function_at m s.top.func) slot.alloca → IsMadeState m s
    → IsMadeState m (with_slots s (slot ∷ s.top.slots))
own_made m s slot k h = record { stack = ((k, h.stack.0), h.stack.1); instances = h.instances }

late_made : (m : Module) (s : State) (ramp : List ℕ) (o : Option (ℕ × Instance)) (slot : Slot) → IsMadeState m s
    → IsMadeState m (kill_late ramp o s slot)
late_made m s ramp None slot h = h
late_made m s ramp (Some p) slot h = on (is_over p.1 && not (is_among ramp slot))
  where
    on : (b : Bool) → IsMadeState m (if b then with_memory s (killed s.world.memory slot.block) else s)
    on true = record { stack = h.stack; instances = h.instances }
    on false = h

-- slots more are of the activation's function, which is the instance's
slots_made : (m : Module) (s : State) (ramp : List ℕ) (o : Option (ℕ × Instance)) (slots : List Slot)
    → ((i : ℕ) (x : Instance) → o ≡ Some (i, x) → (slice_get s.instances i ≡ Some x) × (x.coroutine ≡ s.top.func))
    → AreMade (function_at m s.top.func) slots → IsMadeState m s → IsMadeState m (with_new_slots ramp o s slots)
slots_made m s ramp None slots is k h = record {
  stack = (made_joined (function_at m s.top.func) slots s.top.slots k h.stack.0, h.stack.1);
  instances = h.instances;
}
slots_made m s ramp (Some (i, x)) slots is k h =
    let e = is i x refl in
    record {
      stack = (
        made_joined (function_at m s.top.func) (filter (is_among ramp) slots) s.top.slots
            (made_filtered (function_at m s.top.func) (is_among ramp) slots k) h.stack.0,
        h.stack.1,
      );
      instances = made_set m s.instances i
          (record x { slots = filter (λ slot. not (is_among ramp slot)) slots ++ x.slots })
          (made_joined (function_at m x.coroutine) (filter (λ slot. not (is_among ramp slot)) slots) x.slots
          (subst (λ (func : ℕ). AreMade (function_at m func) (filter (λ slot. not (is_among ramp slot)) slots)) (sym e.1)
          (made_filtered (function_at m s.top.func) (λ slot. not (is_among ramp slot)) slots k))
          (made_at m s.instances i x e.0 h.instances)) h.instances;
    }

new_slot_made : (g : Given) (s : State) (slot : Slot) → IsReachedState g s
    → IsMadeAt (function_of g s) slot.alloca → IsMadeState g.code s → IsMadeState g.code (new_slot g s slot)
new_slot_made g s slot r k h =
    slots_made g.code (kill_late (own_facts g s).ramp_slots (own_instance s) s slot) (own_facts g s).ramp_slots (own_instance s) (slot ∷ [])
    (λ i x e. (
      ap (λ (xs : List Instance). slice_get xs i) (late_instances s (own_facts g s).ramp_slots (own_instance s) slot) ∙ own_is s i x e,
      own_function g s r i x e ∙ sym (late_func (own_instance s)),
    ))
    (subst (λ (func : ℕ). AreMade (function_at g.code func) (slot ∷ [])) (sym (late_func (own_instance s))) (k, tt))
    (late_made g.code s (own_facts g s).ramp_slots (own_instance s) slot h)
  where
    late_func : (o : Option (ℕ × Instance)) → (kill_late (own_facts g s).ramp_slots o s slot).top.func ≡ s.top.func
    late_func None = refl
    late_func (Some p) = on (is_over p.1 && not (is_among (own_facts g s).ramp_slots slot))
      where
        on : (b : Bool) → (if b then with_memory s (killed s.world.memory slot.block) else s).top.func ≡ s.top.func
        on true = refl
        on false = refl

-- ---- begin

begun_made : (g : Given) (s : State) (memory : List MemoryBlock) (b from : ℕ) (result : Option ℕ) (mem : Value)
    → IsMadeState g.code s → IsMadeState g.code (gives (begun g (with_memory s memory) b from) result mem)
begun_made g s memory b from result mem h =
    let f = function_at g.code s.top.func in
    let ramp = (own_facts g s).ramp_slots in
    record {
      stack = (
        made_joined f (filter (is_among ramp) s.top.slots) []
            (made_filtered f (is_among ramp) s.top.slots h.stack.0) tt,
        h.stack.1,
      );
      instances = made_set g.code (s.instances ++ new_instance s.top.func b from ∷ []) (length s.instances) _
          (made_joined f (filter (λ slot. not (is_among ramp slot)) s.top.slots) []
          (made_filtered f (λ slot. not (is_among ramp slot)) s.top.slots h.stack.0) tt)
          (made_more g.code s.instances (new_instance s.top.func b from) tt h.instances);
    }

begin_at_made : (g : Given) (s : State) (result : Option ℕ) (mem : Value) (kind : Kind) → IsMadeState g.code s
    → StaysMade g.code (and_then (begin_at g s mem kind) (λ z. Ok (gives z result mem)))
begin_at_made g s result mem kind h = by (own s.world.memory mem (own_frame g s).size kind)
  where
    last : (memory : List MemoryBlock) (o : Option ℕ)
        → StaysMade g.code (and_then (and_then (found Cause.Begin o) (λ b. Ok (begun g (with_memory s memory) b 0)))
        (λ z. Ok (gives z result mem)))
    last memory None = tt
    last memory (Some b) = begun_made g s memory b 0 result mem h

    by : (o : Result (List MemoryBlock) Cause)
        → StaysMade g.code (and_then (and_then o
        (λ memory. and_then (found Cause.Begin (block_of mem))
        (λ b. Ok (begun g (with_memory s memory) b 0)))) (λ z. Ok (gives z result mem)))
    by (Err cause) = tt
    by (Ok memory) = last memory (block_of mem)

begin_made : (g : Given) (s : State) (result : Option ℕ) (mem : Value) → IsMadeState g.code s
    → StaysMade g.code (begin g s result mem)
begin_made g s result mem h = on (is_none s.top.instance)
  where
    on : (b : Bool) → StaysMade g.code (and_then (ok_if b Cause.Begin s)
        (λ z. and_then (begin_at g z mem Kind.Allocator) (λ z. Ok (gives z result mem))))
    on true = begin_at_made g s result mem Kind.Allocator h
    on false = tt

finish_made : (m : Module) (s : State) → IsMadeState m s → IsMadeState m (finish s)
finish_made m s h =
    let k = own_changed m s h (λ x. record x { status = Status.Finished }) (λ x. (refl, refl)) (own_instance s)
    (λ i x e. own_is s i x e) in
    record { stack = k.stack; instances = k.instances }

pushed_made : (m : Module) (s : State) (i : ℕ) (x : Instance) (at : Point) (vs : Env) → IsMadeState m s
    → slice_get s.instances i ≡ Some x
    → IsMadeState m (push (with_status s i x Status.Running) (resumed i x at vs))
pushed_made m s i x at vs h e =
    let k = changed_made m s h i x (record x { status = Status.Running }) e refl refl in
    record { stack = (tt, k.stack); instances = k.instances }

-- ---- sources

hooks_keep_made : (g : Given) (go : Continues)
    → ((s : State) (i : ℕ) (x : Instance) (at : Point) (vs : Env) (label : ℕ) → IsMadeState g.code s
    → slice_get s.instances i ≡ Some x → IsMadeState g.code (go s i x at vs label)) → KeepsMade (hooks_by g go)
hooks_keep_made g go goes = record {
  go_on = goes;
  place = new_slot_made g;
  start = begin_made g;
  close = finish_made g.code;
  call = λ s x r e. absurd (cc);
}

continue_made : (g : Given) (s : State) (i : ℕ) (x : Instance) (at : Point) (vs : Env) (label : ℕ)
    → IsMadeState g.code s → slice_get s.instances i ≡ Some x → IsMadeState g.code (continue g s i x at vs label)
continue_made g s i x at vs label h e =
    let k = pushed_made g.code s i x at vs h e in record { stack = k.stack; instances = k.instances }

pub source_keeps_made : (g : Given) → KeepsMade (source_hooks g)
source_keeps_made g = hooks_keep_made g (continue g) (continue_made g)

pub kept_keeps_made : (g : Given) (keep : Keep) → KeepsMade (kept_hooks g keep)
kept_keeps_made g keep = hooks_keep_made g _
    (λ s i x at vs label. continue_made g s i x at (kept (keep x.coroutine at) vs) label)

-- ---- entry of a label, after allocas

enters_made : (m : Module) (g : FramedGiven) (s : State) (from label : ℕ) (o : Option Point) → IsMadeState m s
    → IsMadeState m (enter_after g s from label o)
enters_made m g s from label (Some p) h = record { stack = h.stack; instances = h.instances }
enters_made m g s from label None h = record { stack = h.stack; instances = h.instances }

renews_made : (m : Module) (g : RenewedGiven) (s : State) (from label : ℕ) (o : Option Point) → IsMadeState m s
    → IsMadeState m (renew_after g s from label o)
renews_made m g s from label (Some p) h = record { stack = h.stack; instances = h.instances }
renews_made m g s from label None h = record { stack = h.stack; instances = h.instances }

-- ---- slots that are made anew

renewed_slot_made : (g : RenewedGiven) (s : State) (slot : Slot) (mode : Mode) → IsReachedState g.given s
    → IsMadeAt (function_of g.given s) slot.alloca → IsMadeState g.given.code s
    → IsMadeState g.given.code (renewed_slot g s slot mode)
renewed_slot_made g s slot (Mode.Entering from label) r k h =
    renews_made g.given.code g (with_slots s (slot ∷ s.top.slots)) from label
    (renewed_from (g.flags s.top.func) (function_of g.given s) s.top.at) (own_made g.given.code s slot k h)
renewed_slot_made g s slot _ r k h = new_slot_made g.given s slot r k h

life_made : (g : RenewedGiven) (s : State) (slot : Slot) (mode : Mode) → IsReachedState g.given s
    → IsMadeAt (function_of g.given s) slot.alloca → IsMadeState g.given.code s
    → IsMadeState g.given.code (renewed_slot g (with_life g s slot) slot mode)
life_made g s slot mode r k h = on (g.flags s.top.func slot.alloca)
  where
    on : (b : Bool) → IsMadeState g.given.code
        (renewed_slot g (if b then with_memory s (start s.world.memory slot.block) else s) slot mode)
    on true = renewed_slot_made g (with_memory s (start s.world.memory slot.block)) slot mode
        (record { top = r.top; below = r.below; instances = r.instances }) k
        (record { stack = h.stack; instances = h.instances })
    on false = renewed_slot_made g s slot mode r k h

pub renewed_keeps_made : (g : RenewedGiven) → KeepsMade (renewed_hooks g)
renewed_keeps_made g = record {
  go_on = λ s i x at vs label h e.
      renews_made g.given.code g (push (with_status s i x Status.Running) (resumed i x at
      (kept (g.keep x.coroutine at) vs))) at.block label
      (renewed_from (g.flags x.coroutine) (function_at g.given.code x.coroutine) 0)
      (pushed_made g.given.code s i x at (kept (g.keep x.coroutine at) vs) h e);
  place = λ s slot r k h. life_made g s slot s.top.mode r k h;
  start = begin_made g.given;
  close = finish_made g.given.code;
  call = λ s x r e. absurd (cc);
}

-- ---- frames

framed_slot_made : (g : FramedGiven) (s : State) (slot : Slot) (mode : Mode)
    → IsMadeAt (function_of g.given s) slot.alloca → IsMadeState g.given.code s
    → IsMadeState g.given.code (framed_slot g s slot mode)
framed_slot_made g s slot (Mode.Entering from label) k h =
    enters_made g.given.code g (with_slots s (slot ∷ s.top.slots)) from label
    (alloca_from (function_of g.given s) s.top.at) (own_made g.given.code s slot k h)
framed_slot_made g s slot _ k h = own_made g.given.code s slot k h

given_made : (g : FramedGiven) (s : State) (result : Option ℕ) (frame : Value) → IsMadeState g.given.code s
    → StaysMade g.given.code (and_then (begin_given_at g s frame) (λ z. Ok (gives z result frame)))
given_made g s result (Value.Ptr (Pointer.At b o)) h =
    on (has_room g o.bits (own_frame g.given s).size (frame_around g s.instances b o.bits))
  where
    in_block : (c : Bool) → StaysMade g.given.code
        (and_then (and_then (ok_if c Cause.Begin s)
        (λ z. begin_at g.given z (Value.Ptr (Pointer.At b o)) Kind.Stack))
        (λ z. Ok (gives z result (Value.Ptr (Pointer.At b o)))))
    in_block true = begin_at_made g.given s result (Value.Ptr (Pointer.At b o)) Kind.Stack h
    in_block false = tt

    in_frame : (c : Bool) → StaysMade g.given.code
        (and_then (ok_if c Cause.Begin (begun g.given s b o.bits))
        (λ z. Ok (gives z result (Value.Ptr (Pointer.At b o)))))
    in_frame true = begun_made g.given s s.world.memory b o.bits result (Value.Ptr (Pointer.At b o)) h
    in_frame false = tt

    on : (c : Bool) → StaysMade g.given.code
        (and_then (if c then begin_in_frame g s b o else begin_in_block g s b o)
        (λ z. Ok (gives z result (Value.Ptr (Pointer.At b o)))))
    on true = in_frame (is_live_at s.world.memory b)
    on false = in_block ((o.bits == 0) && has_size s.world.memory b (own_frame g.given s).size)
given_made g s result _ h = tt

framed_begin_made : (g : FramedGiven) (s : State) (result : Option ℕ) (memory : Value) (mode : Mode)
    → IsMadeState g.given.code s → StaysMade g.given.code (framed_begin g s result memory mode)
framed_begin_made g s result memory (Mode.GivenRamp frame) h =
    on (is_none s.top.instance && are_finished_at s.instances frame)
  where
    on : (b : Bool) → StaysMade g.given.code
        (and_then (ok_if b Cause.Begin s)
        (λ z. and_then (begin_given_at g z frame) (λ z. Ok (gives z result frame))))
    on true = given_made g s result frame h
    on false = tt
framed_begin_made g s result memory _ h = begin_made g.given s result memory h

ramp_made : (g : FramedGiven) (s : State) (result : Option ℕ) (vs : List Value) (o : Option ℕ)
    (r : Result State Cause) → enter_given g s result vs o ≡ Some r → IsMadeState g.given.code s
    → StaysMade g.given.code r
ramp_made g s result vs None r e h = absurd (cc)
ramp_made g s result vs (Some func) r e h =
    let k : Ok (push s (called g.given.code func vs result (Mode.GivenRamp (last_value vs)))) ≡ r = cc in
    subst (StaysMade g.given.code) k (record { stack = (tt, h.stack); instances = h.instances })

call_made : (g : FramedGiven) (s : State) (x : Fetched) (r : Result State Cause) → given_call g s x ≡ Some r
    → IsMadeState g.given.code s → StaysMade g.given.code r
call_made g s (AtInstr (Instr.Call result must_tail ty (Callee.Named n) args)) r e h =
    ramp_made g s result (arg_values g.given.code s.top.values args) (given_ramp g.given.code n) r e h
call_made g s _ r e h = absurd (cc)

disowned_made : (m : Module) (s : State) (o : Option (ℕ × Instance)) → IsMadeState m s
    → IsMadeState m (disown_given s o)
disowned_made m s None h = h
disowned_made m s (Some (i, x)) h = on (is_stack_block s.world.memory x.block && (x.start == 0))
  where
    on : (b : Bool) → IsMadeState m (if b then with_memory s (disown s.world.memory x.block) else s)
    on true = record { stack = h.stack; instances = h.instances }
    on false = h

pub framed_keeps_made : (g : FramedGiven) → KeepsMade (framed_hooks g)
framed_keeps_made g = record {
  go_on = λ s i x at vs label h e.
      enters_made g.given.code g (push (with_status s i x Status.Running) (resumed i x at
      (reentry_values (function_at g.given.code x.coroutine) (frame_address_of x)))) at.block label
      (alloca_from (function_at g.given.code x.coroutine) 0)
      (pushed_made g.given.code s i x at
      (reentry_values (function_at g.given.code x.coroutine) (frame_address_of x)) h e);
  place = λ s slot r k h. framed_slot_made g s slot s.top.mode k h;
  start = λ s result memory h. framed_begin_made g s result memory s.top.mode h;
  close = λ s h. disowned_made g.given.code (finish s) (own_instance s) (finish_made g.given.code s h);
  call = call_made g;
}
