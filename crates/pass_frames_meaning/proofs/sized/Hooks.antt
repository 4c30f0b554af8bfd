-- The hooks that make slots anew keep what holds of each slot, and so do those of a source.
use Rattle.std.proofs.Common.{◌≡◌, ℕ, Bool, true, false, List, [], ◌∷◌, ◌++◌, length, Option, Some, None, Result}
use Rattle.std.proofs.Common.{Ok, Err, refl, sym, ap, ◌∙◌, subst}
use Rattle.std.specs.Prelude.{if◌then◌else◌, filter, is_none, not, slice_get, ◌&&◌, ◌==◌}
use Rattle.pass_frames_proof.specs.ir_base.declared.cause.Cause.{Cause}
use Rattle.pass_frames_proof.specs.ir_model.Names.{function_at}
use Rattle.pass_frames_proof.specs.ir_model.declared.instr.Instr.{Instr}
use Rattle.pass_frames_proof.specs.ir_model.declared.module.Function.{Function}
use Rattle.pass_frames_proof.specs.ir_model.declared.module.Module.{Module}
use Rattle.pass_frames_proof.specs.ir_model.declared.operand.Callee.{Callee}
use Rattle.pass_frames_proof.specs.ir_paths.declared.point.Point.{Point}
use Rattle.pass_frames_proof.specs.pass_kept_proof.Kept.{Keep, kept}
use Rattle.pass_frames_proof.specs.pass_renewed_proof.Renewed.{RenewedGiven, renew_after, renewed_from, renewed_slot, with_life}
use Rattle.pass_frames_proof.specs.run_framed.Framed.{FramedGiven, alloca_from, are_finished_at, begin_given_at, begin_in_block}
use Rattle.pass_frames_proof.specs.run_framed.Framed.{begin_in_frame, disown_given, enter_after, enter_given, frame_around}
use Rattle.pass_frames_proof.specs.run_framed.Framed.{framed_begin, framed_slot, given_call, given_ramp, has_room, has_size}
use Rattle.pass_frames_proof.specs.run_framed.Framed.{is_stack_block, last_value, reentry_values}
use Rattle.pass_renewed_meaning.proofs.run_hooks.Reached.{late_instances, own_function, own_is}
use Rattle.pass_renewed_meaning.specs.run_hooks.Meanings.{framed_hooks, hooks_by, kept_hooks, renewed_hooks, source_hooks}
use Rattle.pass_renewed_meaning.specs.run_hooks.Reached.{IsReachedState}
use Rattle.pass_frames_proof.specs.run_memory.Memory.{disown, killed, own, start}
use Rattle.pass_frames_proof.specs.run_memory.declared.block.Kind.{Kind}
use Rattle.pass_frames_proof.specs.run_memory.declared.block.MemoryBlock.{MemoryBlock}
use Rattle.pass_frames_proof.specs.run_memory.declared.pointer.Pointer.{Pointer}
use Rattle.pass_frames_proof.specs.run_memory.declared.pointer.Value.{Value}
use Rattle.pass_frames_meaning.proofs.sized.Slotwise.{changed_kept, kept_at, kept_filtered, kept_joined, kept_more}
use Rattle.pass_frames_meaning.proofs.sized.Slotwise.{kept_set}
use Rattle.pass_frames_meaning.proofs.sized.Slotwise.{own_changed}
use Rattle.pass_frames_meaning.specs.Sized.{AreSlotwise, IsSlotwise, KeepsSlotwise, StaysSlotwise}
use Rattle.pass_frames_proof.specs.run_source.Source.{Continues, begin, begin_at, begun, called, continue, finish, is_among, is_live_at}
use Rattle.pass_frames_proof.specs.run_source.Source.{is_over, kill_late, new_instance, new_slot, push, resumed, with_new_slots}
use Rattle.pass_frames_proof.specs.run_source.State.{frame_address_of, function_of, gives, own_facts, own_frame, own_instance}
use Rattle.pass_frames_proof.specs.run_source.State.{with_memory, with_slots, with_status}
use Rattle.pass_frames_proof.specs.run_source.declared.state.Instance.{Instance}
use Rattle.pass_frames_proof.specs.run_source.declared.state.Mode.{Mode}
use Rattle.pass_frames_proof.specs.run_source.declared.state.State.{State}
use Rattle.pass_frames_proof.specs.run_source.declared.state.Status.{Status}
use Rattle.pass_frames_proof.specs.run_source_tables.Given.{Given}
use Rattle.pass_frames_proof.specs.run_step.Results.{and_then, found, ok_if}
use Rattle.pass_frames_proof.specs.run_step.Step.{AtInstr, Fetched, block_of}
use Rattle.pass_frames_proof.specs.run_step.Values.{Env, arg_values}
use Rattle.pass_frames_proof.specs.run_step.declared.world.Slot.{Slot}

module _ (W : Function → Slot → Type 0) where
  -- ---- slots

  own_kept : (m : Module) (s : State) (slot : Slot) → W (function_at m s.top.func) slot → IsSlotwise W m s
      → IsSlotwise W m (with_slots s (slot ∷ s.top.slots))
  own_kept m s slot k h = record { stack = ((k, h.stack.0), h.stack.1); instances = h.instances }

  late_kept : (m : Module) (s : State) (ramp : List ℕ) (o : Option (ℕ × Instance)) (slot : Slot) → IsSlotwise W m s
      → IsSlotwise W m (kill_late ramp o s slot)
  late_kept m s ramp None slot h = h
  late_kept m s ramp (Some p) slot h = on (is_over p.1 && not (is_among ramp slot))
    where
      on : (b : Bool) → IsSlotwise W m (if b then with_memory s (killed s.world.memory slot.block) else s)
      on true = record { stack = h.stack; instances = h.instances }
      on false = h

  -- slots more are of the activation's function, which is the instance's
  slots_kept : (m : Module) (s : State) (ramp : List ℕ) (o : Option (ℕ × Instance)) (slots : List Slot)
      → ((i : ℕ) (x : Instance) → o ≡ Some (i, x) → (slice_get s.instances i ≡ Some x) × (x.coroutine ≡ s.top.func))
      → AreSlotwise W (function_at m s.top.func) slots → IsSlotwise W m s
      → IsSlotwise W m (with_new_slots ramp o s slots)
  slots_kept m s ramp None slots is k h = record {
    stack = (kept_joined W (function_at m s.top.func) slots s.top.slots k h.stack.0, h.stack.1);
    instances = h.instances;
  }
  slots_kept m s ramp (Some (i, x)) slots is k h =
      let e = is i x refl in
      record {
        stack = (
          kept_joined W (function_at m s.top.func) (filter (is_among ramp) slots) s.top.slots
              (kept_filtered W (function_at m s.top.func) (is_among ramp) slots k) h.stack.0,
          h.stack.1,
        );
        instances = kept_set W m s.instances i
            (record x { slots = filter (λ slot. not (is_among ramp slot)) slots ++ x.slots })
            (kept_joined W (function_at m x.coroutine) (filter (λ slot. not (is_among ramp slot)) slots) x.slots
            (subst (λ (func : ℕ). AreSlotwise W (function_at m func)
            (filter (λ slot. not (is_among ramp slot)) slots)) (sym e.1)
            (kept_filtered W (function_at m s.top.func) (λ slot. not (is_among ramp slot)) slots k))
            (kept_at W m s.instances i x e.0 h.instances)) h.instances;
      }

  new_slot_kept : (g : Given) (s : State) (slot : Slot) → IsReachedState g s
      → W (function_of g s) slot → IsSlotwise W g.code s → IsSlotwise W g.code (new_slot g s slot)
  new_slot_kept g s slot r k h =
      slots_kept g.code (kill_late (own_facts g s).ramp_slots (own_instance s) s slot) (own_facts g s).ramp_slots
      (own_instance s) (slot ∷ [])
      (λ i x e. (
        ap (λ (xs : List Instance). slice_get xs i)
            (late_instances s (own_facts g s).ramp_slots (own_instance s) slot) ∙ own_is s i x e,
        own_function g s r i x e ∙ sym (late_func (own_instance s)),
      ))
      (subst (λ (func : ℕ). AreSlotwise W (function_at g.code func) (slot ∷ [])) (sym (late_func (own_instance s)))
      (k, tt))
      (late_kept g.code s (own_facts g s).ramp_slots (own_instance s) slot h)
    where
      late_func : (o : Option (ℕ × Instance)) → (kill_late (own_facts g s).ramp_slots o s slot).top.func ≡ s.top.func
      late_func None = refl
      late_func (Some p) = on (is_over p.1 && not (is_among (own_facts g s).ramp_slots slot))
        where
          on : (b : Bool) → (if b then with_memory s (killed s.world.memory slot.block) else s).top.func ≡ s.top.func
          on true = refl
          on false = refl

  -- ---- begin

  begun_kept : (g : Given) (s : State) (memory : List MemoryBlock) (b from : ℕ) (result : Option ℕ) (mem : Value)
      → IsSlotwise W g.code s → IsSlotwise W g.code (gives (begun g (with_memory s memory) b from) result mem)
  begun_kept g s memory b from result mem h =
      let f = function_at g.code s.top.func in
      let ramp = (own_facts g s).ramp_slots in
      record {
        stack = (
          kept_joined W f (filter (is_among ramp) s.top.slots) []
              (kept_filtered W f (is_among ramp) s.top.slots h.stack.0) tt,
          h.stack.1,
        );
        instances = kept_set W g.code (s.instances ++ new_instance s.top.func b from ∷ []) (length s.instances) _
            (kept_joined W f (filter (λ slot. not (is_among ramp slot)) s.top.slots) []
            (kept_filtered W f (λ slot. not (is_among ramp slot)) s.top.slots h.stack.0) tt)
            (kept_more W g.code s.instances (new_instance s.top.func b from) tt h.instances);
      }

  begin_at_kept : (g : Given) (s : State) (result : Option ℕ) (mem : Value) (kind : Kind) → IsSlotwise W g.code s
      → StaysSlotwise W g.code (and_then (begin_at g s mem kind) (λ z. Ok (gives z result mem)))
  begin_at_kept g s result mem kind h = by (own s.world.memory mem (own_frame g s).size kind)
    where
      last : (memory : List MemoryBlock) (o : Option ℕ)
          → StaysSlotwise W g.code (and_then
          (and_then (found Cause.Begin o) (λ b. Ok (begun g (with_memory s memory) b 0)))
          (λ z. Ok (gives z result mem)))
      last memory None = tt
      last memory (Some b) = begun_kept g s memory b 0 result mem h

      by : (o : Result (List MemoryBlock) Cause)
          → StaysSlotwise W g.code (and_then (and_then o
          (λ memory. and_then (found Cause.Begin (block_of mem))
          (λ b. Ok (begun g (with_memory s memory) b 0)))) (λ z. Ok (gives z result mem)))
      by (Err cause) = tt
      by (Ok memory) = last memory (block_of mem)

  begin_kept : (g : Given) (s : State) (result : Option ℕ) (mem : Value) → IsSlotwise W g.code s
      → StaysSlotwise W g.code (begin g s result mem)
  begin_kept g s result mem h = on (is_none s.top.instance)
    where
      on : (b : Bool) → StaysSlotwise W g.code (and_then (ok_if b Cause.Begin s)
          (λ z. and_then (begin_at g z mem Kind.Allocator) (λ z. Ok (gives z result mem))))
      on true = begin_at_kept g s result mem Kind.Allocator h
      on false = tt

  finish_kept : (m : Module) (s : State) → IsSlotwise W m s → IsSlotwise W m (finish s)
  finish_kept m s h =
      let k = own_changed W m s h (λ x. record x { status = Status.Finished }) (λ x. (refl, refl)) (own_instance s)
      (λ i x e. own_is s i x e) in
      record { stack = k.stack; instances = k.instances }

  pushed_kept : (m : Module) (s : State) (i : ℕ) (x : Instance) (at : Point) (vs : Env) → IsSlotwise W m s
      → slice_get s.instances i ≡ Some x
      → IsSlotwise W m (push (with_status s i x Status.Running) (resumed i x at vs))
  pushed_kept m s i x at vs h e =
      let k = changed_kept W m s h i x (record x { status = Status.Running }) e refl refl in
      record { stack = (tt, k.stack); instances = k.instances }

  -- ---- entry of a label, after allocas

  renews_kept : (m : Module) (g : RenewedGiven) (s : State) (from label : ℕ) (o : Option Point) → IsSlotwise W m s
      → IsSlotwise W m (renew_after g s from label o)
  renews_kept m g s from label (Some p) h = record { stack = h.stack; instances = h.instances }
  renews_kept m g s from label None h = record { stack = h.stack; instances = h.instances }

  -- ---- slots that are made anew

  renewed_slot_kept : (g : RenewedGiven) (s : State) (slot : Slot) (mode : Mode) → IsReachedState g.given s
      → W (function_of g.given s) slot → IsSlotwise W g.given.code s
      → IsSlotwise W g.given.code (renewed_slot g s slot mode)
  renewed_slot_kept g s slot (Mode.Entering from label) r k h =
      renews_kept g.given.code g (with_slots s (slot ∷ s.top.slots)) from label
      (renewed_from (g.flags s.top.func) (function_of g.given s) s.top.at) (own_kept g.given.code s slot k h)
  renewed_slot_kept g s slot _ r k h = new_slot_kept g.given s slot r k h

  life_kept : (g : RenewedGiven) (s : State) (slot : Slot) (mode : Mode) → IsReachedState g.given s
      → W (function_of g.given s) slot → IsSlotwise W g.given.code s
      → IsSlotwise W g.given.code (renewed_slot g (with_life g s slot) slot mode)
  life_kept g s slot mode r k h = on (g.flags s.top.func slot.alloca)
    where
      on : (b : Bool) → IsSlotwise W g.given.code
          (renewed_slot g (if b then with_memory s (start s.world.memory slot.block) else s) slot mode)
      on true = renewed_slot_kept g (with_memory s (start s.world.memory slot.block)) slot mode
          (record { top = r.top; below = r.below; instances = r.instances }) k
          (record { stack = h.stack; instances = h.instances })
      on false = renewed_slot_kept g s slot mode r k h

  pub renewed_keeps_slots : (g : RenewedGiven) → KeepsSlotwise W (renewed_hooks g)
  renewed_keeps_slots g = record {
    go_on = λ s i x at vs label h e.
        renews_kept g.given.code g (push (with_status s i x Status.Running) (resumed i x at
        (kept (g.keep x.coroutine at) vs))) at.block label
        (renewed_from (g.flags x.coroutine) (function_at g.given.code x.coroutine) 0)
        (pushed_kept g.given.code s i x at (kept (g.keep x.coroutine at) vs) h e);
    place = λ s slot r k h. life_kept g s slot s.top.mode r k h;
    start = begin_kept g.given;
    close = finish_kept g.given.code;
    call = λ s x r e. absurd (cc);
  }

  -- a source's do, of which a resume hands on some values
  pub kept_keeps_slots : (g : Given) (keep : Keep) → KeepsSlotwise W (kept_hooks g keep)
  kept_keeps_slots g keep = record {
    go_on = λ s i x at vs label h e.
        let k = pushed_kept g.code s i x at (kept (keep x.coroutine at) vs) h e in
        record { stack = k.stack; instances = k.instances };
    place = λ s slot r k h. new_slot_kept g s slot r k h;
    start = begin_kept g;
    close = finish_kept g.code;
    call = λ s x r e. absurd (cc);
  }
