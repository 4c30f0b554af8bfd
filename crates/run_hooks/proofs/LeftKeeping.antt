-- The hooks of the four meanings change activations and instances as their names say.
use Rattle.std.proofs.Common.{◌≡◌, ℕ, Bool, true, false, List, [], ◌∷◌, ◌++◌, length, Option, Some}
use Rattle.std.proofs.Common.{None, Result, Ok, Err, refl, sym, ap, ◌∙◌, subst, arith}
use Rattle.std.specs.Prelude.{if◌then◌else◌, is_none, not, slice_get, ◌&&◌, ◌==◌}
use Rattle.pass_renewed_proof.specs.ir_base.declared.cause.Cause.{Cause}
use Rattle.pass_renewed_proof.specs.ir_model.Names.{function_at}
use Rattle.pass_renewed_proof.specs.ir_model.declared.instr.Instr.{Instr}
use Rattle.pass_renewed_proof.specs.ir_model.declared.operand.Callee.{Callee}
use Rattle.pass_renewed_proof.specs.ir_paths.declared.point.Point.{Point}
use Rattle.pass_renewed_proof.specs.pass_kept_proof.Kept.{Keep, kept}
use Rattle.pass_renewed_proof.specs.Renewed.{RenewedGiven, framed_of, renew_after, renewed_from, renewed_slot}
use Rattle.pass_renewed_proof.specs.Renewed.{with_life}
use Rattle.pass_renewed_proof.specs.run_framed.Framed.{FramedGiven, alloca_from, are_finished_at, begin_given_at, begin_in_block}
use Rattle.pass_renewed_proof.specs.run_framed.Framed.{begin_in_frame, disown_given, enter_after, enter_given, frame_around}
use Rattle.pass_renewed_proof.specs.run_framed.Framed.{framed_begin, framed_slot, given_call, given_ramp, has_room, has_size}
use Rattle.pass_renewed_proof.specs.run_framed.Framed.{is_stack_block, last_value, reentry_values}
use Rattle.run_hooks.proofs.Left.{own_changed, pushed_length, pushed_more, same_more, same_state, set_awake}
use Rattle.run_hooks.proofs.Left.{set_length, set_more, sleeps_at, then_alike, then_more}
use Rattle.run_hooks.proofs.Reached.{late_instances, own_is}
use Rattle.run_hooks.specs.Left.{HasBegun, HasCalled, HasResumed, IsAlike, KeepsLast}
use Rattle.run_hooks.specs.Meanings.{framed_hooks, hooks_by, kept_hooks, renewed_hooks, source_hooks}
use Rattle.pass_renewed_proof.specs.run_memory.Memory.{disown, killed, own, start}
use Rattle.pass_renewed_proof.specs.run_memory.declared.block.Kind.{Kind}
use Rattle.pass_renewed_proof.specs.run_memory.declared.block.MemoryBlock.{MemoryBlock}
use Rattle.pass_renewed_proof.specs.run_memory.declared.pointer.Pointer.{Pointer}
use Rattle.pass_renewed_proof.specs.run_memory.declared.pointer.Value.{Value}
use Rattle.pass_renewed_proof.specs.run_source.Source.{Continues, begin, begin_at, begun, called, continue, finish, is_among, is_live_at, is_over}
use Rattle.pass_renewed_proof.specs.run_source.Source.{kill_late, new_instance, new_slot, push, resumed, with_new_slots}
use Rattle.pass_renewed_proof.specs.run_source.State.{frame_address_of, function_of, gives, own_facts, own_frame, own_instance}
use Rattle.pass_renewed_proof.specs.run_source.State.{with_memory, with_slots, with_status}
use Rattle.pass_renewed_proof.specs.run_source.declared.state.Instance.{Instance}
use Rattle.pass_renewed_proof.specs.run_source.declared.state.Mode.{Mode}
use Rattle.pass_renewed_proof.specs.run_source.declared.state.State.{State}
use Rattle.pass_renewed_proof.specs.run_source.declared.state.Status.{Status}
use Rattle.pass_renewed_proof.specs.run_source_tables.Given.{Given}
use Rattle.pass_renewed_proof.specs.run_step.Results.{and_then, found, ok_if}
use Rattle.pass_renewed_proof.specs.run_step.Step.{AtInstr, Fetched, block_of}
use Rattle.pass_renewed_proof.specs.run_step.Values.{Env, arg_values}
use Rattle.pass_renewed_proof.specs.run_step.declared.world.Slot.{Slot}

-- ---- slots

late_alike : (s : State) (ramp : List ℕ) (o : Option (ℕ × Instance)) (slot : Slot)
    → IsAlike s (kill_late ramp o s slot)
late_alike s ramp None slot = same_state s
late_alike s ramp (Some p) slot = on (is_over p.1 && not (is_among ramp slot))
  where
    on : (b : Bool) → IsAlike s (if b then with_memory s (killed s.world.memory slot.block) else s)
    on true = record { instance = refl; left = refl; below = refl; instances = same_more s.instances }
    on false = same_state s

slots_alike : (s : State) (ramp : List ℕ) (o : Option (ℕ × Instance)) (slots : List Slot)
    → ((i : ℕ) (x : Instance) → o ≡ Some (i, x) → slice_get s.instances i ≡ Some x)
    → IsAlike s (with_new_slots ramp o s slots)
slots_alike s ramp None slots is =
    record { instance = refl; left = refl; below = refl; instances = same_more s.instances }
slots_alike s ramp (Some p) slots is = record {
  instance = refl;
  left = refl;
  below = refl;
  instances = set_more s.instances p.0 (record p.1 { slots = _ })
      (λ e. sym (sleeps_at s.instances p.0 p.1 (is p.0 p.1 refl)) ∙ e);
}

new_slot_alike : (g : Given) (s : State) (slot : Slot) → IsAlike s (new_slot g s slot)
new_slot_alike g s slot =
    let ramp = (own_facts g s).ramp_slots in
    then_alike (late_alike s ramp (own_instance s) slot)
    (slots_alike (kill_late ramp (own_instance s) s slot) ramp (own_instance s) (slot ∷ [])
    (λ i x e. ap (λ (xs : List Instance). slice_get xs i) (late_instances s ramp (own_instance s) slot)
    ∙ own_is s i x e))

-- ---- begin, end and resume

-- what a begin gives, if it gives a state
abbrev Begins : State → Result State Cause → Type 0
Begins s (Err cause) = Unit {0}
Begins s (Ok t) = HasBegun s t

begins : (s : State) (r : Result State Cause) (t : State) → Begins s r → r ≡ Ok t → HasBegun s t
begins s (Err cause) t b e = absurd (cc)
begins s (Ok u) t b e = let k : u ≡ t = cc in subst (HasBegun s) k b

begun_begins : (g : Given) (s : State) (memory : List MemoryBlock) (b from : ℕ) (result : Option ℕ) (mem : Value)
    → HasBegun s (gives (begun g (with_memory s memory) b from) result mem)
begun_begins g s memory b from result mem =
    let x : Instance = new_instance s.top.func b from in
    let y : Instance = record x { slots = _ } in
    let more = set_more (s.instances ++ x ∷ []) (length s.instances) y (λ e. refl) in
    record {
      instance = refl;
      below = refl;
      more =
          let k = set_length (s.instances ++ x ∷ []) (length s.instances) y in
          let l = pushed_length s.instances x in omega arith;
      instances = then_more (pushed_more s.instances x refl) more;
    }

begin_at_begins : (g : Given) (s : State) (result : Option ℕ) (mem : Value) (kind : Kind)
    → Begins s (and_then (begin_at g s mem kind) (λ z. Ok (gives z result mem)))
begin_at_begins g s result mem kind = by (own s.world.memory mem (own_frame g s).size kind)
  where
    last : (memory : List MemoryBlock) (o : Option ℕ)
        → Begins s (and_then (and_then (found Cause.Begin o) (λ b. Ok (begun g (with_memory s memory) b 0)))
        (λ z. Ok (gives z result mem)))
    last memory None = tt
    last memory (Some b) = begun_begins g s memory b 0 result mem

    by : (o : Result (List MemoryBlock) Cause)
        → Begins s (and_then (and_then o
        (λ memory. and_then (found Cause.Begin (block_of mem))
        (λ b. Ok (begun g (with_memory s memory) b 0)))) (λ z. Ok (gives z result mem)))
    by (Err cause) = tt
    by (Ok memory) = last memory (block_of mem)

begin_begins : (g : Given) (s : State) (result : Option ℕ) (mem : Value) → Begins s (begin g s result mem)
begin_begins g s result mem = on (is_none s.top.instance)
  where
    on : (b : Bool) → Begins s (and_then (ok_if b Cause.Begin s)
        (λ z. and_then (begin_at g z mem Kind.Allocator) (λ z. Ok (gives z result mem))))
    on true = begin_at_begins g s result mem Kind.Allocator
    on false = tt

finish_alike : (s : State) → IsAlike s (finish s)
finish_alike s =
    let a = own_changed s (λ x. record x { status = Status.Finished }) (λ x k. refl) (own_instance s)
    (λ i x e. own_is s i x e) in
    record { instance = a.instance; left = a.left; below = a.below; instances = a.instances }

pushed_resumes : (s : State) (i : ℕ) (x : Instance) (at : Point) (vs : Env)
    → HasResumed s i (push (with_status s i x Status.Running) (resumed i x at vs))
pushed_resumes s i x at vs = record {
  instance = refl;
  below = refl;
  instances = set_more s.instances i (record x { status = Status.Running }) (λ e. refl);
  awake = set_awake s.instances i (record x { status = Status.Running }) refl;
}

-- ---- sources

hooks_keep_last : (g : Given) (go : Continues)
    → ((s : State) (i : ℕ) (x : Instance) (at : Point) (vs : Env) (label : ℕ)
    → HasResumed s i (go s i x at vs label)) → KeepsLast (hooks_by g go)
hooks_keep_last g go goes = record {
  go_on = goes;
  place = new_slot_alike g;
  start = λ s result memory t e. begins s (begin g s result memory) t (begin_begins g s result memory) e;
  close = finish_alike;
  call = λ s x t e. absurd (cc);
}

continue_resumes : (g : Given) (s : State) (i : ℕ) (x : Instance) (at : Point) (vs : Env) (label : ℕ)
    → HasResumed s i (continue g s i x at vs label)
continue_resumes g s i x at vs label =
    let a = pushed_resumes s i x at vs in
    record { instance = refl; below = refl; instances = a.instances; awake = a.awake }

pub source_keeps_last : (g : Given) → KeepsLast (source_hooks g)
source_keeps_last g = hooks_keep_last g (continue g) (continue_resumes g)

pub kept_keeps_last : (g : Given) (keep : Keep) → KeepsLast (kept_hooks g keep)
kept_keeps_last g keep = hooks_keep_last g _
    (λ s i x at vs label. continue_resumes g s i x at (kept (keep x.coroutine at) vs) label)

-- ---- entry of a label, after allocas

enters_alike : (g : FramedGiven) (s : State) (from label : ℕ) (o : Option Point)
    → IsAlike s (enter_after g s from label o)
enters_alike g s from label (Some p) =
    record { instance = refl; left = refl; below = refl; instances = same_more s.instances }
enters_alike g s from label None =
    record { instance = refl; left = refl; below = refl; instances = same_more s.instances }

renews_alike : (g : RenewedGiven) (s : State) (from label : ℕ) (o : Option Point)
    → IsAlike s (renew_after g s from label o)
renews_alike g s from label (Some p) = enters_alike (framed_of g) s from label (Some p)
renews_alike g s from label None =
    record { instance = refl; left = refl; below = refl; instances = same_more s.instances }

-- a resumed activation, and one like it
resumed_alike : (s : State) (i : ℕ) (x : Instance) (at : Point) (vs : Env) (t : State)
    → IsAlike (push (with_status s i x Status.Running) (resumed i x at vs)) t → HasResumed s i t
resumed_alike s i x at vs t a =
    let r = pushed_resumes s i x at vs in
    record {
      instance = a.instance;
      below = a.below;
      instances = then_more r.instances a.instances;
      awake = a.instances.awake i r.awake;
    }

-- ---- slots that are made anew

life_alike : (g : RenewedGiven) (s : State) (slot : Slot) → IsAlike s (with_life g s slot)
life_alike g s slot = on (g.flags s.top.func slot.alloca)
  where
    on : (b : Bool) → IsAlike s (if b then with_memory s (start s.world.memory slot.block) else s)
    on true = record { instance = refl; left = refl; below = refl; instances = same_more s.instances }
    on false = same_state s

own_slot_alike : (s : State) (slot : Slot) → IsAlike s (with_slots s (slot ∷ s.top.slots))
own_slot_alike s slot =
    record { instance = refl; left = refl; below = refl; instances = same_more s.instances }

renewed_slot_alike : (g : RenewedGiven) (s : State) (slot : Slot) (mode : Mode)
    → IsAlike s (renewed_slot g s slot mode)
renewed_slot_alike g s slot (Mode.Entering from label) = then_alike (own_slot_alike s slot)
    (renews_alike g (with_slots s (slot ∷ s.top.slots)) from label
    (renewed_from (g.flags s.top.func) (function_of g.given s) s.top.at))
renewed_slot_alike g s slot _ = new_slot_alike g.given s slot

pub renewed_keeps_last : (g : RenewedGiven) → KeepsLast (renewed_hooks g)
renewed_keeps_last g = record {
  go_on = λ s i x at vs label. resumed_alike s i x at (kept (g.keep x.coroutine at) vs) _
      (renews_alike g _ at.block label (renewed_from (g.flags x.coroutine) (function_at g.given.code x.coroutine) 0));
  place = λ s slot. then_alike (life_alike g s slot) (renewed_slot_alike g (with_life g s slot) slot s.top.mode);
  start = λ s result memory t e.
      begins s (begin g.given s result memory) t (begin_begins g.given s result memory) e;
  close = finish_alike;
  call = λ s x t e. absurd (cc);
}

-- ---- frames

framed_slot_alike : (g : FramedGiven) (s : State) (slot : Slot) (mode : Mode)
    → IsAlike s (framed_slot g s slot mode)
framed_slot_alike g s slot (Mode.Entering from label) = then_alike (own_slot_alike s slot)
    (enters_alike g (with_slots s (slot ∷ s.top.slots)) from label (alloca_from (function_of g.given s) s.top.at))
framed_slot_alike g s slot _ = own_slot_alike s slot

given_begins : (g : FramedGiven) (s : State) (result : Option ℕ) (frame : Value)
    → Begins s (and_then (begin_given_at g s frame) (λ z. Ok (gives z result frame)))
given_begins g s result (Value.Ptr (Pointer.At b o)) =
    on (has_room g o.bits (own_frame g.given s).size (frame_around g s.instances b o.bits))
  where
    in_block : (c : Bool) → Begins s
        (and_then (and_then (ok_if c Cause.Begin s)
        (λ z. begin_at g.given z (Value.Ptr (Pointer.At b o)) Kind.Stack))
        (λ z. Ok (gives z result (Value.Ptr (Pointer.At b o)))))
    in_block true = begin_at_begins g.given s result (Value.Ptr (Pointer.At b o)) Kind.Stack
    in_block false = tt

    in_frame : (c : Bool) → Begins s
        (and_then (ok_if c Cause.Begin (begun g.given s b o.bits))
        (λ z. Ok (gives z result (Value.Ptr (Pointer.At b o)))))
    in_frame true = begun_begins g.given s s.world.memory b o.bits result (Value.Ptr (Pointer.At b o))
    in_frame false = tt

    on : (c : Bool) → Begins s
        (and_then (if c then begin_in_frame g s b o else begin_in_block g s b o)
        (λ z. Ok (gives z result (Value.Ptr (Pointer.At b o)))))
    on true = in_frame (is_live_at s.world.memory b)
    on false = in_block ((o.bits == 0) && has_size s.world.memory b (own_frame g.given s).size)
given_begins g s result _ = tt

framed_begins : (g : FramedGiven) (s : State) (result : Option ℕ) (memory : Value) (mode : Mode)
    → Begins s (framed_begin g s result memory mode)
framed_begins g s result memory (Mode.GivenRamp frame) =
    on (is_none s.top.instance && are_finished_at s.instances frame)
  where
    on : (b : Bool) → Begins s
        (and_then (ok_if b Cause.Begin s)
        (λ z. and_then (begin_given_at g z frame) (λ z. Ok (gives z result frame))))
    on true = given_begins g s result frame
    on false = tt
framed_begins g s result memory _ = begin_begins g.given s result memory

ramp_calls : (g : FramedGiven) (s : State) (result : Option ℕ) (vs : List Value) (o : Option ℕ) (t : State)
    → enter_given g s result vs o ≡ Some (Ok t) → HasCalled s t
ramp_calls g s result vs None t e = absurd (cc)
ramp_calls g s result vs (Some func) t e =
    let k : push s (called g.given.code func vs result (Mode.GivenRamp (last_value vs))) ≡ t = cc in
    subst (HasCalled s) k (record { instance = refl; below = refl; instances = same_more s.instances })

call_calls : (g : FramedGiven) (s : State) (x : Fetched) (t : State) → given_call g s x ≡ Some (Ok t)
    → HasCalled s t
call_calls g s (AtInstr (Instr.Call result must_tail ty (Callee.Named n) args)) t e =
    ramp_calls g s result (arg_values g.given.code s.top.values args) (given_ramp g.given.code n) t e
call_calls g s _ t e = absurd (cc)

disown_alike : (s : State) (o : Option (ℕ × Instance)) → IsAlike s (disown_given s o)
disown_alike s None = same_state s
disown_alike s (Some (i, x)) = on (is_stack_block s.world.memory x.block && (x.start == 0))
  where
    on : (b : Bool) → IsAlike s (if b then with_memory s (disown s.world.memory x.block) else s)
    on true = record { instance = refl; left = refl; below = refl; instances = same_more s.instances }
    on false = same_state s

pub framed_keeps_last : (g : FramedGiven) → KeepsLast (framed_hooks g)
framed_keeps_last g = record {
  go_on = λ s i x at vs label. resumed_alike s i x at
      (reentry_values (function_at g.given.code x.coroutine) (frame_address_of x)) _
      (enters_alike g _ at.block label (alloca_from (function_at g.given.code x.coroutine) 0));
  place = λ s slot. framed_slot_alike g s slot s.top.mode;
  start = λ s result memory t e.
      begins s (framed_begin g s result memory s.top.mode) t (framed_begins g s result memory s.top.mode) e;
  close = λ s. then_alike (finish_alike s) (disown_alike (finish s) (own_instance s));
  call = call_calls g;
}
