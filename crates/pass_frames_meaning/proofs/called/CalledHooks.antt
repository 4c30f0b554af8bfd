-- The hooks of the two meanings between which frames are built leave activations below behind their calls.
use Rattle.std.proofs.Common.{◌≡◌, ℕ, zero, suc, Bool, true, false, List, [], ◌∷◌, length, Option, Some, None, Result, Ok, Err, refl, sym, ◌∙◌, subst, if◌then◌else◌, ◌&&◌, ◌==◌}
use Rattle.std.specs.Prelude.{is_none, not}
use Rattle.pass_frames_proof.specs.ir_base.declared.cause.Cause.{Cause}
use Rattle.pass_frames_proof.specs.ir_base.declared.outcome.Word.{Word}
use Rattle.pass_frames_proof.specs.ir_model.Names.{function_at}
use Rattle.pass_frames_proof.specs.ir_paths.declared.point.Point.{Point}
use Rattle.pass_frames_meaning.proofs.called.Called.{step_called}
use Rattle.pass_frames_meaning.specs.Called.{FitsMode, IsCalledState, IsOnSame, IsResumedOn, KeepsCalled}
use Rattle.pass_frames_proof.specs.pass_kept_proof.Kept.{kept}
use Rattle.pass_frames_proof.specs.pass_renewed_proof.Renewed.{RenewedGiven, renew_after, renewed_from, renewed_slot, with_life}
use Rattle.pass_frames_proof.specs.run_framed.Framed.{FramedGiven, alloca_from, are_finished_at, begin_given_at, begin_in_block, begin_in_frame, disown_given, enter_after, framed_begin, framed_slot, frame_around, given_call, has_room, has_size, is_stack_block, reentry_values}
use Rattle.pass_renewed_meaning.specs.run_hooks.Away.{IsPlacedState}
use Rattle.pass_renewed_meaning.specs.run_hooks.Hooks.{Hooks, hooked_state_at, step_of}
use Rattle.pass_renewed_meaning.specs.run_hooks.Meanings.{framed_hooks, renewed_hooks}
use Rattle.pass_frames_proof.specs.run_memory.Memory.{disown, killed, own, start}
use Rattle.pass_frames_proof.specs.run_memory.declared.block.Kind.{Kind}
use Rattle.pass_frames_proof.specs.run_memory.declared.block.MemoryBlock.{MemoryBlock}
use Rattle.pass_frames_proof.specs.run_memory.declared.pointer.Pointer.{Pointer}
use Rattle.pass_frames_proof.specs.run_memory.declared.pointer.Value.{Value}
use Rattle.pass_frames_proof.specs.run_source.Source.{begin, begin_at, begun, change_own, finish, first_state, is_among, is_live_at, is_over, kill_late, new_slot, push, resumed, slots_of, with_new_slots}
use Rattle.pass_frames_proof.specs.run_source.State.{frame_address_of, function_of, gives, own_facts, own_frame, own_instance, with_memory, with_slots, with_status}
use Rattle.pass_frames_proof.specs.run_source.declared.state.Instance.{Instance}
use Rattle.pass_frames_proof.specs.run_source.declared.state.Mode.{Mode}
use Rattle.pass_frames_proof.specs.run_source.declared.state.State.{State}
use Rattle.pass_frames_proof.specs.run_source.declared.state.Status.{Status}
use Rattle.pass_frames_proof.specs.run_source_tables.Given.{Given}
use Rattle.pass_frames_proof.specs.run_step.Results.{and_then, found, ok_if}
use Rattle.pass_frames_proof.specs.run_step.Runs.{iterate}
use Rattle.pass_frames_proof.specs.run_step.Step.{block_of, fetch}
use Rattle.pass_frames_proof.specs.run_step.Values.{Env}
use Rattle.pass_frames_proof.specs.run_step.declared.world.Slot.{Slot}
use Rattle.pass_renewed_meaning.specs.run_types.Rules.{KeepsAllTypes}

fits_some : (o : Option ℕ) (i : ℕ) (mode : Mode) → FitsMode o mode → FitsMode (Some i) mode
fits_some o i Mode.Plain h = tt
fits_some o i Mode.Ramp h = tt
fits_some o i Mode.Resumed h = tt
fits_some o i (Mode.GivenRamp frame) h = h
fits_some o i (Mode.Entering from label) h = refl

itself : (s : State) → IsOnSame s s
itself s = record { below = refl; result = refl; mode = λ h. h }

then_same : (s t u : State) → IsOnSame s t → IsOnSame t u → IsOnSame s u
then_same s t u a b = record {
  below = b.below ∙ a.below;
  result = b.result ∙ a.result;
  mode = λ h. b.mode (a.mode h);
}

-- ---- slots and begin

new_slot_same : (g : Given) (s : State) (slot : Slot) → IsOnSame s (new_slot g s slot)
new_slot_same g s slot = by (own_instance s)
  where
    ramp : List ℕ
    ramp = (own_facts g s).ramp_slots

    by : (o : Option (ℕ × Instance)) → IsOnSame s (with_new_slots ramp o (kill_late ramp o s slot) (slot ∷ []))
    by None = record { below = refl; result = refl; mode = λ h. h }
    by (Some p) = on (is_over p.1 && not (is_among ramp slot))
      where
        on : (b : Bool) → IsOnSame s (with_new_slots ramp (Some p)
            (if b then with_memory s (killed s.world.memory slot.block) else s) (slot ∷ []))
        on true = record { below = refl; result = refl; mode = λ h. h }
        on false = record { below = refl; result = refl; mode = λ h. h }

begun_same : (g : Given) (s : State) (memory : List MemoryBlock) (b from : ℕ) (result : Option ℕ) (v : Value)
    → IsOnSame s (gives (begun g (with_memory s memory) b from) result v)
begun_same g s memory b from result v = record {
  below = refl;
  result = refl;
  mode = fits_some s.top.instance (length s.instances) s.top.mode;
}

abbrev Same : State → Result State Cause → Type 0
Same s (Err cause) = Unit {0}
Same s (Ok t) = IsOnSame s t

same_by : (s : State) (r : Result State Cause) (t : State) → Same s r → r ≡ Ok t → IsOnSame s t
same_by s (Err cause) t b e = absurd (cc)
same_by s (Ok u) t b e = let k : u ≡ t = cc in subst (IsOnSame s) k b

begin_at_same : (g : Given) (s : State) (result : Option ℕ) (p v : Value) (kind : Kind)
    → Same s (and_then (begin_at g s p kind) (λ t. Ok (gives t result v)))
begin_at_same g s result p v kind = by (own s.world.memory p (own_frame g s).size kind)
  where
    last : (memory : List MemoryBlock) (o : Option ℕ)
        → Same s (and_then (and_then (found Cause.Begin o) (λ b. Ok (begun g (with_memory s memory) b 0)))
        (λ t. Ok (gives t result v)))
    last memory None = tt
    last memory (Some b) = begun_same g s memory b 0 result v

    by : (r : Result (List MemoryBlock) Cause)
        → Same s (and_then (and_then r (λ memory. and_then (found Cause.Begin (block_of p)) (λ b.
        Ok (begun g (with_memory s memory) b 0)))) (λ t. Ok (gives t result v)))
    by (Err cause) = tt
    by (Ok memory) = last memory (block_of p)

begin_same : (g : Given) (s : State) (result : Option ℕ) (p : Value) → Same s (begin g s result p)
begin_same g s result p = on (is_none s.top.instance)
  where
    on : (b : Bool) → Same s (and_then (ok_if b Cause.Begin s)
        (λ u. and_then (begin_at g u p Kind.Allocator) (λ t. Ok (gives t result p))))
    on true = begin_at_same g s result p p Kind.Allocator
    on false = tt

changed_same : (s : State) (f : Instance → Instance) (memory : List MemoryBlock) (o : Option (ℕ × Instance))
    → IsOnSame s (with_memory (change_own s f o) memory)
changed_same s f memory None = record { below = refl; result = refl; mode = λ h. h }
changed_same s f memory (Some p) = record { below = refl; result = refl; mode = λ h. h }

finish_same : (s : State) → IsOnSame s (finish s)
finish_same s = changed_same s (λ x. record x { status = Status.Finished })
    (Rattle.pass_frames_proof.specs.run_step.Step.without_slots s.world.memory (slots_of (own_instance s))) (own_instance s)

-- ---- entry of a label, after allocas

-- what goes on has an instance
record IsGoingOn (s t : State) : Type 0 where
  below : t.below ≡ s.below
  result : t.top.result ≡ s.top.result
  mode : is_none s.top.instance ≡ false → FitsMode t.top.instance t.top.mode

enters : (g : FramedGiven) (s : State) (from label : ℕ) (o : Option Point) → IsGoingOn s (enter_after g s from label o)
enters g s from label (Some p) = record { below = refl; result = refl; mode = λ h. h }
enters g s from label None = record { below = refl; result = refl; mode = λ h. tt }

renews : (g : RenewedGiven) (s : State) (from label : ℕ) (o : Option Point) → IsGoingOn s (renew_after g s from label o)
renews g s from label (Some p) = record { below = refl; result = refl; mode = λ h. h }
renews g s from label None = record { below = refl; result = refl; mode = λ h. tt }

resumes : (s : State) (i : ℕ) (x : Instance) (at : Point) (vs : Env) (t : State)
    → IsGoingOn (push (with_status s i x Status.Running) (resumed i x at vs)) t → IsResumedOn s t
resumes s i x at vs t a = record { below = a.below; result = a.result; mode = a.mode refl }

-- an activation that makes allocas again goes on
goes_on : (s t : State) → IsGoingOn s t → (from label : ℕ) → s.top.mode ≡ Mode.Entering from label → IsOnSame s t
goes_on s t a from label e = record {
  below = a.below;
  result = a.result;
  mode = λ h. a.mode (subst (FitsMode s.top.instance) e h);
}

-- ---- slots that are made anew

life_same : (g : RenewedGiven) (s : State) (slot : Slot) → IsOnSame s (with_life g s slot)
life_same g s slot = on (g.flags s.top.func slot.alloca)
  where
    on : (b : Bool) → IsOnSame s (if b then with_memory s (start s.world.memory slot.block) else s)
    on true = record { below = refl; result = refl; mode = λ h. h }
    on false = itself s

life_mode : (g : RenewedGiven) (s : State) (slot : Slot) → (with_life g s slot).top.mode ≡ s.top.mode
life_mode g s slot = on (g.flags s.top.func slot.alloca)
  where
    on : (b : Bool) → (if b then with_memory s (start s.world.memory slot.block) else s).top.mode ≡ s.top.mode
    on true = refl
    on false = refl

renewed_place : (g : RenewedGiven) (s : State) (slot : Slot) (mode : Mode) → s.top.mode ≡ mode
    → IsOnSame s (renewed_slot g s slot mode)
renewed_place g s slot (Mode.Entering from label) e =
    let a = renews g (with_slots s (slot ∷ s.top.slots)) from label
    (renewed_from (g.flags s.top.func) (function_of g.given s) s.top.at) in
    goes_on s (renewed_slot g s slot (Mode.Entering from label))
    (record { below = a.below; result = a.result; mode = a.mode }) from label e
renewed_place g s slot Mode.Plain e = new_slot_same g.given s slot
renewed_place g s slot Mode.Ramp e = new_slot_same g.given s slot
renewed_place g s slot Mode.Resumed e = new_slot_same g.given s slot
renewed_place g s slot (Mode.GivenRamp frame) e = new_slot_same g.given s slot

pub renewed_keeps_called : (g : RenewedGiven) → KeepsCalled (renewed_hooks g)
renewed_keeps_called g = record {
  go_on = λ s i x at vs label. resumes s i x at (kept (g.keep x.coroutine at) vs) _
      (renews g (push (with_status s i x Status.Running) (resumed i x at (kept (g.keep x.coroutine at) vs))) at.block label
      (renewed_from (g.flags x.coroutine) (function_at g.given.code x.coroutine) 0));
  place = λ s slot. then_same s (with_life g s slot) (renewed_slot g (with_life g s slot) slot s.top.mode)
      (life_same g s slot) (renewed_place g (with_life g s slot) slot s.top.mode (life_mode g s slot));
  start = λ s result memory t e. same_by s (begin g.given s result memory) t (begin_same g.given s result memory) e;
  close = finish_same;
  ungiven = λ s block at. refl;
}

-- ---- frames

framed_place : (g : FramedGiven) (s : State) (slot : Slot) (mode : Mode) → s.top.mode ≡ mode
    → IsOnSame s (framed_slot g s slot mode)
framed_place g s slot (Mode.Entering from label) e =
    let a = enters g (with_slots s (slot ∷ s.top.slots)) from label (alloca_from (function_of g.given s) s.top.at) in
    goes_on s (framed_slot g s slot (Mode.Entering from label))
    (record { below = a.below; result = a.result; mode = a.mode }) from label e
framed_place g s slot Mode.Plain e = record { below = refl; result = refl; mode = λ h. h }
framed_place g s slot Mode.Ramp e = record { below = refl; result = refl; mode = λ h. h }
framed_place g s slot Mode.Resumed e = record { below = refl; result = refl; mode = λ h. h }
framed_place g s slot (Mode.GivenRamp frame) e = record { below = refl; result = refl; mode = λ h. h }

given_same : (g : FramedGiven) (s : State) (result : Option ℕ) (frame : Value)
    → Same s (and_then (begin_given_at g s frame) (λ t. Ok (gives t result frame)))
given_same g s result (Value.Ptr (Pointer.At b o)) =
    on (has_room g o.bits (own_frame g.given s).size (frame_around g s.instances b o.bits))
  where
    in_block : (c : Bool) → Same s
        (and_then (and_then (ok_if c Cause.Begin s)
        (λ t. begin_at g.given t (Value.Ptr (Pointer.At b o)) Kind.Stack))
        (λ t. Ok (gives t result (Value.Ptr (Pointer.At b o)))))
    in_block true = begin_at_same g.given s result (Value.Ptr (Pointer.At b o)) (Value.Ptr (Pointer.At b o)) Kind.Stack
    in_block false = tt

    in_frame : (c : Bool) → Same s
        (and_then (ok_if c Cause.Begin (begun g.given s b o.bits))
        (λ t. Ok (gives t result (Value.Ptr (Pointer.At b o)))))
    in_frame true = begun_same g.given s s.world.memory b o.bits result (Value.Ptr (Pointer.At b o))
    in_frame false = tt

    on : (c : Bool) → Same s
        (and_then (if c then begin_in_frame g s b o else begin_in_block g s b o)
        (λ t. Ok (gives t result (Value.Ptr (Pointer.At b o)))))
    on true = in_frame (is_live_at s.world.memory b)
    on false = in_block ((o.bits == 0) && has_size s.world.memory b (own_frame g.given s).size)
given_same g s result _ = tt

framed_begin_same : (g : FramedGiven) (s : State) (result : Option ℕ) (memory : Value) (mode : Mode)
    → Same s (framed_begin g s result memory mode)
framed_begin_same g s result memory (Mode.GivenRamp frame) =
    on (is_none s.top.instance && are_finished_at s.instances frame)
  where
    on : (b : Bool) → Same s
        (and_then (ok_if b Cause.Begin s)
        (λ u. and_then (begin_given_at g u frame) (λ t. Ok (gives t result frame))))
    on true = given_same g s result frame
    on false = tt
framed_begin_same g s result memory _ = begin_same g.given s result memory

disown_same : (s : State) (o : Option (ℕ × Instance)) → IsOnSame s (disown_given s o)
disown_same s None = itself s
disown_same s (Some (i, x)) = on (is_stack_block s.world.memory x.block && (x.start == 0))
  where
    on : (b : Bool) → IsOnSame s (if b then with_memory s (disown s.world.memory x.block) else s)
    on true = record { below = refl; result = refl; mode = λ h. h }
    on false = itself s

pub framed_keeps_called : (g : FramedGiven)
    → ((s : State) (block at : ℕ) → given_call g s (fetch (function_of g.given s) block at) ≡ None)
    → KeepsCalled (framed_hooks g)
framed_keeps_called g none = record {
  go_on = λ s i x at vs label. resumes s i x at
      (reentry_values (function_at g.given.code x.coroutine) (frame_address_of x)) _
      (enters g (push (with_status s i x Status.Running) (resumed i x at
      (reentry_values (function_at g.given.code x.coroutine) (frame_address_of x)))) at.block label
      (alloca_from (function_at g.given.code x.coroutine) 0));
  place = λ s slot. framed_place g s slot s.top.mode refl;
  start = λ s result memory t e.
      same_by s (framed_begin g s result memory s.top.mode) t (framed_begin_same g s result memory s.top.mode) e;
  close = λ s. then_same s (finish s) (disown_given (finish s) (own_instance s)) (finish_same s)
      (disown_same (finish s) (own_instance s));
  ungiven = none;
}

-- ---- runs

module _ (h : Hooks) (keeps : KeepsCalled h) (types : KeepsAllTypes h.given.code) (entry : ℕ) (args : List Word)
    (placed : (n : ℕ) → IsPlacedState h (hooked_state_at h entry args n)) where
  -- the states of a run, one step after the other
  one_more : (n : ℕ) (s : State) → iterate (step_of h) (suc n) s ≡ step_of h (iterate (step_of h) n s)
  one_more zero s = refl
  one_more (suc n) s = one_more n (step_of h s)

  pub states_called : (n : ℕ) → IsCalledState h.given.code (hooked_state_at h entry args n)
  states_called zero = record { mode = tt; below = tt }
  states_called (suc n) = subst (IsCalledState h.given.code) (sym (one_more n (first_state h.given.code entry args)))
      (step_called h keeps types (hooked_state_at h entry args n) (states_called n) (placed n))
