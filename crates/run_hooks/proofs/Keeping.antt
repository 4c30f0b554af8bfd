-- The hooks of the four meanings come from reached states to reached states.
use Rattle.std.proofs.Common.{◌≡◌, ◌<◌, ◌≤◌, ◌⊎◌, inl, inr, ℕ, zero, suc, ◌+◌, Bool, true, false, List, [], ◌∷◌}
use Rattle.std.proofs.Common.{length, Option, Some, None, Result, Ok, refl, sym, ap, ◌∙◌, subst, arith}
use Rattle.std.specs.Prelude.{drop, if◌then◌else◌, is_none, option_map, slice_get, ◌&&◌, ◌==◌}
use Rattle.pass_renewed_proof.specs.ir_base.declared.cause.Cause.{Cause}
use Rattle.pass_renewed_proof.specs.ir_model.Names.{first_where, function_at, position_of}
use Rattle.pass_renewed_proof.specs.ir_model.declared.instr.Instr.{Instr}
use Rattle.pass_renewed_proof.specs.ir_model.declared.module.Block.{Block}
use Rattle.pass_renewed_proof.specs.ir_model.declared.module.Function.{Function}
use Rattle.pass_renewed_proof.specs.ir_model.declared.module.Module.{Module}
use Rattle.pass_renewed_proof.specs.ir_model.declared.operand.Callee.{Callee}
use Rattle.pass_renewed_proof.specs.ir_paths.declared.point.Point.{Point}
use Rattle.pass_renewed_proof.specs.pass_kept_proof.Kept.{Keep, kept}
use Rattle.pass_renewed_proof.specs.pass_kept_proof.Needed.{IsReached, first, after}
use Rattle.pass_renewed_proof.specs.pass_kept_proof.Related.{AreSoundInstances, coroutines}
use Rattle.pass_renewed_proof.specs.pass_kept_proof.SuspendRules.{AllKeepSuspendRules}
use Rattle.pass_renewed_proof.specs.Renewed.{RenewedGiven, framed_of, is_idle, is_renewed, renew_after, renewed_from}
use Rattle.pass_renewed_proof.specs.Renewed.{renewed_in, renewed_slot, with_life, with_renewed}
use Rattle.pass_renewed_proof.specs.run_framed.Framed.{FramedGiven, alloca_from, alloca_in, alloca_of, are_finished_at, begin_given}
use Rattle.pass_renewed_proof.specs.run_framed.Framed.{begin_given_at, begin_in_block, begin_in_frame, disown_given, enter_after}
use Rattle.pass_renewed_proof.specs.run_framed.Framed.{enter_given, frame_around, framed_begin, framed_slot, given_call, given_ramp}
use Rattle.pass_renewed_proof.specs.run_framed.Framed.{has_room, has_size, is_stack_block, last_value}
use Rattle.pass_renewed_proof.specs.run_framed.Framed.{reentry_values}
use Rattle.run_hooks.specs.Meanings.{framed_hooks, hooks_by, kept_hooks, renewed_hooks, source_hooks}
use Rattle.run_hooks.specs.Reached.{AllHaveSwitches, AreReachedActivations, IsAnInstr, IsReachedState, KeepsReached}
use Rattle.run_hooks.specs.Reached.{Stays}
use Rattle.run_hooks.proofs.Reached.{IsBehind, begin_at_stays, begin_stays, begun_stays, change_top, continue_stays, finish_stays}
use Rattle.run_hooks.proofs.Reached.{memory_stays, new_slot_stays, slots_stay}
use Rattle.pass_renewed_proof.specs.run_memory.Memory.{disown, start}
use Rattle.pass_renewed_proof.specs.run_memory.declared.block.Kind.{Kind}
use Rattle.pass_renewed_proof.specs.run_memory.declared.pointer.Pointer.{Pointer}
use Rattle.pass_renewed_proof.specs.run_memory.declared.pointer.Value.{Value}
use Rattle.pass_renewed_proof.specs.run_source.Source.{Continues, begin_at, begun, called, continue, finish, is_live_at, push, resumed}
use Rattle.pass_renewed_proof.specs.run_source.State.{frame_address_of, function_of, gives, own_frame, own_instance, with_memory}
use Rattle.pass_renewed_proof.specs.run_source.State.{with_slots, with_status}
use Rattle.pass_renewed_proof.specs.run_source.declared.state.Instance.{Instance}
use Rattle.pass_renewed_proof.specs.run_source.declared.state.Mode.{Mode}
use Rattle.pass_renewed_proof.specs.run_source.declared.state.State.{State}
use Rattle.pass_renewed_proof.specs.run_source.declared.state.Status.{Status}
use Rattle.pass_renewed_proof.specs.run_source_tables.Given.{Given}
use Rattle.pass_renewed_proof.proofs.run_step.Tables.{first_where-within}
use Rattle.pass_renewed_proof.specs.run_step.Effects.{is_alloca}
use Rattle.pass_renewed_proof.specs.run_step.Results.{and_then, ok_if}
use Rattle.pass_renewed_proof.specs.run_step.Step.{AtInstr, Fetched, fetch, fetch_in}
use Rattle.pass_renewed_proof.specs.run_step.Values.{Env, arg_values}
use Rattle.pass_renewed_proof.specs.run_step.declared.world.Slot.{Slot}

-- ---- places of the entry block

some_at : {A : Type 0} (xs : List A) (k : ℕ) → k < length xs → (x : A) × (slice_get xs k ≡ Some x)
some_at [] k h = absurd (omega arith)
some_at (x ∷ xs) zero h = (x, refl)
some_at (x ∷ xs) (suc k) h = some_at xs k (omega arith)

reached_in : (f : Function) (b : Block) → slice_get f.blocks 0 ≡ Some b → (k : ℕ) → k ≤ length b.instrs
    → IsReached f 0 k
reached_in f b e zero h = first
reached_in f b e (suc k) h =
    let i = some_at b.instrs k (omega arith) in
    let stands : fetch f 0 k ≡ AtInstr i.0 = ap (λ (o : Option Block). fetch_in o k) e ∙ cc in
    let n : k + 1 ≡ suc k = omega arith in
    subst (λ (j : ℕ). IsReached f 0 j) n (after i.0 stands (reached_in f b e k (omega arith)))

dropped : {A : Type 0} (n : ℕ) (xs : List A) → (n + length (drop n xs) ≡ length xs) ⊎ (drop n xs ≡ [])
dropped zero [] = inr refl
dropped zero (x ∷ xs) = inl (omega arith)
dropped (suc n) [] = inr refl
dropped (suc n) (x ∷ xs) = on (dropped n xs)
  where
    on : (n + length (drop n xs) ≡ length xs) ⊎ (drop n xs ≡ [])
        → (suc n + length (drop n xs) ≡ suc (length xs)) ⊎ (drop n xs ≡ [])
    on (inl e) = inl (omega arith)
    on (inr e) = inr e

alloca_within : (at : ℕ) (is : List Instr) (k : ℕ) → alloca_in at is ≡ Some k → k < at + length is
alloca_within at [] k e = absurd (cc)
alloca_within at (i ∷ is) k e = on (is_alloca i) e (λ h. alloca_within (suc at) is k h)
  where
    on : (b : Bool) → (if b then Some at else alloca_in (suc at) is) ≡ Some k
        → (alloca_in (suc at) is ≡ Some k → k < suc at + length is) → k < at + suc (length is)
    on true e within = let n : at ≡ k = cc in omega arith
    on false e within = let n : k < suc at + length is = within e in omega arith

alloca_below : (at : ℕ) (is : List Instr) (k : ℕ) → alloca_in at (drop at is) ≡ Some k → k < length is
alloca_below at is k e = on (dropped at is)
  where
    on : (at + length (drop at is) ≡ length is) ⊎ (drop at is ≡ []) → k < length is
    on (inl n) = let w = alloca_within at (drop at is) k e in omega arith
    on (inr n) = let w : alloca_in at [] ≡ Some k = ap (alloca_in at) (sym n) ∙ e in absurd (cc)

flagged_below : (flags : ℕ → Bool) (at : ℕ) (is : List Instr) (k : ℕ)
    → first_where (is_renewed flags) (drop at is) ≡ Some k → at + k < length is
flagged_below flags at is k e = on (dropped at is)
  where
    on : (at + length (drop at is) ≡ length is) ⊎ (drop at is ≡ []) → at + k < length is
    on (inl n) = let w = first_where-within (is_renewed flags) (drop at is) k (sym e) in omega arith
    on (inr n) = let w : first_where (is_renewed flags) [] ≡ Some k = ap (first_where (is_renewed flags)) (sym n)
        ∙ e in absurd (cc)

abbrev in_entry : ℕ → Point
in_entry k = record { block = 0; at = k }

alloca_reached : (f : Function) (at : ℕ) (p : Point) → alloca_from f at ≡ Some p → IsReached f p.block p.at
alloca_reached f at p e = on (slice_get f.blocks 0) refl e
  where
    on : (o : Option Block) → slice_get f.blocks 0 ≡ o → option_map in_entry (alloca_of o at) ≡ Some p
        → IsReached f p.block p.at
    on None eo k = absurd (cc)
    on (Some b) eo k = by (alloca_in at (drop at b.instrs)) refl k
      where
        by : (o : Option ℕ) → alloca_in at (drop at b.instrs) ≡ o → option_map in_entry o ≡ Some p
            → IsReached f p.block p.at
        by None en k = absurd (cc)
        by (Some n) en k =
            let q : in_entry n ≡ p = cc in
            let w = alloca_below at b.instrs n en in
            subst (λ (z : Point). IsReached f z.block z.at) q (reached_in f b eo n (omega arith))

flagged_reached : (flags : ℕ → Bool) (f : Function) (at : ℕ) (p : Point) → renewed_from flags f at ≡ Some p
    → IsReached f p.block p.at
flagged_reached flags f at p e = on (slice_get f.blocks 0) refl e
  where
    on : (o : Option Block) → slice_get f.blocks 0 ≡ o → option_map in_entry (renewed_in flags o at) ≡ Some p
        → IsReached f p.block p.at
    on None eo k = absurd (cc)
    on (Some b) eo k = by (first_where (is_renewed flags) (drop at b.instrs)) refl k
      where
        by : (o : Option ℕ) → first_where (is_renewed flags) (drop at b.instrs) ≡ o
            → option_map in_entry (option_map (λ k. at + k) o) ≡ Some p → IsReached f p.block p.at
        by None en k = absurd (cc)
        by (Some n) en k =
            let q : in_entry (at + n) ≡ p = cc in
            let w = flagged_below flags at b.instrs n en in
            subst (λ (z : Point). IsReached f z.block z.at) q (reached_in f b eo (at + n) (omega arith))

-- ---- entry of a label, after allocas

-- all of a reached state but where the topmost activation stands
record IsNearly (g : Given) (s : State) : Type 0 where
  own : (i : ℕ) → s.top.instance ≡ Some i → slice_get (coroutines s.instances) i ≡ Some s.top.func
  below : AreReachedActivations g (coroutines s.instances) s.below
  instances : AreSoundInstances g s.instances

nearly : (g : Given) (s : State) (slots : List Slot) → IsReachedState g s → IsNearly g (with_slots s slots)
nearly g s slots h = record { own = h.top.own; below = h.below; instances = h.instances }

pushed_nearly : (g : Given) (s : State) (h : IsReachedState g s) → IsBehind g s h
    → (i : ℕ) (x : Instance) (at : Point) (vs : Env) (label : ℕ) → slice_get s.instances i ≡ Some x
    → IsReached (function_at g.code x.coroutine) (position_of (function_at g.code x.coroutine) label) 0
    → IsNearly g (push (with_status s i x Status.Running) (resumed i x at vs))
pushed_nearly g s h r i x at vs label e to =
    let c = continue_stays g s h r i x at vs label e to in
    record { own = c.top.own; below = c.below; instances = c.instances }

enters : (g : FramedGiven) (s : State) (from label : ℕ) (o : Option Point) → IsNearly g.given s
    → IsReached (function_of g.given s) (position_of (function_of g.given s) label) 0
    → ((p : Point) → o ≡ Some p → IsReached (function_of g.given s) p.block p.at)
    → IsReachedState g.given (enter_after g s from label o)
enters g s from label (Some p) n to at = record {
  top = record {
    own = n.own;
    reached = at p refl;
    entered = λ from' label' e. let k : label ≡ label' = cc in
        subst (λ (l : ℕ). IsReached (function_of g.given s) (position_of (function_of g.given s) l) 0) k to;
  };
  below = n.below;
  instances = n.instances;
}
enters g s from label None n to at = record {
  top = record { own = n.own; reached = to; entered = λ from' label' e. absurd (cc) };
  below = n.below;
  instances = n.instances;
}

renews : (g : RenewedGiven) (s : State) (from label : ℕ) (o : Option Point) → IsNearly g.given s
    → IsReached (function_of g.given s) (position_of (function_of g.given s) label) 0
    → ((p : Point) → o ≡ Some p → IsReached (function_of g.given s) p.block p.at)
    → IsReachedState g.given (renew_after g s from label o)
renews g s from label (Some p) n to at = enters (framed_of g) s from label (Some p) n to at
renews g s from label None n to at =
    enters (framed_of g) (with_renewed (g.roots s.top.func) s) from label None
    (record { own = n.own; below = n.below; instances = n.instances })
    to
    (λ p e. absurd (cc))

-- ---- sources

finish_top : (s : State) → (finish s).top ≡ s.top
finish_top s = change_top s (λ x. record x { status = Status.Finished }) (own_instance s)

hooks_keep : (g : Given) (go : Continues)
    → ((s : State) (h : IsReachedState g s) → IsBehind g s h
    → (i : ℕ) (x : Instance) (at : Point) (vs : Env) (label : ℕ) → slice_get s.instances i ≡ Some x
    → IsReached (function_at g.code x.coroutine) (position_of (function_at g.code x.coroutine) label) 0
    → IsReachedState g (go s i x at vs label)) → KeepsReached (hooks_by g go)
hooks_keep g go goes = record {
  go_on = goes;
  place = new_slot_stays g;
  start = λ s result memory h r. begin_stays g s h r result memory;
  close = finish_stays g;
  closed = finish_top;
  call = λ s x r h b e. absurd (cc);
  called = λ s x r e. absurd (cc);
  idle = λ s x e. absurd (cc);
}

pub source_keeps : (g : Given) → KeepsReached (source_hooks g)
source_keeps g = hooks_keep g (continue g) (continue_stays g)

pub kept_keeps : (g : Given) (keep : Keep) → KeepsReached (kept_hooks g keep)
kept_keeps g keep = hooks_keep g _
    (λ s h r i x at vs label e to. continue_stays g s h r i x at (kept (keep x.coroutine at) vs) label e to)

-- ---- slots that are made anew

idle_instr : (flags : ℕ → Bool) (x : Fetched) → is_idle flags x ≡ true → IsAnInstr x
idle_instr flags (AtInstr i) e = (i, refl)
idle_instr flags _ e = absurd (cc)

renewed_slot_stays : (g : RenewedGiven) (s : State) (slot : Slot) (mode : Mode) → s.top.mode ≡ mode
    → IsReachedState g.given s → IsReachedState g.given (renewed_slot g s slot mode)
renewed_slot_stays g s slot (Mode.Entering from label) e h =
    renews g (with_slots s (slot ∷ s.top.slots)) from label
    (renewed_from (g.flags s.top.func) (function_of g.given s) s.top.at)
    (nearly g.given s (slot ∷ s.top.slots) h)
    (h.top.entered from label e)
    (flagged_reached (g.flags s.top.func) (function_of g.given s) s.top.at)
renewed_slot_stays g s slot _ e h = new_slot_stays g.given s slot h

renewed_place : (g : RenewedGiven) (s : State) (slot : Slot) → IsReachedState g.given s
    → IsReachedState g.given (renewed_slot g (with_life g s slot) slot s.top.mode)
renewed_place g s slot h = on (g.flags s.top.func slot.alloca)
  where
    on : (b : Bool) → IsReachedState g.given
        (renewed_slot g (if b then with_memory s (start s.world.memory slot.block) else s) slot s.top.mode)
    on true = renewed_slot_stays g (with_memory s (start s.world.memory slot.block)) slot s.top.mode refl
        (memory_stays g.given s _ h)
    on false = renewed_slot_stays g s slot s.top.mode refl h

pub renewed_keeps : (g : RenewedGiven) → KeepsReached (renewed_hooks g)
renewed_keeps g = record {
  go_on = λ s h r i x at vs label e to.
      let values = kept (g.keep x.coroutine at) vs in
      renews g (push (with_status s i x Status.Running) (resumed i x at values)) at.block label
      (renewed_from (g.flags x.coroutine) (function_at g.given.code x.coroutine) 0)
      (pushed_nearly g.given s h r i x at values label e to)
      to
      (flagged_reached (g.flags x.coroutine) (function_at g.given.code x.coroutine) 0);
  place = renewed_place g;
  start = λ s result memory h r. begin_stays g.given s h r result memory;
  close = finish_stays g.given;
  closed = finish_top;
  call = λ s x r h b e. absurd (cc);
  called = λ s x r e. absurd (cc);
  idle = λ s x e. idle_instr (g.flags s.top.func) x e;
}

-- ---- frames

framed_slot_stays : (g : FramedGiven) (s : State) (slot : Slot) (mode : Mode) → s.top.mode ≡ mode
    → IsReachedState g.given s → IsReachedState g.given (framed_slot g s slot mode)
framed_slot_stays g s slot (Mode.Entering from label) e h =
    enters g (with_slots s (slot ∷ s.top.slots)) from label (alloca_from (function_of g.given s) s.top.at)
    (nearly g.given s (slot ∷ s.top.slots) h)
    (h.top.entered from label e)
    (alloca_reached (function_of g.given s) s.top.at)
framed_slot_stays g s slot _ e h = slots_stay g.given s (slot ∷ s.top.slots) h

module _ (g : FramedGiven) (s : State) (h : IsReachedState g.given s) where
  given_stays : IsBehind g.given s h → (result : Option ℕ) (frame : Value)
      → Stays g.given (and_then (begin_given_at g s frame) (λ z. Ok (gives z result frame)))
  given_stays r result (Value.Ptr (Pointer.At b o)) =
      on (has_room g o.bits (own_frame g.given s).size (frame_around g s.instances b o.bits))
    where
      in_block : (c : Bool) → Stays g.given
          (and_then (and_then (ok_if c Cause.Begin s)
          (λ z. begin_at g.given z (Value.Ptr (Pointer.At b o)) Kind.Stack))
          (λ z. Ok (gives z result (Value.Ptr (Pointer.At b o)))))
      in_block true = begin_at_stays g.given s h r result (Value.Ptr (Pointer.At b o)) Kind.Stack
      in_block false = tt

      in_frame : (c : Bool) → Stays g.given
          (and_then (ok_if c Cause.Begin (begun g.given s b o.bits))
          (λ z. Ok (gives z result (Value.Ptr (Pointer.At b o)))))
      in_frame true = begun_stays g.given s h r s.world.memory b o.bits result (Value.Ptr (Pointer.At b o))
      in_frame false = tt

      on : (c : Bool) → Stays g.given
          (and_then (if c then begin_in_frame g s b o else begin_in_block g s b o)
          (λ z. Ok (gives z result (Value.Ptr (Pointer.At b o)))))
      on true = in_frame (is_live_at s.world.memory b)
      on false = in_block ((o.bits == 0) && has_size s.world.memory b (own_frame g.given s).size)
  given_stays r result _ = tt

  begin_given_stays : IsBehind g.given s h → (result : Option ℕ) (frame : Value)
      → Stays g.given (begin_given g s result frame)
  begin_given_stays r result frame = on (is_none s.top.instance && are_finished_at s.instances frame)
    where
      on : (b : Bool) → Stays g.given
          (and_then (ok_if b Cause.Begin s)
          (λ z. and_then (begin_given_at g z frame) (λ z. Ok (gives z result frame))))
      on true = given_stays r result frame
      on false = tt

  framed_begin_stays : IsBehind g.given s h → (result : Option ℕ) (memory : Value) (mode : Mode)
      → Stays g.given (framed_begin g s result memory mode)
  framed_begin_stays r result memory (Mode.GivenRamp frame) = begin_given_stays r result frame
  framed_begin_stays r result memory _ = begin_stays g.given s h r result memory

  called_stays : IsBehind g.given s h → (func : ℕ) (vs : List Value) (result : Option ℕ) (frame : Value)
      → IsReachedState g.given (push s (called g.given.code func vs result (Mode.GivenRamp frame)))
  called_stays r func vs result frame = record {
    top = record { own = λ i e. absurd (cc); reached = first; entered = λ from label e. absurd (cc) };
    below = (record { own = h.top.own; reached = r; entered = h.top.entered }, h.below);
    instances = h.instances;
  }

  ramp_stays : IsBehind g.given s h → (result : Option ℕ) (vs : List Value) (o : Option ℕ) (t : Result State Cause)
      → enter_given g s result vs o ≡ Some t → Stays g.given t
  ramp_stays r result vs None t e = absurd (cc)
  ramp_stays r result vs (Some func) t e =
      let k : Ok (push s (called g.given.code func vs result (Mode.GivenRamp (last_value vs)))) ≡ t = cc in
      subst (Stays g.given) k (called_stays r func vs result (last_value vs))

  call_stays : (x : Fetched) (t : Result State Cause) → IsBehind g.given s h → given_call g s x ≡ Some t
      → Stays g.given t
  call_stays (AtInstr (Instr.Call result must_tail ty (Callee.Named n) args)) t r e =
      ramp_stays r result (arg_values g.given.code s.top.values args) (given_ramp g.given.code n) t e
  call_stays _ t r e = absurd (cc)

  close_stays : (o : Option (ℕ × Instance)) → IsReachedState g.given (disown_given (finish s) o)
  close_stays None = finish_stays g.given s h
  close_stays (Some (i, x)) = on (is_stack_block (finish s).world.memory x.block && (x.start == 0))
    where
      on : (b : Bool) → IsReachedState g.given
          (if b then with_memory (finish s) (disown (finish s).world.memory x.block) else finish s)
      on true = memory_stays g.given (finish s) _ (finish_stays g.given s h)
      on false = finish_stays g.given s h

call_instr : (g : FramedGiven) (s : State) (x : Fetched) (t : Result State Cause) → given_call g s x ≡ Some t
    → IsAnInstr x
call_instr g s (AtInstr i) t e = (i, refl)
call_instr g s _ t e = absurd (cc)

disown_top : (s : State) (o : Option (ℕ × Instance)) → (disown_given s o).top ≡ s.top
disown_top s None = refl
disown_top s (Some (i, x)) = on (is_stack_block s.world.memory x.block && (x.start == 0))
  where
    on : (b : Bool) → (if b then with_memory s (disown s.world.memory x.block) else s).top ≡ s.top
    on true = refl
    on false = refl

pub framed_keeps : (g : FramedGiven) → KeepsReached (framed_hooks g)
framed_keeps g = record {
  go_on = λ s h r i x at vs label e to.
      let f = function_at g.given.code x.coroutine in
      let values = reentry_values f (frame_address_of x) in
      enters g (push (with_status s i x Status.Running) (resumed i x at values)) at.block label (alloca_from f 0)
      (pushed_nearly g.given s h r i x at values label e to)
      to
      (alloca_reached f 0);
  place = λ s slot h. framed_slot_stays g s slot s.top.mode refl h;
  start = λ s result memory h r. framed_begin_stays g s h r result memory s.top.mode;
  close = λ s h. close_stays g s h (own_instance s);
  closed = λ s. disown_top (finish s) (own_instance s) ∙ finish_top s;
  call = λ s x t h r e. call_stays g s h x t r e;
  called = call_instr g;
  idle = λ s x e. absurd (cc);
}

pub accepted_switches : (m : Module) → AllKeepSuspendRules m → AllHaveSwitches m
accepted_switches m ok func = record { switched = (ok func).switched; leads = (ok func).leads }
