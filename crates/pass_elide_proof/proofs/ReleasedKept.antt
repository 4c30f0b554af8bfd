-- Each step of a framed run keeps that a released instance which isn't freed is about to be freed.
use Rattle.std.proofs.Common.{◌≡◌, ◌≢◌, ◌⊎◌, inl, inr, ℕ, zero, suc, Bool, true, false, List, Result, Ok, Err, refl, sym, ap, ◌∙◌, subst, if◌then◌else◌}
use Rattle.std.specs.Prelude.{None, Option, Some, slice_get, unwrap_or}
use Rattle.pass_elide_proof.proofs.Changing.{WasSet, was_set}
use Rattle.pass_elide_proof.proofs.ReleasedFlags.{IsNoRelease, KeepsCalm, ReleasesNone, act_calm}
use Rattle.pass_elide_proof.proofs.ReleasingActs.{coro_called}
use Rattle.pass_elide_proof.proofs.ReleasingSteps.{releasing_goes_on, set_or_poison}
use Rattle.pass_elide_proof.proofs.Saves.{own_number}
use Rattle.pass_elide_proof.proofs.Sized.{stepped}
use Rattle.pass_elide_proof.proofs.Slotted.{frame_allocated}
use Rattle.pass_elide_proof.proofs.SoundSteps.{states_sound}
use Rattle.pass_elide_proof.specs.Elision.{Elision, framed, function_in}
use Rattle.pass_elide_proof.specs.Releasing.{FreesAtOnce, HaveReleased, IsOrPoison, IsReleasing}
use Rattle.pass_elide_proof.specs.Sound.{IsSoundState, KnowsAllocas, NestsNone}
use Rattle.pass_proofs.specs.ir_base.declared.cause.Cause.{Cause}
use Rattle.pass_proofs.specs.ir_base.declared.outcome.Outcome.{Outcome}
use Rattle.pass_proofs.specs.ir_base.declared.outcome.Word.{Word}
use Rattle.pass_proofs.specs.ir_model.Ty.{Ty}
use Rattle.pass_proofs.specs.ir_model.declared.instr.Instr.{Instr}
use Rattle.pass_proofs.specs.ir_model.declared.operand.Arg.{Arg}
use Rattle.pass_proofs.specs.ir_model.declared.operand.Callee.{Callee}
use Rattle.pass_proofs.specs.ir_model.declared.operand.Intrinsic.{Intrinsic}
use Rattle.pass_proofs.specs.run_framed.Framed.{FramedGiven, enter_given, framed_act, framed_advance, framed_context, framed_next, framed_state_at, framed_step, freed_address, given_ramp}
use Rattle.pass_proofs.specs.run_memory.declared.pointer.Pointer.{Pointer}
use Rattle.pass_proofs.specs.run_memory.declared.pointer.Value.{Value}
use Rattle.pass_proofs.specs.run_source.Source.{change_own, first_state}
use Rattle.pass_proofs.specs.run_source.State.{frame_address_of, function_of, gives, or_undefined, own_instance, work_of}
use Rattle.pass_proofs.specs.run_source.declared.state.Instance.{Instance}
use Rattle.pass_proofs.specs.run_source.declared.state.State.{State}
use Rattle.pass_proofs.specs.run_step.Runs.{iterate}
use Rattle.pass_proofs.specs.run_step.Step.{Action, AtInstr, AtTerm, Coro, Deallocate, Done, Enter, Fetched, GoTo, NewSlot, Nowhere, Return, Stuck, action_of, fetch}
use Rattle.pass_proofs.specs.run_step.Values.{arg_values, value_in, with_result}
use Rattle.run_slots.proofs.Meanings.{framed_keeps_slots}
use Rattle.run_slots.proofs.Steps.{states_slotted}
use Rattle.run_slots.proofs.run_hooks.Steps.{framed_steps, same_runs}
use Rattle.run_slots.specs.Slots.{GivesNoFrames, IsSlottedState}
use Rattle.run_slots.specs.run_hooks.Hooks.{step_of}
use Rattle.run_slots.specs.run_hooks.Meanings.{framed_hooks}

-- ---- a step that is no coro.free

module _ (g : FramedGiven) (s : State) where
  abbrev acts : Fetched → Action
  acts y = action_of (framed_context g s) (work_of s) y

  abbrev Calmly : Result State Cause → Type 0
  Calmly q = KeepsCalm g s.instances q

  themselves : ReleasesNone s.instances s.instances
  themselves i y at released freed =
      record { was = y; there = at; coroutine = refl; released = released; freed = freed }

  acted : (y : Fetched) → IsNoRelease g s.instances (acts y) → Calmly (framed_act g s (acts y))
  acted y never = act_calm g s.instances s (acts y) never themselves

  named : (y : Fetched) → IsNoRelease g s.instances (acts y) → (result : Option ℕ) (vs : List Value) (o : Option ℕ)
      → Calmly (unwrap_or (enter_given g s result vs o) (framed_act g s (acts y)))
  named y never result vs None = acted y never
  named y never result vs (Some func) = themselves

  next_calm : (y : Fetched) → IsNoRelease g s.instances (acts y) → Calmly (framed_next g s y)
  next_calm Nowhere never = acted Nowhere never
  next_calm (AtTerm t) never = acted (AtTerm t) never
  next_calm (AtInstr (Instr.Call result must_tail ty (Callee.Named name) args)) never =
      named (AtInstr (Instr.Call result must_tail ty (Callee.Named name) args)) never result
      (arg_values g.given.code s.top.values args) (given_ramp g.given.code name)
  next_calm (AtInstr (Instr.Call result must_tail ty (Callee.Allocator a) args)) never =
      acted (AtInstr (Instr.Call result must_tail ty (Callee.Allocator a) args)) never
  next_calm (AtInstr (Instr.Call result must_tail ty (Callee.Intrinsic i) args)) never =
      acted (AtInstr (Instr.Call result must_tail ty (Callee.Intrinsic i) args)) never
  next_calm (AtInstr (Instr.Call result must_tail ty (Callee.Local v) args)) never =
      acted (AtInstr (Instr.Call result must_tail ty (Callee.Local v) args)) never
  next_calm (AtInstr (Instr.Binary name op flags ty a b)) never = acted (AtInstr (Instr.Binary name op flags ty a b)) never
  next_calm (AtInstr (Instr.Icmp name pred ty a b)) never = acted (AtInstr (Instr.Icmp name pred ty a b)) never
  next_calm (AtInstr (Instr.Select name x a b)) never = acted (AtInstr (Instr.Select name x a b)) never
  next_calm (AtInstr (Instr.Cast name op nneg arg to)) never = acted (AtInstr (Instr.Cast name op nneg arg to)) never
  next_calm (AtInstr (Instr.Alloca name ty align)) never = acted (AtInstr (Instr.Alloca name ty align)) never
  next_calm (AtInstr (Instr.Load name ty p align)) never = acted (AtInstr (Instr.Load name ty p align)) never
  next_calm (AtInstr (Instr.Store arg p align)) never = acted (AtInstr (Instr.Store arg p align)) never
  next_calm (AtInstr (Instr.Gep name inbounds ty base indices)) never =
      acted (AtInstr (Instr.Gep name inbounds ty base indices)) never

  undefined_calm : (q : Result State Cause) → Calmly q → ReleasesNone s.instances (or_undefined g.given s q).instances
  undefined_calm (Err cause) k = themselves
  undefined_calm (Ok u) k = k

-- ---- steps

module _ (e : Elision) (s : State) (slotted : IsSlottedState s) (sound : IsSoundState (framed e) s)
    (h : HaveReleased e s) where
  abbrev g : FramedGiven
  g = framed e

  abbrev here : Fetched
  here = fetch (function_of g.given s) s.top.block s.top.at

  abbrev Now : State → Type 0
  Now u =
      (number : ℕ) (y : Instance) → slice_get u.instances number ≡ Some y
      → FreesAtOnce (function_in e y.coroutine) (e.shape y.coroutine) → y.released ≡ true → y.freed ≡ false
      → IsReleasing e u number y

  -- one that was released before
  old_on : (number : ℕ) (y was : Instance) → slice_get s.instances number ≡ Some was → was.coroutine ≡ y.coroutine
      → was.released ≡ true → was.freed ≡ false
      → FreesAtOnce (function_in e y.coroutine) (e.shape y.coroutine)
      → slice_get (framed_step g s).instances number ≡ Some y → y.freed ≡ false
      → IsReleasing e (framed_step g s) number y
  old_on number y was there coroutine released freed frees at goes =
      releasing_goes_on e s slotted number was there freed
      (h number was there
      (subst (λ (k : ℕ). FreesAtOnce (function_in e k) (e.shape k)) (sym coroutine) frees) released freed) y at goes

  calm_now : ReleasesNone s.instances (framed_step g s).instances → Now (framed_step g s)
  calm_now none number y at frees released freed =
      let k = none number y at released freed in
      old_on number y k.was k.there k.coroutine k.released k.freed frees at freed

  over_now : framed_step g s ≡ s → Now (framed_step g s)
  over_now is = subst Now (sym is) h

  -- ---- coro.free

  module _ (result : Option ℕ) (must_tail : Bool) (ty : Option Ty) (args : List Arg) (runs : s.outcome ≡ Outcome.Running)
      (is : here ≡ AtInstr (Instr.Call result must_tail ty (Callee.Intrinsic Intrinsic.CoroFree) args)) where
    abbrev released_as : Instance → Instance
    released_as x = record x { released = true }

    abbrev behind : Option (ℕ × Instance) → State
    behind o = gives (change_own s released_as o) result (freed_address s.world.memory o)

    step_is : framed_step g s ≡ behind (own_instance s)
    step_is =
        stepped g s (behind (own_instance s))
        (AtInstr (Instr.Call result must_tail ty (Callee.Intrinsic Intrinsic.CoroFree) args)) runs is refl

    -- none is released
    without : (o : Option (ℕ × Instance)) → own_instance s ≡ o → o ≡ None → Now (framed_step g s)
    without o eo none =
        calm_now
        (subst (λ (u : State). ReleasesNone s.instances u.instances)
        (sym (step_is ∙ ap behind (eo ∙ none))) (themselves g s))

    module _ (i : ℕ) (x : Instance) (own : own_instance s ≡ Some (i, x)) where
      abbrev u : State
      u = behind (Some (i, x))

      now_is : framed_step g s ≡ u
      now_is = step_is ∙ ap behind own

      there : slice_get s.instances i ≡ Some x
      there = (own_number s i x own).1

      coroutine : x.coroutine ≡ s.top.func
      coroutine = sound.acts.0.coroutine i x (own_number s i x own).0 there

      -- what is given is the frame's address
      address : freed_address s.world.memory (Some (i, x)) ≡ frame_address_of x
      address =
          ap (λ (b : Bool). if b then Value.Ptr Pointer.Null else frame_address_of x)
          (frame_allocated s slotted i x there)

      fresh : FreesAtOnce (function_in e s.top.func) (e.shape s.top.func) → IsReleasing e u i (released_as x)
      fresh frees =
          let k = frees s.top.block s.top.at result must_tail ty args is in
          record {
            instance = (own_number s i x own).0;
            name = k.name;
            freed = k.freed;
            address = subst (λ (w : Value). IsOrPoison (value_in u.top.values k.name) w) address
                (subst (λ (o : Option ℕ). IsOrPoison
                (value_in (with_result s.top.values o (freed_address s.world.memory (Some (i, x)))) k.name)
                (freed_address s.world.memory (Some (i, x)))) (sym k.given)
                (set_or_poison s.top.values k.name (freed_address s.world.memory (Some (i, x)))));
            test = None;
            answer = tt;
            place = k.soon;
          }

      by_set : (number : ℕ) (y : Instance) → FreesAtOnce (function_in e y.coroutine) (e.shape y.coroutine)
          → y.released ≡ true → y.freed ≡ false → slice_get u.instances number ≡ Some y
          → WasSet s.instances i (released_as x) number y → IsReleasing e u number y
      by_set number y frees released freed at was = which was.is
        where
          which : ((number ≡ i) × (y ≡ released_as x)) ⊎ ((number ≢ i) × (y ≡ was.was)) → IsReleasing e u number y
          which (inl k) =
              subst (λ (p : ℕ × Instance). IsReleasing e u p.0 p.1) (λ j. (sym k.0 j, sym k.1 j))
              (fresh
              (subst (λ (f : ℕ). FreesAtOnce (function_in e f) (e.shape f))
              (ap (λ (z : Instance). z.coroutine) k.1 ∙ coroutine) frees))
          which (inr k) =
              subst (λ (z : State). IsReleasing e z number y) now_is
              (old_on number y y (was.at ∙ ap Some (sym k.1)) refl released freed frees
              (ap (λ (z : State). slice_get z.instances number) now_is ∙ at) freed)

      now_freed : Now (framed_step g s)
      now_freed =
          subst Now (sym now_is) (λ number y at frees released freed.
          by_set number y frees released freed at (was_set s.instances i x (released_as x) there number y at))

    free_now : Now (framed_step g s)
    free_now = by (own_instance s) refl
      where
        by : (o : Option (ℕ × Instance)) → own_instance s ≡ o → Now (framed_step g s)
        by None eo = without None eo refl
        by (Some (i, x)) eo = now_freed i x eo

  -- ---- any step

  module _ (runs : s.outcome ≡ Outcome.Running) where
    calm_step : IsNoRelease g s.instances (acts g s here) → Now (framed_step g s)
    calm_step never =
        calm_now
        (subst (λ (u : State). ReleasesNone s.instances u.instances) (sym (ap (framed_advance g s) runs))
        (undefined_calm g s (framed_next g s here) (next_calm g s here never)))

    coro_step : (i : Intrinsic) (args : List Arg) (result : Option ℕ) → acts g s here ≡ Coro i args result
        → Now (framed_step g s)
    coro_step Intrinsic.CoroFree args result is =
        let k = coro_called (framed_context g s) (work_of s) here Intrinsic.CoroFree args result is in
        free_now result k.0 k.1 args runs k.2
    coro_step Intrinsic.CoroId args result is = calm_step (λ bs r to. let never = sym is ∙ to in cc)
    coro_step Intrinsic.CoroSizeI32 args result is = calm_step (λ bs r to. let never = sym is ∙ to in cc)
    coro_step Intrinsic.CoroSizeI64 args result is = calm_step (λ bs r to. let never = sym is ∙ to in cc)
    coro_step Intrinsic.CoroAlignI32 args result is = calm_step (λ bs r to. let never = sym is ∙ to in cc)
    coro_step Intrinsic.CoroAlignI64 args result is = calm_step (λ bs r to. let never = sym is ∙ to in cc)
    coro_step Intrinsic.CoroAlloc args result is = calm_step (λ bs r to. let never = sym is ∙ to in cc)
    coro_step Intrinsic.CoroBegin args result is = calm_step (λ bs r to. let never = sym is ∙ to in cc)
    coro_step Intrinsic.CoroFrame args result is = calm_step (λ bs r to. let never = sym is ∙ to in cc)
    coro_step Intrinsic.CoroSave args result is = calm_step (λ bs r to. let never = sym is ∙ to in cc)
    coro_step Intrinsic.CoroSuspend args result is = calm_step (λ bs r to. let never = sym is ∙ to in cc)
    coro_step Intrinsic.CoroEnd args result is = calm_step (λ bs r to. let never = sym is ∙ to in cc)
    coro_step Intrinsic.CoroResume args result is = calm_step (λ bs r to. let never = sym is ∙ to in cc)
    coro_step Intrinsic.CoroDestroy args result is = calm_step (λ bs r to. let never = sym is ∙ to in cc)
    coro_step Intrinsic.CoroDone args result is = calm_step (λ bs r to. let never = sym is ∙ to in cc)
    coro_step Intrinsic.CoroPromise args result is = calm_step (λ bs r to. let never = sym is ∙ to in cc)
    coro_step Intrinsic.LifetimeStart args result is = calm_step (λ bs r to. let never = sym is ∙ to in cc)
    coro_step Intrinsic.LifetimeEnd args result is = calm_step (λ bs r to. let never = sym is ∙ to in cc)
    coro_step Intrinsic.MemcpyI64 args result is = calm_step (λ bs r to. let never = sym is ∙ to in cc)
    coro_step Intrinsic.MemcpyI32 args result is = calm_step (λ bs r to. let never = sym is ∙ to in cc)

    act_step : (a : Action) → acts g s here ≡ a → Now (framed_step g s)
    act_step (Coro i args result) is = coro_step i args result is
    act_step (Done w) is = calm_step (λ bs r to. let never = sym is ∙ to in cc)
    act_step (NewSlot w z) is = calm_step (λ bs r to. let never = sym is ∙ to in cc)
    act_step (Enter func vs result must_tail) is = calm_step (λ bs r to. let never = sym is ∙ to in cc)
    act_step (Deallocate p) is = calm_step (λ bs r to. let never = sym is ∙ to in cc)
    act_step (GoTo label) is = calm_step (λ bs r to. let never = sym is ∙ to in cc)
    act_step (Return v) is = calm_step (λ bs r to. let never = sym is ∙ to in cc)
    act_step (Stuck cause) is = calm_step (λ bs r to. let never = sym is ∙ to in cc)

  released_step : HaveReleased e (framed_step g s)
  released_step = by s.outcome refl
    where
      by : (o : Outcome) → s.outcome ≡ o → Now (framed_step g s)
      by Outcome.Running runs = act_step runs (acts g s here) refl
      by (Outcome.Returned v) over = over_now (ap (framed_advance g s) over)
      by (Outcome.Undefined cause place) over = over_now (ap (framed_advance g s) over)

-- ---- runs

one_more : (g : FramedGiven) (n : ℕ) (s : State)
    → iterate (framed_step g) (suc n) s ≡ framed_step g (iterate (framed_step g) n s)
one_more g zero s = refl
one_more g (suc n) s = one_more g n (framed_step g s)

pub slotted_runs : (g : FramedGiven) (entry : ℕ) (args : List Word) → GivesNoFrames g.given.code → (n : ℕ)
    → IsSlottedState (framed_state_at g entry args n)
slotted_runs g entry args none n =
    subst IsSlottedState
    (sym (same_runs (framed_step g) (step_of (framed_hooks g)) (framed_steps g) n (first_state g.given.code entry args)))
    (states_slotted (framed_hooks g) (framed_keeps_slots g none) entry args n)

pub released_first : (e : Elision) (entry : ℕ) (args : List Word) → HaveReleased e (first_state e.code entry args)
released_first e entry args number x at frees released freed = absurd (cc)

pub released_on : (e : Elision) (s : State) → IsSlottedState s → IsSoundState (framed e) s → HaveReleased e s
    → HaveReleased e (framed_step (framed e) s)
released_on e s slotted sound h = released_step e s slotted sound h

pub released_runs : (e : Elision) (entry : ℕ) (args : List Word) → KnowsAllocas (framed e) → NestsNone (framed e)
    → ((n : ℕ) → IsSlottedState (framed_state_at (framed e) entry args n)) → (n : ℕ)
    → HaveReleased e (framed_state_at (framed e) entry args n)
released_runs e entry args allocas nests slotted zero = released_first e entry args
released_runs e entry args allocas nests slotted (suc n) =
    subst (HaveReleased e) (sym (one_more (framed e) n (first_state e.code entry args)))
    (released_step e (framed_state_at (framed e) entry args n) (slotted n)
    (states_sound (framed e) allocas nests entry args n) (released_runs e entry args allocas nests slotted n))
