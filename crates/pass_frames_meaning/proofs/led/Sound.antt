-- States of a run that makes slots anew are sound.
use Rattle.std.proofs.Common.{◌≡◌, ℕ, zero, suc, ◌+◌, Bool, true, false, List, [], ◌∷◌, length, Option, Some, None}
use Rattle.std.proofs.Common.{Result, Ok, Err, refl, sym, ap, ◌∙◌, subst, if◌then◌else◌, ◌&&◌}
use Rattle.std.specs.Prelude.{is_none, not, option_map, slice_set}
use Rattle.pass_frames_proof.specs.ir_base.declared.cause.Cause.{Cause}
use Rattle.pass_frames_proof.specs.ir_base.declared.outcome.Outcome.{Outcome}
use Rattle.pass_frames_proof.specs.ir_base.declared.outcome.Word.{Word}
use Rattle.pass_frames_proof.specs.ir_laws.facts.sound_states.Named.{AreLocalsNamed}
use Rattle.pass_frames_proof.specs.ir_model.Names.{function_at}
use Rattle.pass_frames_proof.specs.ir_model.declared.instr.Instr.{Instr}
use Rattle.pass_frames_proof.specs.ir_paths.declared.point.Point.{Point}
use Rattle.pass_frames_meaning.proofs.led.Entered.{IsEnterer, ReturnsNowhere, StaysEnterer, act_enterer}
use Rattle.pass_frames_meaning.proofs.led.Entered.{still_enterer}
use Rattle.pass_frames_meaning.proofs.led.Names.{IsMaking, alloca_is, making, of_alloca}
use Rattle.pass_frames_meaning.specs.Called.{FitsMode, IsCalledState}
use Rattle.pass_frames_proof.specs.Stepping.{IsNotEntering}
use Rattle.pass_frames_proof.proofs.pass_kept_proof.Same.{kept_wide}
use Rattle.pass_frames_proof.specs.pass_kept_proof.Kept.{kept}
use Rattle.pass_frames_proof.specs.pass_renewed_proof.Renewed.{RenewedGiven, continue_renewed, is_idle, renew_after, renewed_act}
use Rattle.pass_frames_proof.specs.pass_renewed_proof.Renewed.{renewed_advance, renewed_from, renewed_slot, renewed_step}
use Rattle.pass_frames_proof.specs.pass_renewed_proof.Renewed.{renewed_values, with_life, with_renewed}
use Rattle.pass_frames_proof.specs.run_framed.Framed.{at_point, with_mode}
use Rattle.pass_renewed_meaning.specs.run_hooks.Away.{IsPlacedState}
use Rattle.pass_renewed_meaning.specs.run_hooks.Meanings.{renewed_hooks}
use Rattle.pass_frames_proof.specs.run_memory.Memory.{killed, start}
use Rattle.pass_frames_proof.specs.run_source.Source.{act, first_state, is_among, is_over, kill_late, new_slot, push, resumed}
use Rattle.pass_frames_proof.specs.run_source.Source.{with_new_slots}
use Rattle.pass_frames_proof.specs.run_source.State.{function_of, next, or_undefined, own_facts, own_instance, settled, with_memory}
use Rattle.pass_frames_proof.specs.run_source.State.{with_slots, with_status, work_of}
use Rattle.pass_frames_proof.specs.run_source.Source.{advance_by, context_of}
use Rattle.pass_frames_proof.specs.run_source.declared.state.Instance.{Instance}
use Rattle.pass_frames_proof.specs.run_source.declared.state.Mode.{Mode}
use Rattle.pass_frames_proof.specs.run_source.declared.state.State.{State}
use Rattle.pass_frames_proof.specs.run_source.declared.state.Status.{Status}
use Rattle.pass_frames_proof.proofs.run_states.sound_states.Acts.{entered_sound, new_slot_sound, next_sound}
use Rattle.pass_frames_proof.proofs.run_states.sound_states.Fits.{Fits, fits}
use Rattle.pass_frames_proof.proofs.run_states.sound_states.Kept.{IsGrown, activation_grown, below_grown, grown_set, instance_sound}
use Rattle.pass_frames_proof.proofs.run_states.sound_states.Kept.{memory_sound, moved_on, settled_sound, slots_sound}
use Rattle.pass_frames_proof.proofs.run_states.sound_states.Steps.{first_sound, step_sound}
use Rattle.pass_frames_proof.specs.run_states.sound_states.Sound.{HasValues, IsSound, IsSoundStatus, KeepsSound}
use Rattle.pass_frames_proof.specs.run_step.Runs.{iterate}
use Rattle.pass_frames_proof.specs.run_step.Step.{Action, AtInstr, Coro, Deallocate, Done, Enter, Fetched, GoTo, NewSlot, Return, Stuck}
use Rattle.pass_frames_proof.specs.run_step.Step.{action_of, fetch}
use Rattle.pass_frames_proof.specs.run_step.Values.{Env}
use Rattle.pass_frames_proof.specs.run_step.declared.world.Slot.{Slot}

renewed_wide : (roots : ℕ → Option ℕ) (e vs : Env) → length (renewed_values roots e vs) ≡ length vs
renewed_wide roots e [] = refl
renewed_wide roots e (v ∷ vs) = ap suc (renewed_wide (λ i. roots (suc i)) e vs)

module _ (g : RenewedGiven) where
  renew_sound : (s : State) → IsSound g.given.code s → is_none s.top.instance ≡ false → s.top.result ≡ None
      → (from label : ℕ) (o : Option Point) → IsSound g.given.code (renew_after g s from label o)
  renew_sound s h resumed returns from label (Some p) = record {
    top = record { values = h.top.values; instance = h.top.instance; mode = tt };
    below = h.below;
    instances = h.instances;
  }
  renew_sound s h resumed returns from label None =
      entered_sound g.given
      (at_point (with_mode (with_renewed (g.roots s.top.func) s) Mode.Resumed) (record { block = from; at = 0 })) label
      (record {
        top = record {
          values = renewed_wide (g.roots s.top.func) s.top.values s.top.values ∙ h.top.values;
          instance = h.top.instance;
          mode = (resumed, returns);
        };
        below = h.below;
        instances = h.instances;
      })

  renew_enterer : (s : State) → s.top.result ≡ None → (from label : ℕ) (o : Option Point)
      → IsEnterer (renew_after g s from label o)
  renew_enterer s returns from label (Some p) = returns
  renew_enterer s returns from label None = tt

  goes : (s : State) (i : ℕ) (x : Instance) (at : Point) (values : Env) (label : ℕ)
      → IsEnterer (continue_renewed g s i x at values label)
  goes s i x at values label =
      renew_enterer (push (with_status s i x Status.Running) (resumed i x at (kept (g.keep x.coroutine at) values)))
      refl
      at.block label (renewed_from (g.flags x.coroutine) (function_at g.given.code x.coroutine) 0)

  resumes_sound : KeepsSound g.given.code (continue_renewed g)
  resumes_sound s i x at values label h got status =
      let run : Instance = record x { status = Status.Running } in
      let new : List Instance = slice_set s.instances i run in
      let grown : IsGrown s.instances new = grown_set s.instances i x run got refl in
      let had : HasValues g.given.code x.coroutine values =
      (subst (IsSoundStatus g.given.code x.coroutine) status (h.instances i x got)).0 in
      renew_sound (push (with_status s i x Status.Running) (resumed i x at (kept (g.keep x.coroutine at) values)))
      (record {
        top = record {
          values = kept_wide (g.keep x.coroutine at) values ∙ had;
          instance = grown i x.coroutine (ap (option_map (λ (y : Instance). y.coroutine)) got);
          mode = (refl, refl);
        };
        below = (
          tt,
          activation_grown g.given.code s.instances new (record s.top { at = s.top.at + 1 }) grown
              (moved_on g.given.code s.instances s.top s.top.block (s.top.at + 1) s.top.values s.top.slots
              s.top.has_left
              refl h.top),
          below_grown g.given.code s.instances new s.top.result s.below grown h.below,
        );
        instances = (instance_sound g.given.code s i x run got refl tt h).instances;
      }) refl refl at.block label (renewed_from (g.flags x.coroutine) (function_at g.given.code x.coroutine) 0)

  -- ---- slots

  new_enterer : (s : State) (slot : Slot) → IsNotEntering s.top.mode → IsEnterer (new_slot g.given s slot)
  new_enterer s slot still = on (own_instance s)
    where
      same : IsEnterer s
      same = still_enterer s.top.mode s.top.result still

      ramp : List ℕ
      ramp = (own_facts g.given s).ramp_slots

      on : (o : Option (ℕ × Instance)) → IsEnterer (with_new_slots ramp o (kill_late ramp o s slot) (slot ∷ []))
      on None = same
      on (Some p) = by (is_over p.1 && not (is_among ramp slot))
        where
          by : (b : Bool) → IsEnterer (with_new_slots ramp (Some p)
              (if b then with_memory s (killed s.world.memory slot.block) else s) (slot ∷ []))
          by true = same
          by false = same

  slot_sound : (s : State) (slot : Slot) (mode : Mode) → s.top.mode ≡ mode → IsSound g.given.code s → IsEnterer s
      → FitsMode s.top.instance s.top.mode
      → IsSound g.given.code (renewed_slot g s slot mode) × IsEnterer (renewed_slot g s slot mode)
  slot_sound s slot (Mode.Entering from label) e h k fit =
      let resumed : is_none s.top.instance ≡ false = subst (FitsMode s.top.instance) e fit in
      let returns : s.top.result ≡ None = subst (λ (mode : Mode). ReturnsNowhere mode s.top.result) e k in (
        renew_sound (with_slots s (slot ∷ s.top.slots)) (slots_sound g.given.code s (slot ∷ s.top.slots) h) resumed
            returns from label (renewed_from (g.flags s.top.func) (function_of g.given s) s.top.at),
        renew_enterer (with_slots s (slot ∷ s.top.slots)) returns from label
            (renewed_from (g.flags s.top.func) (function_of g.given s) s.top.at),
      )
  slot_sound s slot Mode.Plain e h k fit = (
    new_slot_sound g.given s h slot,
    new_enterer s slot (subst IsNotEntering (sym e) tt),
  )
  slot_sound s slot Mode.Ramp e h k fit = (
    new_slot_sound g.given s h slot,
    new_enterer s slot (subst IsNotEntering (sym e) tt),
  )
  slot_sound s slot Mode.Resumed e h k fit = (
    new_slot_sound g.given s h slot,
    new_enterer s slot (subst IsNotEntering (sym e) tt),
  )
  slot_sound s slot (Mode.GivenRamp frame) e h k fit = (
    new_slot_sound g.given s h slot,
    new_enterer s slot (subst IsNotEntering (sym e) tt),
  )

  life_sound : (s : State) (slot : Slot) → IsSound g.given.code s → IsEnterer s → FitsMode s.top.instance s.top.mode
      → IsSound g.given.code (renewed_slot g (with_life g s slot) slot s.top.mode)
      × IsEnterer (renewed_slot g (with_life g s slot) slot s.top.mode)
  life_sound s slot h k fit = on (g.flags s.top.func slot.alloca)
    where
      on : (b : Bool) → IsSound g.given.code (renewed_slot g
          (if b then with_memory s (start s.world.memory slot.block) else s) slot s.top.mode)
          × IsEnterer (renewed_slot g (if b then with_memory s (start s.world.memory slot.block) else s) slot
          s.top.mode)
      on true = slot_sound (with_memory s (start s.world.memory slot.block)) slot s.top.mode refl
          (memory_sound g.given.code s (start s.world.memory slot.block) h) k fit
      on false = slot_sound s slot s.top.mode refl h k fit

  -- ---- a step

  module _ (names : AreLocalsNamed g.given.code) (s : State) (h : IsSound g.given.code s) (k : IsEnterer s)
      (called : IsCalledState g.given.code s) (placed : IsPlacedState (renewed_hooks g) s)
      (runs : s.outcome ≡ Outcome.Running) where
    abbrev here : Fetched
    here = fetch (function_of g.given s) s.top.block s.top.at

    abbrev Does : Action → Type 0
    Does a = action_of (context_of g.given s) (work_of s) (fetch (function_of g.given s) s.top.block s.top.at) ≡ a

    abbrev Both : Result State Cause → Type 0
    Both r = IsSound g.given.code (or_undefined g.given s r) × IsEnterer (or_undefined g.given s r)

    either : (r : Result State Cause) → IsSound g.given.code (or_undefined g.given s r) → StaysEnterer r → Both r
    either (Err cause) q e = (q, k)
    either (Ok t) q e = (q, e)

    whole : (a : Action) → Does a
        → IsSound g.given.code (or_undefined g.given s (act g.given (continue_renewed g) s a))
    whole a d =
        let all = step_sound g.given (continue_renewed g) s names resumes_sound h in
        subst (λ (b : Action). IsSound g.given.code (or_undefined g.given s (act g.given (continue_renewed g) s b))) d
        (subst (λ (o : Outcome). IsSound g.given.code
        (advance_by g.given (continue_renewed g) s o)) runs all)

    still : (a : Action) → Does a → (IsMaking a → ⊥) → IsNotEntering s.top.mode
    still a d never = on s.top.mode refl
      where
        on : (mode : Mode) → s.top.mode ≡ mode → IsNotEntering mode
        on Mode.Plain e = tt
        on Mode.Ramp e = tt
        on Mode.Resumed e = tt
        on (Mode.GivenRamp frame) e = tt
        on (Mode.Entering from label) e =
            let at = (placed.top.entering from label e).alloca in
            let is = alloca_is at.instr at.is in
            let there : fetch (function_of g.given s) s.top.block s.top.at ≡ AtInstr (Instr.Alloca is.0 is.1 is.2) =
            at.stands ∙ ap AtInstr is.3 in
            never (making (work_of s) is.0 a (of_alloca (context_of g.given s) (work_of s) is.0 is.2 is.1 a
            (subst (λ (z : Fetched). action_of (context_of g.given s) (work_of s) z ≡ a) there d)))

    other : (a : Action) → Does a → (IsMaking a → ⊥) → StaysEnterer (act g.given (continue_renewed g) s a)
        → Both (act g.given (continue_renewed g) s a)
    other a d never e = either (act g.given (continue_renewed g) s a) (whole a d) e

    acts : (a : Action) → Does a → Both (renewed_act g s a)
    acts (NewSlot w slot) d =
        let wide : length w.values ≡ length s.top.values = subst (Fits s.top.values
        (fetch (function_of g.given s) s.top.block s.top.at)) d (fits (context_of g.given s) (work_of s)
        (fetch (function_of g.given s) s.top.block s.top.at)) in
        life_sound (settled s w) slot (settled_sound g.given.code s w wide h) k called.mode
    acts (Stuck cause) d = (whole (Stuck cause) d, k)
    acts (Done w) d = other (Done w) d (λ z. z)
        (act_enterer g.given (continue_renewed g) goes s (still (Done w) d (λ z. z)) called.below (Done w) tt)
    acts (Enter func args result must_tail) d =
        let a = Enter func args result must_tail in
        other a d (λ z. z) (act_enterer g.given (continue_renewed g) goes s (still a d (λ z. z)) called.below a tt)
    acts (Coro i args result) d =
        let a = Coro i args result in
        other a d (λ z. z) (act_enterer g.given (continue_renewed g) goes s (still a d (λ z. z)) called.below a tt)
    acts (Deallocate p) d =
        let a = Deallocate p in
        other a d (λ z. z) (act_enterer g.given (continue_renewed g) goes s (still a d (λ z. z)) called.below a tt)
    acts (GoTo label) d =
        let a = GoTo label in
        other a d (λ z. z) (act_enterer g.given (continue_renewed g) goes s (still a d (λ z. z)) called.below a tt)
    acts (Return v) d =
        let a = Return v in
        other a d (λ z. z) (act_enterer g.given (continue_renewed g) goes s (still a d (λ z. z)) called.below a tt)

    nexts : (b : Bool) → Both (if b then Ok (next s) else renewed_act g s
        (action_of (context_of g.given s) (work_of s) (fetch (function_of g.given s) s.top.block s.top.at)))
    nexts true = (next_sound g.given s h, k)
    nexts false = acts (action_of (context_of g.given s) (work_of s)
        (fetch (function_of g.given s) s.top.block s.top.at)) refl

  pub step_both : AreLocalsNamed g.given.code → (s : State) → IsSound g.given.code s → IsEnterer s
      → IsCalledState g.given.code s → IsPlacedState (renewed_hooks g) s
      → IsSound g.given.code (renewed_step g s) × IsEnterer (renewed_step g s)
  step_both names s h k called placed = on s.outcome refl
    where
      on : (o : Outcome) → s.outcome ≡ o
          → IsSound g.given.code (renewed_advance g s o) × IsEnterer (renewed_advance g s o)
      on Outcome.Running e = nexts names s h k called placed e
          (is_idle (g.flags s.top.func) (fetch (function_of g.given s) s.top.block s.top.at))
      on (Outcome.Returned v) e = (h, k)
      on (Outcome.Undefined cause place) e = (h, k)

  -- ---- runs

  module _ (names : AreLocalsNamed g.given.code) (entry : ℕ) (args : List Word)
      (called : (n : ℕ) → IsCalledState g.given.code (iterate (renewed_step g) n
      (first_state g.given.code entry args)))
      (placed : (n : ℕ) → IsPlacedState (renewed_hooks g)
      (iterate (renewed_step g) n (first_state g.given.code entry args))) where
    later : (n : ℕ) (s : State) → iterate (renewed_step g) (suc n) s ≡ renewed_step g (iterate (renewed_step g) n s)
    later zero s = refl
    later (suc n) s = later n (renewed_step g s)

    pub states_both : (n : ℕ) → IsSound g.given.code (iterate (renewed_step g) n (first_state g.given.code entry args))
        × IsEnterer (iterate (renewed_step g) n (first_state g.given.code entry args))
    states_both zero = (first_sound g.given.code entry args, tt)
    states_both (suc n) =
        let before = states_both n in
        subst (λ (s : State). IsSound g.given.code s × IsEnterer s)
        (sym (later n (first_state g.given.code entry args)))
        (step_both names (iterate (renewed_step g) n (first_state g.given.code entry args)) before.0 before.1
        (called n)
        (placed n))
