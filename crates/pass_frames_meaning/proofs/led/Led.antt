-- Steps by hooks keep it where names of allocas and of begin lead.
use Rattle.std.proofs.Common.{◌≡◌, ◌==◌, arith, ◌⊎◌, inl, inr, ◌<◌, ◌+◌, ℕ, Bool, true, false, List, [], ◌∷◌, length}
use Rattle.std.proofs.Common.{Option, Some, None, Result, Ok, Err, refl, sym, ap, ◌∙◌, subst, if◌then◌else◌}
use Rattle.std.specs.Prelude.{not, option_and_then, option_map, slice_get, slice_set, unwrap_or}
use Rattle.std.proofs.lemmas.Bool.{false≢true}
use Rattle.pass_frames_proof.specs.ir_base.declared.cause.Cause.{Cause}
use Rattle.pass_frames_proof.specs.ir_base.declared.outcome.Outcome.{Outcome}
use Rattle.pass_frames_proof.specs.ir_base.declared.outcome.Word.{Word}
use Rattle.pass_frames_proof.specs.ir_model.Names.{function_at, position_of}
use Rattle.pass_frames_proof.specs.ir_model.Ty.{Ty}
use Rattle.pass_frames_proof.specs.ir_model.declared.instr.Instr.{Instr}
use Rattle.pass_frames_proof.specs.ir_model.declared.instr.Terminator.{Terminator}
use Rattle.pass_frames_proof.specs.ir_model.declared.module.Function.{Function}
use Rattle.pass_frames_proof.specs.ir_model.declared.module.Module.{Module}
use Rattle.pass_frames_proof.specs.ir_model.declared.operand.Arg.{Arg}
use Rattle.pass_frames_proof.specs.ir_model.declared.operand.Callee.{Callee}
use Rattle.pass_frames_proof.specs.ir_model.declared.operand.Intrinsic.{Intrinsic}
use Rattle.pass_frames_proof.specs.ir_model.declared.operand.Operand.{Operand}
use Rattle.pass_frames_proof.specs.ir_paths.Windows.{operand_at, suspend_of}
use Rattle.pass_frames_proof.specs.ir_paths.declared.point.Point.{Point}
use Rattle.pass_frames_proof.specs.ir_paths.declared.point.Window.{Window}
use Rattle.pass_frames_meaning.proofs.called.Comes.{Comes, comes}
use Rattle.pass_frames_meaning.proofs.led.Names.{IsFree, IsMaker, IsMaking, alloca_apart, alloca_is, calm_still}
use Rattle.pass_frames_meaning.proofs.led.Names.{entry_poison}
use Rattle.pass_frames_meaning.proofs.led.Names.{free_at, maker_at, making, none_free, of_alloca, returned_free}
use Rattle.pass_frames_meaning.proofs.led.Names.{same_entered}
use Rattle.pass_frames_meaning.proofs.led.Names.{same_result, set_led}
use Rattle.pass_frames_meaning.proofs.led.Values.{AreSame, IsMore, asleep_at, asleep_set, on_later, poison_led}
use Rattle.pass_frames_meaning.proofs.led.Values.{set_more, still_at, with_like}
use Rattle.pass_frames_meaning.specs.Called.{AreBehindCalls, IsCalledState}
use Rattle.pass_frames_meaning.specs.Led.{AreLed, AreLedOn, AreLedWith, IsEnteringAt, IsLed, IsLedBy, IsLedInstance}
use Rattle.pass_frames_meaning.specs.Led.{IsLedState, KeepAllNames, KeepsLed, KeepsNames, StaysLed}
use Rattle.pass_frames_proof.specs.Stepping.{IsNotEntering}
use Rattle.pass_frames_proof.proofs.pass_kept_proof.Same.{eq_from}
use Rattle.pass_frames_proof.specs.pass_kept_proof.Needed.{given_by, given_by_intrinsic}
use Rattle.pass_frames_proof.proofs.pass_renewed_proof.Sets.{set_elsewhere, step_sets}
use Rattle.pass_frames_proof.specs.pass_renewed_proof.Steps.{SetsOnly}
use Rattle.pass_renewed_meaning.proofs.run_hooks.Reached.{IsOfInstr, at_is, of_term, own_function, own_is}
use Rattle.pass_renewed_meaning.proofs.run_hooks.alive.Acts.{slots_by}
use Rattle.pass_renewed_meaning.specs.run_hooks.Away.{IsOrdinary}
use Rattle.pass_renewed_meaning.specs.run_hooks.Hooks.{Hooks, hooked_act, hooked_advance, hooked_context, hooked_coro, hooked_next, step_of}
use Rattle.pass_renewed_meaning.specs.run_hooks.Reached.{IsReachedState}
use Rattle.pass_frames_proof.specs.run_memory.declared.pointer.Value.{Value}
use Rattle.pass_frames_proof.specs.run_source.Source.{Sleeper, after_end, branch_leaving, called, change_own, deallocate, end_of}
use Rattle.pass_frames_proof.specs.run_source.Source.{enter_block, if_let_go, left_windows, let_go, may_be_freed, mode_of, pop, push}
use Rattle.pass_frames_proof.specs.run_source.Source.{release, return, returned, save_for, sleeper_at, sleeper_of, suspend}
use Rattle.pass_frames_proof.specs.run_source.State.{frame_address_of, function_of, gives, instance_at, next, numbered, or_undefined}
use Rattle.pass_frames_proof.specs.run_source.State.{own_instance, point_of, settled, with_instance, with_left, with_memory, work_of}
use Rattle.pass_frames_proof.specs.run_source.declared.state.Activation.{Activation}
use Rattle.pass_frames_proof.specs.run_source.declared.state.Instance.{Instance}
use Rattle.pass_frames_proof.specs.run_source.declared.state.Mode.{Mode}
use Rattle.pass_frames_proof.specs.run_source.declared.state.State.{State}
use Rattle.pass_frames_proof.specs.run_source.declared.state.Status.{Status}
use Rattle.pass_frames_proof.specs.run_source_tables.Given.{Given, facts_at}
use Rattle.pass_frames_proof.specs.run_states.sound_states.Sound.{HasValues}
use Rattle.pass_frames_proof.specs.run_step.Effects.{is_alloca}
use Rattle.pass_frames_proof.specs.run_step.Results.{and_then, found, ok_if}
use Rattle.pass_frames_proof.specs.run_step.Step.{Action, AtInstr, AtTerm, Coro, Deallocate, Done, Enter, Fetched, GoTo, NewSlot}
use Rattle.pass_frames_proof.specs.run_step.Step.{Nowhere, Return, Stuck, Work, action_of, deallocated, entry_values, fetch}
use Rattle.pass_frames_proof.specs.run_step.Step.{instr_action, label_of, outcome_of, term_action, values_in}
use Rattle.pass_frames_proof.specs.run_step.Values.{Env, arg_values, nth, pointer_to, value_in, with_result, with_value}
use Rattle.pass_frames_proof.specs.run_step.declared.world.Slot.{Slot}
use Rattle.pass_renewed_meaning.specs.run_types.Rules.{KeepsAllTypes}

differs : (a b : ℕ) → a ≡ b → (a == b) ≡ false → ⊥
differs a b same apart = absurd (grind arith)

module _ (m : Module) (counts : ℕ → ℕ → Bool) where
  then_led : {A : Type 0} (r : Result A Cause) (f : A → Result State Cause)
      → ((a : A) → r ≡ Ok a → StaysLed m counts (f a)) → StaysLed m counts (and_then r f)
  then_led (Err cause) f k = tt
  then_led (Ok a) f k = k a refl

  ok_led : (b : Bool) (cause : Cause) (s : State) → IsLed m counts s → StaysLed m counts (ok_if b cause s)
  ok_led true cause s k = λ running. k
  ok_led false cause s k = tt

  -- a run is over behind its last return
  over : (v : Option Value) (o : Outcome) → outcome_of v ≡ Ok o → o ≡ Outcome.Running → ⊥
  over None o e r = let d : Outcome.Returned None ≡ o = cc in absurd (not_running None (d ∙ r))
    where
      not_running : (w : Option Word) → Outcome.Returned w ≡ Outcome.Running → ⊥
      not_running w e = absurd (cc)
  over (Some (Value.Int x)) o e r = let d : Outcome.Returned (Some x) ≡ o = cc in absurd (not_running (Some x) (d ∙ r))
    where
      not_running : (w : Option Word) → Outcome.Returned w ≡ Outcome.Running → ⊥
      not_running w e = absurd (cc)
  over (Some Value.Poison) o e r = absurd (cc)
  over (Some (Value.Ptr p)) o e r = absurd (cc)

  module _ (s : State) (h : IsLed m counts s) where
    abbrev own_f : Function
    own_f = function_at m s.top.func

    -- an instance has no fewer slots
    pub changed_led : (i : ℕ) (x y : Instance) → slice_get s.instances i ≡ Some x → IsMore x y
        → IsLedInstance m counts y → IsLed m counts (with_instance s i y)
    changed_led i x y e more k = record {
      stack = on_later m counts s.instances (slice_set s.instances i y) (s.top ∷ s.below)
          (set_more s.instances i x y e more) h.stack;
      instances = asleep_set m counts s.instances i y k h.instances;
      entering = h.entering;
    }

    -- the topmost activation goes on with what the names had
    pub moved_led : IsNotEntering s.top.mode → (block at : ℕ) (values : Env)
        → AreSame (counts s.top.func) (function_at m s.top.func) s.top.values values
        → IsLed m counts (record s { top = record s.top { block = block; at = at; values = values } })
    moved_led still block at values same = record {
      stack = (
        with_like (counts s.top.func) own_f s.instances s.top.instance s.top.slots s.top.values values same h.stack.0,
        h.stack.1,
      );
      instances = h.instances;
      entering = still_at (counts s.top.func) (fetch own_f block at) s.top.mode still;
    }

  -- ---- of functions that keep the rules

  module _ (ramp : ℕ → List ℕ)
      (rules : (func : ℕ) → KeepsNames (counts func) (function_at m func)
      (ramp func)) where
    abbrev pub IsFreeIn : ℕ → Option ℕ → Type 0
    IsFreeIn func result = IsFree (counts func) (function_at m func) (ramp func) (rules func) result

    pub gives_led : (s : State) (result : Option ℕ) (v : Value) → IsLed m counts s → IsNotEntering s.top.mode
        → IsFreeIn s.top.func result → IsLed m counts (gives s result v)
    gives_led s result v h still free =
        let k = moved_led s h still s.top.block (s.top.at + 1) (with_result s.top.values result v)
        (same_result (counts s.top.func) (function_at m s.top.func) (ramp s.top.func) (rules s.top.func) s.top.values
        result v free) in
        record { stack = k.stack; instances = k.instances; entering = k.entering }

    pub enter_block_led : (g : Given) → g.code ≡ m → (s : State) (label : ℕ) → IsLed m counts s
        → IsNotEntering s.top.mode → IsLed m counts (enter_block g s label)
    enter_block_led g code s label h still =
        subst (λ (n : Module). IsLed m counts (enter_block (record g { code = n }) s label)) (sym code)
        (let k = moved_led s h still (position_of (function_at m s.top.func) label) 0
        (values_in m (slice_get (function_at m s.top.func).blocks (position_of (function_at m s.top.func) label))
        (label_of (slice_get (function_at m s.top.func).blocks s.top.block)) s.top.values)
        (same_entered (counts s.top.func) (function_at m s.top.func) (ramp s.top.func) (rules s.top.func) m
        (label_of (slice_get (function_at m s.top.func).blocks s.top.block))
        (position_of (function_at m s.top.func) label) s.top.values) in
        record { stack = k.stack; instances = k.instances; entering = k.entering })

    return_led : (types : KeepsAllTypes m) (s : State) (v : Option Value) → IsLed m counts s
        → AreBehindCalls m s.top.result s.below → StaysLed m counts (return s v)
    return_led types s v h c = by s.below h.stack.1 c
      where
        by : (below : List Activation) → AreLedOn m counts s.instances below → AreBehindCalls m s.top.result below
            → StaysLed m counts (pop (returned s) v below)
        by [] k c = then_led (outcome_of v) (λ outcome. Ok (record (returned s) { outcome = outcome }))
            (λ outcome e running.
            absurd (over v outcome e running))
        by (a ∷ below) k c = λ running. record {
          stack = (
            with_like (counts a.func) (function_at m a.func) s.instances a.instance a.slots a.values
                (with_result a.values s.top.result (unwrap_or v Value.Poison))
                (same_result (counts a.func) (function_at m a.func) (ramp a.func) (rules a.func) a.values s.top.result
                (unwrap_or v Value.Poison)
                (returned_free (counts a.func) (function_at m a.func) (ramp a.func) (rules a.func) m (types a.func) a
                s.top.result c.0)) k.0,
            k.1,
          );
          instances = h.instances;
          entering = still_at (counts a.func) (fetch (function_at m a.func) a.block a.at) a.mode
              (calm_still a.mode c.0.calm);
        }

    after_led : (types : KeepsAllTypes m) (s : State) (result : Option ℕ) (mode : Mode) → IsLed m counts s
        → IsNotEntering s.top.mode → AreBehindCalls m s.top.result s.below → IsFreeIn s.top.func result
        → StaysLed m counts (after_end s result mode)
    after_led types s result Mode.Resumed h still c free = return_led types s None h c
    after_led types s result _ h still c free = λ running. gives_led s result _ h still free

    called_led : (s : State) (func : ℕ) (args : List Value) (result : Option ℕ) (mode : Mode) → IsNotEntering mode
        → IsLed m counts s
        → IsLed m counts (push s (called m func args result
        mode))
    called_led s func args result mode still h = record {
      stack = (
        record {
          counted = λ v c. poison_led [] v (value_in (entry_values (function_at m func) args) v)
              (entry_poison (counts func) (function_at m func) (ramp func) (rules func) args v (inl c));
          begun = λ v e. entry_poison (counts func) (function_at m func) (ramp func) (rules func) args v (inr e);
        },
        h.stack,
      );
      instances = h.instances;
      entering = still_at (counts func) (fetch (function_at m func) 0 0) mode still;
    }

  sleeper_led : (s : State) (p : Value) (go : Sleeper → Result State Cause)
      → ((y : Sleeper) → slice_get s.instances y.number ≡ Some y.instance
      → y.instance.status ≡ Status.Suspended y.suspend y.values → StaysLed m counts (go y))
      → StaysLed m counts (and_then (sleeper_at s p) go)
  sleeper_led s p go k = on (instance_at s.instances p) (λ j x e. at_is s.instances p j x e)
    where
      by : (i : ℕ) (x : Instance) → slice_get s.instances i ≡ Some x → (st : Status) → x.status ≡ st
          → StaysLed m counts (and_then (sleeper_of i x st) go)
      by i x e Status.Running d = tt
      by i x e (Status.Suspended at vs) d =
          k (record { number = i; instance = x; suspend = at; values = vs }) e d
      by i x e Status.Finished d = tt

      on : (o : Option (ℕ × Instance)) → ((j : ℕ) (x : Instance) → o ≡ Some (j, x) → slice_get s.instances j ≡ Some x)
          → StaysLed m counts (and_then (and_then (found Cause.Frame o) (λ (i, x). sleeper_of i x x.status)) go)
      on None is = tt
      on (Some z) is = by z.0 z.1 (is z.0 z.1 refl) z.1.status refl

  module _ (s : State) (h : IsLed m counts s) where
    pub own_led : (t : Instance → Instance)
        → ((x : Instance) → IsMore x (t x) × (IsLedInstance m counts x → IsLedInstance m counts (t x)))
        → (o : Option (ℕ × Instance))
        → ((i : ℕ) (x : Instance) → o ≡ Some (i, x) → slice_get s.instances i ≡ Some x) → IsLed m counts
        (change_own s t o)
    own_led t k None is = h
    own_led t k (Some p) is =
        changed_led s h p.0 p.1 (t p.1) (is p.0 p.1 refl) (k p.1).0
        ((k p.1).1 (asleep_at m counts s.instances p.0 p.1 (is p.0 p.1 refl) h.instances))

    let_go_led : (o : Option (ℕ × Instance))
        → ((i : ℕ) (x : Instance) → o ≡ Some (i, x) → slice_get s.instances i ≡ Some x) → IsLed m counts
        (if_let_go s o)
    let_go_led None is = h
    let_go_led (Some p) is = on (may_be_freed p.1)
      where
        on : (b : Bool) → IsLed m counts (if b then let_go s p.0 p.1 else s)
        on true =
            let e = is p.0 p.1 refl in
            let k = changed_led s h p.0 p.1 (record p.1 { freed = true }) e
            (record { slots = λ v z q. q; frame = refl }) (asleep_at m counts s.instances p.0 p.1 e h.instances) in
            record { stack = k.stack; instances = k.instances; entering = k.entering }
        on false = h

    own_there : (p : ℕ × Instance) → found Cause.State (own_instance s) ≡ Ok p → slice_get s.instances p.0 ≡ Some p.1
    own_there p e = on (own_instance s) (λ i x d. own_is s i x d) e
      where
        on : (o : Option (ℕ × Instance))
            → ((i : ℕ) (x : Instance) → o ≡ Some (i, x) → slice_get s.instances i ≡ Some x) → found Cause.State o ≡
            Ok p
            → slice_get s.instances p.0 ≡ Some p.1
        on None is k = absurd (cc)
        on (Some q) is k =
            let same : q ≡ p = cc in
            subst (λ (r : ℕ × Instance). slice_get s.instances r.0 ≡ Some r.1) same (is q.0 q.1 refl)

    -- the own instance's values are the activation's
    saved : (i : ℕ) (x : Instance) → own_instance s ≡ Some (i, x)
        → AreLed (counts s.top.func) (function_at m s.top.func) x.slots (frame_address_of x) s.top.values
    saved i x e = on s.top.instance h.stack.0 e
      where
        on : (o : Option ℕ)
            → AreLedWith (counts s.top.func) (function_at m s.top.func) s.instances o s.top.slots s.top.values
            → option_and_then (numbered s.instances) o ≡ Some (i, x)
            → AreLed (counts s.top.func) (function_at m s.top.func) x.slots (frame_address_of x) s.top.values
        on None k d = absurd (cc)
        on (Some j) k d =
            let there : option_map {U = ℕ × Instance} (λ y. (j, y)) (Some k.0) ≡ Some (i, x) =
            ap (option_map {U = ℕ × Instance} (λ y. (j, y))) (sym k.1) ∙ d in
            let pair : ◌≡◌ {A = ℕ × Instance} (j, k.0) (i, x) = cc in
            subst (λ (y : Instance). AreLed (counts s.top.func) (function_at m s.top.func) y.slots (frame_address_of y)
            s.top.values) (ap (λ (p : ℕ × Instance). p.1) pair) k.2

-- ---- steps

module _ (hooks : Hooks) (counts : ℕ → ℕ → Bool) (keeps : KeepsLed hooks counts)
    (rules : KeepAllNames hooks.given counts)
    (types : KeepsAllTypes hooks.given.code) (s : State) (r : IsReachedState hooks.given s)
    (c : IsCalledState hooks.given.code s) (room : HasValues hooks.given.code s.top.func s.top.values)
    (h : IsLed hooks.given.code counts s) where
  abbrev m : Module
  m = hooks.given.code

  abbrev f : Function
  f = function_at hooks.given.code s.top.func

  abbrev ramp : ℕ → List ℕ
  ramp func = (facts_at hooks.given.facts func).ramp_slots

  abbrev Free : Option ℕ → Type 0
  Free result = IsFreeIn hooks.given.code counts (λ func. (facts_at hooks.given.facts func).ramp_slots) rules
      s.top.func
      result

  gave : (t : State) (result : Option ℕ) (v : Value) → IsLed hooks.given.code counts t → IsNotEntering t.top.mode
      → IsFreeIn hooks.given.code counts (λ func. (facts_at hooks.given.facts func).ramp_slots) rules t.top.func result
      → IsLed hooks.given.code counts (gives t result v)
  gave t result v k still free = gives_led hooks.given.code counts ramp rules t result v k still free

  none : Free None
  none = none_free (counts s.top.func) f (ramp s.top.func) (rules s.top.func)

  -- ---- intrinsics

  module _ (still : IsNotEntering s.top.mode) where
    leaves_led : (label : ℕ) (windows : List Window)
        → StaysLed hooks.given.code counts (branch_leaving hooks.given s label windows)
    leaves_led label [] = λ running. enter_block_led m counts ramp rules hooks.given refl s label h still
    leaves_led label (w ∷ windows) = then_led m counts (found Cause.State (own_instance s)) _ (λ p e.
        let k = changed_led m counts s h p.0 p.1 (record p.1 { status = Status.Running }) (own_there m counts s h p e)
        (record { slots = λ v z q. q; frame = refl }) tt in
        ok_led m counts _ Cause.State _ (enter_block_led m counts ramp rules hooks.given refl _ label
        (record { stack = k.stack; instances = k.instances; entering = k.entering }) still))

    save_led : (k u : Point) (go : State → Result State Cause)
        → ((t : State) → IsLed hooks.given.code counts t → IsNotEntering t.top.mode → t.top.func ≡ s.top.func
        → StaysLed hooks.given.code counts (go t)) → StaysLed hooks.given.code counts (and_then (save_for s k u) go)
    save_led k u go then' = on (own_instance s) refl
      where
        by : (p : ℕ × Instance) → own_instance s ≡ Some p → (b : Bool)
            → StaysLed hooks.given.code counts (and_then (ok_if b Cause.State
            (with_left (with_instance s p.0 (record p.1 {
              status = Status.Suspended u s.top.values;
              last_save = Some (record { depth = length s.below; save = k });
            })) true)) go)
        by p e false = tt
        by p e true =
            let x = record p.1 {
              status = Status.Suspended u s.top.values;
              last_save = Some (record { depth = length s.below; save = k });
            } in
            let q = changed_led m counts s h p.0 p.1 x (own_is s p.0 p.1 e)
            (record { slots = λ v z q. q; frame = refl })
            (subst (λ (func : ℕ). AreLed (counts func) (function_at hooks.given.code func) p.1.slots
            (frame_address_of p.1) s.top.values) (sym (own_function hooks.given s r p.0 p.1 e))
            (saved m counts s h p.0 p.1 e)) in
            then' _ (record { stack = q.stack; instances = q.instances; entering = q.entering }) still refl

        on : (o : Option (ℕ × Instance)) → own_instance s ≡ o
            → StaysLed hooks.given.code counts (and_then (and_then (found Cause.State o) (λ (i, x).
            ok_if (not x.freed) Cause.State
            (with_left
            (with_instance s i (record x {
              status = Status.Suspended u s.top.values;
              last_save = Some (record { depth = length s.below; save = k });
            })) true))) go)
        on None e = tt
        on (Some p) e = by p e (not p.1.freed)

    free_in : (t : State) (result : Option ℕ) → t.top.func ≡ s.top.func → Free result
        → IsFreeIn hooks.given.code counts (λ func. (facts_at hooks.given.facts func).ramp_slots) rules t.top.func
        result
    free_in t result e free = subst (λ (func : ℕ). IsFreeIn hooks.given.code counts
        (λ func. (facts_at hooks.given.facts func).ramp_slots) rules func result) (sym e) free

    suspend_led : (result : Option ℕ) (of_save : Operand) → Free result
        → StaysLed hooks.given.code counts (suspend s result of_save)
    suspend_led result Operand.None free = save_led (point_of s) (point_of s) _ (λ t k q e running.
        gave t result _ k q (free_in t result e free))
    suspend_led result _ free = λ running. gave s result _ h still free

    end_led : (result : Option ℕ) → Free result → StaysLed hooks.given.code counts (end_of s hooks.close result)
    end_led result free = on s.top.has_left
      where
        closed : (hooks.close s).top ≡ s.top
        closed = (keeps.closed s).0

        on : (b : Bool)
            → StaysLed hooks.given.code counts (after_end (if b then s else hooks.close s) result s.top.mode)
        on true = after_led m counts ramp rules types s result s.top.mode h still c.below free
        on false = after_led m counts ramp rules types (hooks.close s) result s.top.mode (keeps.close s h)
            (subst (λ (a : Activation). IsNotEntering a.mode) (sym closed) still)
            (subst (λ (p : Option ℕ × List Activation). AreBehindCalls hooks.given.code p.0 p.1)
            (λ i. ((sym closed i).result, sym (keeps.closed s).1 i)) c.below)
            (free_in (hooks.close s) result (ap (λ (a : Activation). a.func) closed) free)

    freed_led : (p : Value) → StaysLed hooks.given.code counts (deallocate s p)
    freed_led p = on (if_let_go s (instance_at s.instances p))
        (let_go_led m counts s h (instance_at s.instances p) (λ i y d. at_is s.instances p i y d))
        (let_go_top (instance_at s.instances p))
      where
        let_go_top : (o : Option (ℕ × Instance)) → IsNotEntering (if_let_go s o).top.mode
        let_go_top None = still
        let_go_top (Some q) = by (may_be_freed q.1)
          where
            by : (b : Bool) → IsNotEntering (if b then let_go s q.0 q.1 else s).top.mode
            by true = still
            by false = still

        on : (t : State) → IsLed hooks.given.code counts t → IsNotEntering t.top.mode
            → StaysLed hooks.given.code counts (and_then (deallocated t.world.memory p)
            (λ memory. Ok (next (with_memory t memory))))
        on t k q = then_led m counts (deallocated t.world.memory p) (λ memory. Ok (next (with_memory t memory)))
            (λ memory e running. record {
              stack = k.stack;
              instances = k.instances;
              entering = still_at (counts t.top.func) (fetch (function_at hooks.given.code t.top.func) t.top.block
                  (t.top.at + 1)) t.top.mode q;
            })

    module _ (result : Option ℕ) (must_tail : Bool) (ty : Option Ty) (args : List Arg) (vs : List Value) where
      abbrev Stands : Intrinsic → Type 0
      Stands i = fetch (function_at hooks.given.code s.top.func) s.top.block s.top.at
          ≡ AtInstr (Instr.Call result must_tail ty (Callee.Intrinsic i) args)

      free : (i : Intrinsic) → Stands i → given_by_intrinsic i result ≡ result
          → (IsMaker (Instr.Call result must_tail ty (Callee.Intrinsic i) args) → ⊥) → Free result
      free i e g never = free_at (counts s.top.func) f (ramp s.top.func) (rules s.top.func) s.top.block s.top.at
          (Instr.Call result must_tail ty (Callee.Intrinsic i) args) e result g never

      coro_led : (i : Intrinsic) → Stands i → StaysLed hooks.given.code counts (hooked_coro hooks s i args vs result)
      coro_led Intrinsic.CoroId e = λ running. gave s None Value.Poison h still none
      coro_led Intrinsic.CoroSizeI32 e = λ running. gave s result _ h still
          (free Intrinsic.CoroSizeI32 e refl (λ z. z))
      coro_led Intrinsic.CoroSizeI64 e = λ running. gave s result _ h still
          (free Intrinsic.CoroSizeI64 e refl (λ z. z))
      coro_led Intrinsic.CoroAlignI32 e = λ running. gave s result _ h still
          (free Intrinsic.CoroAlignI32 e refl (λ z. z))
      coro_led Intrinsic.CoroAlignI64 e = λ running. gave s result _ h still
          (free Intrinsic.CoroAlignI64 e refl (λ z. z))
      coro_led Intrinsic.CoroAlloc e = λ running. gave s result _ h still (free Intrinsic.CoroAlloc e refl (λ z. z))
      coro_led Intrinsic.CoroFrame e = λ running. gave s result _ h still (free Intrinsic.CoroFrame e refl (λ z. z))
      coro_led Intrinsic.LifetimeStart e = λ running. gave s None Value.Poison h still none
      coro_led Intrinsic.LifetimeEnd e = λ running. gave s None Value.Poison h still none
      coro_led Intrinsic.MemcpyI64 e = λ running. gave s None Value.Poison h still none
      coro_led Intrinsic.MemcpyI32 e = λ running. gave s None Value.Poison h still none
      coro_led Intrinsic.CoroBegin e =
          let named = (rules s.top.func).given s.top.block s.top.at result must_tail ty args e in
          keeps.start s result (nth vs 1) h still named (λ v d.
          subst (λ (n : ℕ). v < n) (sym room) ((rules s.top.func).begins v (named ∙ d)).low)
      coro_led Intrinsic.CoroFree e = λ running. gave (release s) result (hooks.freed s)
          (own_led m counts s h (λ x. record x { released = true })
          (λ x. (record { slots = λ v z q. q; frame = refl }, λ q. q)) (own_instance s) (λ i x d. own_is s i x d))
          (released (own_instance s)).0
          (free_in (release s) result (released (own_instance s)).1 (free Intrinsic.CoroFree e refl (λ z. z)))
        where
          released : (o : Option (ℕ × Instance))
              → IsNotEntering (change_own s (λ x. record x { released = true }) o).top.mode
              × ((change_own s (λ x. record x { released = true }) o).top.func ≡ s.top.func)
          released None = (still, refl)
          released (Some p) = (still, refl)
      coro_led Intrinsic.CoroSave e =
          then_led m counts (found Cause.State (suspend_of (function_of hooks.given s) (point_of s))) _ (λ u eu.
          save_led (point_of s) u _ (λ t k q d running. gave t None Value.Poison k q (free_in t None d none)))
      coro_led Intrinsic.CoroSuspend e =
          suspend_led result (operand_at args 0) (free Intrinsic.CoroSuspend e refl (λ z. z))
      coro_led Intrinsic.CoroEnd e = end_led result (free Intrinsic.CoroEnd e refl (λ z. z))
      coro_led Intrinsic.CoroResume e = sleeper_led m counts s (nth vs 0) _ (λ y there asleep.
          ok_led m counts _ Cause.State _ (keeps.go_on s y.number y.instance y.suspend y.values _ r h there asleep))
      coro_led Intrinsic.CoroDestroy e = sleeper_led m counts s (nth vs 0) _ (λ y there asleep running.
          keeps.go_on s y.number y.instance y.suspend y.values _ r h there asleep)
      coro_led Intrinsic.CoroDone e = sleeper_led m counts s (nth vs 0) _ (λ y there asleep.
          ok_led m counts _ Cause.State _ (gave s result _ h still (free Intrinsic.CoroDone e refl (λ z. z))))
      coro_led Intrinsic.CoroPromise e =
          then_led m counts (hooks.promised s (nth vs 0) (operand_at args 2)) _ (λ v ev running.
          gave s result v h still (free Intrinsic.CoroPromise e refl (λ z. z)))

  -- ---- an instruction

  abbrev Doing : Fetched → Action → Type 0
  Doing x a = action_of (hooked_context hooks s) (work_of s) x ≡ a

  -- what makes allocas again is at one
  is_still : (x : Fetched) → fetch (function_at hooks.given.code s.top.func) s.top.block s.top.at ≡ x → (a : Action)
      → Doing x a → (IsMaking a → ⊥) → IsNotEntering s.top.mode
  is_still x e a d never = on s.top.mode h.entering
    where
      on : (mode : Mode) → IsEnteringAt (counts s.top.func)
          (fetch (function_at hooks.given.code s.top.func) s.top.block s.top.at) mode → IsNotEntering mode
      on Mode.Plain k = tt
      on Mode.Ramp k = tt
      on Mode.Resumed k = tt
      on (Mode.GivenRamp frame) k = tt
      on (Mode.Entering from label) k =
          let there : x ≡ AtInstr (Instr.Alloca k.alloca k.ty k.align) = sym e ∙ k.stands in
          never (making (work_of s) k.alloca a (of_alloca (hooked_context hooks s) (work_of s) k.alloca k.align k.ty a
          (subst (λ (z : Fetched). Doing z a) there d)))

  -- no alloca or begin is done
  not_done : (i : Instr) (w : Work) → Doing (AtInstr i) (Done w) → IsMaker i → ⊥
  not_done (Instr.Alloca name ty align) w d k =
      of_alloca (hooked_context hooks s) (work_of s) name align ty (Done w) d
  not_done (Instr.Call result must_tail ty (Callee.Intrinsic Intrinsic.CoroBegin) args) w d k = absurd (cc)
  not_done _ w d k = absurd k

  module _ (i : Instr) (e : fetch (function_at hooks.given.code s.top.func) s.top.block s.top.at ≡ AtInstr i) where
    abbrev StillFor : Action → Type 0
    StillFor a = Doing (AtInstr i) a → (IsMaking a → ⊥) → IsNotEntering s.top.mode

    still_for : (a : Action) → StillFor a
    still_for a d never = is_still (AtInstr i) e a d never

    done_led : (w : Work) → Doing (AtInstr i) (Done w) → IsLed hooks.given.code counts (settled s w)
    done_led w d =
        let k = moved_led m counts s h (still_for (Done w) d (λ z. z)) s.top.block (s.top.at + 1) w.values
        (λ v watched.
        sets v (λ g. not_done i w d (maker_at (counts s.top.func) f (ramp s.top.func) (rules s.top.func) s.top.block
        s.top.at i e v watched g))) in
        record { stack = k.stack; instances = k.instances; entering = k.entering }
      where
        sets : SetsOnly (given_by i) s.top.values (Done w)
        sets = subst (SetsOnly (given_by i) s.top.values) d
            (step_sets (hooked_context hooks s) (work_of s) (AtInstr i))

    slot_led : (w : Work) (slot : Slot) → Doing (AtInstr i) (NewSlot w slot)
        → IsLed hooks.given.code counts (hooks.place (settled s w) slot)
    slot_led w slot d = by (alloca_is i (slots_by (hooked_context hooks s) (work_of s) i w slot d))
      where
        by : ((name : ℕ) × (ty : Ty) × (align : ℕ) × (i ≡ Instr.Alloca name ty align))
            → IsLed hooks.given.code counts (hooks.place (settled s w) slot)
        by (name, ty, align, is) =
            let there : fetch (function_at hooks.given.code s.top.func) s.top.block s.top.at
            ≡ AtInstr (Instr.Alloca name ty align) = e ∙ ap AtInstr is in
            let made = of_alloca (hooked_context hooks s) (work_of s) name align ty (NewSlot w slot)
            (subst (λ (z : Instr). Doing (AtInstr z) (NewSlot w slot)) is d) in
            keeps.place (settled s w) slot (record {
              old = s.top.values;
              top = h.stack.0;
              below = h.stack.1;
              instances = h.instances;
              counted = λ v counted. named v name made.0 made.1 (name == v) refl;
              begun = λ v b. ap (λ (z : Env). value_in z v) made.1 ∙ set_elsewhere s.top.values name v _ (λ same.
                  alloca_apart (counts s.top.func) f (ramp s.top.func) (rules s.top.func) s.top.block s.top.at name
                  align
                  ty there (b ∙ ap Some (sym same)));
              again = on name made.0 s.top.mode h.entering ty align there;
            })
          where
            named : (v name : ℕ) → slot.alloca ≡ name
                → w.values ≡ with_value s.top.values name
                (pointer_to slot.block) → (b : Bool)
                → (name == v) ≡ b
                → (value_in w.values v ≡ value_in s.top.values v) ⊎ IsLedBy (slot ∷ []) v (value_in w.values v)
            named v name alloca values true same =
                let eq : name ≡ v = eq_from name v same in
                inr (subst (λ (u : ℕ). IsLedBy (slot ∷ []) u (value_in w.values u)) eq
                (subst (λ (z : Env). IsLedBy (slot ∷ []) name (value_in z name)) (sym values)
                (set_led s.top.values name slot alloca)))
            named v name alloca values false same =
                inl (ap (λ (z : Env). value_in z v) values ∙ set_elsewhere s.top.values name v _ (λ eq.
                differs name v eq same))

            on : (name : ℕ) → slot.alloca ≡ name → (mode : Mode) → IsEnteringAt (counts s.top.func)
                (fetch (function_at hooks.given.code s.top.func) s.top.block s.top.at) mode → (ty : Ty) (align : ℕ)
                → fetch (function_at hooks.given.code s.top.func) s.top.block s.top.at
                ≡ AtInstr (Instr.Alloca name ty align)
                → IsNotEntering mode ⊎ (counts s.top.func slot.alloca ≡ false)
            on name alloca (Mode.Entering from label) k ty align there =
                let both : AtInstr (Instr.Alloca k.alloca k.ty k.align) ≡ AtInstr (Instr.Alloca name ty align) =
                sym k.stands ∙ there in
                let same : k.alloca ≡ name = cc in
                inr (ap (counts s.top.func) (alloca ∙ sym same) ∙ k.uncounted)
            on name alloca Mode.Plain k ty align there = inl tt
            on name alloca Mode.Ramp k ty align there = inl tt
            on name alloca Mode.Resumed k ty align there = inl tt
            on name alloca (Mode.GivenRamp frame) k ty align there = inl tt

    called_mode : (b : Bool) → IsNotEntering (if b then Mode.Ramp else Mode.Plain)
    called_mode true = tt
    called_mode false = tt

    instr_led : (a : Action) → Comes i a → Doing (AtInstr i) a → StaysLed hooks.given.code counts
        (hooked_act hooks s a)
    instr_led (Stuck cause) q d = tt
    instr_led (Done w) q d = λ running. done_led w d
    instr_led (NewSlot w slot) q d = λ running. slot_led w slot d
    instr_led (Enter func args result must_tail) q d = λ running.
        called_led m counts ramp rules s func args result
        (mode_of (function_at hooks.given.code func))
        (called_mode (function_at hooks.given.code func).coroutine)
        (record {
          stack = h.stack;
          instances = h.instances;
          entering = h.entering;
        })
    instr_led (Coro x args result) q d =
        coro_led (still_for (Coro x args result) d (λ z. z)) result q.0 q.1 args
        (arg_values hooks.given.code s.top.values args) x (e ∙ ap AtInstr q.2)
    instr_led (Deallocate p) q d = freed_led (still_for (Deallocate p) d (λ z. z)) p
    instr_led (GoTo label) q d = absurd q
    instr_led (Return v) q d = absurd q

  module _ (t : Terminator) (e : fetch (function_at hooks.given.code s.top.func) s.top.block s.top.at ≡ AtTerm t) where
    term_led : (a : Action) → IsOfInstr a ≡ false → Doing (AtTerm t) a
        → StaysLed hooks.given.code counts (hooked_act hooks s a)
    term_led (Stuck cause) q d = tt
    term_led (GoTo label) q d =
        leaves_led (is_still (AtTerm t) e (GoTo label) d (λ z. z)) label (left_windows hooks.given s label)
    term_led (Return v) q d = return_led m counts ramp rules types s v h c.below
    term_led (Done w) q d = absurd (false≢true (sym q))
    term_led (NewSlot w slot) q d = absurd (false≢true (sym q))
    term_led (Enter func args result must_tail) q d = absurd (false≢true (sym q))
    term_led (Coro x args result) q d = absurd (false≢true (sym q))
    term_led (Deallocate p) q d = absurd (false≢true (sym q))

  act_led : (x : Fetched) → fetch (function_at hooks.given.code s.top.func) s.top.block s.top.at ≡ x
      → StaysLed hooks.given.code counts (hooked_act hooks s (action_of (hooked_context hooks s) (work_of s) x))
  act_led Nowhere e = tt
  act_led (AtInstr i) e = instr_led i e (instr_action (hooked_context hooks s) (work_of s) i)
      (comes (hooked_context hooks s) (work_of s) i) refl
  act_led (AtTerm t) e = term_led t e (term_action (hooked_context hooks s) (work_of s) t)
      (of_term (hooked_context hooks s) s t) refl

  -- a marker that does nothing goes on
  idle_led : (x : Fetched) → fetch (function_at hooks.given.code s.top.func) s.top.block s.top.at ≡ x
      → hooks.is_idle s x ≡ true → IsLed hooks.given.code counts (next s)
  idle_led x e d = gave s None Value.Poison h (on s.top.mode h.entering) none
    where
      ordinary : IsOrdinary x
      ordinary = keeps.idle s x d

      on : (mode : Mode) → IsEnteringAt (counts s.top.func)
          (fetch (function_at hooks.given.code s.top.func) s.top.block s.top.at) mode → IsNotEntering mode
      on Mode.Plain k = tt
      on Mode.Ramp k = tt
      on Mode.Resumed k = tt
      on (Mode.GivenRamp frame) k = tt
      on (Mode.Entering from label) k =
          let both : AtInstr (Instr.Alloca k.alloca k.ty k.align) ≡ AtInstr ordinary.instr =
          sym k.stands ∙ e ∙ ordinary.stands in
          let same : Instr.Alloca k.alloca k.ty k.align ≡ ordinary.instr = cc in
          absurd (false≢true (sym ordinary.no_alloca ∙ sym (ap is_alloca same)))

  next_led : (x : Fetched) → fetch (function_at hooks.given.code s.top.func) s.top.block s.top.at ≡ x
      → hooks.given_call s x ≡ None → StaysLed hooks.given.code counts (hooked_next hooks s x)
  next_led x e ungiven = on (hooks.is_idle s x) refl (hooks.given_call s x) ungiven
    where
      on : (b : Bool) → hooks.is_idle s x ≡ b → (o : Option (Result State Cause)) → o ≡ None
          → StaysLed hooks.given.code counts (if b then Ok (next s) else unwrap_or o
          (hooked_act hooks s (action_of (hooked_context hooks s) (work_of s) x)))
      on true d o u = λ running. idle_led x e d
      on false d None u = act_led x e
      on false d (Some q) u = absurd (cc)

-- ---- a step

or_led : (g : Given) (counts : ℕ → ℕ → Bool) (s : State) (q : Result State Cause) → StaysLed g.code counts q
    → IsLedState g.code counts (or_undefined g s q)
or_led g counts s (Err cause) k = λ running. absurd (cc)
or_led g counts s (Ok t) k = λ running. k running

pub step_led : (hooks : Hooks) (counts : ℕ → ℕ → Bool) → KeepsLed hooks counts → KeepAllNames hooks.given counts
    → KeepsAllTypes hooks.given.code → (s : State) → IsReachedState hooks.given s → IsCalledState hooks.given.code s
    → HasValues hooks.given.code s.top.func s.top.values → IsLedState hooks.given.code counts s
    → IsLedState hooks.given.code counts (step_of hooks s)
step_led hooks counts keeps rules types s r c room h = on s.outcome refl
  where
    on : (o : Outcome) → s.outcome ≡ o → IsLedState hooks.given.code counts (hooked_advance hooks s o)
    on Outcome.Running e =
        let x = fetch (function_of hooks.given s) s.top.block s.top.at in
        or_led hooks.given counts s (hooked_next hooks s x)
        (next_led hooks counts keeps rules types s r c room (h e) x refl (keeps.ungiven s s.top.block s.top.at))
    on (Outcome.Returned v) e = h
    on (Outcome.Undefined cause place) e = h
