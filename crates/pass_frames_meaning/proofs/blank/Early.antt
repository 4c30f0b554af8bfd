-- A step leaves slots of activations that have begun no instance with them, and adds the one that an alloca makes.
use Rattle.std.proofs.Common.{◌≡◌, ⊎_elim, ℕ, Bool, true, false, List, [], ◌∷◌, length, Option, Some, None}
use Rattle.std.proofs.Common.{Result, Ok, Err, refl, sym, ap, ◌∙◌, subst, if◌then◌else◌}
use Rattle.std.specs.Prelude.{negsuc, not, unwrap_or}
use Rattle.pass_frames_proof.specs.flow_solver.Paths.{IsListed}
use Rattle.pass_frames_proof.specs.ir_base.declared.cause.Cause.{Cause}
use Rattle.pass_frames_proof.specs.ir_base.declared.outcome.Outcome.{Outcome}
use Rattle.pass_frames_proof.specs.ir_model.declared.operand.Arg.{Arg}
use Rattle.pass_frames_proof.specs.ir_model.declared.operand.Intrinsic.{Intrinsic}
use Rattle.pass_frames_proof.specs.ir_model.declared.operand.Operand.{Operand}
use Rattle.pass_frames_proof.specs.ir_paths.Windows.{operand_at, suspend_of}
use Rattle.pass_frames_proof.specs.ir_paths.declared.point.Point.{Point}
use Rattle.pass_frames_proof.specs.ir_paths.declared.point.Window.{Window}
use Rattle.pass_frames_meaning.specs.Blank.{AreEarly, AreEarlyOn, HasSlotMore, IsEarlywise, KeepsEarlywise}
use Rattle.pass_frames_meaning.specs.Blank.{StaysEarlywise}
use Rattle.pass_renewed_meaning.specs.run_hooks.Hooks.{Hooks, hooked_act, hooked_advance, hooked_context, hooked_coro}
use Rattle.pass_renewed_meaning.specs.run_hooks.Hooks.{hooked_next}
use Rattle.pass_renewed_meaning.specs.run_hooks.Hooks.{step_of}
use Rattle.pass_renewed_meaning.specs.run_hooks.Left.{HasBegun, HasResumed, IsAlike}
use Rattle.pass_frames_proof.specs.run_memory.declared.pointer.Value.{Value}
use Rattle.pass_frames_proof.specs.run_source.Source.{Sleeper, after_end, branch_leaving, change_own, deallocate}
use Rattle.pass_frames_proof.specs.run_source.Source.{end_of}
use Rattle.pass_frames_proof.specs.run_source.Source.{if_let_go, left_windows, let_go, may_be_freed, pop, release}
use Rattle.pass_frames_proof.specs.run_source.Source.{return}
use Rattle.pass_frames_proof.specs.run_source.Source.{returned, save_for, sleeper_at, sleeper_of, suspend}
use Rattle.pass_frames_proof.specs.run_source.State.{function_of, gives, instance_at, next, or_undefined}
use Rattle.pass_frames_proof.specs.run_source.State.{own_instance, point_of}
use Rattle.pass_frames_proof.specs.run_source.State.{settled, with_instance, with_left, with_memory, work_of}
use Rattle.pass_frames_proof.specs.run_source.declared.state.Activation.{Activation}
use Rattle.pass_frames_proof.specs.run_source.declared.state.Instance.{Instance}
use Rattle.pass_frames_proof.specs.run_source.declared.state.Mode.{Mode}
use Rattle.pass_frames_proof.specs.run_source.declared.state.State.{State}
use Rattle.pass_frames_proof.specs.run_source.declared.state.Status.{Status}
use Rattle.pass_frames_proof.specs.run_step.Results.{and_then, found, ok_if}
use Rattle.pass_frames_proof.specs.run_step.Step.{Action, Coro, Deallocate, Done, Enter, Fetched, GoTo}
use Rattle.pass_frames_proof.specs.run_step.Step.{NewSlot, Return, Stuck, Work, action_of, deallocated, fetch}
use Rattle.pass_frames_proof.specs.run_step.Step.{outcome_of}
use Rattle.pass_frames_proof.specs.run_step.Values.{arg_values, integer, nth, truth_value}
use Rattle.pass_frames_proof.specs.run_step.declared.world.Slot.{Slot}

not_some : (o : Option ℕ) (i : ℕ) → o ≡ Some i → o ≡ None → ⊥
not_some o i e d = let both : Some i ≡ None = sym e ∙ d in absurd (cc)

-- ---- parts of states

module _ (W : ℕ → Slot → Type 0) where
  abbrev Fine : Result State Cause → Type 0
  Fine r = StaysEarlywise W r

  abbrev Goes : State → Type 0
  Goes t = AreEarly W t.top × AreEarlyOn W t.below

  then_fine : {A : Type 0} (r : Result A Cause) (go : A → Result State Cause) → ((a : A) → r ≡ Ok a → Fine (go a))
      → Fine (and_then r go)
  then_fine (Err cause) go k = tt
  then_fine (Ok a) go k = k a refl

  ok_fine : (b : Bool) (cause : Cause) (t : State) → IsEarlywise W t → Fine (ok_if b cause t)
  ok_fine true cause t k = k
  ok_fine false cause t k = tt

  gave : (t : State) (result : Option ℕ) (v : Value) → Goes t → IsEarlywise W (gives t result v)
  gave t result v n = record { stack = (n.0, n.1) }

  -- the topmost activation, but for its own instance's status
  changed : (t : State) (f : Instance → Instance) (o : Option (ℕ × Instance)) → Goes t → Goes (change_own t f o)
  changed t f None n = n
  changed t f (Some p) n = (n.0, n.1)

  same_top : (s t : State) → t.top ≡ s.top → t.below ≡ s.below → Goes s → Goes t
  same_top s t top below n = (subst (AreEarly W) (sym top) n.0, subst (AreEarlyOn W) (sym below) n.1)

  -- an activation with an instance is on top
  on_top : (t : State) (i : ℕ) → t.top.instance ≡ Some i → AreEarlyOn W t.below → IsEarlywise W t
  on_top t i e below = record { stack = (λ none slot l. absurd (not_some t.top.instance i e none), below) }

  return_fine : (t : State) (v : Option Value) → Goes t → Fine (return t v)
  return_fine t v k = by t.below k.1
    where
      by : (below : List Activation) → AreEarlyOn W below → Fine (pop (returned t) v below)
      by [] q = then_fine (outcome_of v) (λ outcome. Ok (record (returned t) { outcome = outcome })) (λ outcome e.
          record { stack = (λ none slot l. absurd l, k.1) })
      by (a ∷ below) q = record { stack = (q.0, q.1) }

  after_fine : (t : State) (result : Option ℕ) (mode : Mode) → Goes t → Fine (after_end t result mode)
  after_fine t result Mode.Resumed n = return_fine t None n
  after_fine t result _ n = gave t result (truth_value false) n

  sleeper_fine : (t : State) (p : Value) (go : Sleeper → Result State Cause) → ((y : Sleeper) → Fine (go y))
      → Fine (and_then (sleeper_at t p) go)
  sleeper_fine t p go k = on (instance_at t.instances p)
    where
      by : (i : ℕ) (x : Instance) (st : Status) → Fine (and_then (sleeper_of i x st) go)
      by i x Status.Running = tt
      by i x (Status.Suspended at vs) = k (record { number = i; instance = x; suspend = at; values = vs })
      by i x Status.Finished = tt

      on : (o : Option (ℕ × Instance))
          → Fine (and_then (and_then (found Cause.Frame o) (λ (i, x). sleeper_of i x x.status)) go)
      on None = tt
      on (Some z) = by z.0 z.1 z.1.status

  save_fine : (t : State) (p u : Point) (go : State → Result State Cause) → Goes t
      → ((v : State) → Goes v → Fine (go v)) → Fine (and_then (save_for t p u) go)
  save_fine t p u go n then' = on (own_instance t)
    where
      by : (q : ℕ × Instance) (b : Bool)
          → Fine (and_then (ok_if b Cause.State (with_left (with_instance t q.0 (record q.1 {
            status = Status.Suspended u t.top.values;
            last_save = Some (record { depth = length t.below; save = p });
          })) true)) go)
      by q false = tt
      by q true = then' _ (n.0, n.1)

      on : (o : Option (ℕ × Instance))
          → Fine (and_then (and_then (found Cause.State o) (λ (i, x).
          ok_if (not x.freed) Cause.State
          (with_left
          (with_instance t i (record x {
            status = Status.Suspended u t.top.values;
            last_save = Some (record { depth = length t.below; save = p });
          })) true))) go)
      on None = tt
      on (Some q) = by q (not q.1.freed)

  suspend_fine : (t : State) (result : Option ℕ) (of_save : Operand) → Goes t → Fine (suspend t result of_save)
  suspend_fine t result Operand.None n = save_fine t (point_of t) (point_of t) _ n (λ v c.
      gave v result (integer 8 (negsuc 0)) c)
  suspend_fine t result _ n = gave t result (integer 8 (negsuc 0)) n

  freed_fine : (t : State) (p : Value) → Goes t → Fine (deallocate t p)
  freed_fine t p n = on (if_let_go t (instance_at t.instances p)) (goes (instance_at t.instances p))
    where
      goes : (o : Option (ℕ × Instance)) → Goes (if_let_go t o)
      goes None = n
      goes (Some q) = by (may_be_freed q.1)
        where
          by : (b : Bool) → Goes (if b then let_go t q.0 q.1 else t)
          by true = (n.0, n.1)
          by false = n

      on : (v : State) → Goes v
          → Fine (and_then (deallocated v.world.memory p) (λ memory. Ok (next (with_memory v memory))))
      on v c = then_fine (deallocated v.world.memory p) (λ memory. Ok (next (with_memory v memory))) (λ memory e.
          record { stack = (c.0, c.1) })

-- ---- a step

module _ (h : Hooks) (keeps : KeepsEarlywise h) (W : ℕ → Slot → Type 0) (s : State) (k : IsEarlywise W s) where
  abbrev Good : Result State Cause → Type 0
  Good r = StaysEarlywise W r

  abbrev here : Fetched
  here = fetch (function_of h.given s) s.top.block s.top.at

  n : AreEarly W s.top × AreEarlyOn W s.below
  n = (k.stack.0, k.stack.1)

  -- what the instruction makes
  abbrev New : Action → Type 0
  New a = (w : Work) (slot : Slot) → a ≡ NewSlot w slot → W s.top.func slot

  -- ---- intrinsics

  module _ (result : Option ℕ) (args : List Arg) (vs : List Value) where
    begun : (t : State) → HasBegun s t → IsEarlywise W t
    begun t b = on_top W t (length s.instances) b.instance (subst (AreEarlyOn W) (sym b.below) n.1)

    starts : (r : Result State Cause) → h.start s result (nth vs 1) ≡ r → Good r
    starts (Err cause) e = tt
    starts (Ok t) e = begun t (keeps.last.start s result (nth vs 1) t e)

    resumed : (i : ℕ) (t : State) → HasResumed s i t → IsEarlywise W t
    resumed i t r = on_top W t i r.instance (subst (AreEarlyOn W) (sym r.below) (n.0, n.1))

    ended : Good (end_of s h.close result)
    ended = on s.top.has_left
      where
        on : (b : Bool) → Good (after_end (if b then s else h.close s) result s.top.mode)
        on true = after_fine W s result s.top.mode n
        on false = after_fine W (h.close s) result s.top.mode
            (same_top W s (h.close s) (keeps.reached.closed s) (keeps.last.close s).below n)

    coro_fine : (x : Intrinsic) → Good (hooked_coro h s x args vs result)
    coro_fine Intrinsic.CoroId = gave W s None Value.Poison n
    coro_fine Intrinsic.CoroSizeI32 = gave W s result _ n
    coro_fine Intrinsic.CoroSizeI64 = gave W s result _ n
    coro_fine Intrinsic.CoroAlignI32 = gave W s result _ n
    coro_fine Intrinsic.CoroAlignI64 = gave W s result _ n
    coro_fine Intrinsic.CoroAlloc = gave W s result _ n
    coro_fine Intrinsic.CoroFrame = gave W s result _ n
    coro_fine Intrinsic.LifetimeStart = gave W s None Value.Poison n
    coro_fine Intrinsic.LifetimeEnd = gave W s None Value.Poison n
    coro_fine Intrinsic.MemcpyI64 = gave W s None Value.Poison n
    coro_fine Intrinsic.MemcpyI32 = gave W s None Value.Poison n
    coro_fine Intrinsic.CoroBegin = starts (h.start s result (nth vs 1)) refl
    coro_fine Intrinsic.CoroFree = gave W (release s) result (h.freed s)
        (changed W s (λ x. record x { released = true }) (own_instance s) n)
    coro_fine Intrinsic.CoroSave =
        then_fine W (found Cause.State (suspend_of (function_of h.given s) (point_of s))) _ (λ u eu.
        save_fine W s (point_of s) u _ n (λ t c. gave W t None Value.Poison c))
    coro_fine Intrinsic.CoroSuspend = suspend_fine W s result (operand_at args 0) n
    coro_fine Intrinsic.CoroEnd = ended
    coro_fine Intrinsic.CoroResume = sleeper_fine W s (nth vs 0) _ (λ y.
        ok_fine W _ Cause.State _ (resumed y.number _
        (keeps.last.go_on s y.number y.instance y.suspend y.values _)))
    coro_fine Intrinsic.CoroDestroy = sleeper_fine W s (nth vs 0) _ (λ y.
        resumed y.number _ (keeps.last.go_on s y.number y.instance y.suspend y.values _))
    coro_fine Intrinsic.CoroDone = sleeper_fine W s (nth vs 0) _ (λ y.
        ok_fine W _ Cause.State _ (gave W s result _ n))
    coro_fine Intrinsic.CoroPromise =
        then_fine W (h.promised s (nth vs 0) (operand_at args 2)) _ (λ v ev. gave W s result v n)

  -- ---- other instructions

  goes_to : (label : ℕ) (windows : List Window) → Good (branch_leaving h.given s label windows)
  goes_to label [] = record { stack = (n.0, n.1) }
  goes_to label (w ∷ windows) = then_fine W (found Cause.State (own_instance s)) _ (λ p e.
      ok_fine W _ Cause.State _ (record { stack = (n.0, n.1) }))

  placed : (w : Work) (slot : Slot) → W s.top.func slot → IsEarlywise W (h.place (settled s w) slot)
  placed w slot new = record { stack = (top, subst (AreEarlyOn W) (sym a.below) n.1) }
    where
      a : IsAlike (settled s w) (h.place (settled s w) slot)
      a = keeps.last.place (settled s w) slot

      m : HasSlotMore (settled s w) (h.place (settled s w) slot) slot
      m = keeps.place (settled s w) slot

      top : AreEarly W (h.place (settled s w) slot).top
      top none z l = subst (λ (func : ℕ). W func z) (sym m.func) (⊎_elim
          (λ (e : z ≡ slot). subst (W s.top.func) (sym e) new)
          (λ (old : IsListed z s.top.slots). n.0 (sym a.instance ∙ none) z old)
          (m.slots z l))

  act_fine : (a : Action) → New a → Good (hooked_act h s a)
  act_fine (Stuck cause) new = tt
  act_fine (Done w) new = record { stack = (n.0, n.1) }
  act_fine (NewSlot w slot) new = placed w slot (new w slot refl)
  act_fine (Enter func args result must_tail) new = record { stack = (λ none slot l. absurd l, (n.0, n.1)) }
  act_fine (Coro x args result) new = coro_fine result args (arg_values h.given.code s.top.values args) x
  act_fine (Deallocate p) new = freed_fine W s p n
  act_fine (GoTo label) new = goes_to label (left_windows h.given s label)
  act_fine (Return v) new = return_fine W s v n

  module _ (new : (w : Work) (slot : Slot) → action_of (hooked_context h s) (work_of s)
      (fetch (function_of h.given s) s.top.block s.top.at) ≡ NewSlot w slot → W s.top.func slot) where
    nexts : (x : Fetched) → here ≡ x → h.given_call s x ≡ None → Good (hooked_next h s x)
    nexts x e none = on (h.is_idle s x) (h.given_call s x) none
      where
        on : (b : Bool) (o : Option (Result State Cause)) → o ≡ None → Good (if b then Ok (next s) else unwrap_or o
            (hooked_act h s (action_of (hooked_context h s) (work_of s) x)))
        on true o u = gave W s None Value.Poison n
        on false None u = act_fine (action_of (hooked_context h s) (work_of s) x) (λ w slot is.
            new w slot (ap (action_of (hooked_context h s) (work_of s)) e ∙ is))
        on false (Some r) u = absurd (cc)

    or_fine : (r : Result State Cause) → Good r → IsEarlywise W (or_undefined h.given s r)
    or_fine (Err cause) q = record { stack = (k.stack.0, k.stack.1) }
    or_fine (Ok t) q = q

    advances : (o : Outcome) → IsEarlywise W (hooked_advance h s o)
    advances Outcome.Running = or_fine (hooked_next h s here) (nexts here refl (keeps.ungiven s s.top.block s.top.at))
    advances (Outcome.Returned v) = k
    advances (Outcome.Undefined cause place) = k

    pub step_early : IsEarlywise W (step_of h s)
    step_early = advances s.outcome
