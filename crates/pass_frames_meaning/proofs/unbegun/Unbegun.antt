-- A step by hooks leaves activations before begin as long as they have begun no instance.
use Rattle.std.proofs.Common.{◌≡◌, ℕ, zero, suc, ◌+◌, Bool, true, false, List, [], ◌∷◌, length, Option, Some, None}
use Rattle.std.proofs.Common.{Result, Ok, Err, refl, sym, ap, ◌∙◌, subst, if◌then◌else◌}
use Rattle.std.specs.Prelude.{negsuc, not, unwrap_or}
use Rattle.pass_frames_proof.specs.ir_base.declared.cause.Cause.{Cause}
use Rattle.pass_frames_proof.specs.ir_base.declared.outcome.Outcome.{Outcome}
use Rattle.pass_frames_proof.specs.ir_base.declared.outcome.Word.{Word}
use Rattle.pass_frames_proof.specs.ir_model.Names.{function_at, position_of}
use Rattle.pass_frames_proof.specs.ir_model.Ty.{Ty}
use Rattle.pass_frames_proof.specs.ir_model.declared.instr.Instr.{Instr}
use Rattle.pass_frames_proof.specs.ir_model.declared.instr.Terminator.{Terminator}
use Rattle.pass_frames_proof.specs.ir_model.declared.module.Function.{Function}
use Rattle.pass_frames_proof.specs.ir_model.declared.module.Module.{Module}
use Rattle.pass_frames_proof.specs.ir_model.declared.operand.Arg.{Arg}
use Rattle.pass_frames_proof.specs.ir_model.declared.operand.Callee.{Callee}
use Rattle.pass_frames_proof.specs.ir_model.declared.operand.Intrinsic.{Intrinsic}
use Rattle.pass_frames_proof.specs.ir_model.declared.operand.Operand.{Operand}
use Rattle.pass_frames_proof.specs.ir_paths.Windows.{operand_at, suspend_of}
use Rattle.pass_frames_proof.specs.ir_paths.declared.point.Point.{Point}
use Rattle.pass_frames_proof.specs.ir_paths.declared.point.Window.{Window}
use Rattle.pass_frames_meaning.specs.Called.{FitsMode, IsCalledState}
use Rattle.pass_frames_meaning.specs.Led.{IsBegin}
use Rattle.pass_frames_meaning.specs.Unbegun.{AreUnbegun, IsBefore, IsSameSpot, IsUnbegun, IsUnbegunState}
use Rattle.pass_frames_meaning.specs.Unbegun.{KeepsUnbegun, StaysUnbegun, after, along, first}
use Rattle.pass_frames_proof.proofs.pass_kept_proof.Actions.{SameAction, action_same}
use Rattle.pass_frames_proof.proofs.pass_kept_proof.Same.{same_all}
use Rattle.pass_frames_proof.specs.pass_kept_proof.Needed.{BranchesTo}
use Rattle.pass_renewed_meaning.proofs.run_hooks.Reached.{IsOfInstr, of_term}
use Rattle.pass_renewed_meaning.specs.run_hooks.Hooks.{Hooks, hooked_act, hooked_advance, hooked_context, hooked_coro, hooked_next}
use Rattle.pass_renewed_meaning.specs.run_hooks.Hooks.{hooked_state_at, step_of}
use Rattle.pass_renewed_meaning.specs.run_hooks.Left.{HasBegun, HasResumed, IsAlike, waiting}
use Rattle.pass_renewed_meaning.specs.run_hooks.Reached.{IsAnInstr}
use Rattle.pass_frames_proof.specs.run_memory.declared.pointer.Value.{Value}
use Rattle.pass_frames_proof.specs.run_source.Source.{Sleeper, after_end, branch_leaving, change_own, deallocate, end_of, enter_block}
use Rattle.pass_frames_proof.specs.run_source.Source.{first_state, if_let_go, left_windows, let_go, may_be_freed, pop, release, return}
use Rattle.pass_frames_proof.specs.run_source.Source.{returned, save_for, sleeper_at, sleeper_of, suspend}
use Rattle.pass_frames_proof.specs.run_source.State.{function_of, gives, instance_at, next, or_undefined, own_instance, point_of}
use Rattle.pass_frames_proof.specs.run_source.State.{settled, with_instance, with_left, with_memory, work_of}
use Rattle.pass_frames_proof.specs.run_source.declared.state.Activation.{Activation}
use Rattle.pass_frames_proof.specs.run_source.declared.state.Instance.{Instance}
use Rattle.pass_frames_proof.specs.run_source.declared.state.Mode.{Mode}
use Rattle.pass_frames_proof.specs.run_source.declared.state.State.{State}
use Rattle.pass_frames_proof.specs.run_source.declared.state.Status.{Status}
use Rattle.pass_frames_proof.specs.run_source_tables.Given.{Given}
use Rattle.pass_frames_proof.specs.run_step.Results.{and_then, found, ok_if}
use Rattle.pass_frames_proof.specs.run_step.Runs.{iterate}
use Rattle.pass_frames_proof.specs.run_step.Step.{Action, AtInstr, AtTerm, Context, Coro, Deallocate, Done, Enter, Fetched, GoTo}
use Rattle.pass_frames_proof.specs.run_step.Step.{NewSlot, Nowhere, Return, Stuck, Work, action_of, deallocated, fetch, instr_action}
use Rattle.pass_frames_proof.specs.run_step.Step.{outcome_of, term_action}
use Rattle.pass_frames_proof.specs.run_step.Values.{arg_values, integer, nth, truth_value}
use Rattle.pass_frames_proof.specs.run_step.declared.world.Slot.{Slot}

-- begin is no other action
abbrev IsBeginning : Action → Type 0
IsBeginning (Coro Intrinsic.CoroBegin args result) = Unit {0}
IsBeginning _ = ⊥

begins : (c : Context) (w : Work) (i : Instr) → IsBegin i → IsBeginning (instr_action c w i)
begins c w (Instr.Call result must_tail ty (Callee.Intrinsic Intrinsic.CoroBegin) args) b = tt
begins c w _ b = absurd b

not_some : (o : Option ℕ) (i : ℕ) → o ≡ Some i → o ≡ None → ⊥
not_some o i e d = let both : Some i ≡ None = sym e ∙ d in absurd (cc)

-- ---- parts of states

module _ (m : Module) where
  abbrev Fine : Result State Cause → Type 0
  Fine r = StaysUnbegun m r

  -- the topmost activation goes on behind its instruction
  abbrev pub Next : State → Type 0
  Next t = (t.top.instance ≡ None → IsBefore (function_at m t.top.func) t.top.block (t.top.at + 1))
      × AreUnbegun m t.below

  then_fine : {A : Type 0} (r : Result A Cause) (go : A → Result State Cause) → ((a : A) → r ≡ Ok a → Fine (go a))
      → Fine (and_then r go)
  then_fine (Err cause) go k = tt
  then_fine (Ok a) go k = k a refl

  ok_fine : (b : Bool) (cause : Cause) (t : State) → IsUnbegunState m t → Fine (ok_if b cause t)
  ok_fine true cause t k = k
  ok_fine false cause t k = tt

  gave : (t : State) (result : Option ℕ) (v : Value) → Next t → IsUnbegunState m (gives t result v)
  gave t result v n = record { stack = (n.0, n.1) }

  -- the topmost activation, but for its own instance's status
  changed : (t : State) (f : Instance → Instance) (o : Option (ℕ × Instance)) → Next t → Next (change_own t f o)
  changed t f None n = n
  changed t f (Some p) n = (n.0, n.1)

  same_top : (s t : State) → t.top ≡ s.top → t.below ≡ s.below → Next s → Next t
  same_top s t top below n = (
    subst (λ (a : Activation). a.instance ≡ None → IsBefore (function_at m a.func) a.block (a.at + 1)) (sym top) n.0,
    subst (AreUnbegun m) (sym below) n.1,
  )

  -- an activation with an instance is on top
  on_top : (t : State) (i : ℕ) → t.top.instance ≡ Some i → AreUnbegun m t.below → IsUnbegunState m t
  on_top t i e below = record { stack = (λ none. absurd (not_some t.top.instance i e none), below) }

  return_fine : (t : State) (v : Option Value) → AreUnbegun m t.below → IsUnbegun m t.top → Fine (return t v)
  return_fine t v k top = by t.below k
    where
      by : (below : List Activation) → AreUnbegun m below → Fine (pop (returned t) v below)
      by [] q = then_fine (outcome_of v) (λ outcome. Ok (record (returned t) { outcome = outcome })) (λ outcome e.
          record { stack = (top, k) })
      by (a ∷ below) q = record { stack = (q.0, q.1) }

  after_fine : (t : State) (result : Option ℕ) (mode : Mode) → IsUnbegun m t.top → Next t
      → Fine (after_end t result mode)
  after_fine t result Mode.Resumed top n = return_fine t None n.1 top
  after_fine t result _ top n = gave t result (truth_value false) n

  sleeper_fine : (t : State) (p : Value) (go : Sleeper → Result State Cause) → ((y : Sleeper) → Fine (go y))
      → Fine (and_then (sleeper_at t p) go)
  sleeper_fine t p go k = on (instance_at t.instances p)
    where
      by : (i : ℕ) (x : Instance) (st : Status) → Fine (and_then (sleeper_of i x st) go)
      by i x Status.Running = tt
      by i x (Status.Suspended at vs) = k (record { number = i; instance = x; suspend = at; values = vs })
      by i x Status.Finished = tt

      on : (o : Option (ℕ × Instance))
          → Fine (and_then (and_then (found Cause.Frame o) (λ (i, x). sleeper_of i x x.status)) go)
      on None = tt
      on (Some z) = by z.0 z.1 z.1.status

  save_fine : (t : State) (p u : Point) (go : State → Result State Cause) → Next t
      → ((v : State) → Next v → Fine (go v)) → Fine (and_then (save_for t p u) go)
  save_fine t p u go n then' = on (own_instance t)
    where
      by : (q : ℕ × Instance) (b : Bool)
          → Fine (and_then (ok_if b Cause.State (with_left (with_instance t q.0 (record q.1 {
            status = Status.Suspended u t.top.values;
            last_save = Some (record { depth = length t.below; save = p });
          })) true)) go)
      by q false = tt
      by q true = then' _ (n.0, n.1)

      on : (o : Option (ℕ × Instance))
          → Fine (and_then (and_then (found Cause.State o) (λ (i, x).
          ok_if (not x.freed) Cause.State
          (with_left
          (with_instance t i (record x {
            status = Status.Suspended u t.top.values;
            last_save = Some (record { depth = length t.below; save = p });
          })) true))) go)
      on None = tt
      on (Some q) = by q (not q.1.freed)

  suspend_fine : (t : State) (result : Option ℕ) (of_save : Operand) → Next t → Fine (suspend t result of_save)
  suspend_fine t result Operand.None n = save_fine t (point_of t) (point_of t) _ n (λ v c.
      gave v result (integer 8 (negsuc 0)) c)
  suspend_fine t result _ n = gave t result (integer 8 (negsuc 0)) n

  freed_fine : (t : State) (p : Value) → Next t → Fine (deallocate t p)
  freed_fine t p n = on (if_let_go t (instance_at t.instances p)) (goes (instance_at t.instances p))
    where
      goes : (o : Option (ℕ × Instance)) → Next (if_let_go t o)
      goes None = n
      goes (Some q) = by (may_be_freed q.1)
        where
          by : (b : Bool) → Next (if b then let_go t q.0 q.1 else t)
          by true = (n.0, n.1)
          by false = n

      on : (v : State) → Next v
          → Fine (and_then (deallocated v.world.memory p) (λ memory. Ok (next (with_memory v memory))))
      on v c = then_fine (deallocated v.world.memory p) (λ memory. Ok (next (with_memory v memory))) (λ memory e.
          record { stack = (c.0, c.1) })

-- ---- a step

module _ (h : Hooks) (keeps : KeepsUnbegun h) (s : State) (fits : FitsMode s.top.instance s.top.mode)
    (k : IsUnbegunState h.given.code s) where
  abbrev Good : Result State Cause → Type 0
  Good r = StaysUnbegun h.given.code r

  abbrev here : Fetched
  here = fetch (function_of h.given s) s.top.block s.top.at

  abbrev Goes : State → Type 0
  Goes t = Next h.given.code t

  behind : (i : Instr) → here ≡ AtInstr i → (IsBegin i → ⊥) → Goes s
  behind i e never = (λ none. after i e never (k.stack.0 none), k.stack.1)

  -- ---- intrinsics

  module _ (result : Option ℕ) (must_tail : Bool) (ty : Option Ty) (args : List Arg) (vs : List Value) where
    abbrev Stands : Intrinsic → Type 0
    Stands x = here ≡ AtInstr (Instr.Call result must_tail ty (Callee.Intrinsic x) args)

    abbrev call : Intrinsic → Instr
    call x = Instr.Call result must_tail ty (Callee.Intrinsic x) args

    begun : (t : State) → HasBegun s t → IsUnbegunState h.given.code t
    begun t b = on_top h.given.code t (length s.instances) b.instance
        (subst (AreUnbegun h.given.code) (sym b.below) k.stack.1)

    starts : (r : Result State Cause) → h.start s result (nth vs 1) ≡ r → Good r
    starts (Err cause) e = tt
    starts (Ok t) e = begun t (keeps.last.start s result (nth vs 1) t e)

    resumed : (i : ℕ) (t : State) → HasResumed s i t → Goes s → IsUnbegunState h.given.code t
    resumed i t r n = on_top h.given.code t i r.instance (subst (AreUnbegun h.given.code) (sym r.below) (n.0, n.1))

    ended : Goes s → Good (end_of s h.close result)
    ended n = on s.top.has_left
      where
        closed : (h.close s).top ≡ s.top
        closed = keeps.reached.closed s

        on : (b : Bool) → Good (after_end (if b then s else h.close s) result s.top.mode)
        on true = after_fine h.given.code s result s.top.mode k.stack.0 n
        on false = after_fine h.given.code (h.close s) result s.top.mode
            (subst (IsUnbegun h.given.code) (sym closed) k.stack.0)
            (same_top h.given.code s (h.close s) closed (keeps.last.close s).below n)

    coro_fine : (x : Intrinsic) → Stands x → Good (hooked_coro h s x args vs result)
    coro_fine Intrinsic.CoroId e = gave h.given.code s None Value.Poison (behind (call Intrinsic.CoroId) e (λ z. z))
    coro_fine Intrinsic.CoroSizeI32 e =
        gave h.given.code s result _ (behind (call Intrinsic.CoroSizeI32) e (λ z. z))
    coro_fine Intrinsic.CoroSizeI64 e =
        gave h.given.code s result _ (behind (call Intrinsic.CoroSizeI64) e (λ z. z))
    coro_fine Intrinsic.CoroAlignI32 e =
        gave h.given.code s result _ (behind (call Intrinsic.CoroAlignI32) e (λ z. z))
    coro_fine Intrinsic.CoroAlignI64 e =
        gave h.given.code s result _ (behind (call Intrinsic.CoroAlignI64) e (λ z. z))
    coro_fine Intrinsic.CoroAlloc e = gave h.given.code s result _ (behind (call Intrinsic.CoroAlloc) e (λ z. z))
    coro_fine Intrinsic.CoroFrame e = gave h.given.code s result _ (behind (call Intrinsic.CoroFrame) e (λ z. z))
    coro_fine Intrinsic.LifetimeStart e =
        gave h.given.code s None Value.Poison (behind (call Intrinsic.LifetimeStart) e (λ z. z))
    coro_fine Intrinsic.LifetimeEnd e =
        gave h.given.code s None Value.Poison (behind (call Intrinsic.LifetimeEnd) e (λ z. z))
    coro_fine Intrinsic.MemcpyI64 e =
        gave h.given.code s None Value.Poison (behind (call Intrinsic.MemcpyI64) e (λ z. z))
    coro_fine Intrinsic.MemcpyI32 e =
        gave h.given.code s None Value.Poison (behind (call Intrinsic.MemcpyI32) e (λ z. z))
    coro_fine Intrinsic.CoroBegin e = starts (h.start s result (nth vs 1)) refl
    coro_fine Intrinsic.CoroFree e = gave h.given.code (release s) result (h.freed s)
        (changed h.given.code s (λ x. record x { released = true }) (own_instance s)
        (behind (call Intrinsic.CoroFree) e (λ z. z)))
    coro_fine Intrinsic.CoroSave e =
        then_fine h.given.code (found Cause.State (suspend_of (function_of h.given s) (point_of s))) _ (λ u eu.
        save_fine h.given.code s (point_of s) u _ (behind (call Intrinsic.CoroSave) e (λ z. z)) (λ t c.
        gave h.given.code t None Value.Poison c))
    coro_fine Intrinsic.CoroSuspend e =
        suspend_fine h.given.code s result (operand_at args 0) (behind (call Intrinsic.CoroSuspend) e (λ z. z))
    coro_fine Intrinsic.CoroEnd e = ended (behind (call Intrinsic.CoroEnd) e (λ z. z))
    coro_fine Intrinsic.CoroResume e = sleeper_fine h.given.code s (nth vs 0) _ (λ y.
        ok_fine h.given.code _ Cause.State _ (resumed y.number _
        (keeps.last.go_on s y.number y.instance y.suspend y.values _) (behind (call Intrinsic.CoroResume) e (λ z. z))))
    coro_fine Intrinsic.CoroDestroy e = sleeper_fine h.given.code s (nth vs 0) _ (λ y.
        resumed y.number _ (keeps.last.go_on s y.number y.instance y.suspend y.values _)
        (behind (call Intrinsic.CoroDestroy) e (λ z. z)))
    coro_fine Intrinsic.CoroDone e = sleeper_fine h.given.code s (nth vs 0) _ (λ y.
        ok_fine h.given.code _ Cause.State _
        (gave h.given.code s result _ (behind (call Intrinsic.CoroDone) e (λ z. z))))
    coro_fine Intrinsic.CoroPromise e =
        then_fine h.given.code (h.promised s (nth vs 0) (operand_at args 2)) _ (λ v ev.
        gave h.given.code s result v (behind (call Intrinsic.CoroPromise) e (λ z. z)))

  -- ---- other instructions

  goes_to : (label : ℕ) → BranchesTo label here → (windows : List Window)
      → Good (branch_leaving h.given s label windows)
  goes_to label b [] = record { stack = (λ none. along label b (k.stack.0 none), k.stack.1) }
  goes_to label b (w ∷ windows) = then_fine h.given.code (found Cause.State (own_instance s)) _ (λ p e.
      ok_fine h.given.code _ Cause.State _ (record { stack = (λ none. along label b (k.stack.0 none), k.stack.1) }))

  placed : (w : Work) (slot : Slot) → Goes s → IsUnbegunState h.given.code (h.place (settled s w) slot)
  placed w slot n = record { stack = (top, subst (AreUnbegun h.given.code) (sym a.below) n.1) }
    where
      a : IsAlike (settled s w) (h.place (settled s w) slot)
      a = keeps.last.place (settled s w) slot

      top : IsUnbegun h.given.code (h.place (settled s w) slot).top
      top none =
          let old : s.top.instance ≡ None = sym a.instance ∙ none in
          let p : IsSameSpot (settled s w) (h.place (settled s w) slot) = keeps.place (settled s w) slot old fits in
          subst (λ (z : ℕ × ℕ × ℕ). IsBefore (function_at h.given.code z.0) z.1 z.2)
          (λ i. (sym p.func i, sym p.block i, sym p.at i)) (n.0 old)

  act_fine : (a : Action) → SameAction h.given.code (λ v. Unit {0}) here s.top.values s.top.values a a
      → (IsOfInstr a ≡ true → (IsBeginning a → ⊥) → Goes s) → Good (hooked_act h s a)
  act_fine (Stuck cause) same goes = tt
  act_fine (Done w) same goes = let n = goes refl (λ z. z) in record { stack = (n.0, n.1) }
  act_fine (NewSlot w slot) same goes = placed w slot (goes refl (λ z. z))
  act_fine (Enter func args result must_tail) same goes =
      let n = goes refl (λ z. z) in record { stack = (λ none. first, (n.0, n.1)) }
  act_fine (Coro x args result) same goes =
      coro_fine result same.1.0 same.1.1 args (arg_values h.given.code s.top.values args) x same.1.2
  act_fine (Deallocate p) same goes = freed_fine h.given.code s p (goes refl (λ z. z))
  act_fine (GoTo label) same goes = goes_to label same.1 (left_windows h.given s label)
  act_fine (Return v) same goes = return_fine h.given.code s v k.stack.1 k.stack.0

  acts : Good (hooked_act h s (action_of (hooked_context h s) (work_of s) here))
  acts = act_fine _ (action_same (hooked_context h s) s.world s.top.values s.top.values (λ v. Unit {0})
      (λ v. Unit {0}) (same_all _ s.top.values) here (λ v t. tt) (λ v n p. tt)) (on here refl)
    where
      on : (x : Fetched) → here ≡ x → IsOfInstr (action_of (hooked_context h s) (work_of s) x) ≡ true
          → (IsBeginning (action_of (hooked_context h s) (work_of s) x) → ⊥) → Goes s
      on Nowhere e is never = absurd (cc)
      on (AtInstr i) e is never = behind i e (λ b. never (begins (hooked_context h s) (work_of s) i b))
      on (AtTerm t) e is never = let no_instr : IsOfInstr (term_action (hooked_context h s) (work_of s) t) ≡ false =
          of_term (hooked_context h s) s t in absurd (cc)

  nexts : (x : Fetched) → here ≡ x → h.given_call s x ≡ None → Good (hooked_next h s x)
  nexts x e none = on (h.is_idle s x) refl (h.given_call s x) none
    where
      idles : h.is_idle s x ≡ true → Goes s
      idles d =
          let i : IsAnInstr x = keeps.reached.idle s x d in
          behind i.0 (e ∙ i.1)
          (keeps.marker s i.0 (subst (λ (y : Fetched). h.is_idle s y ≡ true) i.1 d))

      on : (b : Bool) → h.is_idle s x ≡ b → (o : Option (Result State Cause)) → o ≡ None
          → Good (if b then Ok (next s) else unwrap_or o
          (hooked_act h s (action_of (hooked_context h s) (work_of s) x)))
      on true d o u = gave h.given.code s None Value.Poison (idles d)
      on false d None u = subst (λ (y : Fetched). Good (hooked_act h s (action_of (hooked_context h s) (work_of s) y)))
          e acts
      on false d (Some r) u = absurd (cc)

  or_fine : (r : Result State Cause) → Good r → IsUnbegunState h.given.code (or_undefined h.given s r)
  or_fine (Err cause) q = record { stack = (k.stack.0, k.stack.1) }
  or_fine (Ok t) q = q

  advances : (o : Outcome) → IsUnbegunState h.given.code (hooked_advance h s o)
  advances Outcome.Running = or_fine (hooked_next h s here) (nexts here refl (keeps.ungiven s s.top.block s.top.at))
  advances (Outcome.Returned v) = k
  advances (Outcome.Undefined cause place) = k

pub step_unbegun : (h : Hooks) → KeepsUnbegun h → (s : State) → IsCalledState h.given.code s
    → IsUnbegunState h.given.code s → IsUnbegunState h.given.code (step_of h s)
step_unbegun h keeps s c k = advances h keeps s c.mode k s.outcome

-- ---- runs

module _ (h : Hooks) (keeps : KeepsUnbegun h) (entry : ℕ) (args : List Word)
    (called : (n : ℕ) → IsCalledState h.given.code (hooked_state_at h entry args n)) where
  one_more : (n : ℕ) (s : State) → iterate (step_of h) (suc n) s ≡ step_of h (iterate (step_of h) n s)
  one_more zero s = refl
  one_more (suc n) s = one_more n (step_of h s)

  pub states_unbegun : (n : ℕ) → IsUnbegunState h.given.code (hooked_state_at h entry args n)
  states_unbegun zero = record { stack = (λ none. first, tt) }
  states_unbegun (suc n) = subst (IsUnbegunState h.given.code)
      (sym (one_more n (first_state h.given.code entry args)))
      (step_unbegun h keeps (hooked_state_at h entry args n) (called n) (states_unbegun n))
