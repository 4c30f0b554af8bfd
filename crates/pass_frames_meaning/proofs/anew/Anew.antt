-- A step by hooks keeps it that flagged allocas have addresses, and those still to come no values.
use Rattle.std.proofs.Common.{◌≡◌, ℕ, zero, suc, ◌+◌, ◌<◌, Bool, true, false, List, [], ◌∷◌}
use Rattle.std.proofs.Common.{length, Option, Some, None}
use Rattle.std.proofs.Common.{Result, Ok, Err, refl, sym, ap, ◌∙◌, subst, arith, if◌then◌else◌, ◌==◌}
use Rattle.std.proofs.lemmas.Bool.{eqb-true, false≢true}
use Rattle.std.specs.Prelude.{◌≤◌, map, negsuc, not, slice_get, unwrap_or}
use Rattle.pass_frames_proof.specs.ir_base.declared.cause.Cause.{Cause}
use Rattle.pass_frames_proof.specs.ir_base.declared.outcome.Outcome.{Outcome}
use Rattle.pass_frames_proof.specs.ir_base.declared.outcome.Word.{Word}
use Rattle.pass_frames_proof.specs.ir_model.Names.{function_at, position_of}
use Rattle.pass_frames_proof.specs.ir_model.Ty.{Ty}
use Rattle.pass_frames_proof.specs.ir_model.declared.instr.Instr.{Instr}
use Rattle.pass_frames_proof.specs.ir_model.declared.instr.Terminator.{Terminator}
use Rattle.pass_frames_proof.specs.ir_model.declared.module.Function.{Function}
use Rattle.pass_frames_proof.specs.ir_model.declared.module.Module.{Module}
use Rattle.pass_frames_proof.specs.ir_model.declared.operand.Arg.{Arg}
use Rattle.pass_frames_proof.specs.ir_model.declared.operand.Callee.{Callee}
use Rattle.pass_frames_proof.specs.ir_model.declared.operand.Intrinsic.{Intrinsic}
use Rattle.pass_frames_proof.specs.ir_model.declared.operand.Operand.{Operand}
use Rattle.pass_frames_proof.specs.ir_parts.Contents.{result_of}
use Rattle.pass_frames_proof.specs.ir_paths.Windows.{operand_at, suspend_of}
use Rattle.pass_frames_proof.specs.ir_paths.declared.point.Point.{Point}
use Rattle.pass_frames_proof.specs.ir_paths.declared.point.Window.{Window}
use Rattle.pass_frames_meaning.proofs.called.Comes.{Comes, comes}
use Rattle.pass_frames_meaning.proofs.called.Voids.{void_intrinsic}
use Rattle.pass_frames_meaning.proofs.led.Names.{IsOfAlloca, alloca_is, of_alloca}
use Rattle.pass_frames_meaning.specs.Called.{AreBehindCalls, IsBehindCall, IsCalledState, IsCalling}
use Rattle.pass_frames_proof.specs.ir_laws.facts.expanded.Tokens.{IsNamedResult}
use Rattle.pass_frames_proof.specs.ir_laws.facts.sound_states.Named.{AreLocalsNamed}
use Rattle.pass_frames_meaning.proofs.executed.Executed.{not_later, not_made_by, over, set_same, term_behind}
use Rattle.pass_frames_meaning.specs.Anew.{AreAnewOn, AreEntriesFree, AreUnmade, HaveAddresses, IsAddressed, IsAnew}
use Rattle.pass_frames_meaning.specs.Anew.{IsAnewState, KeepsAnew, StaysAnew}
use Rattle.pass_frames_meaning.specs.Executed.{HasOwnSlot, HasRampSlots, IsFirstMode}
use Rattle.pass_frames_proof.proofs.pass_kept_proof.Actions.{SameAction, action_same}
use Rattle.pass_frames_proof.proofs.pass_kept_proof.Same.{same_all}
use Rattle.pass_frames_proof.specs.pass_kept_proof.Needed.{BranchesTo}
use Rattle.pass_renewed_meaning.proofs.run_hooks.alive.Changes.{entry_unset, phis_other}
use Rattle.pass_frames_proof.specs.run_laws.changed.Changed.{result_at}
use Rattle.pass_frames_proof.proofs.run_states.sound_states.Fits.{result_named}
use Rattle.pass_frames_proof.specs.pass_kept_proof.Needed.{given_by, given_by_intrinsic}
use Rattle.pass_frames_proof.proofs.pass_renewed_proof.Sets.{result_elsewhere, set_elsewhere, step_sets}
use Rattle.pass_frames_proof.specs.pass_renewed_proof.SlotRules.{IsMadeOnce}
use Rattle.pass_frames_proof.specs.pass_renewed_proof.Steps.{SetsOnly, given_at}
use Rattle.pass_renewed_meaning.proofs.run_hooks.Reached.{IsOfInstr, of_term}
use Rattle.pass_renewed_meaning.proofs.run_hooks.alive.Acts.{slots_by}
use Rattle.pass_renewed_meaning.specs.run_hooks.Hooks.{Hooks, hooked_act, hooked_advance, hooked_context, hooked_coro, hooked_next}
use Rattle.pass_renewed_meaning.specs.run_hooks.Hooks.{hooked_state_at, step_of}
use Rattle.pass_renewed_meaning.specs.run_hooks.Left.{HasResumed}
use Rattle.pass_renewed_meaning.specs.run_hooks.Reached.{IsAnInstr}
use Rattle.pass_frames_proof.specs.run_memory.declared.pointer.Value.{Value}
use Rattle.pass_frames_proof.specs.run_source.Source.{Sleeper, after_end, branch_leaving, change_own, deallocate, end_of, enter_block}
use Rattle.pass_frames_proof.specs.run_source.Source.{first_state, if_let_go, left_windows, let_go, may_be_freed, pop}
use Rattle.pass_frames_proof.specs.run_source.Source.{return, returned, save_for, sleeper_at, sleeper_of, suspend}
use Rattle.pass_frames_proof.specs.run_source.State.{function_of, gives, instance_at, next, or_undefined, own_instance, point_of}
use Rattle.pass_frames_proof.specs.run_source.State.{settled, with_instance, with_left, with_memory, work_of}
use Rattle.pass_frames_proof.specs.run_source.declared.state.Activation.{Activation}
use Rattle.pass_frames_proof.specs.run_source.declared.state.Instance.{Instance}
use Rattle.pass_frames_proof.specs.run_source.declared.state.Mode.{Mode}
use Rattle.pass_frames_proof.specs.run_source.declared.state.State.{State}
use Rattle.pass_frames_proof.specs.run_source.declared.state.Status.{Status}
use Rattle.pass_frames_proof.specs.run_source_tables.Given.{Given}
use Rattle.pass_frames_proof.specs.run_states.sound_states.Sound.{HasValues}
use Rattle.pass_frames_proof.specs.run_step.Effects.{is_alloca}
use Rattle.pass_frames_proof.specs.run_step.Results.{and_then, found, ok_if}
use Rattle.pass_frames_proof.specs.run_step.Runs.{iterate}
use Rattle.pass_frames_proof.specs.run_step.Step.{Action, AtInstr, AtTerm, Coro, Deallocate, Done, Enter, Fetched, GoTo}
use Rattle.pass_frames_proof.specs.run_step.Step.{NewSlot, Nowhere, Return, Stuck, Work, action_of, deallocated, fetch}
use Rattle.pass_frames_proof.specs.run_step.Step.{instr_action, label_of, outcome_of, phis_of, term_action}
use Rattle.pass_frames_proof.specs.run_step.Values.{Env, arg_values, integer, nth, pointer_to, truth_value, value_in, with_result}
use Rattle.pass_frames_proof.specs.run_step.Values.{with_value}
use Rattle.pass_frames_proof.specs.run_step.declared.world.Slot.{Slot}
use Rattle.pass_renewed_meaning.specs.run_types.Rules.{KeepsAllTypes, KeepsTypes}

-- ---- parts of states

module _ (m : Module) (flags : ℕ → ℕ → Bool) where
  abbrev Fine : Result State Cause → Type 0
  Fine r = StaysAnew m flags r

  -- the activation goes on behind its instruction, with the values that it has
  abbrev pub NextIn : Activation → Type 0
  NextIn a = IsAnew m flags (record a { at = a.at + 1 })

  abbrev pub Next : State → Type 0
  Next t = NextIn t.top × AreAnewOn m flags t.below

  -- a result is given to no alloca's name
  abbrev pub IsFreeFor : ℕ → Option ℕ → Type 0
  IsFreeFor func result = (v : ℕ) → IsMadeOnce (function_at m func) v → result ≡ Some v → ⊥

  then_fine : {A : Type 0} (r : Result A Cause) (go : A → Result State Cause) → ((a : A) → r ≡ Ok a → Fine (go a))
      → Fine (and_then r go)
  then_fine (Err cause) go k = tt
  then_fine (Ok a) go k = k a refl

  ok_fine : (b : Bool) (cause : Cause) (t : State) → IsAnewState m flags t → Fine (ok_if b cause t)
  ok_fine true cause t k = k
  ok_fine false cause t k = tt

  set_result : (a : Activation) (result : Option ℕ) (x : Value) → IsFreeFor a.func result → IsAnew m flags a
      → IsAnew m flags (record a { values = with_result a.values result x })
  set_result a result x free h = record {
    made = λ v c made lt.
        let z = h.made v c made lt in (z.0, result_elsewhere a.values result v x (free v made) ∙ z.1);
    unmade = λ first v made zero_block le.
        result_elsewhere a.values result v x (free v made) ∙ h.unmade first v made zero_block le;
  }

  gave : (t : State) (result : Option ℕ) (v : Value) → IsFreeFor t.top.func result → Next t
      → IsAnewState m flags (gives t result v)
  gave t result v free n = λ running. (
    set_result (record t.top { at = t.top.at + 1 }) result v free n.0,
    n.1,
  )

  none_free : (func : ℕ) → IsFreeFor func None
  none_free func v c e = absurd (cc)

  changed : (t : State) (f : Instance → Instance) (o : Option (ℕ × Instance)) → Next t → Next (change_own t f o)
  changed t f None n = n
  changed t f (Some p) n = (n.0, n.1)

  same_top : (s t : State) → t.top ≡ s.top → t.below ≡ s.below → Next s → Next t
  same_top s t top below n = (subst NextIn (sym top) n.0, subst (AreAnewOn m flags) (sym below) n.1)

  sleeper_fine : (t : State) (p : Value) (go : Sleeper → Result State Cause) → ((y : Sleeper) → Fine (go y))
      → Fine (and_then (sleeper_at t p) go)
  sleeper_fine t p go k = on (instance_at t.instances p)
    where
      by : (i : ℕ) (x : Instance) (st : Status) → Fine (and_then (sleeper_of i x st) go)
      by i x Status.Running = tt
      by i x (Status.Suspended at vs) = k (record { number = i; instance = x; suspend = at; values = vs })
      by i x Status.Finished = tt

      on : (o : Option (ℕ × Instance))
          → Fine (and_then (and_then (found Cause.Frame o) (λ (i, x). sleeper_of i x x.status)) go)
      on None = tt
      on (Some z) = by z.0 z.1 z.1.status

  save_fine : (t : State) (p u : Point) (go : State → Result State Cause) → Next t
      → ((v : State) → v.top.func ≡ t.top.func → Next v → Fine (go v)) → Fine (and_then (save_for t p u) go)
  save_fine t p u go n then' = on (own_instance t)
    where
      by : (q : ℕ × Instance) (b : Bool)
          → Fine (and_then (ok_if b Cause.State (with_left (with_instance t q.0 (record q.1 {
            status = Status.Suspended u t.top.values;
            last_save = Some (record { depth = length t.below; save = p });
          })) true)) go)
      by q false = tt
      by q true = then' _ refl (like, n.1)
        where
          like : IsAnew m flags (record t.top { at = t.top.at + 1; has_left = true })
          like = let h = n.0 in record { made = h.made; unmade = h.unmade }

      on : (o : Option (ℕ × Instance))
          → Fine (and_then (and_then (found Cause.State o) (λ (i, x).
          ok_if (not x.freed) Cause.State
          (with_left
          (with_instance t i (record x {
            status = Status.Suspended u t.top.values;
            last_save = Some (record { depth = length t.below; save = p });
          })) true))) go)
      on None = tt
      on (Some q) = by q (not q.1.freed)

  suspend_fine : (t : State) (result : Option ℕ) (of_save : Operand) → IsFreeFor t.top.func result → Next t
      → Fine (suspend t result of_save)
  suspend_fine t result Operand.None free n = save_fine t (point_of t) (point_of t) _ n (λ v same c.
      gave v result (integer 8 (negsuc 0)) (subst (λ (k : ℕ). IsFreeFor k result) (sym same) free) c)
  suspend_fine t result _ free n = gave t result (integer 8 (negsuc 0)) free n

  freed_fine : (t : State) (p : Value) → Next t → Fine (deallocate t p)
  freed_fine t p n = on (if_let_go t (instance_at t.instances p)) (goes (instance_at t.instances p))
    where
      goes : (o : Option (ℕ × Instance)) → Next (if_let_go t o)
      goes None = n
      goes (Some q) = by (may_be_freed q.1)
        where
          by : (b : Bool) → Next (if b then let_go t q.0 q.1 else t)
          by true = (n.0, n.1)
          by false = n

      on : (v : State) → Next v
          → Fine (and_then (deallocated v.world.memory p) (λ memory. Ok (next (with_memory v memory))))
      on v c = then_fine (deallocated v.world.memory p) (λ memory. Ok (next (with_memory v memory))) (λ memory e.
          gave (with_memory v memory) None Value.Poison (none_free v.top.func) c)

  -- ---- returns

  -- the name that a return sets
  returned_free : (func : ℕ) → KeepsTypes m (function_at m func) → (a : Activation) (result : Option ℕ)
      → IsBehindCall (function_at m func) a result → IsFreeFor func result
  returned_free func types a result c v made e = by c.call c.there c.calls c.gives
    where
      none : Some v ≡ None → ⊥
      none d = absurd (cc)

      by : (i : Instr) → fetch (function_at m func) a.block c.at ≡ AtInstr i → IsCalling i → result_of i ≡ result → ⊥
      by (Instr.Call r must_tail ty (Callee.Named n) args) stands calls gives =
          not_made_by (function_at m func) a.block c.at (Instr.Call r must_tail ty (Callee.Named n) args) stands
          (λ d. false≢true d) v made (gives ∙ e)
      by (Instr.Call r must_tail ty (Callee.Local n) args) stands calls gives =
          not_made_by (function_at m func) a.block c.at (Instr.Call r must_tail ty (Callee.Local n) args) stands
          (λ d. false≢true d) v made (gives ∙ e)
      by (Instr.Call r must_tail ty (Callee.Intrinsic Intrinsic.CoroResume) args) stands calls gives =
          none (sym e ∙ sym gives
          ∙ void_intrinsic m (function_at m func) types a.block c.at r must_tail ty Intrinsic.CoroResume args stands
          refl)
      by (Instr.Call r must_tail ty (Callee.Intrinsic Intrinsic.CoroDestroy) args) stands calls gives =
          none (sym e ∙ sym gives
          ∙ void_intrinsic m (function_at m func) types a.block c.at r must_tail ty Intrinsic.CoroDestroy args stands
          refl)
      by _ stands calls gives = absurd calls

  module _ (types : KeepsAllTypes m) where
    return_fine : (t : State) (v : Option Value) → AreAnewOn m flags t.below
        → AreBehindCalls m t.top.result t.below → Fine (return t v)
    return_fine t v k c = by t.below k c
      where
        by : (below : List Activation) → AreAnewOn m flags below → AreBehindCalls m t.top.result below
            → Fine (pop (returned t) v below)
        by [] q c = then_fine (outcome_of v) (λ outcome. Ok (record (returned t) { outcome = outcome }))
            (λ outcome e running. absurd (over v outcome e running))
        by (a ∷ below) q c = λ running. (
          set_result a t.top.result (unwrap_or v Value.Poison)
              (returned_free a.func (types a.func) a t.top.result c.0) q.0,
          q.1,
        )

    after_fine : (t : State) (result : Option ℕ) (mode : Mode) → AreBehindCalls m t.top.result t.below
        → IsFreeFor t.top.func result → Next t → Fine (after_end t result mode)
    after_fine t result Mode.Resumed c free n = return_fine t None n.1 c
    after_fine t result _ c free n = gave t result (truth_value false) free n

-- ---- a step

module _ (h : Hooks) (flags : ℕ → ℕ → Bool) (keeps : KeepsAnew flags h) (locals : AreLocalsNamed h.given.code)
    (entries : AreEntriesFree h.given.code) (types : KeepsAllTypes h.given.code) (s : State)
    (called : IsCalledState h.given.code s) (room : HasValues h.given.code s.top.func s.top.values)
    (k : AreAnewOn h.given.code flags (s.top ∷ s.below)) where
  abbrev m : Module
  m = h.given.code

  abbrev f : Function
  f = function_at h.given.code s.top.func

  abbrev Good : Result State Cause → Type 0
  Good r = StaysAnew h.given.code flags r

  abbrev here : Fetched
  here = fetch (function_at h.given.code s.top.func) s.top.block s.top.at

  abbrev Goes : State → Type 0
  Goes t = Next h.given.code flags t

  free : (i : Instr) → here ≡ AtInstr i → (is_alloca i ≡ true → ⊥) → (result : Option ℕ) → given_by i ≡ result
      → IsFreeFor h.given.code flags s.top.func result
  free i e never result g v made d = not_made_by f s.top.block s.top.at i e never v made (g ∙ d)

  behind : (i : Instr) → here ≡ AtInstr i → (is_alloca i ≡ true → ⊥) → Goes s
  behind i e never = (
    record {
      made = λ v c made lt. k.0.made v c made (not_later f s.top.block s.top.at i e never v made lt);
      unmade = λ first v made zero_block le.
          k.0.unmade first v made zero_block (earlier s.top.at made.at le);
    },
    k.1,
  )
    where
      earlier : (m n : ℕ) → m + 1 ≤ n → m ≤ n
      earlier m n le = omega (arith, le)

  -- ---- intrinsics

  module _ (result : Option ℕ) (must_tail : Bool) (ty : Option Ty) (args : List Arg) (vs : List Value) where
    abbrev Stands : Intrinsic → Type 0
    Stands x = here ≡ AtInstr (Instr.Call result must_tail ty (Callee.Intrinsic x) args)

    abbrev call : Intrinsic → Instr
    call x = Instr.Call result must_tail ty (Callee.Intrinsic x) args

    goes : (x : Intrinsic) → Stands x → Goes s
    goes x e = behind (call x) e (λ d. false≢true d)

    frees : (x : Intrinsic) → Stands x → given_by_intrinsic x result ≡ result
        → IsFreeFor h.given.code flags s.top.func result
    frees x e g = free (call x) e (λ d. false≢true d) result g

    gives_it : (x : Intrinsic) → Stands x → given_by_intrinsic x result ≡ result → (v : Value)
        → IsAnewState h.given.code flags (gives s result v)
    gives_it x e g v = gave h.given.code flags s result v (frees x e g) (goes x e)

    goes_on : (x : Intrinsic) → Stands x → IsAnewState h.given.code flags (next s)
    goes_on x e = gave h.given.code flags s None Value.Poison (none_free h.given.code flags s.top.func) (goes x e)

    -- begin
    begun : (t : State) → t.top.mode ≡ s.top.mode → HasRampSlots h.given result (nth vs 1) s t → t.below ≡ s.below
        → Stands Intrinsic.CoroBegin → IsAnewState h.given.code flags t
    begun t mode p below e = λ running. (top, subst (AreAnewOn h.given.code flags) (sym below) k.1)
      where
        now : IsAnew h.given.code flags
            (record s.top { at = s.top.at + 1; values = with_result s.top.values result (nth vs 1) })
        now = set_result h.given.code flags (record s.top { at = s.top.at + 1 }) result (nth vs 1)
            (frees Intrinsic.CoroBegin e refl) (goes Intrinsic.CoroBegin e).0

        path : ◌≡◌ {A = ℕ × ℕ × ℕ × Env}
            (s.top.func, s.top.block, s.top.at + 1, with_result s.top.values result (nth vs 1))
            (t.top.func, t.top.block, t.top.at, t.top.values)
        path = λ i. (sym p.func i, sym p.block i, sym p.at i, sym p.values i)

        top : IsAnew h.given.code flags t.top
        top = record {
          made = subst (λ (z : ℕ × ℕ × ℕ × Env).
              HaveAddresses (flags z.0) (function_at h.given.code z.0) z.1 z.2 z.3) path now.made;
          unmade = λ first. subst (λ (z : ℕ × ℕ × ℕ × Env).
              AreUnmade (function_at h.given.code z.0) z.1 z.2 z.3) path (now.unmade (subst IsFirstMode mode first));
        }

    starts : Stands Intrinsic.CoroBegin → (r : Result State Cause) → h.start s result (nth vs 1) ≡ r → Good r
    starts e (Err cause) d = tt
    starts e (Ok t) d =
        let p = keeps.executed.start s result (nth vs 1) t d in
        begun t p.0 p.1 (keeps.executed.last.start s result (nth vs 1) t d).below e

    resumed : (i : ℕ) (t : State) → HasResumed s i t → (IsFirstMode t.top.mode → ⊥)
        → IsAddressed h.given.code flags t.top → Goes s → IsAnewState h.given.code flags t
    resumed i t r never addressed n = λ running. (
      record { made = addressed; unmade = λ first. absurd (never first) },
      subst (AreAnewOn h.given.code flags) (sym r.below) (n.0, n.1),
    )

    ended : Stands Intrinsic.CoroEnd → Good (end_of s h.close result)
    ended e = on s.top.has_left
      where
        closed : (h.close s).top ≡ s.top
        closed = keeps.executed.reached.closed s

        below : (h.close s).below ≡ s.below
        below = (keeps.executed.last.close s).below

        on : (b : Bool) → Good (after_end (if b then s else h.close s) result s.top.mode)
        on true = after_fine h.given.code flags types s result s.top.mode called.below
            (frees Intrinsic.CoroEnd e refl) (goes Intrinsic.CoroEnd e)
        on false = after_fine h.given.code flags types (h.close s) result s.top.mode
            (subst (λ (q : Option ℕ × List Activation). AreBehindCalls h.given.code q.0 q.1)
            (λ i. ((sym closed i).result, sym below i)) called.below)
            (subst (λ (n : ℕ). IsFreeFor h.given.code flags n result)
            (ap (λ (a : Activation). a.func) (sym closed)) (frees Intrinsic.CoroEnd e refl))
            (same_top h.given.code flags s (h.close s) closed below (goes Intrinsic.CoroEnd e))

    released : IsFreeFor h.given.code flags s.top.func result → Goes s → (v : Value) → (o : Option (ℕ × Instance))
        → IsAnewState h.given.code flags (gives (change_own s (λ x. record x { released = true }) o) result v)
    released free n v None = gave h.given.code flags s result v free n
    released free n v (Some p) =
        gave h.given.code flags (change_own s (λ x. record x { released = true }) (Some p)) result v free (n.0, n.1)

    coro_fine : (x : Intrinsic) → Stands x → Good (hooked_coro h s x args vs result)
    coro_fine Intrinsic.CoroId e = goes_on Intrinsic.CoroId e
    coro_fine Intrinsic.CoroSizeI32 e = gives_it Intrinsic.CoroSizeI32 e refl _
    coro_fine Intrinsic.CoroSizeI64 e = gives_it Intrinsic.CoroSizeI64 e refl _
    coro_fine Intrinsic.CoroAlignI32 e = gives_it Intrinsic.CoroAlignI32 e refl _
    coro_fine Intrinsic.CoroAlignI64 e = gives_it Intrinsic.CoroAlignI64 e refl _
    coro_fine Intrinsic.CoroAlloc e = gives_it Intrinsic.CoroAlloc e refl _
    coro_fine Intrinsic.CoroFrame e = gives_it Intrinsic.CoroFrame e refl _
    coro_fine Intrinsic.LifetimeStart e = goes_on Intrinsic.LifetimeStart e
    coro_fine Intrinsic.LifetimeEnd e = goes_on Intrinsic.LifetimeEnd e
    coro_fine Intrinsic.MemcpyI64 e = goes_on Intrinsic.MemcpyI64 e
    coro_fine Intrinsic.MemcpyI32 e = goes_on Intrinsic.MemcpyI32 e
    coro_fine Intrinsic.CoroBegin e = starts e (h.start s result (nth vs 1)) refl
    coro_fine Intrinsic.CoroFree e = released (frees Intrinsic.CoroFree e refl) (goes Intrinsic.CoroFree e) (h.freed s)
        (own_instance s)
    coro_fine Intrinsic.CoroSave e =
        then_fine h.given.code flags (found Cause.State (suspend_of (function_of h.given s) (point_of s))) _ (λ u eu.
        save_fine h.given.code flags s (point_of s) u _ (goes Intrinsic.CoroSave e) (λ t same c.
        gave h.given.code flags t None Value.Poison (none_free h.given.code flags t.top.func) c))
    coro_fine Intrinsic.CoroSuspend e =
        suspend_fine h.given.code flags s result (operand_at args 0) (frees Intrinsic.CoroSuspend e refl)
        (goes Intrinsic.CoroSuspend e)
    coro_fine Intrinsic.CoroEnd e = ended e
    coro_fine Intrinsic.CoroResume e = sleeper_fine h.given.code flags s (nth vs 0) _ (λ y.
        ok_fine h.given.code flags _ Cause.State _ (resumed y.number _
        (keeps.executed.last.go_on s y.number y.instance y.suspend y.values _)
        (keeps.executed.go_on s y.number y.instance y.suspend y.values _)
        (keeps.go_on s y.number y.instance y.suspend y.values _) (goes Intrinsic.CoroResume e)))
    coro_fine Intrinsic.CoroDestroy e = sleeper_fine h.given.code flags s (nth vs 0) _ (λ y.
        resumed y.number _ (keeps.executed.last.go_on s y.number y.instance y.suspend y.values _)
        (keeps.executed.go_on s y.number y.instance y.suspend y.values _)
        (keeps.go_on s y.number y.instance y.suspend y.values _) (goes Intrinsic.CoroDestroy e))
    coro_fine Intrinsic.CoroDone e = sleeper_fine h.given.code flags s (nth vs 0) _ (λ y.
        ok_fine h.given.code flags _ Cause.State _ (gives_it Intrinsic.CoroDone e refl _))
    coro_fine Intrinsic.CoroPromise e =
        then_fine h.given.code flags (h.promised s (nth vs 0) (operand_at args 2)) _ (λ v ev.
        gives_it Intrinsic.CoroPromise e refl v)

  -- ---- other instructions

  abbrev Doing : Fetched → Action → Type 0
  Doing x a = action_of (hooked_context h s) (work_of s) x ≡ a

  -- what makes no slot is no alloca
  abbrev IsOfSlot : Action → Type 0
  IsOfSlot (NewSlot w slot) = Unit {0}
  IsOfSlot (Stuck cause) = Unit {0}
  IsOfSlot _ = ⊥

  makes_slot : (i : Instr) (a : Action) → Doing (AtInstr i) a → is_alloca i ≡ true → IsOfSlot a
  makes_slot i a d is = by (alloca_is i is)
    where
      either : (w : Work) (name : ℕ) (b : Action) → IsOfAlloca w name b
          → IsOfSlot b
      either w name (NewSlot x slot) q = tt
      either w name (Stuck cause) q = tt
      either w name _ q = absurd q

      by : ((name : ℕ) × (ty : Ty) × (align : ℕ) × (i ≡ Instr.Alloca name ty align)) → IsOfSlot a
      by (name, ty, align, same) =
          either (work_of s) name a (of_alloca (hooked_context h s) (work_of s) name align ty a
          (subst (λ (z : Instr). Doing (AtInstr z) a) same d))

  module _ (i : Instr) (e : here ≡ AtInstr i) where
    onward : (a : Action) → Doing (AtInstr i) a → (IsOfSlot a → ⊥) → Goes s
    onward a d never = behind i e (λ is. never (makes_slot i a d is))

    done_fine : (w : Work) → Doing (AtInstr i) (Done w) → IsAnewState h.given.code flags (settled s w)
    done_fine w d = λ running. (top, k.1)
      where
        sets : SetsOnly (given_by i) s.top.values (Done w)
        sets = subst (SetsOnly (given_by i) s.top.values) d
            (step_sets (hooked_context h s) (work_of s) (AtInstr i))

        never : is_alloca i ≡ true → ⊥
        never is = makes_slot i (Done w) d is

        top : IsAnew h.given.code flags (settled s w).top
        top =
            let n = (onward (Done w) d (λ z. z)).0 in
            record {
              made = λ v c made lt.
                  let z = n.made v c made lt in (
                    z.0,
                    sets v (not_made_by f s.top.block s.top.at i e never v made) ∙ z.1,
                  );
              unmade = λ first v made zero_block le.
                  sets v (not_made_by f s.top.block s.top.at i e never v made)
                  ∙ n.unmade first v made zero_block le;
            }

    slot_fine : (w : Work) (slot : Slot) → Doing (AtInstr i) (NewSlot w slot)
        → IsAnewState h.given.code flags (h.place (settled s w) slot)
    slot_fine w slot d = λ running. (
      top,
      subst (AreAnewOn h.given.code flags) (sym (keeps.executed.last.place (settled s w) slot).below) k.1,
    )
      where
        a : (name : ℕ) × (ty : Ty) × (align : ℕ) × (i ≡ Instr.Alloca name ty align)
        a = alloca_is i (slots_by (hooked_context h s) (work_of s) i w slot d)

        made_it : (slot.alloca ≡ a.0) × (w.values ≡ with_value s.top.values a.0 (pointer_to slot.block))
        made_it = of_alloca (hooked_context h s) (work_of s) a.0 a.2 a.1 (NewSlot w slot)
            (subst (λ (z : Instr). Doing (AtInstr z) (NewSlot w slot)) a.3 d)

        there : here ≡ AtInstr (Instr.Alloca a.0 a.1 a.2)
        there = e ∙ ap AtInstr a.3

        differs : (x y : ℕ) → x ≡ y → (x == y) ≡ false → ⊥
        differs x y same apart = absurd (grind arith)

        earlier : (v : ℕ) (made : IsMadeOnce f v) → (a.0 ≡ v → ⊥) → s.top.block ≡ 0 → made.at < s.top.at + 1
            → made.at < s.top.at
        earlier v made ne zero_block low = on (made.at == s.top.at) refl
          where
            on : (b : Bool) → (made.at == s.top.at) ≡ b → made.at < s.top.at
            on true q =
                let same : made.at ≡ s.top.at = eqb-true made.at s.top.at q in
                let both : AtInstr (Instr.Alloca v made.ty made.align) ≡ AtInstr (Instr.Alloca a.0 a.1 a.2) =
                sym made.stands ∙ (λ j. fetch f (sym zero_block j) (same j)) ∙ there in
                let name : a.0 ≡ v = cc in
                absurd (ne name)
            on false q =
                let apart : made.at ≡ s.top.at → ⊥ = λ same. differs made.at s.top.at same q in
                omega (arith, low, apart)

        now : HaveAddresses (flags s.top.func) f s.top.block (s.top.at + 1) w.values
        now v c made lt = by (a.0 == v) refl
          where
            by : (b : Bool) → (a.0 == v) ≡ b → (n : ℕ) × (value_in w.values v ≡ pointer_to n)
            by true q =
                let same : a.0 ≡ v = eqb-true a.0 v q in
                let long : length s.top.values ≡ length f.names = room in
                let low : v < length f.names = subst (IsNamedResult (length f.names)) (ap result_at made.stands)
                (result_named f (locals s.top.func).results 0 made.at) in (
                  slot.block,
                  ap (λ (env : Env). value_in env v) made_it.1
                      ∙ ap (λ (n : ℕ). value_in (with_value s.top.values n (pointer_to slot.block)) v) same
                      ∙ set_same s.top.values v (pointer_to slot.block) (omega (arith, long, low)),
                )
            by false q =
                let ne : a.0 ≡ v → ⊥ = λ same. differs a.0 v same q in
                let z = k.0.made v c made (λ zero_block. earlier v made ne zero_block (lt zero_block)) in (
                  z.0,
                  ap (λ (env : Env). value_in env v) made_it.1
                      ∙ set_elsewhere s.top.values a.0 v (pointer_to slot.block) ne ∙ z.1,
                )

        to_come : IsFirstMode s.top.mode → AreUnmade f s.top.block (s.top.at + 1) w.values
        to_come first v made zero_block le =
            ap (λ (env : Env). value_in env v) made_it.1
            ∙ set_elsewhere s.top.values a.0 v (pointer_to slot.block) other
            ∙ k.0.unmade first v made zero_block (omega (arith, le))
          where
            other : a.0 ≡ v → ⊥
            other same =
                let at : s.top.at ≡ made.at = (made.alone s.top.block s.top.at (ap given_at there ∙ ap Some same)).1 in
                absurd (omega (arith, le, at))

        top : IsAnew h.given.code flags (h.place (settled s w) slot).top
        top = record {
          made = keeps.place (settled s w) slot now;
          unmade = λ now_first.
              let first : IsFirstMode s.top.mode = keeps.executed.place (settled s w) slot now_first in
              let p : HasOwnSlot h.given slot (settled s w) (h.place (settled s w) slot) =
              keeps.executed.placed (settled s w) slot first in
              subst (λ (z : ℕ × ℕ × ℕ × Env). AreUnmade (function_at h.given.code z.0) z.1 z.2 z.3)
              (λ j. (sym p.func j, sym p.block j, sym p.at j, sym p.values j)) (to_come first);
        }

    instr_fine : (a : Action) → Comes i a → Doing (AtInstr i) a → Good (hooked_act h s a)
    instr_fine (Stuck cause) q d = tt
    instr_fine (Done w) q d = done_fine w d
    instr_fine (NewSlot w slot) q d = slot_fine w slot d
    instr_fine (Enter func args result must_tail) q d =
        let n = onward (Enter func args result must_tail) d (λ z. z) in
        λ running. (
          record {
            made = λ v c made lt. absurd (no_less made.at (lt refl));
            unmade = λ first v made zero_block le. entry_unset (function_at h.given.code func) args v made;
          },
          (n.0, n.1),
        )
      where
        no_less : (n : ℕ) → n < 0 → ⊥
        no_less n lt = omega (arith, lt)
    instr_fine (Coro x args result) q d =
        coro_fine result q.0 q.1 args (arg_values h.given.code s.top.values args) x (e ∙ ap AtInstr q.2)
    instr_fine (Deallocate p) q d =
        freed_fine h.given.code flags s p (onward (Deallocate p) d (λ z. z))
    instr_fine (GoTo label) q d = absurd q
    instr_fine (Return v) q d = absurd q

  -- ---- terminators

  module _ (t : Terminator) (e : here ≡ AtTerm t) where
    enters : (label : ℕ) (left : Bool) → BranchesTo label here
        → IsAnew h.given.code flags (record (enter_block h.given s label).top { has_left = left })
    enters label left leads = record {
      made = λ v c made lt.
          let z = k.0.made v c made (λ zero_block.
          term_behind f s.top.block s.top.at made.at t (Instr.Alloca v made.ty made.align) e
          (ap (λ (b : ℕ). fetch f b made.at) zero_block ∙ made.stands)) in (
            z.0,
            phis_other h.given.code s.top.values
                (label_of (slice_get f.blocks s.top.block))
                (phis_of (slice_get f.blocks (position_of f label))) s.top.values v
                (made.no_phi (position_of f label)) ∙ z.1,
          );
      unmade = λ first v made zero_block le. absurd (entries s.top.func s.top.block s.top.at label leads zero_block);
    }

    goes_to : (label : ℕ) (windows : List Window) → BranchesTo label here
        → Good (branch_leaving h.given s label windows)
    goes_to label [] leads = λ running. (
      let z = enters label s.top.has_left leads in record { made = z.made; unmade = z.unmade },
      k.1,
    )
    goes_to label (w ∷ windows) leads = then_fine h.given.code flags (found Cause.State (own_instance s)) _ (λ p q.
        ok_fine h.given.code flags _ Cause.State _ (λ running. (
          let z = enters label false leads in record { made = z.made; unmade = z.unmade },
          k.1,
        )))

    term_fine : (a : Action) → SameAction h.given.code (λ v. Unit {0}) here s.top.values s.top.values a a
        → IsOfInstr a ≡ false → Good (hooked_act h s a)
    term_fine (Stuck cause) leads q = tt
    term_fine (GoTo label) leads q = goes_to label (left_windows h.given s label) leads.1
    term_fine (Return v) leads q = return_fine h.given.code flags types s v k.1 called.below
    term_fine (Done w) leads q = absurd (false≢true (sym q))
    term_fine (NewSlot w slot) leads q = absurd (false≢true (sym q))
    term_fine (Enter func args result must_tail) leads q = absurd (false≢true (sym q))
    term_fine (Coro x args result) leads q = absurd (false≢true (sym q))
    term_fine (Deallocate p) leads q = absurd (false≢true (sym q))

  -- what the terminator leads to
  leads : SameAction h.given.code (λ v. Unit {0}) here s.top.values s.top.values
      (action_of (hooked_context h s) (work_of s) here) (action_of (hooked_context h s) (work_of s) here)
  leads = action_same (hooked_context h s) s.world s.top.values s.top.values (λ v. Unit {0}) (λ v. Unit {0})
      (same_all _ s.top.values) here (λ v t. tt) (λ v n k. tt)

  act_fine : (x : Fetched) → here ≡ x → Good (hooked_act h s (action_of (hooked_context h s) (work_of s) x))
  act_fine Nowhere e = tt
  act_fine (AtInstr i) e = instr_fine i e (instr_action (hooked_context h s) (work_of s) i)
      (comes (hooked_context h s) (work_of s) i) refl
  act_fine (AtTerm t) e = term_fine t e (term_action (hooked_context h s) (work_of s) t)
      (subst (λ (x : Fetched). SameAction h.given.code (λ v. Unit {0}) here s.top.values s.top.values
      (action_of (hooked_context h s) (work_of s) x) (action_of (hooked_context h s) (work_of s) x)) e leads)
      (of_term (hooked_context h s) s t)

  nexts : (x : Fetched) → here ≡ x → h.given_call s x ≡ None → Good (hooked_next h s x)
  nexts x e none = on (h.is_idle s x) refl (h.given_call s x) none
    where
      idles : h.is_idle s x ≡ true → Goes s
      idles d =
          let i : IsAnInstr x = keeps.executed.reached.idle s x d in
          behind i.0 (e ∙ i.1)
          (keeps.executed.marker s i.0 (subst (λ (y : Fetched). h.is_idle s y ≡ true) i.1 d))

      on : (b : Bool) → h.is_idle s x ≡ b → (o : Option (Result State Cause)) → o ≡ None
          → Good (if b then Ok (next s) else unwrap_or o
          (hooked_act h s (action_of (hooked_context h s) (work_of s) x)))
      on true d o u = gave h.given.code flags s None Value.Poison (none_free h.given.code flags s.top.func) (idles d)
      on false d None u = act_fine x e
      on false d (Some r) u = absurd (cc)

or_fine : (g : Given) (flags : ℕ → ℕ → Bool) (s : State) (r : Result State Cause) → StaysAnew g.code flags r
    → IsAnewState g.code flags (or_undefined g s r)
or_fine g flags s (Err cause) q = λ running. absurd (cc)
or_fine g flags s (Ok t) q = q

pub step_anew : (h : Hooks) (flags : ℕ → ℕ → Bool) → KeepsAnew flags h → AreLocalsNamed h.given.code
    → AreEntriesFree h.given.code → KeepsAllTypes h.given.code → (s : State) → IsCalledState h.given.code s
    → HasValues h.given.code s.top.func s.top.values → IsAnewState h.given.code flags s
    → IsAnewState h.given.code flags (step_of h s)
step_anew h flags keeps locals entries types s called room k = on s.outcome refl
  where
    on : (o : Outcome) → s.outcome ≡ o → IsAnewState h.given.code flags (hooked_advance h s o)
    on Outcome.Running e =
        let x = fetch (function_of h.given s) s.top.block s.top.at in
        or_fine h.given flags s (hooked_next h s x)
        (nexts h flags keeps locals entries types s called room (k e) x refl
        (keeps.executed.ungiven s s.top.block s.top.at))
    on (Outcome.Returned v) e = k
    on (Outcome.Undefined cause place) e = k

-- ---- runs

module _ (h : Hooks) (flags : ℕ → ℕ → Bool) (keeps : KeepsAnew flags h) (locals : AreLocalsNamed h.given.code)
    (entries : AreEntriesFree h.given.code) (types : KeepsAllTypes h.given.code) (entry : ℕ) (args : List Word)
    (called : (n : ℕ) → IsCalledState h.given.code (hooked_state_at h entry args n))
    (room : (n : ℕ) → HasValues h.given.code (hooked_state_at h entry args n).top.func
    (hooked_state_at h entry args n).top.values) where
  one_more : (n : ℕ) (s : State) → iterate (step_of h) (suc n) s ≡ step_of h (iterate (step_of h) n s)
  one_more zero s = refl
  one_more (suc n) s = one_more n (step_of h s)

  no_less : (n : ℕ) → n < 0 → ⊥
  no_less n lt = omega (arith, lt)

  pub states_anew : (n : ℕ) → IsAnewState h.given.code flags (hooked_state_at h entry args n)
  states_anew zero = λ running. (
    record {
      made = λ v c made lt. absurd (no_less made.at (lt refl));
      unmade = λ first v made zero_block le.
          entry_unset (function_at h.given.code entry) (map Value.Int args) v made;
    },
    tt,
  )
  states_anew (suc n) =
      subst (IsAnewState h.given.code flags) (sym (one_more n (first_state h.given.code entry args)))
      (step_anew h flags keeps locals entries types (hooked_state_at h entry args n) (called n) (room n)
      (states_anew n))
