-- Hooks that come from reached states to reached states do so by each step.
use Rattle.std.proofs.Common.{◌≡◌, ℕ, zero, suc, ◌+◌, Bool, true, false, List, [], Option, Some, None, Result, Ok}
use Rattle.std.proofs.Common.{Err, refl, sym, subst}
use Rattle.std.specs.Prelude.{if◌then◌else◌, unwrap_or}
use Rattle.pass_renewed_proof.specs.pass_kept_proof.SuspendRules.{IsCallAt}
use Rattle.pass_renewed_proof.specs.pass_kept_proof.Needed.{IsReached, first, after}
use Rattle.run_hooks.specs.Hooks.{Hooks, hooked_act, hooked_advance, hooked_context, hooked_coro, hooked_next}
use Rattle.run_hooks.specs.Hooks.{hooked_state_at, step_of}
use Rattle.run_hooks.specs.Reached.{AllHaveSwitches, IsAnInstr, IsReachedState, KeepsReached, Stays}
use Rattle.pass_renewed_proof.specs.run_step.Runs.{iterate}
use Rattle.pass_renewed_proof.proofs.pass_kept_proof.Actions.{SameAction, action_same}
use Rattle.pass_renewed_proof.proofs.pass_kept_proof.Same.{same_all}
use Rattle.pass_renewed_proof.proofs.pass_kept_proof.Rules.{suspend_is_suspend}
use Rattle.pass_renewed_proof.proofs.pass_kept_proof.Walks.{destroy_reached, path_reached, resume_reached}
use Rattle.pass_renewed_proof.specs.run_memory.declared.pointer.Value.{Value}
use Rattle.pass_renewed_proof.specs.ir_base.declared.cause.Cause.{Cause}
use Rattle.pass_renewed_proof.specs.ir_base.declared.outcome.Outcome.{Outcome}
use Rattle.pass_renewed_proof.specs.ir_base.declared.outcome.Word.{Word}
use Rattle.pass_renewed_proof.specs.run_source.Source.{first_state, if_let_go}
use Rattle.pass_renewed_proof.specs.run_source.State.{next, or_undefined, function_of, instance_at, point_of, settled, work_of}
use Rattle.pass_renewed_proof.specs.run_source.declared.state.Activation.{Activation}
use Rattle.pass_renewed_proof.specs.run_source.declared.state.State.{State}
use Rattle.pass_renewed_proof.specs.ir_model.Names.{function_at}
use Rattle.pass_renewed_proof.specs.ir_model.Ty.{Ty}
use Rattle.pass_renewed_proof.specs.ir_model.declared.instr.Instr.{Instr}
use Rattle.pass_renewed_proof.specs.ir_model.declared.operand.Arg.{Arg}
use Rattle.pass_renewed_proof.specs.ir_model.declared.operand.Callee.{Callee}
use Rattle.pass_renewed_proof.specs.ir_model.declared.operand.Intrinsic.{Intrinsic}
use Rattle.pass_renewed_proof.specs.ir_paths.Windows.{operand_at, suspend_of}
use Rattle.pass_renewed_proof.specs.run_step.Results.{found}
use Rattle.pass_renewed_proof.specs.run_step.Step.{Action, AtInstr, AtTerm, Coro, Deallocate, Done, Enter, Fetched, GoTo, NewSlot}
use Rattle.pass_renewed_proof.specs.run_step.Step.{Nowhere, Return, Stuck, action_of, deallocated, term_action}
use Rattle.pass_renewed_proof.specs.run_step.Values.{nth}
use Rattle.pass_renewed_proof.specs.run_source_tables.Given.{Given}
use Rattle.run_hooks.proofs.Reached.{IsBehind, IsOfInstr, at_is, behind, end_stays, enter_stays, found_is}
use Rattle.run_hooks.proofs.Reached.{free_stays, gives_stay, go_to_stays, here, let_go_stays, moved, of_term}
use Rattle.run_hooks.proofs.Reached.{ok_stays, return_stays, save_stays, suspend_stays, suspended_stays, then_stays}

module _ (hooks : Hooks) (ok : AllHaveSwitches hooks.given.code) (keeps : KeepsReached hooks) (s : State)
    (h : IsReachedState hooks.given s) where
  abbrev g : Given
  g = hooks.given

  coro_stays : (i : Intrinsic) (result : Option ℕ) (must_tail : Bool) (ty : Option Ty) (args : List Arg)
      (vs : List Value) → here g s h ≡ AtInstr (Instr.Call result must_tail ty (Callee.Intrinsic i) args)
      → Stays g (hooked_coro hooks s i args vs result)
  coro_stays Intrinsic.CoroId result must_tail ty args vs e = gives_stay g s None Value.Poison h (behind g s h e)
  coro_stays Intrinsic.CoroSizeI32 result must_tail ty args vs e = gives_stay g s result _ h (behind g s h e)
  coro_stays Intrinsic.CoroSizeI64 result must_tail ty args vs e = gives_stay g s result _ h (behind g s h e)
  coro_stays Intrinsic.CoroAlignI32 result must_tail ty args vs e = gives_stay g s result _ h (behind g s h e)
  coro_stays Intrinsic.CoroAlignI64 result must_tail ty args vs e = gives_stay g s result _ h (behind g s h e)
  coro_stays Intrinsic.CoroAlloc result must_tail ty args vs e = gives_stay g s result _ h (behind g s h e)
  coro_stays Intrinsic.CoroFrame result must_tail ty args vs e = gives_stay g s result _ h (behind g s h e)
  coro_stays Intrinsic.LifetimeStart result must_tail ty args vs e =
      gives_stay g s None Value.Poison h (behind g s h e)
  coro_stays Intrinsic.LifetimeEnd result must_tail ty args vs e = gives_stay g s None Value.Poison h (behind g s h e)
  coro_stays Intrinsic.MemcpyI64 result must_tail ty args vs e = gives_stay g s None Value.Poison h (behind g s h e)
  coro_stays Intrinsic.MemcpyI32 result must_tail ty args vs e = gives_stay g s None Value.Poison h (behind g s h e)
  coro_stays Intrinsic.CoroBegin result must_tail ty args vs e = keeps.start s result (nth vs 1) h (behind g s h e)
  coro_stays Intrinsic.CoroFree result must_tail ty args vs e =
      free_stays g s h result (hooks.freed s) (behind g s h e)
  coro_stays Intrinsic.CoroSave result must_tail ty args vs e =
      let c : IsCallAt Intrinsic.CoroSave (function_of g s) (point_of s) =
      record { instr = _; stands = e; is = refl } in
      then_stays g (found Cause.State (suspend_of (function_of g s) (point_of s))) _ (λ u eu.
      let is : suspend_of (function_of g s) (point_of s) ≡ Some u =
      found_is Cause.State (suspend_of (function_of g s) (point_of s)) u eu in
      let l = (ok s.top.func).leads (point_of s) u c is in
      save_stays g s h (behind g s h e) (point_of s) u None Value.Poison (
        path_reached (function_of g s) [] (point_of s) l.between u l.is_path h.top.reached,
        suspend_is_suspend
            (function_of g s) (point_of s) u is,
      ))
  coro_stays Intrinsic.CoroSuspend result must_tail ty args vs e =
      suspend_stays g s h result (record { instr = _; stands = e; is = refl }) (behind g s h e) (operand_at args 0)
  coro_stays Intrinsic.CoroEnd result must_tail ty args vs e =
      end_stays g s h result hooks.close (keeps.close s h) (keeps.closed s) (behind g s h e)
  coro_stays Intrinsic.CoroResume result must_tail ty args vs e =
      suspended_stays g s (nth vs 0) _ h (λ i x at us there at_suspend. ok_stays g _ Cause.State _
      (keeps.go_on s h (behind g s h e) i x at us _ there
      (resume_reached (function_at g.code x.coroutine) at at_suspend.1
      ((ok x.coroutine).switched at at_suspend.1) at_suspend.0)))
  coro_stays Intrinsic.CoroDestroy result must_tail ty args vs e =
      suspended_stays g s (nth vs 0) _ h (λ i x at us there at_suspend.
      keeps.go_on s h (behind g s h e) i x at us _ there
      (destroy_reached (function_at g.code x.coroutine) at at_suspend.1
      ((ok x.coroutine).switched at at_suspend.1) at_suspend.0))
  coro_stays Intrinsic.CoroDone result must_tail ty args vs e =
      suspended_stays g s (nth vs 0) _ h
      (λ i x at us there at_suspend. ok_stays g _ Cause.State _ (gives_stay g s result _ h (behind g s h e)))
  coro_stays Intrinsic.CoroPromise result must_tail ty args vs e =
      then_stays g (hooks.promised s (nth vs 0) (operand_at args 2)) _
      (λ v ev. gives_stay g s result v h (behind g s h e))

  act_stays : (a : Action) → SameAction g.code (λ v. Unit {0}) (here g s h) s.top.values s.top.values a a
      → (IsOfInstr a ≡ true → IsAnInstr (here g s h)) → Stays g (hooked_act hooks s a)
  act_stays (Stuck cause) k is = tt
  act_stays (Done w) k is = moved g s w s.top.block (s.top.at + 1) h (after (is refl).0 (is refl).1 h.top.reached)
  act_stays (NewSlot w slot) k is =
      keeps.place (settled s w) slot
      (moved g s w s.top.block (s.top.at + 1) h (after (is refl).0 (is refl).1 h.top.reached))
  act_stays (Enter func args result must_tail) k is =
      enter_stays g s h (after (is refl).0 (is refl).1 h.top.reached) func args result
  act_stays (Coro i args result) k is = coro_stays i result k.1.0 k.1.1 args _ k.1.2
  act_stays (Deallocate p) k is =
      let r : IsBehind g s h = after (is refl).0 (is refl).1 h.top.reached in
      let z = let_go_stays g s (instance_at s.instances p) h (λ i x e. at_is s.instances p i x e) in
      then_stays g (deallocated (if_let_go s (instance_at s.instances p)).world.memory p) _
      (λ memory e. moved g (if_let_go s (instance_at s.instances p)) (record { world = _; values = _ }) _ _ z.0
      (subst (λ (a : Activation). IsReached (function_at g.code a.func) a.block (a.at + 1)) (sym z.1) r))
  act_stays (GoTo label) k is = go_to_stays g s h label k.1
  act_stays (Return v) k is = return_stays g s v h

  acts_stay : Stays g (hooked_act hooks s (action_of (hooked_context hooks s) (work_of s) (here g s h)))
  acts_stay = act_stays _ (action_same (hooked_context hooks s) s.world s.top.values s.top.values (λ v. Unit {0})
      (λ v. Unit {0}) (same_all _ s.top.values) (here g s h) (λ v t. tt) (λ v n p. tt)) (on (here g s h) refl)
    where
      on : (x : Fetched) → here g s h ≡ x → IsOfInstr (action_of (hooked_context hooks s) (work_of s) x) ≡ true
          → IsAnInstr (here g s h)
      on Nowhere e k = absurd (cc)
      on (AtInstr i) e k = (i, e)
      on (AtTerm t) e k = let no_instr : IsOfInstr (term_action (hooked_context hooks s) (work_of s) t) ≡ false =
          of_term (hooked_context hooks s) s t in absurd (cc)

  goes_stay : Stays g (hooked_next hooks s (here g s h))
  goes_stay = on (hooks.is_idle s (here g s h)) refl (hooks.given_call s (here g s h)) refl
    where
      on : (b : Bool) → hooks.is_idle s (here g s h) ≡ b → (o : Option (Result State Cause))
          → hooks.given_call s (here g s h) ≡ o
          → Stays g (if b then Ok (next s) else unwrap_or o
          (hooked_act hooks s (action_of (hooked_context hooks s) (work_of s) (here g s h))))
      on true e o k = let i = keeps.idle s (here g s h) e in
          gives_stay g s None Value.Poison h (after i.0 i.1 h.top.reached)
      on false e None k = acts_stay
      on false e (Some r) k = let i = keeps.called s (here g s h) r k in
          keeps.call s (here g s h) r h (after i.0 i.1 h.top.reached) k

  or_stays : (r : Result State Cause) → Stays g r → IsReachedState g (or_undefined g s r)
  or_stays (Err cause) k = record { top = h.top; below = h.below; instances = h.instances }
  or_stays (Ok t) k = k

  advances : (o : Outcome) → IsReachedState g (hooked_advance hooks s o)
  advances Outcome.Running = or_stays (hooked_next hooks s (here g s h)) goes_stay
  advances (Outcome.Returned v) = h
  advances (Outcome.Undefined cause place) = h

  pub step_stays : IsReachedState g (step_of hooks s)
  step_stays = advances s.outcome

pub first_reached : (g : Given) (entry : ℕ) (args : List Word) → IsReachedState g (first_state g.code entry args)
first_reached g entry args = record {
  top = record { own = λ i e. absurd (cc); reached = first; entered = λ from label e. absurd (cc) };
  below = tt;
  instances = tt;
}

pub steps_stay : (hooks : Hooks) → AllHaveSwitches hooks.given.code → KeepsReached hooks → (n : ℕ) (s : State)
    → IsReachedState hooks.given s → IsReachedState hooks.given (iterate (step_of hooks) n s)
steps_stay hooks ok keeps zero s h = h
steps_stay hooks ok keeps (suc n) s h = steps_stay hooks ok keeps n (step_of hooks s) (step_stays hooks ok keeps s h)

pub states_reached : (hooks : Hooks) → AllHaveSwitches hooks.given.code → KeepsReached hooks
    → (entry : ℕ) (args : List Word) (n : ℕ) → IsReachedState hooks.given (hooked_state_at hooks entry args n)
states_reached hooks ok keeps entry args n =
    steps_stay hooks ok keeps n (first_state hooks.given.code entry args) (first_reached hooks.given entry args)
