-- A step by hooks keeps states where pointers' types have pointers.
use Rattle.std.proofs.Common.{◌≡◌, ℕ, Bool, true, false, List, ℤ, negsuc, pos}
use Rattle.std.proofs.Common.{Option, Some, None, Result, Ok, Err, refl, sym, ap, ◌∙◌, subst}
use Rattle.std.specs.Prelude.{if◌then◌else◌, slice_get, unwrap_or, ◌==◌}
use Rattle.pass_frames_proof.specs.ir_base.declared.cause.Cause.{Cause}
use Rattle.pass_frames_proof.specs.ir_base.declared.outcome.Outcome.{Outcome}
use Rattle.pass_frames_proof.specs.ir_model.Names.{function_at}
use Rattle.pass_frames_proof.specs.ir_model.Ty.{Ty}
use Rattle.pass_frames_proof.specs.ir_model.declared.instr.Instr.{Instr}
use Rattle.pass_frames_proof.specs.ir_model.declared.module.Function.{Function}
use Rattle.pass_frames_proof.specs.ir_model.declared.module.Module.{Module}
use Rattle.pass_frames_proof.specs.ir_model.declared.operand.Arg.{Arg}
use Rattle.pass_frames_proof.specs.ir_model.declared.operand.Callee.{Callee}
use Rattle.pass_frames_proof.specs.ir_model.declared.operand.Intrinsic.{Intrinsic}
use Rattle.pass_frames_proof.specs.ir_model.declared.operand.Operand.{Operand}
use Rattle.pass_frames_proof.specs.ir_paths.Windows.{operand_at, suspend_of}
use Rattle.pass_frames_proof.specs.ir_paths.declared.point.Point.{Point}
use Rattle.pass_frames_proof.specs.rule_types.Signatures.{are_wanted, is_result}
use Rattle.pass_frames_proof.specs.rule_types.Wants.{intrinsic_params, intrinsic_result, is_basic, is_int, is_ptr}
use Rattle.pass_frames_proof.specs.rule_types.declared.wants.Basic.{Basic}
use Rattle.pass_frames_proof.specs.rule_values.Kinds.{kind_of, result_kind, value_kind}
use Rattle.pass_renewed_meaning.proofs.run_hooks.Reached.{at_is, get_coroutine}
use Rattle.pass_renewed_meaning.specs.run_hooks.Hooks.{Hooks, hooked_act, hooked_advance, hooked_context, hooked_coro, hooked_next, step_of}
use Rattle.pass_renewed_meaning.specs.run_hooks.Reached.{IsReachedState}
use Rattle.pass_frames_proof.specs.run_memory.declared.pointer.Value.{Value}
use Rattle.pass_frames_proof.specs.run_source.Source.{Sleeper, after_end, change_own, end_of, frame_address, mode_of, release, save}
use Rattle.pass_frames_proof.specs.run_source.Source.{save_for, sleeper_at, sleeper_of, suspend}
use Rattle.pass_frames_proof.specs.run_source.State.{function_of, gives, instance_at, next, or_undefined, own_frame, own_instance}
use Rattle.pass_frames_proof.specs.run_source.State.{point_of, settled, with_instance, work_of}
use Rattle.pass_frames_proof.specs.run_source.declared.state.Activation.{Activation}
use Rattle.pass_frames_proof.specs.run_source.declared.state.Instance.{Instance}
use Rattle.pass_frames_proof.specs.run_source.declared.state.Mode.{Mode}
use Rattle.pass_frames_proof.specs.run_source.declared.state.State.{State}
use Rattle.pass_frames_proof.specs.run_source.declared.state.Status.{Status}
use Rattle.pass_frames_proof.specs.run_step.Results.{and_then, found, ok_if}
use Rattle.pass_frames_proof.specs.run_step.Step.{Action, AtInstr, Coro, Deallocate, Done, Enter, Fetched, GoTo, NewSlot, Return, Stuck}
use Rattle.pass_frames_proof.specs.run_step.Step.{action_of, fetch}
use Rattle.pass_frames_proof.specs.run_step.Values.{arg_values, integer, nth, truth_value}
use Rattle.pass_renewed_meaning.proofs.run_types.Rules.{call_kind_is}
use Rattle.pass_renewed_meaning.proofs.run_hooks.alive.Places.{own_there}
use Rattle.pass_renewed_meaning.specs.run_types.Rules.{KeepsAllTypes}
use Rattle.pass_renewed_meaning.proofs.run_types.Fit.{both_true}
use Rattle.pass_renewed_meaning.proofs.run_types.Results.{Called, IsCoroCall}
use Rattle.pass_frames_meaning.proofs.pointers.Actions.{PointsAction, action_fine}
use Rattle.pass_frames_meaning.proofs.pointers.Parts.{called_fits, freed_fits, gives_fits, instance_set}
use Rattle.pass_frames_meaning.proofs.pointers.Parts.{instance_there, next_fits}
use Rattle.pass_frames_meaning.proofs.pointers.Parts.{returned_fits, saved, settled_fits, went}
use Rattle.pass_frames_meaning.proofs.pointers.Values.{address_points, no_pointer, points_as, poison_points}
use Rattle.pass_frames_meaning.specs.Pointers.{IsAddress, IsPointingState, KeepsPointing, PointsAs, PointsAsleep}
use Rattle.pass_frames_meaning.specs.Pointers.{PointsBack, PointsBy, StaysPointing}

result_poison : (o : Option Ty) → PointsBack o Value.Poison
result_poison None = tt
result_poison (Some t) = poison_points (Some (kind_of t))

frame_is : (o : Option (ℕ × Instance)) → IsAddress (frame_address o)
frame_is None = tt
frame_is (Some (i, x)) = tt

module _ (h : Hooks) (rules : KeepsAllTypes h.given.code) (keeps : KeepsPointing h) (s : State)
    (k : IsPointingState h.given.code s) (reached : IsReachedState h.given s) where
  abbrev m : Module
  m = h.given.code

  abbrev f : Function
  f = function_of h.given s

  abbrev here : Fetched
  here = fetch f s.top.block s.top.at

  abbrev Fine : Result State Cause → Type 0
  Fine r = StaysPointing h.given.code r

  own : (i : ℕ) (x : Instance) → s.top.instance ≡ Some i → slice_get s.instances i ≡ Some x → x.coroutine ≡ s.top.func
  own i x ei ex = let both : Some x.coroutine ≡ Some s.top.func =
      sym (get_coroutine s.instances i x ex) ∙ reached.top.own i ei in cc

  -- ---- a suspended instance

  sleeping : (v : Value) (goes : Sleeper → Result State Cause)
      → ((y : Sleeper) → PointsAsleep (function_at m y.instance.coroutine) (Status.Suspended y.suspend y.values)
      → Fine (goes y))
      → Fine (and_then (sleeper_at s v) goes)
  sleeping v goes j = on (instance_at s.instances v) (λ i x e. at_is s.instances v i x e)
    where
      by : (i : ℕ) (x : Instance) → slice_get s.instances i ≡ Some x → (st : Status) → x.status ≡ st
          → Fine (and_then (sleeper_of i x st) goes)
      by i x e Status.Running es = tt
      by i x e (Status.Suspended u values) es =
          j (record { number = i; instance = x; suspend = u; values = values })
          (subst (PointsAsleep (function_at m x.coroutine)) es (instance_there m s k i x e))
      by i x e Status.Finished es = tt

      on : (o : Option (ℕ × Instance)) → ((i : ℕ) (x : Instance) → o ≡ Some (i, x) → slice_get s.instances i ≡ Some x)
          → Fine (and_then (and_then (found Cause.Frame o) (λ (i, x). sleeper_of i x x.status)) goes)
      on None is = tt
      on (Some p) is = by p.0 p.1 (is p.0 p.1 refl) p.1.status refl

  if_fine : (b : Bool) (t : State) → IsPointingState m t → Fine (ok_if b Cause.State t)
  if_fine true t j = j
  if_fine false t j = tt

  -- ---- the coro intrinsics

  module _ (result : Option ℕ) (args : List Arg) (vs : List Value) where
    -- what each gives by the table
    by_table : (x : Intrinsic) → (must_tail : Bool) (ty : Option Ty)
        → here ≡ AtInstr (Instr.Call result must_tail ty (Callee.Intrinsic x) args)
        → is_result (intrinsic_result x) ty ≡ true
    by_table x must_tail ty e = (both_true (is_result (intrinsic_result x) ty) (are_wanted (intrinsic_params x) args)
        ((rules s.top.func).calls s.top.block s.top.at result must_tail ty (Callee.Intrinsic x) args e)).0

    kinds : (x : Intrinsic) (must_tail : Bool) (ty : Option Ty)
        → here ≡ AtInstr (Instr.Call result must_tail ty (Callee.Intrinsic x) args) → (r : ℕ) → result ≡ Some r
        → value_kind f r ≡ Some (result_kind (Callee.Intrinsic x) ty)
    kinds x must_tail ty e r er = call_kind_is m f (rules s.top.func) s.top.block s.top.at result must_tail ty
        (Callee.Intrinsic x) args e r er

    -- a value of a type of the table fits the name
    by_type : (x : Intrinsic) (b : Basic) → intrinsic_result x ≡ Some b
        → ((t : Ty) → result_kind (Callee.Intrinsic x) (Some t) ≡ kind_of t) → IsCoroCall here x args result
        → (v : Value) → ((t : Ty) → is_basic b t ≡ true → PointsBy t v) → (r : ℕ) → result ≡ Some r
        → PointsAs (value_kind f r) v
    by_type x b eb plain (Called must_tail ty e) v fits r er =
        on ty (ap (λ (o : Option Basic). is_result o ty) (sym eb) ∙ by_table x must_tail ty e)
        (kinds x must_tail ty e r er)
      where
        on : (ty : Option Ty) → is_result (Some b) ty ≡ true
            → value_kind f r ≡ Some (result_kind (Callee.Intrinsic x) ty) → PointsAs (value_kind f r) v
        on None j own = absurd (cc)
        on (Some t) j own = points_as (Some (kind_of t)) (value_kind f r) v (own ∙ ap Some (plain t)) (fits t j)

    gives_it : (x : Intrinsic) (b : Basic) → intrinsic_result x ≡ Some b
        → ((t : Ty) → result_kind (Callee.Intrinsic x) (Some t) ≡ kind_of t) → IsCoroCall here x args result
        → (v : Value) → ((t : Ty) → is_basic b t ≡ true → PointsBy t v) → IsPointingState m (gives s result v)
    gives_it x b eb plain c v fits = gives_fits m s k result v (λ r er. by_type x b eb plain c v fits r er)

    address_it : (v : Value) → IsAddress v → IsPointingState m (gives s result v)
    address_it v a = gives_fits m s k result v (λ r er. address_points (value_kind f r) v a)

    truth_it : (x : Intrinsic) → intrinsic_result x ≡ Some Basic.I1
        → ((t : Ty) → result_kind (Callee.Intrinsic x) (Some t) ≡ kind_of t) → IsCoroCall here x args result
        → (b : Bool) → IsPointingState m (gives s result (truth_value b))
    truth_it x eb plain c b = gives_it x Basic.I1 eb plain c (truth_value b)
        (λ t e. no_pointer (is_int 1) refl t e (truth_value b))

    freed_it : (v : Value) → IsAddress v → IsPointingState m (gives (release s) result v)
    freed_it v a = on (own_instance s) (λ i x e. (own_there s i x e).1)
      where
        on : (o : Option (ℕ × Instance)) → ((i : ℕ) (x : Instance) → o ≡ Some (i, x) → slice_get s.instances i ≡ Some x)
            → IsPointingState m (gives (change_own s (λ x. record x { released = true }) o) result v)
        on None is = address_it v a
        on (Some p) is = gives_fits m (with_instance s p.0 (record p.1 { released = true }))
            (instance_set m s k p.0 (record p.1 { released = true }) (instance_there m s k p.0 p.1 (is p.0 p.1 refl)))
            result v (λ r er. address_points (value_kind f r) v a)

    -- the end
    ended : IsCoroCall here Intrinsic.CoroEnd args result → Fine (end_of s h.close result)
    ended c = on s.top.has_left
      where
        after : (t : State) → IsPointingState m t → t.top.func ≡ s.top.func → (mode : Mode)
            → Fine (after_end t result mode)
        after t j same Mode.Resumed = returned_fits m t j None (result_poison (function_at m t.top.func).result)
        after t j same mode = gives_fits m t j result (truth_value false) (λ r er.
            subst (λ (n : ℕ). PointsAs (value_kind (function_at m n) r) (truth_value false)) (sym same)
            (by_type Intrinsic.CoroEnd Basic.I1 refl (λ t. refl) c (truth_value false)
            (λ t e. no_pointer (is_int 1) refl t e (truth_value false)) r
            er))

        on : (b : Bool) → Fine (after_end (if b then s else h.close s) result s.top.mode)
        on true = after s k refl s.top.mode
        on false = after (h.close s) (keeps.close s k)
            (ap (λ (a : Activation). a.func) (keeps.closed s)) s.top.mode

    promised : (r : Result Value Cause) → ((v : Value) → r ≡ Ok v → IsAddress v)
        → Fine (and_then r (λ v. Ok (gives s result v)))
    promised (Err cause) is = tt
    promised (Ok v) is = address_it v (is v refl)

    saves : Fine (save h.given s)
    saves = on (suspend_of f (point_of s))
      where
        on : (o : Option Point) → Fine (and_then (found Cause.State o)
            (λ u. and_then (save_for s (point_of s) u) (λ t. Ok (next t))))
        on None = tt
        on (Some u) = saved m s k own (point_of s) u (λ t. Ok (next t)) (λ t j same. next_fits m t j)

    suspends : IsCoroCall here Intrinsic.CoroSuspend args result → (token : Operand) → Fine (suspend s result token)
    suspends c token = on token
      where
        fits : (t : State) → IsPointingState m t → t.top.func ≡ s.top.func
            → IsPointingState m (gives t result (integer 8 (negsuc 0)))
        fits t j same = gives_fits m t j result (integer 8 (negsuc 0)) (λ r er.
            subst (λ (n : ℕ). PointsAs (value_kind (function_at m n) r) (integer 8 (negsuc 0))) (sym same)
            (by_type Intrinsic.CoroSuspend Basic.I8 refl (λ t. refl) c (integer 8 (negsuc 0))
            (λ t e. no_pointer (is_int 8) refl t e (integer 8 (negsuc 0))) r er))

        on : (token : Operand) → Fine (suspend s result token)
        on Operand.None = saved m s k own (point_of s) (point_of s) (λ t. Ok (gives t result (integer 8 (negsuc 0))))
            fits
        on token = fits s k refl

    coro_fine : (x : Intrinsic) → IsCoroCall here x args result → Fine (hooked_coro h s x args vs result)
    coro_fine Intrinsic.CoroId c = next_fits m s k
    coro_fine Intrinsic.CoroSizeI32 c =
        gives_it Intrinsic.CoroSizeI32 Basic.I32 refl (λ t. refl) c (integer 32 (pos (own_frame h.given s).size))
        (λ t e. no_pointer (is_int 32) refl t e _)
    coro_fine Intrinsic.CoroSizeI64 c =
        gives_it Intrinsic.CoroSizeI64 Basic.I64 refl (λ t. refl) c (integer 64 (pos (own_frame h.given s).size))
        (λ t e. no_pointer (is_int 64) refl t e _)
    coro_fine Intrinsic.CoroAlignI32 c =
        gives_it Intrinsic.CoroAlignI32 Basic.I32 refl (λ t. refl) c (integer 32 (pos (own_frame h.given s).align))
        (λ t e. no_pointer (is_int 32) refl t e _)
    coro_fine Intrinsic.CoroAlignI64 c =
        gives_it Intrinsic.CoroAlignI64 Basic.I64 refl (λ t. refl) c (integer 64 (pos (own_frame h.given s).align))
        (λ t e. no_pointer (is_int 64) refl t e _)
    coro_fine Intrinsic.CoroAlloc c = truth_it Intrinsic.CoroAlloc refl (λ t. refl) c (h.allocates s)
    coro_fine Intrinsic.CoroBegin c = keeps.start s result (nth vs 1) k
    coro_fine Intrinsic.CoroFree c = freed_it (h.freed s) (keeps.freed s)
    coro_fine Intrinsic.CoroFrame c = address_it (frame_address (own_instance s)) (frame_is (own_instance s))
    coro_fine Intrinsic.CoroSave c = saves
    coro_fine Intrinsic.CoroSuspend c = suspends c (operand_at args 0)
    coro_fine Intrinsic.CoroEnd c = ended c
    coro_fine Intrinsic.CoroResume c = sleeping (nth vs 0) _ (λ y j. if_fine _ _
        (keeps.go_on s k y.number y.instance y.suspend y.values _ j))
    coro_fine Intrinsic.CoroDestroy c = sleeping (nth vs 0) _ (λ y j.
        keeps.go_on s k y.number y.instance y.suspend y.values _ j)
    coro_fine Intrinsic.CoroDone c = sleeping (nth vs 0) _ (λ y j. if_fine _ _
        (truth_it Intrinsic.CoroDone refl (λ t. refl) c _))
    coro_fine Intrinsic.CoroPromise c = promised (h.promised s (nth vs 0) (operand_at args 2))
        (keeps.promised s (nth vs 0) (operand_at args 2))
    coro_fine Intrinsic.LifetimeStart c = next_fits m s k
    coro_fine Intrinsic.LifetimeEnd c = next_fits m s k
    coro_fine Intrinsic.MemcpyI64 c = next_fits m s k
    coro_fine Intrinsic.MemcpyI32 c = next_fits m s k

  -- ---- a step

  act_fine : (a : Action) → PointsAction m f here a → Fine (hooked_act h s a)
  act_fine (Done w) j = settled_fits m s k w j
  act_fine (NewSlot w slot) j = keeps.place (settled s w) slot (settled_fits m s k w j)
  act_fine (Enter func args result must_tail) j =
      called_fits m s k rules func args result (mode_of (function_at m func)) j.0 j.1
  act_fine (Coro x args result) j = coro_fine result args (arg_values m s.top.values args) x j
  act_fine (Deallocate v) j = freed_fits m s k v (λ i x e. at_is s.instances v i x e)
  act_fine (GoTo label) j = went m h.given refl rules s k label
  act_fine (Return v) j = returned_fits m s k v j
  act_fine (Stuck cause) j = tt

  next_fine : Fine (hooked_next h s here)
  next_fine = idle (h.is_idle s here)
    where
      otherwise : Fine (hooked_act h s (action_of (hooked_context h s) (work_of s) here))
      otherwise = act_fine (action_of (hooked_context h s) (work_of s) here)
          (action_fine m f (rules s.top.func) s.top.block s.top.at (hooked_context h s) refl (work_of s) k.top
          here refl)

      given : (o : Option (Result State Cause)) → h.given_call s here ≡ o
          → Fine (unwrap_or o (hooked_act h s (action_of (hooked_context h s) (work_of s) here)))
      given None e = otherwise
      given (Some r) e = let no : Some r ≡ None = sym e ∙ keeps.ungiven s s.top.block s.top.at in absurd (cc)

      idle : (b : Bool) → Fine (if b then Ok (next s)
          else unwrap_or (h.given_call s here) (hooked_act h s (action_of (hooked_context h s) (work_of s) here)))
      idle true = next_fits m s k
      idle false = given (h.given_call s here) refl

  or_fine : (r : Result State Cause) → Fine r → IsPointingState m (or_undefined h.given s r)
  or_fine (Err cause) j = record { top = k.top; below = k.below; instances = k.instances }
  or_fine (Ok t) j = j

  advance_fine : (o : Outcome) → IsPointingState m (hooked_advance h s o)
  advance_fine Outcome.Running = or_fine (hooked_next h s here) next_fine
  advance_fine (Outcome.Returned v) = k
  advance_fine (Outcome.Undefined cause place) = k

  pub step_points : IsPointingState h.given.code (step_of h s)
  step_points = advance_fine s.outcome
