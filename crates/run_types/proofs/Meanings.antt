-- The hooks of each meaning keep states in which all values fit.
use Rattle.std.proofs.Common.{◌≡◌, ℕ, Bool, true, false, List, [], ◌∷◌, length, ◌&&◌, Option, Some, None, Result, Ok}
use Rattle.std.proofs.Common.{refl, sym, ap, ◌∙◌, subst, replicate}
use Rattle.std.specs.List.{list_all}
use Rattle.std.specs.Prelude.{if◌then◌else◌, option_and_then, slice_get}
use Rattle.run_hooks.specs.ir_base.declared.cause.Cause.{Cause}
use Rattle.run_hooks.specs.ir_base.declared.name.Name.{Name}
use Rattle.run_hooks.specs.ir_model.Layout.{same_type}
use Rattle.run_hooks.specs.ir_model.Names.{function_at}
use Rattle.run_hooks.specs.ir_model.Ty.{Ty}
use Rattle.run_hooks.specs.ir_model.declared.instr.Instr.{Instr}
use Rattle.run_hooks.specs.ir_model.declared.module.Function.{Function}
use Rattle.run_hooks.specs.ir_model.declared.module.Module.{Module}
use Rattle.run_hooks.specs.ir_model.declared.module.Param.{Param}
use Rattle.run_hooks.specs.ir_model.declared.operand.Arg.{Arg}
use Rattle.run_hooks.specs.ir_model.declared.operand.Callee.{Callee}
use Rattle.run_hooks.specs.ir_model.declared.operand.Intrinsic.{Intrinsic}
use Rattle.run_hooks.specs.ir_paths.Windows.{call_result, instr_at, is_call_of, points_where}
use Rattle.run_hooks.specs.ir_paths.declared.point.Point.{Point}
use Rattle.run_hooks.proofs.pass_kept_proof.Rules.{where_is}
use Rattle.run_hooks.specs.pass_kept_proof.Kept.{Keep, continue_keeping, kept}
use Rattle.run_hooks.proofs.pass_renewed_proof.Left.{instr_there}
use Rattle.run_hooks.specs.pass_renewed_proof.Renewed.{RenewedGiven, framed_of, renew_after, renewed_from, renewed_slot}
use Rattle.run_hooks.specs.pass_renewed_proof.Renewed.{with_life, with_renewed}
use Rattle.rule_types.specs.Signatures.{are_wanted, is_result}
use Rattle.rule_types.specs.Wants.{intrinsic_params, is_ptr}
use Rattle.rule_types.specs.declared.wants.Basic.{Basic}
use Rattle.rule_values.specs.Fits.{fits_arg}
use Rattle.rule_values.specs.Instrs.{is_passed, passes}
use Rattle.rule_values.specs.Kinds.{kind_of, result_kind, value_kind}
use Rattle.run_hooks.specs.run_framed.Framed.{FramedGiven, alloca_from, begin_name, continue_framed, enter_given, framed_begin}
use Rattle.run_hooks.specs.run_framed.Framed.{framed_slot, given_call, given_ramp, last_value, reentry_values}
use Rattle.run_hooks.specs.Meanings.{framed_hooks, hooks_by, kept_hooks, renewed_hooks, source_hooks}
use Rattle.run_hooks.specs.run_memory.Memory.{own, start}
use Rattle.run_hooks.specs.run_memory.declared.pointer.Value.{Value}
use Rattle.run_hooks.specs.run_source.Source.{Continues, called, continue, finish, push, resumed}
use Rattle.run_hooks.specs.run_source.State.{frame_address_of, function_of, gives, own_instance, with_memory, with_slots}
use Rattle.run_hooks.specs.run_source.State.{with_status}
use Rattle.run_hooks.specs.run_source.declared.state.Instance.{Instance}
use Rattle.run_hooks.specs.run_source.declared.state.Mode.{Mode}
use Rattle.run_hooks.specs.run_source.declared.state.State.{State}
use Rattle.run_hooks.specs.run_source.declared.state.Status.{Status}
use Rattle.run_hooks.specs.run_source_tables.Given.{Given}
use Rattle.run_hooks.specs.run_step.Step.{AtInstr, Fetched, fetch}
use Rattle.run_hooks.specs.run_step.Values.{Env, arg_value, arg_values}
use Rattle.run_hooks.specs.run_step.declared.world.Slot.{Slot}
use Rattle.run_types.proofs.Bytes.{started_has}
use Rattle.run_types.proofs.Fit.{arg_fits, both_true, fits_as, no_integer, result_fits, same_fits, unset_fits}
use Rattle.run_types.proofs.Parts.{called_fits, entered, memory_set, placed, slots_set}
use Rattle.run_types.proofs.Rules.{arguments_pass, call_kind_is, gives_back}
use Rattle.run_types.specs.Fitting.{AreFitting, FitParams, FitsKind}
use Rattle.run_types.specs.Rules.{KeepsAllTypes, KeepsGivenTypes, KeepsTypes, fits_first}
use Rattle.run_types.specs.States.{IsFittingState, KeepsFitting, StaysFitting, TakesAny}
use Rattle.run_types.proofs.HandedOn.{kept_fits, renewed_fits}
use Rattle.run_types.proofs.Beginning.{entering, resumed_fits, begin_fits, finished_fits, finish_top, disowned_fits}
use Rattle.run_types.proofs.Beginning.{disown_top, begin_given_fits}

-- ---- sources

-- a source's hooks, but for a way to go on
by_fits : (g : Given) (go : Continues)
    → ((s : State) → IsFittingState g.code s → (i : ℕ) (x : Instance)
    (suspend : Point) (values : Env) (label : ℕ) → AreFitting (function_at g.code x.coroutine) values
    → IsFittingState g.code (go s i x suspend values label)) → KeepsFitting (hooks_by g go)
by_fits g go goes_on = record {
  go_on = goes_on;
  place = λ s slot h. placed g.code g s h slot;
  start = λ s result memory h any. begin_fits g.code g s h result memory any;
  close = λ s h. finished_fits g.code s h;
  closed = λ s. finish_top g.code s;
  call = λ s r h e. absurd (cc);
}

continued : (g : Given) → KeepsAllTypes g.code → (s : State) → IsFittingState g.code s → (i : ℕ) (x : Instance)
    (suspend : Point) (values : Env) (label : ℕ) → AreFitting (function_at g.code x.coroutine) values
    → IsFittingState g.code (continue g s i x suspend values label)
continued g rules s h i x suspend values label k =
    entered g.code g refl rules (push (with_status s i x Status.Running) (resumed i x suspend values))
    (resumed_fits g.code s h i x suspend values k) label

pub source_keeps_fitting : (g : Given) → KeepsAllTypes g.code → KeepsFitting (source_hooks g)
source_keeps_fitting g rules = by_fits g (continue g) (continued g rules)

pub kept_keeps_fitting : (g : Given) (keep : Keep) → KeepsAllTypes g.code → KeepsFitting (kept_hooks g keep)
kept_keeps_fitting g keep rules = by_fits g (continue_keeping g keep) (λ s h i x suspend values label k.
    continued g rules s h i x suspend (kept (keep x.coroutine suspend) values) label
    (kept_fits (function_at g.code x.coroutine) (keep x.coroutine suspend) values k))

-- ---- slots made anew

renewing : (g : RenewedGiven) → KeepsAllTypes g.given.code → (s : State) → IsFittingState g.given.code s
    → (from label : ℕ) (o : Option Point) → IsFittingState g.given.code (renew_after g s from label o)
renewing g rules s h from label (Some p) = entering g.given.code (framed_of g) refl rules s h from label (Some p)
renewing g rules s h from label None =
    entering g.given.code (framed_of g) refl rules (with_renewed (g.roots s.top.func) s) (record {
      memory = h.memory;
      top = renewed_fits (function_at g.given.code s.top.func) (g.roots s.top.func) s.top.values s.top.values h.top;
      below = h.below;
      instances = h.instances;
    }) from label None

pub renewed_keeps_fitting : (g : RenewedGiven) → KeepsAllTypes g.given.code → KeepsFitting (renewed_hooks g)
renewed_keeps_fitting g rules = record {
  go_on = λ s h i x suspend values label k.
      renewing g rules (push (with_status s i x Status.Running)
      (resumed i x suspend (kept (g.keep x.coroutine suspend) values)))
      (resumed_fits g.given.code s h i x suspend (kept (g.keep x.coroutine suspend) values)
      (kept_fits (function_at g.given.code x.coroutine) (g.keep x.coroutine suspend) values k)) suspend.block label
      (renewed_from (g.flags x.coroutine) (function_at g.given.code x.coroutine) 0);
  place = λ s slot h. place s slot (alive s slot h (g.flags s.top.func slot.alloca)) s.top.mode;
  start = λ s result memory h any. begin_fits g.given.code g.given s h result memory any;
  close = λ s h. finished_fits g.given.code s h;
  closed = λ s. finish_top g.given.code s;
  call = λ s r h e. absurd (cc);
}
  where
    alive : (s : State) (slot : Slot) → IsFittingState g.given.code s → (b : Bool)
        → IsFittingState g.given.code (if b then with_memory s (start s.world.memory slot.block) else s)
    alive s slot h true = memory_set g.given.code s h (start s.world.memory slot.block)
        (started_has s.world.memory slot.block h.memory)
    alive s slot h false = h

    place : (s : State) (slot : Slot) → IsFittingState g.given.code (with_life g s slot) → (mode : Mode)
        → IsFittingState g.given.code (renewed_slot g (with_life g s slot) slot mode)
    place s slot h (Mode.Entering from label) =
        renewing g rules (with_slots (with_life g s slot) (slot ∷ (with_life g s slot).top.slots))
        (slots_set g.given.code (with_life g s slot) h (slot ∷ (with_life g s slot).top.slots)) from label
        (renewed_from (g.flags (with_life g s slot).top.func) (function_of g.given (with_life g s slot))
        (with_life g s slot).top.at)
    place s slot h Mode.Plain = placed g.given.code g.given (with_life g s slot) h slot
    place s slot h Mode.Ramp = placed g.given.code g.given (with_life g s slot) h slot
    place s slot h Mode.Resumed = placed g.given.code g.given (with_life g s slot) h slot
    place s slot h (Mode.GivenRamp frame) = placed g.given.code g.given (with_life g s slot) h slot

-- ---- frames

-- begin's name has an address
begin_pointer : (m : Module) (f : Function) → KeepsTypes m f → (n : ℕ) → begin_name f ≡ Some n → (v : Value)
    → FitsKind (value_kind f n) v
begin_pointer m f rules n e v = on (slice_get (points_where (is_call_of Intrinsic.CoroBegin) f) 0) refl e
  where
    by : (p : Point) (i : Instr) → fetch f p.block p.at ≡ AtInstr i → is_call_of Intrinsic.CoroBegin i ≡ true
        → call_result i ≡ Some n → FitsKind (value_kind f n) v
    by p (Instr.Call result must_tail ty (Callee.Intrinsic Intrinsic.CoroBegin) args) stands is er =
        let table = (both_true (is_result (Some Basic.Ptr) ty) (are_wanted (intrinsic_params Intrinsic.CoroBegin) args)
        (rules.calls p.block p.at result must_tail ty (Callee.Intrinsic Intrinsic.CoroBegin) args stands)).0 in
        typed ty table (call_kind_is m f rules p.block p.at result must_tail ty
        (Callee.Intrinsic Intrinsic.CoroBegin) args stands n er)
      where
        typed : (ty : Option Ty) → is_result (Some Basic.Ptr) ty ≡ true
            → value_kind f n ≡ Some (result_kind (Callee.Intrinsic Intrinsic.CoroBegin) ty)
            → FitsKind (value_kind f n) v
        typed None j own = absurd (cc)
        typed (Some t) j own = fits_as (Some (kind_of t)) (value_kind f n) v own (no_integer is_ptr (λ w. refl) t j v)
    by p _ stands is er = absurd (cc)

    on : (o : Option Point) → slice_get (points_where (is_call_of Intrinsic.CoroBegin) f) 0 ≡ o
        → option_and_then call_result (option_and_then (instr_at f) o) ≡ Some n → FitsKind (value_kind f n) v
    on None eo j = absurd (cc)
    on (Some p) eo j =
        let r = where_is (is_call_of Intrinsic.CoroBegin) f p eo in
        by p r.0 r.1 r.2 (ap (option_and_then call_result) (sym (instr_there f p r.0 r.1)) ∙ j)

-- ---- a call that gives a frame

first_fit : (m : Module) (f : Function) (env : Env) (callee : Callee) (params : List Param) (args : List Arg)
    → AreFitting f env → list_all (passes (value_kind f) callee) args ≡ true
    → fits_first params args ≡ true → FitParams params (arg_values m env args)
first_fit m f env callee [] args h e k = tt
first_fit m f env callee (p ∷ params) [] h e k = tt
first_fit m f env callee (p ∷ params) (a ∷ args) h e k =
    let r = both_true (is_passed callee a.ty && fits_arg (value_kind f) a)
    (list_all (passes (value_kind f) callee) args) e in
    let q = both_true (is_passed callee a.ty) (fits_arg (value_kind f) a) r.0 in
    let s = both_true (same_type a.ty p.ty) (fits_first params args) k in (
      same_fits a.ty p.ty (arg_value m env a) s.0 (arg_fits m f env a h q.1),
      first_fit m f env callee params args h r.1 s.1,
    )

given_fits : (g : FramedGiven) → KeepsAllTypes g.given.code → KeepsGivenTypes g.given.code → (s : State)
    → IsFittingState g.given.code s → (r : Result State Cause)
    → given_call g s (fetch (function_of g.given s) s.top.block s.top.at) ≡ Some r → StaysFitting g.given.code r
given_fits g rules given s h r e = on (fetch (function_of g.given s) s.top.block s.top.at) refl e
  where
    m : Module
    m = g.given.code

    f : Function
    f = function_at g.given.code s.top.func

    enters : (result : Option ℕ) (must_tail : Bool) (ty : Option Ty) (n : Name) (args : List Arg)
        → fetch (function_at g.given.code s.top.func) s.top.block s.top.at
        ≡ AtInstr (Instr.Call result must_tail ty (Callee.Named n) args) → (o : Option ℕ)
        → given_ramp g.given.code n ≡ o
        → enter_given g s result (arg_values g.given.code s.top.values args) o ≡ Some r → StaysFitting g.given.code r
    enters result must_tail ty n args stands None eo j = absurd (cc)
    enters result must_tail ty n args stands (Some ramp) eo j =
        let types = given.calls s.top.func s.top.block s.top.at result must_tail ty n args ramp stands eo in
        let vs = arg_values g.given.code s.top.values args in
        let is : Ok (push s (called g.given.code ramp vs result (Mode.GivenRamp (last_value vs)))) ≡ r = cc in
        subst (StaysFitting g.given.code) is (called_fits g.given.code s h rules ramp vs result
        (Mode.GivenRamp (last_value vs))
        (first_fit g.given.code (function_at g.given.code s.top.func) s.top.values (Callee.Named n)
        (function_at g.given.code ramp).params args h.top
        (arguments_pass g.given.code (function_at g.given.code s.top.func)
        (rules s.top.func) s.top.block s.top.at result must_tail ty (Callee.Named n) args stands) types.0)
        (gives_back g.given.code (function_at g.given.code s.top.func) (rules s.top.func)
        s.top.block s.top.at result must_tail ty (Callee.Named n) args stands (λ t. refl) ramp types.1))

    on : (x : Fetched) → fetch (function_at g.given.code s.top.func) s.top.block s.top.at ≡ x
        → given_call g s x ≡ Some r → StaysFitting g.given.code r
    on (AtInstr (Instr.Call result must_tail ty (Callee.Named n) args)) stands j =
        enters result must_tail ty n args stands (given_ramp g.given.code n) refl j
    on _ stands j = absurd (cc)

pub framed_keeps_fitting : (g : FramedGiven) → KeepsAllTypes g.given.code → KeepsGivenTypes g.given.code
    → KeepsFitting (framed_hooks g)
framed_keeps_fitting g rules given = record {
  go_on = λ s h i x suspend values label k. goes_on s h i x suspend label;
  place = λ s slot h. place s slot h s.top.mode;
  start = λ s result memory h any. starts s result memory h any s.top.mode;
  close = λ s h. disowned_fits g.given.code (finish s) (finished_fits g.given.code s h) (own_instance s);
  closed = λ s. disown_top g.given.code (finish s) (own_instance s) ∙ finish_top g.given.code s;
  call = λ s r h e. given_fits g rules given s h r e;
}
  where
    goes_on : (s : State) → IsFittingState g.given.code s → (i : ℕ) (x : Instance) (suspend : Point) (label : ℕ)
        → IsFittingState g.given.code (continue_framed g s i x suspend [] label)
    goes_on s h i x suspend label =
        let f = function_at g.given.code x.coroutine in
        entering g.given.code g refl rules (push (with_status s i x Status.Running)
        (resumed i x suspend (reentry_values f (frame_address_of x))))
        (resumed_fits g.given.code s h i x suspend (reentry_values f (frame_address_of x))
        (result_fits f (replicate (length f.names) None) (begin_name f) (frame_address_of x)
        (unset_fits f (length f.names)) (λ n e. begin_pointer g.given.code f (rules x.coroutine) n e
        (frame_address_of x)))) suspend.block label (alloca_from f 0)

    place : (s : State) (slot : Slot) → IsFittingState g.given.code s → (mode : Mode)
        → IsFittingState g.given.code (framed_slot g s slot mode)
    place s slot h (Mode.Entering from label) = entering g.given.code g refl rules (with_slots s (slot ∷ s.top.slots))
        (slots_set g.given.code s h (slot ∷ s.top.slots)) from label (alloca_from (function_of g.given s) s.top.at)
    place s slot h Mode.Plain = slots_set g.given.code s h (slot ∷ s.top.slots)
    place s slot h Mode.Ramp = slots_set g.given.code s h (slot ∷ s.top.slots)
    place s slot h Mode.Resumed = slots_set g.given.code s h (slot ∷ s.top.slots)
    place s slot h (Mode.GivenRamp frame) = slots_set g.given.code s h (slot ∷ s.top.slots)

    starts : (s : State) (result : Option ℕ) (memory : Value) → IsFittingState g.given.code s
        → TakesAny (function_at g.given.code s.top.func) result → (mode : Mode)
        → StaysFitting g.given.code (framed_begin g s result memory mode)
    starts s result memory h any (Mode.GivenRamp frame) = begin_given_fits g.given.code g s h result frame any
    starts s result memory h any Mode.Plain = begin_fits g.given.code g.given s h result memory any
    starts s result memory h any Mode.Ramp = begin_fits g.given.code g.given s h result memory any
    starts s result memory h any Mode.Resumed = begin_fits g.given.code g.given s h result memory any
    starts s result memory h any (Mode.Entering from label) = begin_fits g.given.code g.given s h result memory any
