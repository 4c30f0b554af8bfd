-- The steps of the four meanings are steps by hooks.
use Rattle.std.proofs.Common.{◌≡◌, ℕ, zero, suc, List, Option, Result, Ok, refl}
use Rattle.std.proofs.Common.{ap, ◌∙◌}
use Rattle.std.specs.Prelude.{if◌then◌else◌, unwrap_or}
use Rattle.pass_renewed_proof.specs.ir_base.declared.cause.Cause.{Cause}
use Rattle.pass_renewed_proof.specs.ir_base.declared.outcome.Outcome.{Outcome}
use Rattle.pass_renewed_proof.specs.ir_model.declared.operand.Arg.{Arg}
use Rattle.pass_renewed_proof.specs.ir_model.declared.operand.Intrinsic.{Intrinsic}
use Rattle.pass_renewed_proof.specs.Renewed.{RenewedGiven, continue_renewed, is_idle, renewed_act, renewed_advance}
use Rattle.pass_renewed_proof.specs.Renewed.{renewed_next, renewed_step}
use Rattle.pass_renewed_proof.specs.run_framed.Framed.{FramedGiven, framed_act, framed_advance, framed_context, framed_coro}
use Rattle.pass_renewed_proof.specs.run_framed.Framed.{framed_next, framed_step, given_call}
use Rattle.run_hooks.specs.Hooks.{hooked_act, hooked_advance, hooked_coro, hooked_next, step_of}
use Rattle.run_hooks.specs.Meanings.{framed_hooks, hooks_by, renewed_hooks}
use Rattle.pass_renewed_proof.specs.run_memory.declared.pointer.Value.{Value}
use Rattle.pass_renewed_proof.specs.run_source.Source.{Continues, act, advance_by, context_of, coro, step_by}
use Rattle.pass_renewed_proof.specs.run_source.State.{function_of, next, or_undefined, work_of}
use Rattle.pass_renewed_proof.specs.run_source.declared.state.State.{State}
use Rattle.pass_renewed_proof.specs.run_source_tables.Given.{Given}
use Rattle.pass_renewed_proof.specs.run_step.Runs.{iterate}
use Rattle.pass_renewed_proof.specs.run_step.Step.{Action, Coro, Deallocate, Done, Enter, Fetched, GoTo, NewSlot, Return, Stuck}
use Rattle.pass_renewed_proof.specs.run_step.Step.{action_of, fetch}
use Rattle.pass_renewed_proof.specs.run_step.Values.{arg_values}

-- ---- runs

-- machines whose steps are the same come to the same states
pub same_runs : {S : Type 0} (f g : S → S) → ((s : S) → f s ≡ g s) → (n : ℕ) (s : S) → iterate f n s ≡ iterate g n s
same_runs f g h zero s = refl
same_runs {S} f g h (suc n) s = ap (λ (t : S). iterate f n t) (h s) ∙ same_runs f g h n (g s)

-- ---- sources, by any way to go on behind a suspend

source_coro : (g : Given) (go : Continues) (s : State) (i : Intrinsic)
    (args : List Arg) (vs : List Value) (result : Option ℕ)
    → coro g go s i args vs result ≡ hooked_coro (hooks_by g go) s i args vs result
source_coro g go s Intrinsic.CoroId args vs result = refl
source_coro g go s Intrinsic.CoroSizeI32 args vs result = refl
source_coro g go s Intrinsic.CoroSizeI64 args vs result = refl
source_coro g go s Intrinsic.CoroAlignI32 args vs result = refl
source_coro g go s Intrinsic.CoroAlignI64 args vs result = refl
source_coro g go s Intrinsic.CoroAlloc args vs result = refl
source_coro g go s Intrinsic.CoroBegin args vs result = refl
source_coro g go s Intrinsic.CoroFree args vs result = refl
source_coro g go s Intrinsic.CoroFrame args vs result = refl
source_coro g go s Intrinsic.CoroSave args vs result = refl
source_coro g go s Intrinsic.CoroSuspend args vs result = refl
source_coro g go s Intrinsic.CoroEnd args vs result = refl
source_coro g go s Intrinsic.CoroResume args vs result = refl
source_coro g go s Intrinsic.CoroDestroy args vs result = refl
source_coro g go s Intrinsic.CoroDone args vs result = refl
source_coro g go s Intrinsic.CoroPromise args vs result = refl
source_coro g go s Intrinsic.LifetimeStart args vs result = refl
source_coro g go s Intrinsic.LifetimeEnd args vs result = refl
source_coro g go s Intrinsic.MemcpyI64 args vs result = refl
source_coro g go s Intrinsic.MemcpyI32 args vs result = refl

source_act : (g : Given) (go : Continues) (s : State) (a : Action) → act g go s a ≡ hooked_act (hooks_by g go) s a
source_act g go s (Done w) = refl
source_act g go s (NewSlot w slot) = refl
source_act g go s (Enter func args result must_tail) = refl
source_act g go s (Coro i args result) = source_coro g go s i args (arg_values g.code s.top.values args) result
source_act g go s (Deallocate p) = refl
source_act g go s (GoTo label) = refl
source_act g go s (Return v) = refl
source_act g go s (Stuck cause) = refl

source_advance : (g : Given) (go : Continues) (s : State) (o : Outcome)
    → advance_by g go s o ≡ hooked_advance (hooks_by g go) s o
source_advance g go s Outcome.Running =
    let x = fetch (function_of g s) s.top.block s.top.at in
    ap (or_undefined g s) (source_act g go s (action_of (context_of g s) (work_of s) x))
source_advance g go s (Outcome.Returned v) = refl
source_advance g go s (Outcome.Undefined cause place) = refl

pub source_step : (g : Given) (go : Continues) (s : State) → step_by g go s ≡ step_of (hooks_by g go) s
source_step g go s = source_advance g go s s.outcome

-- ---- slots that are made anew

renewed_coro : (g : RenewedGiven) (s : State) (i : Intrinsic) (args : List Arg) (vs : List Value) (result : Option ℕ)
    → coro g.given (continue_renewed g) s i args vs result ≡ hooked_coro (renewed_hooks g) s i args vs result
renewed_coro g s Intrinsic.CoroId args vs result = refl
renewed_coro g s Intrinsic.CoroSizeI32 args vs result = refl
renewed_coro g s Intrinsic.CoroSizeI64 args vs result = refl
renewed_coro g s Intrinsic.CoroAlignI32 args vs result = refl
renewed_coro g s Intrinsic.CoroAlignI64 args vs result = refl
renewed_coro g s Intrinsic.CoroAlloc args vs result = refl
renewed_coro g s Intrinsic.CoroBegin args vs result = refl
renewed_coro g s Intrinsic.CoroFree args vs result = refl
renewed_coro g s Intrinsic.CoroFrame args vs result = refl
renewed_coro g s Intrinsic.CoroSave args vs result = refl
renewed_coro g s Intrinsic.CoroSuspend args vs result = refl
renewed_coro g s Intrinsic.CoroEnd args vs result = refl
renewed_coro g s Intrinsic.CoroResume args vs result = refl
renewed_coro g s Intrinsic.CoroDestroy args vs result = refl
renewed_coro g s Intrinsic.CoroDone args vs result = refl
renewed_coro g s Intrinsic.CoroPromise args vs result = refl
renewed_coro g s Intrinsic.LifetimeStart args vs result = refl
renewed_coro g s Intrinsic.LifetimeEnd args vs result = refl
renewed_coro g s Intrinsic.MemcpyI64 args vs result = refl
renewed_coro g s Intrinsic.MemcpyI32 args vs result = refl

renewed_acts : (g : RenewedGiven) (s : State) (a : Action) → renewed_act g s a ≡ hooked_act (renewed_hooks g) s a
renewed_acts g s (Done w) = refl
renewed_acts g s (NewSlot w slot) = refl
renewed_acts g s (Enter func args result must_tail) = refl
renewed_acts g s (Coro i args result) = renewed_coro g s i args (arg_values g.given.code s.top.values args) result
renewed_acts g s (Deallocate p) = refl
renewed_acts g s (GoTo label) = refl
renewed_acts g s (Return v) = refl
renewed_acts g s (Stuck cause) = refl

renewed_goes : (g : RenewedGiven) (s : State) (x : Fetched) → renewed_next g s x ≡ hooked_next (renewed_hooks g) s x
renewed_goes g s x =
    ap (λ (r : Result State Cause). if is_idle (g.flags s.top.func) x then Ok (next s) else r)
    (renewed_acts g s (action_of (context_of g.given s) (work_of s) x))

renewed_advances : (g : RenewedGiven) (s : State) (o : Outcome)
    → renewed_advance g s o ≡ hooked_advance (renewed_hooks g) s o
renewed_advances g s Outcome.Running =
    ap (or_undefined g.given s) (renewed_goes g s (fetch (function_of g.given s) s.top.block s.top.at))
renewed_advances g s (Outcome.Returned v) = refl
renewed_advances g s (Outcome.Undefined cause place) = refl

pub renewed_steps : (g : RenewedGiven) (s : State) → renewed_step g s ≡ step_of (renewed_hooks g) s
renewed_steps g s = renewed_advances g s s.outcome

-- ---- frames

framed_coros : (g : FramedGiven) (s : State) (i : Intrinsic) (args : List Arg) (vs : List Value) (result : Option ℕ)
    → framed_coro g s i args vs result ≡ hooked_coro (framed_hooks g) s i args vs result
framed_coros g s Intrinsic.CoroId args vs result = refl
framed_coros g s Intrinsic.CoroSizeI32 args vs result = refl
framed_coros g s Intrinsic.CoroSizeI64 args vs result = refl
framed_coros g s Intrinsic.CoroAlignI32 args vs result = refl
framed_coros g s Intrinsic.CoroAlignI64 args vs result = refl
framed_coros g s Intrinsic.CoroAlloc args vs result = refl
framed_coros g s Intrinsic.CoroBegin args vs result = refl
framed_coros g s Intrinsic.CoroFree args vs result = refl
framed_coros g s Intrinsic.CoroFrame args vs result = refl
framed_coros g s Intrinsic.CoroSave args vs result = refl
framed_coros g s Intrinsic.CoroSuspend args vs result = refl
framed_coros g s Intrinsic.CoroEnd args vs result = refl
framed_coros g s Intrinsic.CoroResume args vs result = refl
framed_coros g s Intrinsic.CoroDestroy args vs result = refl
framed_coros g s Intrinsic.CoroDone args vs result = refl
framed_coros g s Intrinsic.CoroPromise args vs result = refl
framed_coros g s Intrinsic.LifetimeStart args vs result = refl
framed_coros g s Intrinsic.LifetimeEnd args vs result = refl
framed_coros g s Intrinsic.MemcpyI64 args vs result = refl
framed_coros g s Intrinsic.MemcpyI32 args vs result = refl

framed_acts : (g : FramedGiven) (s : State) (a : Action) → framed_act g s a ≡ hooked_act (framed_hooks g) s a
framed_acts g s (Done w) = refl
framed_acts g s (NewSlot w slot) = refl
framed_acts g s (Enter func args result must_tail) = refl
framed_acts g s (Coro i args result) = framed_coros g s i args (arg_values g.given.code s.top.values args) result
framed_acts g s (Deallocate p) = refl
framed_acts g s (GoTo label) = refl
framed_acts g s (Return v) = refl
framed_acts g s (Stuck cause) = refl

framed_goes : (g : FramedGiven) (s : State) (x : Fetched) → framed_next g s x ≡ hooked_next (framed_hooks g) s x
framed_goes g s x = ap (unwrap_or (given_call g s x)) (framed_acts g s (action_of (framed_context g s) (work_of s) x))

framed_advances : (g : FramedGiven) (s : State) (o : Outcome)
    → framed_advance g s o ≡ hooked_advance (framed_hooks g) s o
framed_advances g s Outcome.Running =
    ap (or_undefined g.given s) (framed_goes g s (fetch (function_of g.given s) s.top.block s.top.at))
framed_advances g s (Outcome.Returned v) = refl
framed_advances g s (Outcome.Undefined cause place) = refl

pub framed_steps : (g : FramedGiven) (s : State) → framed_step g s ≡ step_of (framed_hooks g) s
framed_steps g s = framed_advances g s s.outcome
