-- One step of the first run that one of the second follows, where nothing is resumed.
use Rattle.std.proofs.Common.{◌≡◌, ℕ, ◌+◌, ◌<◌, ◌≤◌, ◌⊎◌, inl, inr, Bool, true, false, List, Option, Some, None}
use Rattle.std.proofs.Common.{Result, Ok, Err, refl, sym, ap, ◌∙◌, subst, ⊎_elim, arith, if◌then◌else◌}
use Rattle.run_types.specs.ir_base.declared.cause.Cause.{Cause}
use Rattle.run_types.specs.ir_base.declared.outcome.Outcome.{Outcome}
use Rattle.run_types.specs.ir_base.declared.outcome.Word.{Word}
use Rattle.run_types.specs.ir_model.Names.{declaration_named, function_named}
use Rattle.run_types.specs.ir_model.Ty.{Ty, array, int, named, ptr, structure, token}
use Rattle.run_types.specs.ir_model.declared.instr.Instr.{Instr}
use Rattle.run_types.specs.ir_model.declared.instr.Terminator.{Terminator}
use Rattle.run_types.specs.ir_model.declared.module.Module.{Module}
use Rattle.run_types.specs.ir_model.declared.operand.Allocator.{Allocator}
use Rattle.run_types.specs.ir_model.declared.operand.Arg.{Arg}
use Rattle.run_types.specs.ir_model.declared.operand.Callee.{Callee}
use Rattle.run_types.specs.ir_model.declared.operand.Intrinsic.{Intrinsic}
use Rattle.run_types.specs.pass_kept_proof.Kept.{continue_keeping}
use Rattle.run_types.specs.run_agreement.Machines.{IsFine}
use Rattle.run_types.specs.run_memory.Memory.{copy}
use Rattle.run_types.specs.run_memory.declared.pointer.Pointer.{Pointer}
use Rattle.run_types.specs.run_memory.declared.pointer.Value.{Value}
use Rattle.run_types.specs.run_source.Source.{Continues, act, advance_by, context_of, step_by}
use Rattle.run_types.specs.run_source.State.{function_of, or_undefined, work_of}
use Rattle.run_types.specs.run_source.declared.state.Mode.{Mode}
use Rattle.run_types.specs.run_source.declared.state.State.{State}
use Rattle.run_types.specs.run_source_tables.Given.{Given}
use Rattle.run_types.specs.run_step.Step.{Action, AtInstr, AtTerm, Context, Done, Enter, Fetched}
use Rattle.run_types.specs.run_step.Step.{Nowhere, Return, Stuck, Work, action_of, branch, compared, done, fetch, fits_function}
use Rattle.run_types.specs.run_step.Step.{if_alignment, indirect_call, is_alignment, named_call, observed, switch, with_length}
use Rattle.run_types.specs.run_step.Step.{allocated, copied_bytes, set_memory, words_of}
use Rattle.run_types.specs.run_step.Values.{address, arg_values, nth}
use Rattle.pass_renewed_meaning.specs.Followed.{AreInStep, IsFollowed}
use Rattle.run_types.specs.pass_renewed_proof.Prices.{Prices, anew_price, kept_price, price_in, price_of, renewed_price, resumed_by, resumed_in}
use Rattle.run_types.specs.pass_renewed_proof.Renewed.{RenewedGiven, renewed_advance, renewed_next, renewed_step}

-- ---- instructions that resume nothing

abbrev pub IsNoResumer : Fetched → Type 0
IsNoResumer (AtInstr (Instr.Call result must_tail ty (Callee.Intrinsic Intrinsic.CoroResume) args)) = ⊥
IsNoResumer (AtInstr (Instr.Call result must_tail ty (Callee.Intrinsic Intrinsic.CoroDestroy) args)) = ⊥
IsNoResumer _ = Unit {0}

module _ (g : Given) (s : State) where
  on_done : {A : Type 0} (f : A → Work) (r : Result A Cause) → resumed_by g s (done f r) ≡ None
  on_done f (Err c) = refl
  on_done f (Ok a) = refl

  on_alignment : (align : ℕ) (a : Action) → resumed_by g s a ≡ None → resumed_by g s (if_alignment align a) ≡ None
  on_alignment align a e = on (is_alignment align)
    where
      on : (t : Bool) → resumed_by g s (if t then a else Stuck Cause.Align) ≡ None
      on true = e
      on false = refl

  on_length : (v : Value) (go : ℕ → Action) → ((n : ℕ) → resumed_by g s (go n) ≡ None)
      → resumed_by g s (with_length v go) ≡ None
  on_length (Value.Int n) go e = e n.bits
  on_length Value.Poison go e = refl
  on_length (Value.Ptr p) go e = refl

  on_observed : (c : Context) (w : Work) (d : ℕ) (ty : Option Ty) (result : Option ℕ) (ws : Option (List Word))
      → resumed_by g s (observed c w d ty result ws) ≡ None
  on_observed c w d ty result None = refl
  on_observed c w d None result (Some ws) = refl
  on_observed c w d (Some ty) result (Some ws) = refl

  on_named : (c : Context) (w : Work) (f d : Option ℕ) (ty : Option Ty) (result : Option ℕ) (must_tail : Bool) (vs :
      List Value) → resumed_by g s (named_call c w f d ty result must_tail vs) ≡ None
  on_named c w (Some f) d ty result must_tail vs = refl
  on_named c w None (Some d) ty result must_tail vs = on_observed c w d ty result (words_of vs)
  on_named c w None None ty result must_tail vs = refl

  on_indirect : (c : Context) (v : Value) (ty : Option Ty) (result : Option ℕ) (must_tail : Bool) (args : List Arg) (vs :
      List Value) → resumed_by g s (indirect_call c v ty result must_tail args vs) ≡ None
  on_indirect c (Value.Ptr (Pointer.Func f)) ty result must_tail args vs = on (fits_function ty args _)
    where
      on : (t : Bool) → resumed_by g s (if t then Enter f vs result must_tail else Stuck Cause.Call) ≡ None
      on true = refl
      on false = refl
  on_indirect c (Value.Ptr Pointer.Null) ty result must_tail args vs = refl
  on_indirect c (Value.Ptr (Pointer.At b o)) ty result must_tail args vs = refl
  on_indirect c (Value.Int n) ty result must_tail args vs = refl
  on_indirect c Value.Poison ty result must_tail args vs = refl

  on_copy : (c : Context) (w : Work) (vs : List Value) → resumed_by g s (copied_bytes c w vs) ≡ None
  on_copy c w vs = on_length (nth vs 2) (λ n. done (set_memory w) (copy c.rights w.world.memory (address (nth vs 0))
      (address (nth vs 1)) n)) (λ n. on_done (set_memory w) (copy c.rights w.world.memory (address (nth vs 0)) (address
      (nth vs 1)) n))

  on_branch : (v : Value) (a b : ℕ) → resumed_by g s (branch v a b) ≡ None
  on_branch (Value.Int n) a b = refl
  on_branch Value.Poison a b = refl
  on_branch (Value.Ptr p) a b = refl

  on_switch : (m : Module) (v : Value) (default : ℕ) (cases : List _) → resumed_by g s (switch m v default cases) ≡ None
  on_switch m (Value.Int n) default cases = refl
  on_switch m Value.Poison default cases = refl
  on_switch m (Value.Ptr p) default cases = refl

  pub resumes_none : (c : Context) (w : Work) (x : Fetched) → IsNoResumer x → resumed_by g s (action_of c w x) ≡ None
  resumes_none c w Nowhere none = refl
  resumes_none c w (AtTerm (Terminator.Jump label)) none = refl
  resumes_none c w (AtTerm (Terminator.Branch x a b)) none = on_branch _ a b
  resumes_none c w (AtTerm (Terminator.Switch arg default cases)) none = on_switch c.code _ default cases
  resumes_none c w (AtTerm (Terminator.Ret None)) none = refl
  resumes_none c w (AtTerm (Terminator.Ret (Some arg))) none = refl
  resumes_none c w (AtTerm Terminator.Unreachable) none = refl
  resumes_none c w (AtInstr (Instr.Binary name op flags ty a b)) none = on_done _ _
  resumes_none c w (AtInstr (Instr.Icmp name pred (int n) a b)) none = refl
  resumes_none c w (AtInstr (Instr.Icmp name pred ptr a b)) none = on_done _ _
  resumes_none c w (AtInstr (Instr.Icmp name pred token a b)) none = on_done _ _
  resumes_none c w (AtInstr (Instr.Icmp name pred (array n ty) a b)) none = on_done _ _
  resumes_none c w (AtInstr (Instr.Icmp name pred (structure tys) a b)) none = on_done _ _
  resumes_none c w (AtInstr (Instr.Icmp name pred (named n) a b)) none = on_done _ _
  resumes_none c w (AtInstr (Instr.Select name x a b)) none = refl
  resumes_none c w (AtInstr (Instr.Cast name op nneg arg to)) none = refl
  resumes_none c w (AtInstr (Instr.Alloca name ty align)) none = on_alignment align _ refl
  resumes_none c w (AtInstr (Instr.Load name ty p align)) none = on_alignment align _ (on_done _ _)
  resumes_none c w (AtInstr (Instr.Store arg p align)) none = on_alignment align _ (on_done _ _)
  resumes_none c w (AtInstr (Instr.Gep name inbounds ty base indices)) none = refl
  resumes_none c w (AtInstr (Instr.Call result must_tail ty (Callee.Named n) args)) none = on_named c w (function_named
      c.code n) (declaration_named c.code n) ty result must_tail _
  resumes_none c w (AtInstr (Instr.Call result must_tail ty (Callee.Local v) args)) none = on_indirect c _ ty result
      must_tail args _
  resumes_none c w (AtInstr (Instr.Call result must_tail ty (Callee.Allocator Allocator.Malloc) args)) none = on_length (nth
      (arg_values c.code w.values args) 0) (λ n. Done (allocated w result n)) (λ n. refl)
  resumes_none c w (AtInstr (Instr.Call result must_tail ty (Callee.Allocator Allocator.Znwm) args)) none = on_length (nth
      (arg_values c.code w.values args) 0) (λ n. Done (allocated w result n)) (λ n. refl)
  resumes_none c w (AtInstr (Instr.Call result must_tail ty (Callee.Allocator Allocator.Free) args)) none = refl
  resumes_none c w (AtInstr (Instr.Call result must_tail ty (Callee.Allocator Allocator.ZdlPv) args)) none = refl
  resumes_none c w (AtInstr (Instr.Call result must_tail ty (Callee.Allocator Allocator.ZdlPvm) args)) none = refl
  resumes_none c w (AtInstr (Instr.Call result must_tail ty (Callee.Intrinsic Intrinsic.CoroId) args)) none = refl
  resumes_none c w (AtInstr (Instr.Call result must_tail ty (Callee.Intrinsic Intrinsic.CoroSizeI32) args)) none = refl
  resumes_none c w (AtInstr (Instr.Call result must_tail ty (Callee.Intrinsic Intrinsic.CoroSizeI64) args)) none = refl
  resumes_none c w (AtInstr (Instr.Call result must_tail ty (Callee.Intrinsic Intrinsic.CoroAlignI32) args)) none = refl
  resumes_none c w (AtInstr (Instr.Call result must_tail ty (Callee.Intrinsic Intrinsic.CoroAlignI64) args)) none = refl
  resumes_none c w (AtInstr (Instr.Call result must_tail ty (Callee.Intrinsic Intrinsic.CoroAlloc) args)) none = refl
  resumes_none c w (AtInstr (Instr.Call result must_tail ty (Callee.Intrinsic Intrinsic.CoroBegin) args)) none = refl
  resumes_none c w (AtInstr (Instr.Call result must_tail ty (Callee.Intrinsic Intrinsic.CoroFree) args)) none = refl
  resumes_none c w (AtInstr (Instr.Call result must_tail ty (Callee.Intrinsic Intrinsic.CoroFrame) args)) none = refl
  resumes_none c w (AtInstr (Instr.Call result must_tail ty (Callee.Intrinsic Intrinsic.CoroSave) args)) none = refl
  resumes_none c w (AtInstr (Instr.Call result must_tail ty (Callee.Intrinsic Intrinsic.CoroSuspend) args)) none = refl
  resumes_none c w (AtInstr (Instr.Call result must_tail ty (Callee.Intrinsic Intrinsic.CoroEnd) args)) none = refl
  resumes_none c w (AtInstr (Instr.Call result must_tail ty (Callee.Intrinsic Intrinsic.CoroResume) args)) none = absurd none
  resumes_none c w (AtInstr (Instr.Call result must_tail ty (Callee.Intrinsic Intrinsic.CoroDestroy) args)) none = absurd none
  resumes_none c w (AtInstr (Instr.Call result must_tail ty (Callee.Intrinsic Intrinsic.CoroDone) args)) none = refl
  resumes_none c w (AtInstr (Instr.Call result must_tail ty (Callee.Intrinsic Intrinsic.CoroPromise) args)) none = refl
  resumes_none c w (AtInstr (Instr.Call result must_tail ty (Callee.Intrinsic Intrinsic.LifetimeStart) args)) none = refl
  resumes_none c w (AtInstr (Instr.Call result must_tail ty (Callee.Intrinsic Intrinsic.LifetimeEnd) args)) none = refl
  resumes_none c w (AtInstr (Instr.Call result must_tail ty (Callee.Intrinsic Intrinsic.MemcpyI64) args)) none = on_copy c w
      (arg_values c.code w.values args)
  resumes_none c w (AtInstr (Instr.Call result must_tail ty (Callee.Intrinsic Intrinsic.MemcpyI32) args)) none = on_copy c w
      (arg_values c.code w.values args)

-- ---- what a step that isn't undefined gives

-- the state that comes of what stands at the place
pub record IsStep (g : Given) (go : Continues) (s : State) (x : Fetched) : Type 0 where
  pub after : State
  pub acts : act g go s (action_of (context_of g s) (work_of s) x) ≡ Ok after
  pub is : step_by g go s ≡ after

pub step_is : (g : Given) (go : Continues) (s : State) → s.outcome ≡ Outcome.Running
    → IsFine (step_by g go s).outcome → IsStep g go s (fetch (function_of g s) s.top.block s.top.at)
step_is g go s runs fine = on (act g go s (action_of (context_of g s) (work_of s) (fetch (function_of g s) s.top.block
    s.top.at))) refl
  where
    step : step_by g go s ≡ or_undefined g s (act g go s (action_of (context_of g s) (work_of s) (fetch (function_of g s)
        s.top.block s.top.at)))
    step = ap (advance_by g go s) runs

    on : (r : Result State Cause) → act g go s (action_of (context_of g s) (work_of s) (fetch (function_of g s) s.top.block
        s.top.at)) ≡ r → IsStep g go s (fetch (function_of g s) s.top.block s.top.at)
    on (Err cause) e = absurd (subst (λ (z : State). IsFine z.outcome) (step ∙ ap (or_undefined g s) e) fine)
    on (Ok after) e = record { after = after; acts = e; is = step ∙ ap (or_undefined g s) e }

-- ---- one step for one

pub record IsOneStep (h : RenewedGiven) (t : State) (x : Fetched) (g : Given) (after : State) : Type 0 where
  pub other : State
  pub goes : renewed_next h t x ≡ Ok other
  pub related : AreInStep g.code h.flags h.roots after other

pub one_step : (g : Given) (h : RenewedGiven) (p : Prices) (s t : State) (x : Fetched) → fetch (function_of g s)
    s.top.block s.top.at ≡ x → fetch (function_of h.given t) t.top.block t.top.at ≡ x → IsNoResumer x
    → (t.top.func ≡ s.top.func) × (t.top.block ≡ s.top.block) × (t.top.at ≡ s.top.at)
    → (t.top.mode ≡ Mode.Plain) ⊎ ((t.top.mode ≡ Mode.Ramp) ⊎ (t.top.mode ≡ Mode.Resumed))
    → t.outcome ≡ Outcome.Running → (after : State) → step_by g (continue_keeping g h.keep) s ≡ after
    → IsOneStep h t x g after → IsFollowed g h p s t
one_step g h p s t x here there calm place mode runs after is one = record {
  steps = 1;
  some = omega arith;
  few = cheap (renewed_price p h.given t) (p.step s.top.func s.top.block s.top.at) (kept_price p h.flags g s) cost ours;
  between = λ i pos lt. absurd (not_between i pos lt);
  related = subst (λ z. AreInStep g.code h.flags h.roots z (renewed_step h t)) (sym is) (subst (AreInStep g.code h.flags
      h.roots after) (sym step) one.related);
}
  where
    not_between : (i : ℕ) → 0 < i → i < 1 → ⊥
    not_between i pos lt = omega arith

    cheap : (a b k : ℕ) → a ≡ b → k ≡ b + 0 → a + 0 ≤ k
    cheap a b k e f = omega arith

    first : resumed_in g s ≡ None
    first = ap (λ z. resumed_by g s (action_of (context_of g s) (work_of s) z)) here ∙ resumes_none g s (context_of g s)
        (work_of s) x calm

    second : resumed_in h.given t ≡ None
    second = ap (λ z. resumed_by h.given t (action_of (context_of h.given t) (work_of t) z)) there ∙ resumes_none h.given
        t (context_of h.given t) (work_of t) x calm

    ours : kept_price p h.flags g s ≡ p.step s.top.func s.top.block s.top.at + 0
    ours = ap (λ o. price_of p s o + anew_price p h.flags g o) first

    priced : (z : Mode) → (z ≡ Mode.Plain) ⊎ ((z ≡ Mode.Ramp) ⊎ (z ≡ Mode.Resumed))
        → price_in p t None z ≡ p.step t.top.func t.top.block t.top.at
    priced z (inl e) = ap (price_in p t None) e
    priced z (inr (inl e)) = ap (price_in p t None) e
    priced z (inr (inr e)) = ap (price_in p t None) e

    cost : renewed_price p h.given t ≡ p.step s.top.func s.top.block s.top.at
    cost = ap (λ o. price_in p t o t.top.mode) second ∙ priced t.top.mode mode ∙ (λ i. p.step (place.0 i) (place.1 i)
        (place.2 i))

    step : renewed_step h t ≡ one.other
    step = ap (renewed_advance h t) runs ∙ ap (λ z. or_undefined h.given t (renewed_next h t z)) there ∙ ap (or_undefined
        h.given t) one.goes
