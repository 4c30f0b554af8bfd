-- Each step of the first run is followed: case by case over what stands at the place.
use Rattle.std.proofs.Common.{◌≡◌, ℕ, inl, inr, Bool, List, Option, Ok, refl, sym, ap, ◌∙◌, subst}
use Rattle.run_types.specs.ir_base.declared.outcome.Outcome.{Outcome}
use Rattle.run_types.specs.ir_model.Names.{function_at}
use Rattle.run_types.specs.ir_model.Ty.{Ty}
use Rattle.run_types.specs.ir_model.declared.instr.Instr.{Instr}
use Rattle.run_types.specs.ir_model.declared.instr.Terminator.{Terminator}
use Rattle.run_types.specs.ir_model.declared.operand.Allocator.{Allocator}
use Rattle.run_types.specs.ir_model.declared.operand.Arg.{Arg}
use Rattle.run_types.specs.ir_model.declared.operand.Callee.{Callee}
use Rattle.run_types.specs.ir_model.declared.operand.Intrinsic.{Intrinsic}
use Rattle.run_types.specs.pass_kept_proof.Kept.{continue_keeping}
use Rattle.run_types.specs.run_agreement.Machines.{IsFine}
use Rattle.run_types.specs.run_source.Source.{act, context_of}
use Rattle.run_types.specs.run_source.State.{work_of}
use Rattle.run_types.specs.run_source.declared.state.State.{State}
use Rattle.run_types.specs.run_step.Step.{AtInstr, AtTerm, Fetched, Nowhere, action_of, fetch}
use Rattle.pass_renewed_meaning.proofs.AllocaCases.{alloca_case}
use Rattle.pass_renewed_meaning.proofs.Assembly.{assembled}
use Rattle.pass_renewed_meaning.proofs.CallCases.{function_case, malloc_case, new_case}
use Rattle.pass_renewed_meaning.proofs.CloseCases.{close_case}
use Rattle.pass_renewed_meaning.proofs.Coroutines.{align32_case, align64_case, alloc_case, begin_case, deleted_case}
use Rattle.pass_renewed_meaning.proofs.Coroutines.{done_case, frame_case, free_case, freed_case, id_case, promise_case}
use Rattle.pass_renewed_meaning.proofs.Coroutines.{size32_case, size64_case, sized_case}
use Rattle.pass_renewed_meaning.proofs.Here.{Here, IsCase, first_act, first_action}
use Rattle.pass_renewed_meaning.proofs.MarkerCases.{end_case, start_case}
use Rattle.pass_renewed_meaning.proofs.OffsetRuns.{offsets_small}
use Rattle.pass_renewed_meaning.proofs.OneStep.{IsNoResumer, one_step, step_is}
use Rattle.pass_renewed_meaning.proofs.OrdinaryCases.{binary_case, cast_case, compare_case, copy_case}
use Rattle.pass_renewed_meaning.proofs.OrdinaryCases.{gep_case, load_case, select_case, store_case}
use Rattle.pass_renewed_meaning.proofs.ResumeCases.{destroy_case, resume_case}
use Rattle.pass_renewed_meaning.proofs.RunStates.{of_run}
use Rattle.pass_renewed_meaning.proofs.SaveCases.{save_case, suspend_case}
use Rattle.pass_renewed_meaning.proofs.Terminators.{branch_case, jump_case, nowhere_case, ret_case, switch_case}
use Rattle.pass_renewed_meaning.proofs.Terminators.{unreachable_case}
use Rattle.pass_renewed_meaning.specs.Followed.{AreStepsFollowed, IsFollowed, KeepsMeaning}
use Rattle.pass_renewed_meaning.specs.Offsets.{first_at}
use Rattle.pass_renewed_meaning.specs.Rules.{KeepsAll, Setting}
use Rattle.pass_renewed_meaning.specs.Runs.{first_given, first_step, second_given}
use Rattle.run_types.proofs.pass_renewed_proof.Start.{first_beside}
use Rattle.run_types.specs.pass_renewed_proof.Beside.{IsBeside}
use Rattle.run_types.specs.pass_renewed_proof.Prices.{Prices}

module _ (c : Setting) (p : Prices) (all : KeepsAll c) where
  module _ (n : ℕ) (t : State) (beside : IsBeside c.code c.flags c.roots (first_at c n) t) (runs : (first_at c n).outcome ≡
      Outcome.Running) (fine : IsFine (first_step c (first_at c n)).outcome) where
    abbrev s : State
    s = first_at c n

    abbrev t' : State
    t' = record t { top = record s.top { values = beside.top.values; slots = beside.top.slots } }

    same : t ≡ t'
    same = λ i. record t { top = beside.top.is i }

    abbrev x : Here c
    x = record {
      all = all;
      s = first_at c n;
      t = t;
      values = beside.top.values;
      slots = beside.top.slots;
      beside = subst (IsBeside c.code c.flags c.roots (first_at c n)) same beside;
      runs = runs;
      run = of_run c all n;
    }

    abbrev here : Fetched
    here = fetch (function_at c.code s.top.func) s.top.block s.top.at

    abbrev Follows : Type 0
    Follows = IsFollowed (first_given c) (second_given c) p (first_at c n) t

    case : (z : Fetched) → IsNoResumer z → IsCase c x z → here ≡ z → Follows
    case z calm does e =
        let r = step_is (first_given c) (continue_keeping (first_given c) c.keep) s runs fine in
        let one = does e r.after (ap (λ y. act (first_given c) (continue_keeping (first_given c) c.keep) s (action_of
        (context_of (first_given c) s) (work_of s) y)) (sym e) ∙ r.acts) in
        subst (IsFollowed (first_given c) (second_given c) p s) (sym same) (one_step (first_given c) (second_given c) p s t' z
        e e calm (refl, refl, refl) beside.top.modes (beside.outcome ∙ runs) r.after r.is one)

    wakes : (z : Fetched) → here ≡ z → (here ≡ z → (after : State) → first_act c x (first_action c x z) ≡ Ok after
        → first_step c s ≡ after → IsFollowed (first_given c) (second_given c) p s t') → Follows
    wakes z e does =
        let r = step_is (first_given c) (continue_keeping (first_given c) c.keep) s runs fine in
        subst (IsFollowed (first_given c) (second_given c) p s) (sym same) (does e r.after (ap (λ y. first_act c x
        (first_action c x y)) (sym e) ∙ r.acts) r.is)

    intrinsic : (result : Option ℕ) (must_tail : Bool) (ty : Option Ty) (i : Intrinsic) (args : List Arg)
        → here ≡ AtInstr (Instr.Call result must_tail ty (Callee.Intrinsic i) args) → Follows
    intrinsic result must_tail ty Intrinsic.MemcpyI64 args e = case _ tt (copy_case c x Intrinsic.MemcpyI64 (inl refl) result
        must_tail ty args) e
    intrinsic result must_tail ty Intrinsic.MemcpyI32 args e = case _ tt (copy_case c x Intrinsic.MemcpyI32 (inr refl) result
        must_tail ty args) e
    intrinsic result must_tail ty Intrinsic.LifetimeStart args e = case _ tt (start_case c x result must_tail ty args) e
    intrinsic result must_tail ty Intrinsic.LifetimeEnd args e = case _ tt (end_case c x result must_tail ty args) e
    intrinsic result must_tail ty Intrinsic.CoroId args e = case _ tt (id_case c x result must_tail ty args) e
    intrinsic result must_tail ty Intrinsic.CoroSizeI32 args e = case _ tt (size32_case c x result must_tail ty args) e
    intrinsic result must_tail ty Intrinsic.CoroSizeI64 args e = case _ tt (size64_case c x result must_tail ty args) e
    intrinsic result must_tail ty Intrinsic.CoroAlignI32 args e = case _ tt (align32_case c x result must_tail ty args) e
    intrinsic result must_tail ty Intrinsic.CoroAlignI64 args e = case _ tt (align64_case c x result must_tail ty args) e
    intrinsic result must_tail ty Intrinsic.CoroAlloc args e = case _ tt (alloc_case c x result must_tail ty args) e
    intrinsic result must_tail ty Intrinsic.CoroBegin args e = case _ tt (begin_case c x result must_tail ty args) e
    intrinsic result must_tail ty Intrinsic.CoroFree args e = case _ tt (free_case c x result must_tail ty args) e
    intrinsic result must_tail ty Intrinsic.CoroFrame args e = case _ tt (frame_case c x result must_tail ty args) e
    intrinsic result must_tail ty Intrinsic.CoroSave args e = case _ tt (save_case c x result must_tail ty args) e
    intrinsic result must_tail ty Intrinsic.CoroSuspend args e = case _ tt (suspend_case c x result must_tail ty args) e
    intrinsic result must_tail ty Intrinsic.CoroEnd args e = case _ tt (close_case c x result must_tail ty args) e
    intrinsic result must_tail ty Intrinsic.CoroResume args e = wakes _ e (resume_case c x p result must_tail ty args)
    intrinsic result must_tail ty Intrinsic.CoroDestroy args e = wakes _ e (destroy_case c x p result must_tail ty args)
    intrinsic result must_tail ty Intrinsic.CoroDone args e = case _ tt (done_case c x result must_tail ty args) e
    intrinsic result must_tail ty Intrinsic.CoroPromise args e = case _ tt (promise_case c x result must_tail ty args) e

    call : (result : Option ℕ) (must_tail : Bool) (ty : Option Ty) (callee : Callee) (args : List Arg)
        → here ≡ AtInstr (Instr.Call result must_tail ty callee args) → Follows
    call result must_tail ty (Callee.Named n) args e = case _ tt (function_case c x result must_tail ty (Callee.Named n) args
        tt) e
    call result must_tail ty (Callee.Local v) args e = case _ tt (function_case c x result must_tail ty (Callee.Local v) args
        tt) e
    call result must_tail ty (Callee.Allocator Allocator.Malloc) args e = case _ tt (malloc_case c x result must_tail ty
        args) e
    call result must_tail ty (Callee.Allocator Allocator.Znwm) args e = case _ tt (new_case c x result must_tail ty args) e
    call result must_tail ty (Callee.Allocator Allocator.Free) args e = case _ tt (freed_case c x result must_tail ty args) e
    call result must_tail ty (Callee.Allocator Allocator.ZdlPv) args e = case _ tt (deleted_case c x result must_tail ty
        args) e
    call result must_tail ty (Callee.Allocator Allocator.ZdlPvm) args e = case _ tt (sized_case c x result must_tail ty args)
        e
    call result must_tail ty (Callee.Intrinsic i) args e = intrinsic result must_tail ty i args e

    by : (z : Fetched) → here ≡ z → Follows
    by Nowhere e = case Nowhere tt (nowhere_case c x) e
    by (AtTerm (Terminator.Jump label)) e = case _ tt (jump_case c x label) e
    by (AtTerm (Terminator.Branch y a b)) e = case _ tt (branch_case c x y a b) e
    by (AtTerm (Terminator.Switch arg default cases)) e = case _ tt (switch_case c x arg default cases) e
    by (AtTerm (Terminator.Ret arg)) e = case _ tt (ret_case c x arg) e
    by (AtTerm Terminator.Unreachable) e = case _ tt (unreachable_case c x) e
    by (AtInstr (Instr.Binary name op how ty a b)) e = case _ tt (binary_case c x name op how ty a b) e
    by (AtInstr (Instr.Icmp name pred ty a b)) e = case _ tt (compare_case c x (offsets_small c n) name pred ty a b) e
    by (AtInstr (Instr.Select name z a b)) e = case _ tt (select_case c x name z a b) e
    by (AtInstr (Instr.Cast name op nneg arg to)) e = case _ tt (cast_case c x name op nneg arg to) e
    by (AtInstr (Instr.Alloca name ty align)) e = case _ tt (alloca_case c x name ty align) e
    by (AtInstr (Instr.Load name ty q align)) e = case _ tt (load_case c x name ty q align) e
    by (AtInstr (Instr.Store arg q align)) e = case _ tt (store_case c x arg q align) e
    by (AtInstr (Instr.Gep name inbounds ty base indices)) e = case _ tt (gep_case c x name inbounds ty base indices) e
    by (AtInstr (Instr.Call result must_tail ty callee args)) e = call result must_tail ty callee args e

  pub each_step : AreStepsFollowed c.code c.keep c.flags c.roots c.sizes c.entry c.args c.answers p
  each_step n t beside runs fine = by n t beside runs fine _ refl

  pub made_anew : KeepsMeaning c.code c.keep c.flags c.roots c.sizes c.entry c.args c.answers p
  made_anew = assembled c.code c.keep c.flags c.roots c.sizes c.entry c.args c.answers p each_step (first_beside c.code c.keep
      c.flags c.roots all.slots c.entry c.args all.globals)
