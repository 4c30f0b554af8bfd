-- Behind each step of the run that gives frames callers of instances are on the stack.
use Rattle.std.proofs.Common.{◌≡◌, ◌+◌, ◌⊎◌, ◌∙◌, sym, refl, subst, inl, inr, ℕ, Bool, true, List, Option}
use Rattle.std.specs.Prelude.{None, Some}
use Rattle.elide_sites.specs.Destroyed.{is_stop}
use Rattle.pass_elide_kept.proofs.CallersSaved.{saves_keep_callers}
use Rattle.pass_elide_kept.proofs.KeptOther.{never_saves}
use Rattle.pass_elide.specs.declared.given.GivenFrame.{GivenFrame}
use Rattle.pass_elide_kept.specs.Modules.{KeepsHandlesAndEnds}
use Rattle.pass_elide_kept.specs.Runs.{IsKeptGiving}
use Rattle.pass_elide_kept.specs.Steps.{SavesAt, StandsAtCall, TakesStep}
use Rattle.pass_elide_proof.proofs.Calls.{calls_keep}
use Rattle.pass_elide_proof.proofs.CallersAgain.{again_keeps}
use Rattle.pass_elide_proof.proofs.CallersBack.{rets_keep}
use Rattle.pass_elide_proof.proofs.CallersBegin.{begin_keeps}
use Rattle.pass_elide_proof.proofs.CallersCoros.{end_keeps, gives_only_keep}
use Rattle.pass_elide_proof.proofs.CallersEdges.{edges_keep}
use Rattle.pass_elide_proof.proofs.CallersEnds.{resumed_ends_keep}
use Rattle.pass_elide_proof.proofs.CallersInstr.{done_keeps}
use Rattle.pass_elide_proof.proofs.CallersMaking.{allocas_keep, allocators_keep, ends_keep, starts_keep}
use Rattle.pass_elide_proof.proofs.CallersWaking.{destroys_keep, resumes_keep}
use Rattle.pass_elide_proof.proofs.PlacingFacts.{by_truth}
use Rattle.pass_elide_proof.proofs.SiteCallers.{sites_keep}
use Rattle.pass_elide_proof.specs.Callers.{HaveBlocks, MarksNoFrame, saves_by}
use Rattle.pass_elide_proof.specs.CallersStack.{AreCalled}
use Rattle.pass_elide_proof.specs.Calling.{AreReady, IsAtSite}
use Rattle.pass_elide_proof.specs.Elision.{Elision, elided, elided_code, function_in}
use Rattle.pass_elide_proof.specs.Invariant.{HaveCallers}
use Rattle.pass_elide_proof.specs.OwnSlots.{HaveNoSlots}
use Rattle.pass_elide_proof.specs.Places.{phi_count}
use Rattle.pass_elide_proof.specs.Placing.{KeepsPlaces}
use Rattle.pass_elide_proof.specs.pass_proofs.ir_model.Ty.{Ty}
use Rattle.pass_elide_proof.specs.pass_proofs.ir_model.declared.instr.Instr.{Instr}
use Rattle.pass_elide_proof.specs.pass_proofs.ir_model.declared.operand.Arg.{Arg}
use Rattle.pass_elide_proof.specs.pass_proofs.ir_model.declared.operand.Callee.{Callee}
use Rattle.pass_elide_proof.specs.pass_proofs.ir_model.declared.operand.Intrinsic.{Intrinsic}
use Rattle.pass_elide_proof.specs.pass_proofs.run_framed.Framed.{framed_step}
use Rattle.pass_elide_proof.specs.pass_proofs.run_source.declared.state.State.{State}
use Rattle.pass_elide_proof.specs.pass_proofs.run_step.Values.{arg_values, nth}

module _ (e : Elision) (places : KeepsPlaces e) (keeps : KeepsHandlesAndEnds e) (s t : State)
    (theirs : IsKeptGiving e t) (slots : HaveNoSlots t) (blocks : HaveBlocks t) (known : AreCalled e t)
    (h : HaveCallers e t) where
  stops : (j : Intrinsic) → saves_by j ≡ true → (result : Option ℕ) (must_tail : Bool) (ty : Option Ty)
      (args : List Arg) → is_stop (Instr.Call result must_tail ty (Callee.Intrinsic j) args) ≡ true
  stops Intrinsic.CoroSave is result must_tail ty args = refl
  stops Intrinsic.CoroSuspend is result must_tail ty args = refl
  stops _ is result must_tail ty args = absurd (cc)

  saves : (at : ℕ) (j : Intrinsic) (result : Option ℕ) (must_tail : Bool) (ty : Option Ty) (args : List Arg)
      → saves_by j ≡ true → StandsAtCall e t at j result must_tail ty args → SavesAt e t j args
      → HaveCallers e (framed_step (elided e) t)
  saves at j result must_tail ty args is k m =
      saves_keep_callers e t m.inside h
      (never_saves e keeps t theirs at (Instr.Call result must_tail ty (Callee.Intrinsic j) args) k m.mode
      (stops j is result must_tail ty args)) at result must_tail ty args j is k m

  marks : (at : ℕ) (j : Intrinsic) (result : Option ℕ) (must_tail : Bool) (ty : Option Ty) (args : List Arg)
      → (j ≡ Intrinsic.LifetimeStart) ⊎ (j ≡ Intrinsic.LifetimeEnd)
      → StandsAtCall e t at j result must_tail ty args
      → MarksNoFrame t (nth (arg_values (elided_code e) t.top.values args) 1)
      → HaveCallers e (framed_step (elided e) t)
  marks at j result must_tail ty args (inl is) k free =
      starts_keep e t at result must_tail ty args h
      (subst (λ (i : Intrinsic). StandsAtCall e t at i result must_tail ty args) is k)
  marks at j result must_tail ty args (inr is) k free =
      ends_keep e t at result must_tail ty args h
      (subst (λ (i : Intrinsic). StandsAtCall e t at i result must_tail ty args) is k) free

  -- calls that give an alloca stand in functions that are no coroutines
  sites : AreReady e s t → IsAtSite e s t → HaveCallers e (framed_step (elided e) t)
  sites r k =
      by_truth (function_in e s.top.func).coroutine (λ inside. absurd (none_in inside))
      (λ plain. sites_keep e s t r k plain (places.destroyed s.top.func) theirs.own h)
    where
      none_in : (function_in e s.top.func).coroutine ≡ true → ⊥
      none_in inside =
          let no : None ≡ Some (GivenFrame.Alloca k.size k.align)
          = sym ((places.wakes s.top.func inside).none s.top.block
          (phi_count (function_in e s.top.func) s.top.block + s.top.at)
          (Instr.Call k.result k.must_tail k.ty (Callee.Named k.name) k.args)) ∙ k.room in
          absurd (cc)

  pub callers_stay : TakesStep e s t → HaveCallers e (framed_step (elided e) t)
  callers_stay (TakesStep.Works at i w k) = done_keeps e t at i w k h
  callers_stay (TakesStep.Allocates at a result must_tail ty args k) =
      allocators_keep e t at a result must_tail ty args k slots h
  callers_stay (TakesStep.Marks at j result must_tail ty args is k free) =
      marks at j result must_tail ty args is k free
  callers_stay (TakesStep.Makes at name ty align k mode) = allocas_keep e t at name ty align k mode blocks h
  callers_stay (TakesStep.MakesAgain at name ty align from label k inside mode) =
      again_keeps e t at name ty align k inside from label mode blocks h
  callers_stay (TakesStep.Gives at j result must_tail ty args is k) =
      gives_only_keep e t at result must_tail ty args h j is k
  callers_stay (TakesStep.Saves at j result must_tail ty args is k m) =
      saves at j result must_tail ty args is k m
  callers_stay (TakesStep.Begins at result must_tail ty args k inside those) =
      begin_keeps e t at result must_tail ty args k inside theirs.own h
  callers_stay (TakesStep.EndsRamp at result must_tail ty args k ramp) =
      end_keeps e t at result must_tail ty args h slots ramp k
  callers_stay (TakesStep.EndsResumed at result must_tail ty args k resumed inside ends) =
      resumed_ends_keep e t at result must_tail ty args k resumed inside slots h keeps.handles theirs.own known
  callers_stay (TakesStep.Enters label k past) = edges_keep e t label k h
  callers_stay (TakesStep.Calls r k) = calls_keep e s t r k h
  callers_stay (TakesStep.Sites r k) = sites r k
  callers_stay (TakesStep.Resumes at result must_tail ty args k none) =
      resumes_keep e t at result must_tail ty args h k
  callers_stay (TakesStep.Destroys at result must_tail ty args k none) =
      destroys_keep e t at result must_tail ty args h k none theirs.wakes
  callers_stay (TakesStep.Returns k) = rets_keep e t k h keeps.handles theirs.own known
