-- Behind a save no live slot lies in a field of what crosses.
use Rattle.std.proofs.Common.{◌≡◌, ℕ, suc, Bool, true, false, List, Option, Some, sym, ◌∙◌, subst}
use Rattle.std.specs.Prelude.{slice_get}
use Rattle.compiler_theorem.proofs.apart.Saved.{saves_beside}
use Rattle.compiler_theorem.proofs.apart.Whole.{fields_apart_of}
use Rattle.compiler_theorem.proofs.kinds.Roomy.{step_kept}
use Rattle.compiler_theorem.proofs.known.Framed.{frames_there}
use Rattle.compiler_theorem.proofs.known.Runs.{last_step, run, sized}
use Rattle.compiler_theorem.proofs.theorem.Renewing.{all_kept}
use Rattle.compiler_theorem.specs.theorem.Anew.{Anew, IsAnewOf}
use Rattle.compiler_theorem.specs.theorem.Asked.{asking}
use Rattle.compiler_theorem.specs.theorem.Between.{renewing, setting}
use Rattle.compiler_theorem.specs.theorem.Entries.{IsEntryCall, Run}
use Rattle.compiler_theorem.specs.theorem.Lowered.{HasFewBytes, IsLowered, Lowered, early, edged}
use Rattle.compiler.specs.ir_base.declared.outcome.Outcome.{Outcome}
use Rattle.compiler.specs.ir_model.Names.{function_at}
use Rattle.compiler.specs.ir_model.Ty.{Ty}
use Rattle.compiler.specs.ir_model.declared.instr.Instr.{Instr}
use Rattle.compiler.specs.ir_model.declared.operand.Arg.{Arg}
use Rattle.compiler.specs.ir_model.declared.operand.Callee.{Callee}
use Rattle.compiler.specs.ir_model.declared.operand.Intrinsic.{Intrinsic}
use Rattle.pass_frames_meaning.specs.Sized.{IsSizedState}
use Rattle.pass_frames_meaning.specs.Spared.{AreFieldsApart}
use Rattle.pass_frames_meaning.specs.pass_frames_proof.Slotted.{HasFrameThere}
use Rattle.pass_frames_meaning.specs.pass_renewed_meaning.Offsets.{first_at}
use Rattle.pass_frames_meaning.specs.pass_renewed_meaning.Runs.{first_step}
use Rattle.pass_frames_meaning.specs.pass_renewed_proof.Beside.{IsBeside}
use Rattle.pass_frames_meaning.specs.pass_renewed_proof.Renewed.{renewed_step}
use Rattle.compiler.specs.run_agreement.Machines.{IsFine}
use Rattle.compiler.specs.run_source.Source.{first_state}
use Rattle.compiler.specs.run_source.declared.state.Activation.{Activation}
use Rattle.compiler.specs.run_source.declared.state.Instance.{Instance}
use Rattle.compiler.specs.run_source.declared.state.State.{State}
use Rattle.compiler.specs.run_step.Step.{AtInstr, fetch}

module _ (l : Lowered) (low : IsLowered l) (few : HasFewBytes l) (a : Anew) (anew : IsAnewOf (early l) a) (r : Run)
    (entered : IsEntryCall l.source r) (n k : ℕ) where
  abbrev s : State
  s = run l low few a anew r entered n

  abbrev after : State
  after = renewed_step (renewing l a r) s

  is_next : run l low few a anew r entered (suc n) ≡ after
  is_next = last_step (renewed_step (renewing l a r)) n (first_state (edged l) r.entry r.args)

  pub saves_apart : IsBeside (edged l) a.flags a.roots (first_at (setting l a r) k) s → s.outcome ≡ Outcome.Running
      → IsFine (first_step (setting l a r) (first_at (setting l a r) k)).outcome
      → ((i : ℕ) (x : Instance) → slice_get s.instances i ≡ Some x
      → (function_at (early l) x.coroutine).coroutine ≡ true) → (function_at (early l) s.top.func).coroutine ≡ true
      → (result : Option ℕ) (must_tail : Bool) (ty : Option Ty) (args : List Arg)
      → fetch (function_at (edged l) s.top.func) s.top.block s.top.at
      ≡ AtInstr (Instr.Call result must_tail ty (Callee.Intrinsic Intrinsic.CoroSave) args)
      → AreFieldsApart (asking l low a r).b after
  saves_apart beside runs fine is_one own result must_tail ty args save =
      fields_apart_of l low few a anew r entered (suc k) after
      (step_kept (λ f b. (function_at (early l) f).coroutine ≡ true) (renewing l a r) s is_one (λ b. own))
      (saves_beside (setting l a r) (all_kept l low a anew r entered few) k s beside (sym beside.outcome ∙ runs) fine
      result must_tail ty args
      (subst (λ (c : Activation). fetch (function_at (edged l) c.func) c.block c.at
      ≡ AtInstr (Instr.Call result must_tail ty (Callee.Intrinsic Intrinsic.CoroSave) args)) beside.top.is save))
      (subst (IsSizedState (edged l)) is_next (sized l low few a anew r entered (suc n)))
      (subst (λ (z : State). (i : ℕ) (x : Instance) → slice_get z.instances i ≡ Some x → x.freed ≡ false
      → HasFrameThere (asking l low a r).b z x) is_next (frames_there l low few a anew r entered (suc n)))
