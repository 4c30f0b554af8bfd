-- What is ahead of begin in accepted sources: places that are reached there stand before begin.
use Rattle.std.proofs.Common.{◌≡◌, ℕ, true, sym, ap, ◌∙◌, subst}
use Rattle.compiler_theorem.proofs.accesses.Ahead.{ahead_before}
use Rattle.compiler_theorem.proofs.known.Names.{framed, framed_function}
use Rattle.compiler_theorem.proofs.theorem.Built.{IsFramedAt, framed_there}
use Rattle.compiler_theorem.specs.theorem.Anew.{Anew, IsAnewOf}
use Rattle.compiler_theorem.specs.theorem.Asked.{asking}
use Rattle.compiler_theorem.specs.theorem.Entries.{IsEntryCall, Run}
use Rattle.compiler_theorem.specs.theorem.Lowered.{HasFewBytes, IsLowered, Lowered, early, edged}
use Rattle.compiler.specs.ir_model.Names.{function_at}
use Rattle.compiler.specs.ir_model.declared.instr.Instr.{Instr}
use Rattle.compiler.specs.ir_model.declared.module.Function.{Function}
use Rattle.compiler.specs.pass_frames.Framed.{AreBefore, celled}
use Rattle.pass_frames_meaning.specs.Unbegun.{IsBefore}
use Rattle.pass_frames_meaning.specs.pass_frames_proof.Code.{is_ahead}
use Rattle.pass_frames_meaning.specs.pass_frames_proof.Places.{Framing, written}
use Rattle.pass_frames_meaning.specs.pass_frames_proof.Places as place
use Rattle.pass_frames_meaning.specs.pass_frames_proof.Stepping.{state_in}
use Rattle.compiler.specs.pass_kept_proof.Needed.{IsReached}
use Rattle.compiler.specs.run_step.Step.{AtInstr, fetch}

module _ (l : Lowered) (low : IsLowered l) (few : HasFewBytes l) (a : Anew) (anew : IsAnewOf (early l) a) (r : Run)
    (entered : IsEntryCall l.source r) (func : ℕ) (coroutine : (function_at (early l) func).coroutine ≡ true) where
  framed_at : IsFramedAt (early l) l.layouts.coroutines (early l).functions l.framed.functions func
      (function_at (early l) func) ((asking l low a r).b.framing func)
  framed_at = framed_there l low r.answers func coroutine

  -- the blocks before begin are told
  before_are : AreBefore (written ((asking l low a r).b.framing func)) ((asking l low a r).b.framing func).before
  unfolding celled
  before_are = subst (λ (z : Framing). AreBefore (written z) z.before) (sym framed_at.same) framed_at.is.before_are

  module _ (block at : ℕ) (i : Instr) (there : fetch (function_at (edged l) func) block at ≡ AtInstr i)
      (ahead : is_ahead (state_in ((asking l low a r).b.framing func) block at) ≡ true) where
    pub place_before : IsReached (function_at (edged l) func) block at → IsBefore (function_at (edged l) func) block at
    place_before reached =
        let x : Framing = (asking l low a r).b.framing func in
        let same : function_at (edged l) func ≡ place.edged x =
        framed_function l low few a anew r entered func coroutine in
        subst (λ (f : Function). IsBefore f block at) (sym same)
        (ahead_before x (framed l low few a anew r entered func coroutine) before_are block at i
        (ap (λ (f : Function). fetch f block at) (sym same) ∙ there) ahead
        (subst (λ (f : Function). IsReached f block at) same reached))
