-- Steps of accepted sources that enter coroutines are followed, and so are those that make slots anew.
use Rattle.std.proofs.Common.{◌≡◌, ℕ, true}
use Rattle.compiler_theorem.proofs.theorem.Asked.{asked_kept}
use Rattle.compiler_theorem.proofs.theorem.Stepping.{run}
use Rattle.compiler_theorem.proofs.woken.Keeping.{waking_kept}
use Rattle.compiler_theorem.proofs.woken.States.{may_enter, may_wake}
use Rattle.compiler_theorem.specs.theorem.Anew.{Anew, IsAnewOf}
use Rattle.compiler_theorem.specs.theorem.Asked.{asking}
use Rattle.compiler_theorem.specs.theorem.Built.{building}
use Rattle.compiler_theorem.specs.theorem.Entries.{IsEntryCall, Run}
use Rattle.compiler_theorem.specs.theorem.Lowered.{HasFewBytes, IsLowered, Lowered, early}
use Rattle.compiler.specs.ir_base.declared.outcome.Outcome.{Outcome}
use Rattle.pass_frames_meaning.proofs.woken.Entered.{enters_all}
use Rattle.pass_frames_meaning.proofs.woken.Entering.{entering_followed}
use Rattle.pass_frames_meaning.specs.Coroutines.{HasStorables, MayFollow}
use Rattle.pass_frames_meaning.specs.Others.{EntersCoroutines}
use Rattle.pass_frames_meaning.specs.Setting.{AreOfRuns, Setting}
use Rattle.pass_frames_meaning.specs.Woken.{KeepsWaking}
use Rattle.pass_frames_meaning.specs.pass_frames_proof.Followed.{IsFollowed}
use Rattle.pass_frames_meaning.specs.pass_frames_proof.Related.{AreBuiltOf, is_coroutine}
use Rattle.pass_frames_meaning.specs.pass_frames_proof.Stepping.{IsNotEntering}
use Rattle.pass_frames_meaning.specs.pass_renewed_proof.Renewed.{renewed_step}
use Rattle.compiler.specs.run_agreement.Machines.{IsFine}
use Rattle.compiler.specs.run_framed.Framed.{framed_state_at}
use Rattle.compiler.specs.run_source.declared.state.Mode.{Mode}
use Rattle.compiler.specs.run_source.declared.state.State.{State}

module _ (l : Lowered) (low : IsLowered l) (few : HasFewBytes l) (a : Anew) (anew : IsAnewOf (early l) a) (r : Run)
    (entered : IsEntryCall l.source r) (n m : ℕ) where
  abbrev c : Setting
  c = asking l low a r

  abbrev s : State
  s = run l low few a anew r entered n

  abbrev t : State
  t = framed_state_at (building l low.is_framed r.answers).given r.entry r.args m

  waking : KeepsWaking (asking l low a r)
  waking = waking_kept l low few a anew r

  module _ (built : AreBuiltOf (building l low.is_framed r.answers) s t) (of_runs : AreOfRuns c s t built)
      (runs : s.outcome ≡ Outcome.Running) where
    pub coroutines_entered : IsFine (renewed_step c.g s).outcome
        → (is_coroutine c.b s.top.func ≡ true → IsNotEntering s.top.mode → MayFollow c s)
        → HasStorables c (renewed_step c.g s) → EntersCoroutines c s t
    coroutines_entered fine follow storables =
        enters_all c (asked_kept l low few a anew r) waking s t built of_runs runs fine
        (may_wake l low few a anew r entered n m built runs) follow storables

    pub slots_entered : is_coroutine c.b s.top.func ≡ true → (from label : ℕ) → s.top.mode ≡ Mode.Entering from label
        → IsFollowed c.b c.g s t
    slots_entered coroutine from label mode =
        entering_followed c (asked_kept l low few a anew r) waking s t built of_runs runs coroutine
        (may_enter l low few a anew r entered n m built waking) from label mode
