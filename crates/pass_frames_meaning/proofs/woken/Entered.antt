-- Each step that enters a coroutine is followed.
use Rattle.std.proofs.Common.{◌≡◌, true}
use Rattle.pass_frames_proof.specs.ir_base.declared.outcome.Outcome.{Outcome}
use Rattle.pass_frames_meaning.proofs.woken.Ramps.{ramps_all}
use Rattle.pass_frames_meaning.proofs.woken.Wakes.{wakes_followed}
use Rattle.pass_frames_meaning.specs.Coroutines.{HasStorables, MayFollow}
use Rattle.pass_frames_meaning.specs.Others.{EntersCoroutines}
use Rattle.pass_frames_meaning.specs.Setting.{AreOfRuns, KeepsAll, Setting}
use Rattle.pass_frames_meaning.specs.Woken.{KeepsWaking, MayWake}
use Rattle.pass_frames_proof.specs.Related.{AreBuiltOf, is_coroutine}
use Rattle.pass_frames_proof.specs.Stepping.{IsNotEntering}
use Rattle.pass_frames_proof.specs.pass_renewed_proof.Renewed.{renewed_step}
use Rattle.pass_frames_proof.specs.run_agreement.Machines.{IsFine}
use Rattle.pass_frames_proof.specs.run_source.declared.state.State.{State}

pub enters_all : (c : Setting) → KeepsAll c → KeepsWaking c → (s t : State) (r : AreBuiltOf c.b s t)
    → AreOfRuns c s t r
    → s.outcome ≡ Outcome.Running → IsFine (renewed_step c.g s).outcome → MayWake c s
    → (is_coroutine c.b s.top.func ≡ true → IsNotEntering s.top.mode → MayFollow c s)
    → HasStorables c (renewed_step c.g s) → EntersCoroutines c s t
enters_all c all waking s t r k runs fine may follow storables = record {
  ramps = ramps_all c all waking s t r k runs fine may follow storables;
  wakes = wakes_followed c all waking s t r k runs fine may follow;
}
