-- Each step of a function is followed, whether it is a coroutine or not.
use Rattle.std.proofs.Common.{◌≡◌, Bool, true, false, refl}
use Rattle.pass_frames_proof.specs.ir_base.declared.outcome.Outcome.{Outcome}
use Rattle.pass_frames_meaning.proofs.coroutines.All.{coroutines_followed}
use Rattle.pass_frames_meaning.proofs.others.Others.{others_followed}
use Rattle.pass_frames_meaning.specs.Coroutines.{AreCoroutinesReady}
use Rattle.pass_frames_meaning.specs.Others.{EntersCoroutines}
use Rattle.pass_frames_meaning.specs.Setting.{AreOfRuns, KeepsAll, Setting}
use Rattle.pass_frames_proof.specs.Followed.{IsFollowed}
use Rattle.pass_frames_proof.specs.Related.{AreBuiltOf, is_coroutine}
use Rattle.pass_frames_proof.specs.Stepping.{IsNotEntering}
use Rattle.pass_frames_proof.specs.pass_renewed_proof.Renewed.{renewed_step}
use Rattle.pass_frames_proof.specs.run_agreement.Machines.{IsFine}
use Rattle.pass_frames_proof.specs.run_source.declared.state.Mode.{Mode}
use Rattle.pass_frames_proof.specs.run_source.declared.state.State.{State}

module _ (c : Setting) (all : KeepsAll c) (s t : State) (r : AreBuiltOf c.b s t) (k : AreOfRuns c s t r)
    (runs : s.outcome ≡ Outcome.Running) (fine : IsFine (renewed_step c.g s).outcome)
    (enters : EntersCoroutines c s t) (ready : is_coroutine c.b s.top.func ≡ true → AreCoroutinesReady c s t) where
  within : is_coroutine c.b s.top.func ≡ true → IsNotEntering s.top.mode → IsFollowed c.b c.g s t
  within coroutine mode = coroutines_followed c all s t r k runs fine coroutine mode ((ready coroutine).may mode) enters
      ((ready coroutine).others mode)

  here : is_coroutine c.b s.top.func ≡ true → (mode : Mode) → s.top.mode ≡ mode
      → (IsNotEntering mode → IsNotEntering s.top.mode) → IsFollowed c.b c.g s t
  here coroutine (Mode.Entering from label) e same = (ready coroutine).entering from label e
  here coroutine Mode.Plain e same = within coroutine (same tt)
  here coroutine Mode.Ramp e same = within coroutine (same tt)
  here coroutine Mode.Resumed e same = within coroutine (same tt)
  here coroutine (Mode.GivenRamp frame) e same = within coroutine (same tt)

  pub all_followed : IsFollowed c.b c.g s t
  all_followed = on (is_coroutine c.b s.top.func) refl
    where
      on : (b : Bool) → is_coroutine c.b s.top.func ≡ b → IsFollowed c.b c.g s t
      on false e = others_followed c all s t r k runs fine e enters
      on true e = here e s.top.mode refl (λ h. h)
