-- While a line leaves the world as it is, the framed run shows what it showed.
use Rattle.std.proofs.Common.{◌≡◌, ℕ, true, refl, ap, ◌∙◌}
use Rattle.std.specs.Prelude.{slice_get}
use Rattle.pass_proofs.specs.ir_base.declared.outcome.Outcome.{Outcome}
use Rattle.pass_frames_code.proofs.followed.Assembly.{events_same, other_instance}
use Rattle.pass_frames_code.proofs.stepping.Rest.{instance_kept}
use Rattle.pass_frames_code.proofs.stepping.Same.{rest_left}
use Rattle.pass_frames_code.specs.Followed.{IsOn}
use Rattle.pass_frames_code.specs.Framings.{IsFraming}
use Rattle.pass_frames_code.specs.Lined.{lined}
use Rattle.pass_frames_code.specs.Related.{AreBuiltOf, Building, is_coroutine}
use Rattle.pass_proofs.specs.run_source.declared.state.State.{State}
use Rattle.pass_proofs.specs.run_step.Step.{Work}
use Rattle.pass_proofs.specs.run_step.declared.world.World.{World}

pub still_shown : (b : Building) (s t : State) → AreBuiltOf b s t
    → ((func : ℕ) → is_coroutine b func ≡ true → IsFraming (b.framing func)) → t.outcome ≡ Outcome.Running → (k : ℕ)
    (u : Work) → u.world ≡ t.world → IsOn b s (lined t k u)
still_shown b s t r framings runs k u e = record {
  running = runs;
  shown = record {
    homes = r.homes;
    events = ap (λ (w : World). w.events) e ∙ events_same b s t r;
    outcome = r.outcome;
    instances = λ j p there suspended.
        let y = other_instance b s t r j p there in (
          y.0,
          y.1,
          instance_kept b s t r s.world u.world
              (rest_left b s t r s.world u.world (λ z. ⊥) framings refl
              (λ z none. ap (λ (w : World). slice_get w.memory z) e) (λ q lt seen no. no) (λ q l no. no))
              (lined t k u).top t.below j p y.0 there y.2,
        );
  };
}
