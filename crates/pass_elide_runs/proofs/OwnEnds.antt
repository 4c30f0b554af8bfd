-- The own instance isn't Finished at a save, a suspend or an end.
use Rattle.std.proofs.Common.{◌≡◌, ℕ, true, false, None, Option, Some, refl}
use Rattle.pass_elide_proof.proofs.PlacingFacts.{by_truth}
use Rattle.pass_elide_proof.specs.Match.{instance_in}
use Rattle.pass_elide_runs.specs.Ends.{EndsOnce, GoOnTillEnd}
use Rattle.pass_elide_proof.specs.pass_proofs.ir_base.declared.outcome.Outcome.{Outcome}
use Rattle.pass_elide_proof.specs.pass_proofs.ir_model.Names.{function_at}
use Rattle.pass_elide_proof.specs.pass_proofs.ir_model.declared.module.Function.{Function}
use Rattle.pass_elide_proof.specs.pass_proofs.ir_model.declared.module.Module.{Module}
use Rattle.pass_elide_proof.specs.pass_proofs.ir_model.declared.operand.Intrinsic.{Intrinsic}
use Rattle.pass_elide_proof.specs.pass_proofs.ir_paths.declared.point.Point.{Point}
use Rattle.pass_elide_proof.specs.pass_proofs.pass_kept_proof.SuspendRules.{IsCallAt}
use Rattle.pass_elide_proof.specs.pass_proofs.rule_windows.Sets.{IsAfterEnd}
use Rattle.pass_elide_proof.specs.pass_proofs.run_source.State.{is_finished}
use Rattle.pass_elide_proof.specs.pass_proofs.run_source.declared.state.Instance.{Instance}
use Rattle.pass_elide_proof.specs.pass_proofs.run_source.declared.state.State.{State}

module _ (m : Module) (s : State) (goes : GoOnTillEnd m s) (runs : s.outcome ≡ Outcome.Running)
    (stays : s.top.has_left ≡ false) where
  abbrev f : Function
  f = function_at m s.top.func

  abbrev here : Point
  here = record { block = s.top.block; at = s.top.at }

  -- where no path leads to the place from the end
  pub own_goes : (IsAfterEnd f here → ⊥) → (x : Instance) → instance_in s.instances s.top.instance ≡ Some x
      → is_finished x.status ≡ false
  own_goes before x at =
      by_truth (is_finished x.status) (λ fin. absurd (before (on s.top.instance refl at fin))) (λ e. e)
    where
      on : (o : Option ℕ) → s.top.instance ≡ o → instance_in s.instances o ≡ Some x → is_finished x.status ≡ true
          → IsAfterEnd f here
      on None is at fin = absurd (cc)
      on (Some i) is at fin = ((goes runs).0.over i x is at stays fin).after

  module _ (once : EndsOnce f) where
    pub saves_go : IsCallAt Intrinsic.CoroSave f here → (x : Instance)
        → instance_in s.instances s.top.instance ≡ Some x → is_finished x.status ≡ false
    saves_go call = own_goes (λ after. once.saves here after call)

    pub suspends_go : IsCallAt Intrinsic.CoroSuspend f here → (x : Instance)
        → instance_in s.instances s.top.instance ≡ Some x → is_finished x.status ≡ false
    suspends_go call = own_goes (λ after. once.suspends here after call)

    pub ends_go : IsCallAt Intrinsic.CoroEnd f here → (x : Instance)
        → instance_in s.instances s.top.instance ≡ Some x → is_finished x.status ≡ false
    ends_go call = own_goes (λ after. once.ends here after call)
