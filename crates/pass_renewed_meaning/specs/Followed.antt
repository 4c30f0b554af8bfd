-- What the run that makes slots anew does for one step of the run before, and what that costs.
use Rattle.std.specs.Prelude.{◌≡◌, ℕ, ℤ, List, ◌∷◌, ◌≤◌, ◌<◌}
use Rattle.run_types.specs.ir_base.declared.outcome.Outcome.{Outcome}
use Rattle.run_types.specs.ir_base.declared.outcome.Word.{Word}
use Rattle.run_types.specs.ir_model.declared.module.Frame.{Frame}
use Rattle.run_types.specs.ir_model.declared.module.Module.{Module}
use Rattle.run_types.specs.pass_kept_proof.Kept.{Keep, continue_keeping}
use Rattle.run_types.specs.pass_kept_proof.Machines.{kept_machine}
use Rattle.run_types.specs.pass_renewed_proof.Beside.{IsBeside}
use Rattle.run_types.specs.pass_renewed_proof.Between.{AreLikeActivations, AreLikeInstances}
use Rattle.run_types.specs.pass_renewed_proof.Prices.{Prices, kept_price, renewed_machine, renewed_price}
use Rattle.run_types.specs.pass_renewed_proof.Renewed.{Flags, RenewedGiven, Roots, renewed_given, renewed_step}
use Rattle.run_types.specs.run_agreement.Costs.{AgreesBy, cost_from}
use Rattle.run_types.specs.run_agreement.Machines.{IsFine, IsRunning, iterate, state_at}
use Rattle.run_types.specs.run_laws.transfer.Shapes.{Pairwise}
use Rattle.run_types.specs.run_source.Source.{given, returned, step_by}
use Rattle.run_types.specs.run_source.declared.state.Mode.{Mode}
use Rattle.run_types.specs.run_source.declared.state.State.{State}
use Rattle.run_types.specs.run_source_tables.Given.{Given}
use Rattle.run_types.specs.run_step.Runs.{seen_of}

-- ---- states

-- instances and activations are one to one
pub record AreAlike (s t : State) : Type 0 where
  pub instances : Pairwise AreLikeInstances s.instances t.instances
  pub activations : Pairwise AreLikeActivations (s.top ∷ s.below) (t.top ∷ t.below)

-- both behind the last return, before which they stood beside each other
pub record HaveReturned (m : Module) (flags : Flags) (roots : Roots) (s t : State) : Type 0 where
  pub before : State
  pub other : State
  pub beside : IsBeside m flags roots before other
  pub is : s ≡ record (returned before) { outcome = s.outcome }
  pub other_is : t ≡ record (returned other) { outcome = t.outcome }

-- both runs are over, and have shown the same
pub record HaveEnded (m : Module) (flags : Flags) (roots : Roots) (s t : State) : Type 0 where
  pub alike : AreAlike s t
  pub last : HaveReturned m flags roots s t
  pub over : IsRunning s.outcome → ⊥
  pub shown : seen_of m t.world t.outcome ≡ seen_of m s.world s.outcome

-- states at corresponding steps
pub data AreInStep (m : Module) (flags : Flags) (roots : Roots) (s t : State) : Type 0 where
  Goes : IsBeside m flags roots s t → AreInStep m flags roots s t
  Ended : HaveEnded m flags roots s t → AreInStep m flags roots s t

-- a resumed activation makes its slots anew
abbrev pub IsEntering : Mode → Type 0
IsEntering (Mode.Entering from label) = Unit {0}
IsEntering mode = ⊥

-- the second run is on its way to what stands beside the state, and makes slots anew
pub record IsOnItsWay (s t : State) : Type 0 where
  pub entering : IsEntering t.top.mode
  pub running : t.outcome ≡ Outcome.Running
  pub events : t.world.events ≡ s.world.events
  pub alike : AreAlike s t

-- ---- one step

-- from a state beside it so many steps of the second run lead to one in step with the first run's next state
pub record IsFollowed (g : Given) (h : RenewedGiven) (p : Prices) (s t : State) : Type 0 where
  pub steps : ℕ
  pub some : 0 < steps
  pub few : cost_from (renewed_step h) (renewed_price p h.given) steps t ≤ kept_price p h.flags g s
  pub between : (i : ℕ) → 0 < i → i < steps
      → IsOnItsWay (step_by g (continue_keeping g h.keep) s) (iterate (renewed_step h) i t)
  pub related : AreInStep g.code h.flags h.roots (step_by g (continue_keeping g h.keep) s) (iterate (renewed_step h)
      steps t)

-- so it is with each step of a run that isn't undefined
abbrev pub AreStepsFollowed : (m : Module) (keep : Keep) (flags : Flags) (roots : Roots) (sizes : List Frame)
    (entry : ℕ) (args : List Word) (answers : List ℤ) → Prices → Type 0
AreStepsFollowed m keep flags roots sizes entry args answers p =
    (n : ℕ) (t : State) → IsBeside m flags roots (state_at (kept_machine m keep sizes entry args answers) n) t
    → (state_at (kept_machine m keep sizes entry args answers) n).outcome ≡ Outcome.Running
    → IsFine (step_by (given m sizes answers) (continue_keeping (given m sizes answers) keep) (state_at (kept_machine m
    keep sizes entry args answers) n)).outcome
    → IsFollowed (given m sizes answers) (renewed_given m keep flags roots sizes answers) p (state_at (kept_machine m
    keep sizes entry args answers) n) t

-- ---- the statement

-- both runs agree by costs, with a resume that pays for the slots that its activation makes anew
abbrev pub KeepsMeaning : (m : Module) (keep : Keep) (flags : Flags) (roots : Roots) (sizes : List Frame)
    (entry : ℕ) (args : List Word) (answers : List ℤ) → Prices → Type 0
KeepsMeaning m keep flags roots sizes entry args answers p =
    AgreesBy (AreInStep m flags roots) AreAlike (kept_machine m keep sizes entry args answers)
    (kept_price p flags (given m sizes answers)) (renewed_machine m keep flags roots sizes entry args answers)
    (renewed_price p (renewed_given m keep flags roots sizes answers).given)
