-- Each step is that of an instruction, or one at the end of a block.
use Rattle.std.proofs.Common.{◌≡◌, ◌∙◌, ap, refl, subst, sym}
use Rattle.pass_elide_edges.proofs.Known.{ends_known}
use Rattle.pass_elide_edges.specs.Keeping.{KeepsEnds}
use Rattle.pass_elide_edges.specs.States.{EndsElided, EndsFramed, StandApart}
use Rattle.pass_elide_known.proofs.Whole.{instruction_known}
use Rattle.pass_elide_known.specs.Keeping.{KeepsMore}
use Rattle.pass_elide_known.specs.States.{IsKnownFramed, IsKnownGiving}
use Rattle.pass_elide_edges.specs.pass_elide_proof.Elision.{Elision, framed}
use Rattle.pass_elide_edges.specs.pass_elide_proof.Match.{sides}
use Rattle.pass_elide_edges.specs.pass_elide_proof.Placing.{KeepsPlaces}
use Rattle.pass_elide_edges.specs.pass_elide_proof.Statement.{AreRelated}
use Rattle.pass_elide_edges.specs.pass_elide_proof.Stepping.{IsKnownStep}
use Rattle.pass_elide_edges.specs.pass_proofs.ir_base.declared.outcome.Outcome.{Outcome}
use Rattle.pass_elide_edges.specs.pass_proofs.run_agreement.Machines.{IsFine}
use Rattle.pass_elide_edges.specs.pass_proofs.run_framed.Framed.{FramedGiven, framed_advance, framed_next, framed_step}
use Rattle.pass_elide_edges.specs.pass_proofs.run_source.State.{function_of, or_undefined}
use Rattle.pass_elide_edges.specs.pass_proofs.run_source.declared.state.State.{State}
use Rattle.pass_elide_edges.specs.pass_proofs.run_step.Step.{AtInstr, AtTerm, Fetched, Nowhere, fetch}

-- where nothing stands a step is undefined
nowhere : (g : FramedGiven) (s : State) → s.outcome ≡ Outcome.Running
    → fetch (function_of g.given s) s.top.block s.top.at ≡ Nowhere → IsFine (framed_step g s).outcome → ⊥
nowhere g s runs is fine =
    subst (λ (o : Outcome). IsFine o → ⊥)
    (sym (ap (λ (o : Outcome). (framed_advance g s o).outcome) runs
    ∙ ap (λ (x : Fetched). (or_undefined g.given s (framed_next g s x)).outcome) is)) (λ h. h) fine

module _ (e : Elision) (s t : State) (r : AreRelated e s t) (keeps : KeepsPlaces e) (more : KeepsMore e)
    (ends : KeepsEnds e) (known : IsKnownFramed e s) (giving : IsKnownGiving e t) (first : EndsFramed e s)
    (second : EndsElided e t) (apart : StandApart e (sides s t) s.top t.top) (runs : s.outcome ≡ Outcome.Running)
    (fine : IsFine (framed_step (framed e) s).outcome) where
  known_by : (x : Fetched) → fetch (function_of (framed e).given s) s.top.block s.top.at ≡ x
      → IsKnownStep e s t r.beside
  known_by Nowhere is = absurd (nowhere (framed e) s runs is fine)
  known_by (AtInstr i) is = instruction_known e keeps more s t r known giving runs fine i is
  known_by (AtTerm term) is = ends_known e keeps ends s t r (record { ends = first; reached = known.reached }) second apart r.passed.0
      runs fine term is

  pub step_known : IsKnownStep e s t r.beside
  step_known = known_by (fetch (function_of (framed e).given s) s.top.block s.top.at) refl
