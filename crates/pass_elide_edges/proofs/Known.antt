-- The step at the end of a block is of a known kind.
use Rattle.std.proofs.Common.{◌≡◌, ◌⊎◌, inl, inr, ℕ, sym, ap, ◌∙◌}
use Rattle.pass_elide_edges.proofs.Beside.{plain_goes, shape_goes}
use Rattle.pass_elide_edges.proofs.Choosing.{Comes, Edge, Goes, Returns, acts, comes, edge_is, has_edge}
use Rattle.pass_elide_edges.proofs.Rets.{rets_known}
use Rattle.pass_elide_edges.proofs.Waits.{aside_known, freed_known, way_on_known}
use Rattle.pass_elide_edges.specs.Keeping.{KeepsEnds, ShapesEnds}
use Rattle.pass_elide_edges.specs.States.{EndsElided, EndsReached, StandApart}
use Rattle.pass_elide_proof.proofs.Facts.{some_none}
use Rattle.pass_elide_proof.specs.Elision.{Elision, Shape, framed, function_in, no_shape, rooms}
use Rattle.pass_elide_proof.specs.Match.{Aside, Beside, Freeing, IsAt, Waiting, sides, was_given}
use Rattle.pass_elide_proof.specs.Places.{front_at}
use Rattle.pass_elide_proof.specs.Placing.{KeepsPlaces}
use Rattle.pass_elide_proof.specs.PlacingStates.{PassesBy}
use Rattle.pass_elide_proof.specs.Statement.{AreRelated}
use Rattle.pass_elide_proof.specs.Stepping.{IsKnownStep}
use Rattle.pass_elide_proof.specs.pass_proofs.ir_base.declared.outcome.Outcome.{Outcome}
use Rattle.pass_elide_proof.specs.pass_proofs.ir_model.declared.instr.Terminator.{Terminator}
use Rattle.pass_elide_proof.specs.pass_proofs.run_agreement.Machines.{IsFine}
use Rattle.pass_elide_proof.specs.pass_proofs.run_framed.Framed.{framed_act, framed_context, framed_step}
use Rattle.pass_elide_proof.specs.pass_proofs.run_source.State.{function_of, work_of}
use Rattle.pass_elide_proof.specs.pass_proofs.run_source.declared.state.State.{State}
use Rattle.pass_elide_proof.specs.pass_proofs.run_step.Step.{AtTerm, GoTo, fetch, term_action}

module _ (e : Elision) (keeps : KeepsPlaces e) (ends : KeepsEnds e) (s t : State) (r : AreRelated e s t)
    (first : EndsReached e s) (second : EndsElided e t) (apart : StandApart e (sides s t) s.top t.top)
    (by : PassesBy e t t.top)
    (runs : s.outcome ≡ Outcome.Running) (fine : IsFine (framed_step (framed e) s).outcome) (term : Terminator)
    (there : fetch (function_of (framed e).given s) s.top.block s.top.at ≡ AtTerm term) where
  edge_of : (label : ℕ) → term_action (framed_context (framed e) s) (work_of s) term ≡ GoTo label → Edge e s label
  edge_of label goes =
      let act = acts e s term runs fine there in
      edge_is e s label act.0 (sym (ap (framed_act (framed e) s) goes) ∙ act.1)

  goes_on : t.top.block ≡ s.top.block
      → t.top.at ≡ front_at (rooms e s.top.func) (function_in e s.top.func) s.top.block s.top.at → (label : ℕ)
      → term_action (framed_context (framed e) s) (work_of s) term ≡ GoTo label
      → (e.shape s.top.func ≡ no_shape) ⊎ ShapesEnds e s.top.func → IsKnownStep e s t r.beside
  goes_on beside stands label goes (inl none) =
      plain_goes e keeps ends s t r first second apart by runs term there beside stands label goes
      (has_edge e s term runs fine there label goes) (edge_of label goes) none
  goes_on beside stands label goes (inr k) =
      shape_goes e keeps ends s t r first second apart by runs term there beside stands k label goes
      (has_edge e s term runs fine there label goes) (edge_of label goes)

  pub beside_known : t.top.block ≡ s.top.block
      → t.top.at ≡ front_at (rooms e s.top.func) (function_in e s.top.func) s.top.block s.top.at
      → IsKnownStep e s t r.beside
  beside_known beside stands = on (comes e s term runs fine there)
    where
      on : Comes e s term → IsKnownStep e s t r.beside
      on (Returns value is) =
          rets_known e keeps s t r first.ends second runs value (there ∙ ap AtTerm is) beside stands
      on (Goes label goes) = goes_on beside stands label goes (ends.shapes s.top.func)

  -- a function whose calls give no frame has no blocks in which the other run waits
  shaped : (ShapesEnds e s.top.func → IsKnownStep e s t r.beside) → (e.shape s.top.func ≡ no_shape → ⊥)
      → IsKnownStep e s t r.beside
  shaped h never = on (ends.shapes s.top.func)
    where
      on : (e.shape s.top.func ≡ no_shape) ⊎ ShapesEnds e s.top.func → IsKnownStep e s t r.beside
      on (inl none) = absurd (never none)
      on (inr k) = h k

  pub ends_known : IsKnownStep e s t r.beside
  ends_known = on r.beside.top.place
    where
      on : IsAt e r.beside.homes (was_given (sides s t) t.top) s.top t.top → IsKnownStep e s t r.beside
      on (Beside block at) = beside_known block at
      on (Waiting given waits stays) =
          shaped (λ k. way_on_known e keeps ends s t r first apart runs term there k stays given waits)
          (λ none. some_none ((e.shape s.top.func).waits s.top.block) t.top.block waits
          (ap (λ (x : Shape). x.waits s.top.block) none))
      on (Freeing given frees stays) =
          shaped (λ k. freed_known e keeps ends s t r first apart runs term there k stays given frees)
          (λ none. some_none ((e.shape s.top.func).frees s.top.block) t.top.block frees
          (ap (λ (x : Shape). x.frees s.top.block) none))
      on (Aside given aside at made) =
          shaped (λ k. aside_known e keeps ends s t r first apart runs term there k given aside at made)
          (λ none. some_none ((e.shape s.top.func).aside s.top.block) t.top.block aside
          (ap (λ (x : Shape). x.aside s.top.block) none))
