-- Both runs stand beside each other at a ret.
use Rattle.std.proofs.Common.{◌≡◌, ◌⊎◌, ◌<◌, inl, inr, ℕ, Bool, true, false, List, [], ◌∷◌, Option, refl, sym, ap, subst}
use Rattle.std.specs.Prelude.{None, Some}
use Rattle.pass_elide_edges.proofs.Alike.{quiet_none}
use Rattle.pass_elide_edges.proofs.Freed.{fronts_freed, fronts_own}
use Rattle.pass_elide_edges.proofs.Fronts.{place}
use Rattle.pass_elide_edges.specs.States.{EndsElided, EndsFramed}
use Rattle.pass_elide_proof.proofs.Facts.{not_both}
use Rattle.pass_elide_proof.proofs.FrontsMade.{fronts_keep}
use Rattle.pass_elide_proof.proofs.Grown.{have_at}
use Rattle.pass_elide_proof.proofs.OwnSlots.{counted_own}
use Rattle.pass_elide_proof.proofs.PlacingBack.{returns_place}
use Rattle.pass_elide_proof.proofs.PlacingEntered.{unput}
use Rattle.pass_elide_proof.proofs.PlacingFacts.{alike_operand}
use Rattle.pass_elide_proof.proofs.PlacingLeft.{ends, return_place}
use Rattle.pass_elide_proof.proofs.UnownedSlots.{own_blocks}
use Rattle.pass_elide_proof.specs.Calling.{AreReady, IsAtFront, IsBehindFront, differing}
use Rattle.pass_elide_proof.specs.Elision.{Elision, Shape, framed, function_in, no_shape, rooms}
use Rattle.pass_elide_proof.specs.Match.{held_name, is_given_mode, sides, was_given}
use Rattle.pass_elide_proof.specs.OwnSlots.{HaveNoSlots}
use Rattle.pass_elide_proof.specs.Places.{front_at}
use Rattle.pass_elide_proof.specs.Placing.{HasShape, KeepsPlaces}
use Rattle.pass_elide_proof.specs.Returning.{HaveOwnBlocks, IsAtReturn, ReturnsAlike}
use Rattle.pass_elide_proof.specs.Statement.{AreRelated}
use Rattle.pass_elide_proof.specs.Stepping.{IsKnownStep, IsReadyFor, fronted}
use Rattle.pass_elide_proof.proofs.pass_proofs.ir_laws.facts.Lists.{get_within}
use Rattle.pass_elide_proof.specs.pass_proofs.ir_base.declared.outcome.Outcome.{Outcome}
use Rattle.pass_elide_proof.specs.pass_proofs.ir_model.declared.instr.Terminator.{Terminator}
use Rattle.pass_elide_proof.specs.pass_proofs.ir_model.declared.operand.Arg.{Arg}
use Rattle.pass_elide_proof.specs.pass_proofs.run_source.State.{function_of}
use Rattle.pass_elide_proof.specs.pass_proofs.run_source.declared.state.Activation.{Activation}
use Rattle.pass_elide_proof.specs.pass_proofs.run_source.declared.state.State.{State}
use Rattle.pass_elide_proof.specs.pass_proofs.run_step.Step.{AtTerm, fetch}

module _ (e : Elision) (keeps : KeepsPlaces e) (s t : State) (r : AreRelated e s t) (first : EndsFramed e s)
    (second : EndsElided e t) (runs : s.outcome ≡ Outcome.Running) (value : Option Arg)
    (there : fetch (function_of (framed e).given s) s.top.block s.top.at ≡ AtTerm (Terminator.Ret value))
    (beside : t.top.block ≡ s.top.block)
    (stands : t.top.at ≡ front_at (rooms e s.top.func) (function_in e s.top.func) s.top.block s.top.at) where
  -- instances of the framed run have no slots
  no_slots : HaveNoSlots s
  no_slots i x there =
      let lt = get_within s.instances i x there in
      let y = have_at t.instances i (subst (λ (n : ℕ). i < n) (sym r.beside.count) lt) in
      (r.beside.instances i x y.0 there y.1).slots

  ours : HaveOwnBlocks s
  ours = own_blocks s first.slotted no_slots

  -- ---- where the function has just been entered

  module _ (at : IsAtFront e s t) where
    no_shape_here : e.shape s.top.func ≡ no_shape
    no_shape_here = on (keeps.shapes s.top.func)
      where
        on : (e.shape s.top.func ≡ no_shape) ⊎ HasShape e s.top.func → e.shape s.top.func ≡ no_shape
        on (inl none) = none
        on (inr k) = absurd (not_both (function_in e s.top.func).coroutine k.coroutine at.plain)

    reads : (u : State) (v : Option Arg) → ReturnsAlike e s u v
    reads u None = tt
    reads u (Some arg) =
        alike_operand (differing e s u) arg.value
        (λ v is. quiet_none (e.shape s.top.func) (is_given_mode u.top.mode) (was_given (sides s u) u.top) v
        no_shape_here)

    not_held : (b : Bool) → held_name e b s.top ≡ None
    not_held true = ap (λ (x : Shape). x.holds s.top.block s.top.at) no_shape_here
    not_held false = refl

    fronted_place : IsAtReturn e s (fronted e s t)
    fronted_place =
        let end = ends (function_in e s.top.func) s.top.block s.top.at (Terminator.Ret value) there in
        record {
          runs = runs;
          block = end.here;
          has_block = end.has_block;
          at = end.last;
          value = value;
          term = end.is;
          reads = reads (fronted e s t) value;
          held = not_held (is_given_mode (fronted e s t).top.mode);
          unput = unput e keeps s.top.func;
          destroyed = keeps.destroyed s.top.func;
          ours = ours;
          theirs = fronts_own e s t r.beside at second.slots;
          callers = fronts_keep e s t r.beside at r.callers;
          freed = fronts_freed e s t r.beside at r.freed;
        }

  -- ---- the step

  pub rets_known : IsKnownStep e s t r.beside
  rets_known = on (place e keeps s t r.beside first second runs (Terminator.Ret value) there beside stands)
    where
      returns : (u : State) (ready : AreReady e s u) → IsAtReturn e s u → (below : List Activation) → s.below ≡ below
          → IsReadyFor e s u ready
      returns u ready at [] is = IsReadyFor.LastReturn at is
      returns u ready at (caller ∷ rest) is =
          IsReadyFor.Return at (returns_place e keeps s caller rest first.known is)

      on : IsAtFront e s t ⊎ IsBehindFront e s t → IsKnownStep e s t r.beside
      on (inl at) =
          IsKnownStep.Fronting at (λ ready. returns (fronted e s t) ready (fronted_place at) s.below refl)
      on (inr at) =
          IsKnownStep.Standing at
          (λ ready. returns t ready
          (return_place e keeps s t r value runs there ours (counted_own t second.slots)) s.below refl)
