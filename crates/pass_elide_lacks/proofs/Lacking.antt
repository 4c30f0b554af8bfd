-- What was lacking of states of both runs is had in each of them.
use Rattle.std.proofs.Common.{◌≡◌, ◌⊎◌, inl, inr, ◌∙◌, ℕ, Bool, true, false, List, [], ◌∷◌, length, Option, Some, ap, refl, sym, subst}
use Rattle.std.specs.Prelude.{slice_get}
use Rattle.pass_elide_meaning.specs.pass_elide_edges.Keeping.{KeepsEnds}
use Rattle.pass_elide_meaning.specs.pass_elide_edges.States.{EndsElided}
use Rattle.pass_elide_meaning.specs.pass_elide_known.Keeping.{KeepsMore, is_marker}
use Rattle.pass_elide_meaning.specs.pass_elide_known.States.{IsKnownGiving, StandsAtElided}
use Rattle.pass_elide_lacks.proofs.AsideStays.{aside_in_runs}
use Rattle.pass_elide_lacks.proofs.Bare.{IsHeldState, bare_in_runs, named, names_low, phis_low}
use Rattle.pass_elide_lacks.proofs.FlatNames.{MarksOld, marks_old}
use Rattle.pass_elide_lacks.proofs.NoSlots.{counts_in_runs}
use Rattle.pass_elide_lacks.proofs.Rows.{IsFoundSlot, found_slot}
use Rattle.pass_elide_lacks.specs.Keeps.{KeepsAsked}
use Rattle.pass_elide_lacks.specs.Rooms.{HoldsNone}
use Rattle.pass_elide_meaning.proofs.StatesKnown.{ends_giving, known_giving}
use Rattle.pass_elide_meaning.specs.Lacks.{LacksGiving}
use Rattle.pass_elide_meaning.proofs.pass_elide_runs.Elided.{coroutine_same}
use Rattle.pass_elide_meaning.proofs.pass_elide_runs.ElidedFirst.{giving_slots}
use Rattle.pass_elide_meaning.proofs.pass_elide_runs.Shaped.{shaped_runs}
use Rattle.pass_elide_meaning.specs.pass_elide_runs.Keeps.{KeepsRuns}
use Rattle.pass_elide_meaning.specs.pass_elide_runs.Marks.{MarksAlloca}
use Rattle.pass_elide_meaning.specs.pass_elide_runs.Slots.{HasItsSlots}
use Rattle.pass_elide_meaning.proofs.pass_elide_edges.pass_elide_proof.Allocas.{knows_allocas}
use Rattle.pass_elide_meaning.proofs.pass_elide_edges.pass_elide_proof.GivingMarkers.{plain_put}
use Rattle.pass_elide_meaning.proofs.pass_elide_edges.pass_elide_proof.Modules.{finds_alike}
use Rattle.pass_elide_meaning.specs.pass_elide_edges.pass_elide_proof.Assembling.{elided_after}
use Rattle.pass_elide_meaning.specs.pass_elide_edges.pass_elide_proof.Elision.{Elision, elided, elided_code, function_in, rooms}
use Rattle.pass_elide_meaning.specs.pass_elide_edges.pass_elide_proof.Marking.{HoldsNoFrame, second_operand}
use Rattle.pass_elide_meaning.specs.pass_elide_edges.pass_elide_proof.OwnSlots.{CountsSlots}
use Rattle.pass_elide_meaning.specs.pass_elide_edges.pass_elide_proof.Places.{instrs_of}
use Rattle.pass_elide_meaning.specs.pass_elide_edges.pass_elide_proof.Placing.{KeepsPlaces}
use Rattle.pass_elide_meaning.specs.pass_elide_edges.pass_elide_proof.Statement.{IsEntryCall}
use Rattle.pass_elide_meaning.specs.pass_elide_edges.pass_elide_proof.pass_proofs.ir_base.declared.outcome.Outcome.{Outcome}
use Rattle.pass_elide_meaning.specs.pass_elide_edges.pass_elide_proof.pass_proofs.ir_base.declared.outcome.Word.{Word}
use Rattle.pass_elide_meaning.specs.pass_elide_edges.pass_elide_proof.pass_proofs.ir_model.Names.{function_at}
use Rattle.pass_elide_meaning.specs.pass_elide_edges.pass_elide_proof.pass_proofs.ir_model.Ty.{Ty}
use Rattle.pass_elide_meaning.specs.pass_elide_edges.pass_elide_proof.pass_proofs.ir_model.declared.instr.Instr.{Instr}
use Rattle.pass_elide_meaning.specs.pass_elide_edges.pass_elide_proof.pass_proofs.ir_model.declared.module.Function.{Function}
use Rattle.pass_elide_meaning.specs.pass_elide_edges.pass_elide_proof.pass_proofs.ir_model.declared.module.Module.{Module}
use Rattle.pass_elide_meaning.specs.pass_elide_edges.pass_elide_proof.pass_proofs.ir_model.declared.operand.Arg.{Arg}
use Rattle.pass_elide_meaning.specs.pass_elide_edges.pass_elide_proof.pass_proofs.ir_model.declared.operand.Callee.{Callee}
use Rattle.pass_elide_meaning.specs.pass_elide_edges.pass_elide_proof.pass_proofs.ir_model.declared.operand.Intrinsic.{Intrinsic}
use Rattle.pass_elide_meaning.specs.pass_elide_edges.pass_elide_proof.pass_proofs.ir_model.declared.operand.Operand.{Operand}
use Rattle.pass_elide_meaning.specs.pass_elide_edges.pass_elide_proof.pass_proofs.ir_paths.Windows.{operand_at}
use Rattle.pass_elide_meaning.specs.pass_elide_edges.pass_elide_proof.pass_proofs.run_agreement.Machines.{IsFine}
use Rattle.pass_elide_meaning.specs.pass_elide_edges.pass_elide_proof.pass_proofs.run_framed.Framed.{framed_state_at}
use Rattle.pass_elide_meaning.specs.pass_elide_edges.pass_elide_proof.pass_proofs.run_source.declared.state.State.{State}
use Rattle.pass_elide_meaning.specs.pass_elide_edges.pass_elide_proof.pass_proofs.run_step.Step.{block_of}
use Rattle.pass_elide_meaning.specs.pass_elide_edges.pass_elide_proof.pass_proofs.run_step.Values.{Env, arg_values, nth, operand_value, value_in}

running_fine : (t : State) → t.outcome ≡ Outcome.Running → IsFine t.outcome
running_fine t runs = subst IsFine (sym runs) tt

same_number : (a b : ℕ) → Some a ≡ Some b → a ≡ b
same_number a b h = cc

-- the second operand of a call that is a name
second_local : (m : Module) (env : Env) (args : List Arg) (v : ℕ) → operand_at args 1 ≡ Operand.Local v
    → nth (arg_values m env args) 1 ≡ value_in env v
second_local m env [] v is = absurd (cc)
second_local m env (a ∷ []) v is = absurd (cc)
second_local m env (a ∷ (b ∷ args)) v is = ap (operand_value m env b.ty) is

marker_kind : (j : Intrinsic) (result : Option ℕ) (must_tail : Bool) (ty : Option Ty) (args : List Arg)
    → is_marker (Instr.Call result must_tail ty (Callee.Intrinsic j) args) ≡ true
    → (j ≡ Intrinsic.LifetimeStart) ⊎ (j ≡ Intrinsic.LifetimeEnd)
marker_kind Intrinsic.LifetimeStart result must_tail ty args is = inl refl
marker_kind Intrinsic.LifetimeEnd result must_tail ty args is = inr refl
marker_kind _ result must_tail ty args is = absurd (cc)

module _ (e : Elision) (keeps : KeepsPlaces e) (more : KeepsMore e) (entry : ℕ) (args : List Word) where
  -- slots of the run that gives frames have blocks of their own
  pub giving_counts : (n : ℕ) → IsFine (framed_state_at (elided e) entry args n).outcome
      → CountsSlots (framed_state_at (elided e) entry args n)
  giving_counts n fine =
      counts_in_runs (elided e) (knows_allocas (elided_code e) e.layouts.coroutines e.answers) more.nests entry args n
      fine

module _ (e : Elision) (keeps : KeepsPlaces e) (more : KeepsMore e) (ends : KeepsEnds e) (k : KeepsRuns e)
    (entry : ℕ) (args : List Word) where
  held : (n : ℕ) → IsFine (framed_state_at (elided e) entry args n).outcome
      → IsHeldState e keeps ends k (framed_state_at (elided e) entry args n)
  held n fine = record {
    counts = giving_counts e keeps more entry args n fine;
    blocks = λ number y at. ((shaped_runs e keeps entry args n).0 number y at).0;
    slots = giving_slots e keeps k.allocas k.known_giving k.switches entry args n fine;
  }

  -- no frame lies in a slot that the framed form has too
  pub giving_bare : (n : ℕ) → IsFine (framed_state_at (elided e) entry args n).outcome
      → HoldsNone e (framed_state_at (elided e) entry args n)
  giving_bare n fine = bare_in_runs e keeps ends k entry args held n fine

  module _ (n : ℕ) (runs : (elided_after e entry args n).outcome ≡ Outcome.Running) where
    abbrev t : State
    t = elided_after e entry args n

    abbrev m : Module
    m = elided_code e

    abbrev f : Function
    f = function_in e t.top.func

    slots : HasItsSlots m t.top
    slots = (giving_slots e keeps k.allocas k.known_giving k.switches entry args n (running_fine t runs) runs).0

    module _ (j : Intrinsic) (result : Option ℕ) (must_tail : Bool) (ty : Option Ty) (vs : List Arg)
        (marker : is_marker (Instr.Call result must_tail ty (Callee.Intrinsic j) vs) ≡ true)
        (there : StandsAtElided e t (Instr.Call result must_tail ty (Callee.Intrinsic j) vs)) where
      abbrev call : Instr
      call = Instr.Call result must_tail ty (Callee.Intrinsic j) vs

      abbrev Marks : Function → Type 0
      Marks h = MarksOld h (length f.names) t.top.block t.top.at vs

      kind : (j ≡ Intrinsic.LifetimeStart) ⊎ (j ≡ Intrinsic.LifetimeEnd)
      kind = marker_kind j result must_tail ty vs marker

      -- the marker marks an alloca that the framed form has too
      marks_slot : Marks (function_at m t.top.func)
      marks_slot = by f.coroutine refl
        where
          by : (b : Bool) → f.coroutine ≡ b → Marks (function_at m t.top.func)
          by true is =
              let same = coroutine_same e keeps t.top.func is in
              let x = k.marks t.top.func t.top.block t.top.at j result must_tail ty vs kind
              (ap (λ (h : Function). slice_get (instrs_of h t.top.block) t.top.at) (sym same) ∙ there) in
              subst Marks (sym same)
              (record { marks = x; old = (k.named t.top.func).low x.place x.name x.alloca })
          by false is =
              let same = (finds_alike e).functions t.top.func in
              subst Marks (sym same)
              (marks_old (rooms e t.top.func) f (plain_put e t.top.func is) (k.named t.top.func)
              (names_low e keeps ends k t.top.func) (phis_low e keeps ends k t.top.func) (k.marks t.top.func)
              t.top.block t.top.at j result must_tail ty vs kind
              (ap (λ (h : Function). slice_get (instrs_of h t.top.block) t.top.at) (sym same) ∙ there))

      marked_bare : HoldsNoFrame t.instances (second_operand e t vs 1)
      marked_bare b i x leads at is =
          (giving_bare n (running_fine t runs)).bare z.block i x (inl (z.own marks_slot.old)) at (is ∙ same)
        where
          a : MarksAlloca (function_at m t.top.func) t.top.block t.top.at vs
          a = marks_slot.marks

          z : IsFoundSlot (length f.names) t.top.values t.top.slots a.name
          z =
              found_slot (function_at m t.top.func) (length f.names) t.top.values t.top.block t.top.at a.name
              t.top.slots (named e keeps ends k t.top.func) slots.own (slots.made a.place a.name a.alloca a.passed)

          same : b ≡ z.block
          same =
              same_number b z.block
              (sym leads ∙ ap block_of (second_local m t.top.values vs a.name a.takes ∙ z.address))

    pub giving_lacks : KeepsAsked e → LacksGiving e t
    giving_lacks asked = record {
      aside = (aside_in_runs e keeps ends k asked entry args n (running_fine t runs)).0.given;
      marks = marked_bare;
    }

    -- ---- so the state is known

    pub giving_known : KeepsAsked e → IsEntryCall e entry args → IsKnownGiving e t
    giving_known asked call =
        known_giving e keeps k entry args call n runs
        (giving_counts e keeps more entry args n (running_fine t runs)) more (giving_lacks asked)

    pub giving_ends : IsEntryCall e entry args → EndsElided e t
    giving_ends call =
        ends_giving e keeps k entry args call n runs
        (giving_counts e keeps more entry args n (running_fine t runs))
