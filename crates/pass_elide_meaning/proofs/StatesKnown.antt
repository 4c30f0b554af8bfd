-- What steps ask of states of both runs is had in each of them.
use Rattle.std.proofs.Common.{◌≡◌, ◌∙◌, ◌⊎◌, ◌∷◌, ℕ, Bool, IsTrue, true, false, List, [], Option, ap, inl, inr, refl, subst, sym}
use Rattle.pass_elide_edges.proofs.Runs.{framed_ends}
use Rattle.pass_elide_edges.specs.States.{EndsElided, EndsFramed}
use Rattle.pass_elide_known.specs.Keeping.{KeepsMore, is_marker}
use Rattle.pass_elide_known.specs.States.{IsEntering, IsKnownFramed, IsKnownGiving, MarksSlot, StandsAtOne}
use Rattle.pass_elide_meaning.specs.Lacks.{LacksFramed, LacksGiving}
use Rattle.pass_elide_edges.proofs.pass_elide_proof.Allocas.{knows_allocas}
use Rattle.pass_elide_edges.proofs.pass_elide_proof.ElidedFound.{fetched}
use Rattle.pass_elide_edges.proofs.pass_elide_proof.OwnSlots.{counted_own}
use Rattle.pass_elide_edges.proofs.pass_elide_proof.ReleasedCallees.{callees_in_runs}
use Rattle.pass_elide_edges.proofs.pass_elide_proof.ReleasedKept.{released_runs, slotted_runs}
use Rattle.pass_elide_edges.proofs.pass_elide_proof.ReleasedRooms.{callees_hold}
use Rattle.pass_elide_edges.proofs.pass_elide_proof.SlotStates.{slots_lead_in_runs}
use Rattle.pass_elide_edges.proofs.pass_elide_proof.SoundSteps.{states_sound}
use Rattle.pass_elide_edges.specs.pass_elide_proof.Assembling.{elided_after, framed_after}
use Rattle.pass_elide_edges.specs.pass_elide_proof.Elision.{Elision, elided, elided_code, framed, function_in}
use Rattle.pass_elide_edges.specs.pass_elide_proof.OwnSlots.{CountsSlots}
use Rattle.pass_elide_edges.specs.pass_elide_proof.Placing.{KeepsPlaces}
use Rattle.pass_elide_edges.specs.pass_elide_proof.Releasing.{IsFreeing}
use Rattle.pass_elide_edges.specs.pass_elide_proof.Statement.{IsEntryCall}
use Rattle.pass_elide_runs.proofs.ElidedFirst.{no_slots}
use Rattle.pass_elide_runs.proofs.GivingCalls.{called_in_runs}
use Rattle.pass_elide_runs.proofs.KnownRuns.{knows_framed, knows_giving, saved_goes, suspended_goes}
use Rattle.pass_elide_runs.proofs.OwnEnds.{ends_go}
use Rattle.pass_elide_runs.proofs.OwnedSlots.{marks_slot, own_slots}
use Rattle.pass_elide_runs.proofs.Shaped.{shaped_runs}
use Rattle.pass_elide_runs.proofs.Small.{words_small}
use Rattle.pass_elide_runs.specs.Keeps.{KeepsRuns, KnowsFramed, KnowsGiving}
use Rattle.pass_elide_edges.specs.pass_proofs.ir_base.declared.outcome.Outcome.{Outcome}
use Rattle.pass_elide_edges.specs.pass_proofs.ir_base.declared.outcome.Word.{Word}
use Rattle.pass_elide_edges.specs.pass_proofs.ir_model.Names.{is_local}
use Rattle.pass_elide_edges.specs.pass_proofs.ir_model.Ty.{Ty}
use Rattle.pass_elide_edges.specs.pass_proofs.ir_model.declared.instr.Instr.{Instr}
use Rattle.pass_elide_edges.specs.pass_proofs.ir_model.declared.module.Module.{Module}
use Rattle.pass_elide_edges.specs.pass_proofs.ir_model.declared.operand.Arg.{Arg}
use Rattle.pass_elide_edges.specs.pass_proofs.ir_model.declared.operand.Callee.{Callee}
use Rattle.pass_elide_edges.specs.pass_proofs.ir_model.declared.operand.Intrinsic.{Intrinsic}
use Rattle.pass_elide_edges.specs.pass_proofs.ir_model.declared.operand.Operand.{Operand}
use Rattle.pass_elide_edges.specs.pass_proofs.ir_paths.Windows.{is_call_of, operand_at}
use Rattle.pass_elide_edges.specs.pass_proofs.pass_kept_proof.SuspendRules.{IsCallAt}
use Rattle.pass_elide_edges.specs.pass_proofs.run_agreement.Machines.{IsFine}
use Rattle.pass_elide_edges.specs.pass_proofs.run_source.declared.state.Mode.{Mode}
use Rattle.pass_elide_edges.specs.pass_proofs.run_source.declared.state.State.{State}
use Rattle.pass_elide_edges.specs.pass_proofs.run_step.Values.{Env, arg_values, nth, operand_value, value_in}
use Rattle.run_hooks.specs.Away.{point_in}

running_fine : (s : State) → s.outcome ≡ Outcome.Running → IsFine s.outcome
running_fine s runs = subst IsFine (sym runs) tt

nth_local : (m : Module) (env : Env) (args : List Arg) (v : ℕ) → operand_at args 0 ≡ Operand.Local v
    → nth (arg_values m env args) 0 ≡ value_in env v
nth_local m env [] v is = absurd (cc)
nth_local m env (a ∷ args) v is = ap (operand_value m env a.ty) is

marker_kind : (j : Intrinsic) (result : Option ℕ) (must_tail : Bool) (ty : Option Ty) (args : List Arg)
    → is_marker (Instr.Call result must_tail ty (Callee.Intrinsic j) args) ≡ true
    → (j ≡ Intrinsic.LifetimeStart) ⊎ (j ≡ Intrinsic.LifetimeEnd)
marker_kind Intrinsic.LifetimeStart result must_tail ty args is = inl refl
marker_kind Intrinsic.LifetimeEnd result must_tail ty args is = inr refl
marker_kind _ result must_tail ty args is = absurd (cc)

-- ---- the framed run

module _ (e : Elision) (keeps : KeepsPlaces e) (more : KeepsMore e) (entry : ℕ) (args : List Word) (n : ℕ) where
  pub ends_framed : EndsFramed e (framed_after e entry args n)
  ends_framed = framed_ends e keeps entry args n more.nests

module _ (e : Elision) (keeps : KeepsPlaces e) (more : KeepsMore e) (k : KeepsRuns e) (entry : ℕ) (args : List Word)
    (call : IsEntryCall e entry args) (n : ℕ) (runs : (framed_after e entry args n).outcome ≡ Outcome.Running)
    (lacks : LacksFramed e (framed_after e entry args n)) where
  abbrev s : State
  s = framed_after e entry args n

  fine : IsFine s.outcome
  fine = running_fine s runs

  knows : KnowsFramed e s
  knows = knows_framed e keeps k entry args n call.plain fine

  abbrev call_at : (j : Intrinsic) (result : Option ℕ) (must_tail : Bool) (ty : Option Ty) (vs : List Arg)
      → StandsAtOne e s (Instr.Call result must_tail ty (Callee.Intrinsic j) vs)
      → IsTrue (is_call_of j (Instr.Call result must_tail ty (Callee.Intrinsic j) vs))
      → IsCallAt j (function_in e s.top.func) (point_in s.top)
  call_at j result must_tail ty vs there is = record {
    instr = Instr.Call result must_tail ty (Callee.Intrinsic j) vs;
    stands = fetched (function_in e s.top.func) s.top.block s.top.at
        (Instr.Call result must_tail ty (Callee.Intrinsic j) vs) there;
    is = is;
  }

  entering_at : (from label : ℕ) → s.top.mode ≡ Mode.Entering from label → IsEntering e s from
  entering_at from label mode =
      let x = knows.modes.0.entering from label mode in
      record {
        name = x.name;
        ty = x.ty;
        align = x.align;
        there = x.alloca;
        at = x.from_suspend.at;
        suspend = x.from_suspend.suspend;
        is_there = x.from_suspend.there;
        suspends = x.from_suspend.suspends;
      }

  no_token : (x : Operand) → x ≡ Operand.None → (v : ℕ) → is_local v x ≡ false
  no_token x none v = ap (is_local v) none

  marked : (j : Intrinsic) (result : Option ℕ) (must_tail : Bool) (ty : Option Ty) (vs : List Arg)
      → is_marker (Instr.Call result must_tail ty (Callee.Intrinsic j) vs) ≡ true
      → StandsAtOne e s (Instr.Call result must_tail ty (Callee.Intrinsic j) vs) → MarksSlot e s vs
  marked j result must_tail ty vs marker there =
      let x = marks_slot s (slotted_runs (framed e) entry args keeps.ungiven n) e (knows.slots runs).0
      (k.named s.top.func) vs (k.marks s.top.func s.top.block s.top.at j result must_tail ty vs
      (marker_kind j result must_tail ty vs marker) there) in
      record { block = x.block; leads = x.leads; bare = x.bare }

  pub known_framed : IsKnownFramed e s
  known_framed = record {
    known = knows.known;
    slots = slots_lead_in_runs (framed e) entry args n;
    slotted = slotted_runs (framed e) entry args keeps.ungiven n;
    sound = states_sound (framed e) (knows_allocas e.code e.layouts.coroutines e.answers) more.nests entry args n;
    released = released_runs e entry args (knows_allocas e.code e.layouts.coroutines e.answers) more.nests
        (slotted_runs (framed e) entry args keeps.ungiven) n;
    reached = knows.led.acts.0.block;
    inside = knows.modes.0.inside;
    resumed = knows.modes.0.resumed;
    entering = entering_at;
    saves = λ result must_tail ty vs there x is. saved_goes e k s knows runs
        (call_at Intrinsic.CoroSave result must_tail ty vs there refl) x is;
    suspends = λ result must_tail ty vs there none x is. suspended_goes e k s knows runs
        (call_at Intrinsic.CoroSuspend result must_tail ty vs there refl) (no_token (operand_at vs 0) none) x is;
    ends = λ result must_tail ty vs there stays x is. ends_go e.code s knows.goes runs stays (k.ends s.top.func)
        (call_at Intrinsic.CoroEnd result must_tail ty vs there refl) x is;
    own = λ result must_tail ty vs there mode. own_slots s (slotted_runs (framed e) entry args keeps.ungiven n) e
        (knows.slots runs).0 (k.named s.top.func) (k.plain s.top.func)
        ((keeps.instrs s.top.func).own s.top.block s.top.at result must_tail ty Intrinsic.CoroEnd vs there refl)
        knows.kinds.0;
    small = λ a result must_tail ty vs word takes. words_small (framed e) k.switches k.types keeps.ungiven entry args
        call.fits n a result must_tail ty vs word takes.allocates takes.there takes.takes;
    exact = lacks.exact;
    marks = marked;
  }

-- ---- the run that gives frames

module _ (e : Elision) (keeps : KeepsPlaces e) (k : KeepsRuns e) (entry : ℕ) (args : List Word)
    (call : IsEntryCall e entry args) (m : ℕ) (runs : (elided_after e entry args m).outcome ≡ Outcome.Running)
    (counts : CountsSlots (elided_after e entry args m)) where
  abbrev t : State
  t = elided_after e entry args m

  fine_giving : IsFine t.outcome
  fine_giving = running_fine t runs

  knows_too : KnowsGiving e t
  knows_too = knows_giving e keeps k entry args m call.plain fine_giving

  bare : t.top.block ≡ 0 → t.top.at ≡ 0 → t.top.slots ≡ []
  bare block at = no_slots (elided_code e) t.top (knows_too.slots runs).0 block at

  pub ends_giving : EndsElided e t
  ends_giving = record {
    known = knows_too.known;
    slots = counts;
    bare = record { slots = λ plain block at. bare block at };
  }

  module _ (more : KeepsMore e) (lacks : LacksGiving e t) where
    pub known_giving : IsKnownGiving e t
    known_giving = record {
      known = knows_too.known;
      sound = states_sound (elided e) (knows_allocas (elided_code e) e.layouts.coroutines e.answers) more.nests entry
          args m;
      own = counted_own t counts;
      shapes = knows_too.shapes;
      blocks = λ number y at. ((shaped_runs e keeps entry args m).0 number y at).0;
      callees = callees_in_runs (elided e) (IsFreeing e) (callees_hold (IsFreeing e) e keeps.ungiven more.frees) entry
          args m;
      called = λ c below is. called_in_runs e keeps entry args m fine_giving c below is;
      first = λ plain block at. bare block at;
      aside = lacks.aside;
      marks = lacks.marks;
    }
