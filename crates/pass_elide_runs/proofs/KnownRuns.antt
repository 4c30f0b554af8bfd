-- States of both runs are known by what the framed module keeps.
use Rattle.std.proofs.Common.{◌≡◌, ◌∙◌, ℕ, false, List, sym, subst}
use Rattle.std.specs.Prelude.{Some}
use Rattle.pass_elide_proof.proofs.PlacingKnown.{states_known}
use Rattle.pass_elide_proof.proofs.PlacingStarts.{begins_of}
use Rattle.pass_elide_proof.specs.Elision.{Elision, elided, framed, function_in}
use Rattle.pass_elide_proof.specs.Match.{instance_in}
use Rattle.pass_elide_proof.specs.Placing.{KeepsPlaces}
use Rattle.pass_elide_runs.proofs.CalledFrom.{calls_in_runs}
use Rattle.pass_elide_runs.proofs.DestroyEdges.{framed_wakes, giving_wakes}
use Rattle.pass_elide_runs.proofs.Elided.{elided_switches, same_kind_of}
use Rattle.pass_elide_runs.proofs.ElidedFirst.{elided_begins, giving_slots}
use Rattle.pass_elide_runs.proofs.KnownModes.{modes_in_runs}
use Rattle.pass_elide_runs.proofs.Led.{giving_led, states_led}
use Rattle.pass_elide_runs.proofs.NotLeft.{save_stays, suspend_stays}
use Rattle.pass_elide_runs.proofs.OwnEnds.{saves_go, suspends_go}
use Rattle.pass_elide_runs.proofs.Shaped.{shaped_runs, shapes_of}
use Rattle.pass_elide_runs.proofs.SlotKinds.{kinds_in_runs}
use Rattle.pass_elide_runs.proofs.SlotSteps.{slots_in_runs}
use Rattle.pass_elide_runs.proofs.TillEnd.{goes_in_runs}
use Rattle.pass_elide_runs.specs.Keeps.{KeepsRuns, KnowsFramed, KnowsGiving}
use Rattle.pass_elide_proof.specs.pass_proofs.ir_base.declared.outcome.Outcome.{Outcome}
use Rattle.pass_elide_proof.specs.pass_proofs.ir_base.declared.outcome.Word.{Word}
use Rattle.pass_elide_proof.specs.pass_proofs.ir_model.Names.{is_local}
use Rattle.pass_elide_proof.specs.pass_proofs.ir_model.declared.operand.Intrinsic.{Intrinsic}
use Rattle.pass_elide_proof.specs.pass_proofs.ir_paths.Windows.{call_operand}
use Rattle.pass_elide_proof.specs.pass_proofs.pass_kept_proof.SuspendRules.{IsCallAt}
use Rattle.pass_elide_proof.specs.pass_proofs.run_agreement.Machines.{IsFine}
use Rattle.pass_elide_proof.specs.pass_proofs.run_framed.Framed.{FramedGiven, framed_state_at, framed_step}
use Rattle.pass_elide_proof.specs.pass_proofs.run_source.Source.{first_state}
use Rattle.pass_elide_proof.specs.pass_proofs.run_source.State.{is_finished}
use Rattle.pass_elide_proof.specs.pass_proofs.run_source.declared.state.Instance.{Instance}
use Rattle.pass_elide_proof.specs.pass_proofs.run_source.declared.state.State.{State}
use Rattle.run_hooks.proofs.Keeping.{framed_keeps}
use Rattle.run_hooks.proofs.PlacedKeeping.{framed_keeps_placed}
use Rattle.run_hooks.proofs.PlacedSteps.{states_placed}
use Rattle.run_hooks.proofs.Steps.{framed_steps, same_runs}
use Rattle.run_hooks.specs.Away.{IsPlacedState, KeepsAllPlaceRules, point_in}
use Rattle.run_hooks.specs.Hooks.{step_of}
use Rattle.run_hooks.specs.Meanings.{framed_hooks}
use Rattle.run_hooks.specs.Reached.{AllHaveSwitches}

placed_in_runs : (g : FramedGiven) → AllHaveSwitches g.given.code → KeepsAllPlaceRules g.given → (entry : ℕ)
    (args : List Word) (n : ℕ) → IsPlacedState (framed_hooks g) (framed_state_at g entry args n)
placed_in_runs g switches rules entry args n =
    let same = same_runs (framed_step g) (step_of (framed_hooks g)) (framed_steps g) n
    (first_state g.given.code entry args) in
    subst (IsPlacedState (framed_hooks g)) (sym same)
    (states_placed (framed_hooks g) switches (framed_keeps g) rules (framed_keeps_placed g rules) entry args n)

module _ (e : Elision) (keeps : KeepsPlaces e) (k : KeepsRuns e) where
  pub knows_framed : (entry : ℕ) (args : List Word) (n : ℕ) → (function_in e entry).coroutine ≡ false
      → IsFine (framed_state_at (framed e) entry args n).outcome
      → KnowsFramed e (framed_state_at (framed e) entry args n)
  knows_framed entry args n plain fine = record {
    known = states_known (framed e) (begins_of e keeps) entry args n;
    led = states_led (framed e) k.switches entry args n;
    placed = placed_in_runs (framed e) k.switches k.places entry args n;
    modes = modes_in_runs (framed e) k.switches entry args plain n fine;
    goes = goes_in_runs (framed e) k.switches entry args plain n fine;
    calls = calls_in_runs (framed e) entry args n fine;
    slots = slots_in_runs (framed e) k.allocas k.known k.switches (begins_of e keeps) entry args n fine;
    kinds = kinds_in_runs (framed e) entry args n fine;
    wakes = framed_wakes e keeps k.switches k.switched entry args n;
  }

  pub knows_giving : (entry : ℕ) (args : List Word) (n : ℕ) → (function_in e entry).coroutine ≡ false
      → IsFine (framed_state_at (elided e) entry args n).outcome
      → KnowsGiving e (framed_state_at (elided e) entry args n)
  knows_giving entry args n plain fine = record {
    known = states_known (elided e) (elided_begins e keeps) entry args n;
    led = giving_led e keeps k.switches entry args n;
    shapes = shapes_of e (framed_state_at (elided e) entry args n) (shaped_runs e keeps entry args n);
    modes = modes_in_runs (elided e) (elided_switches e keeps k.switches) entry args
        (same_kind_of e keeps entry ∙ plain) n fine;
    calls = calls_in_runs (elided e) entry args n fine;
    slots = giving_slots e keeps k.allocas k.known_giving k.switches entry args n fine;
    wakes = giving_wakes e keeps k.switches k.switched entry args n;
  }

module _ (e : Elision) (k : KeepsRuns e) (s : State) (knows : KnowsFramed e s)
    (runs : s.outcome ≡ Outcome.Running) where
  -- the instance that is saved isn't Finished
  pub saved_goes : IsCallAt Intrinsic.CoroSave (function_in e s.top.func) (point_in s.top) → (x : Instance)
      → instance_in s.instances s.top.instance ≡ Some x → is_finished x.status ≡ false
  saved_goes is =
      let once = k.ends s.top.func in
      let stays = save_stays (framed_hooks (framed e)) s knows.placed (k.places.each s.top.func)
      (λ after. once.saves (point_in s.top) after is) is in
      saves_go e.code s knows.goes runs stays once is

  -- nor is one at a suspend without a token
  pub suspended_goes : (is : IsCallAt Intrinsic.CoroSuspend (function_in e s.top.func) (point_in s.top))
      → ((v : ℕ) → is_local v (call_operand is.instr 0) ≡ false) → (x : Instance)
      → instance_in s.instances s.top.instance ≡ Some x → is_finished x.status ≡ false
  suspended_goes is none =
      let once = k.ends s.top.func in
      let stays = suspend_stays (framed_hooks (framed e)) s knows.placed (k.places.each s.top.func)
      (λ after. once.suspends (point_in s.top) after is) is none in
      suspends_go e.code s knows.goes runs stays once is
