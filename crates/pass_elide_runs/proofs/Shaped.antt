-- Frames are given to coroutines that have shapes, in each state of the run that gives them.
use Rattle.std.proofs.Common.{◌≡◌, ◌+◌, ◌∙◌, ℕ, Bool, true, false, List, ◌∷◌, refl, sym, ap, subst, if◌then◌else◌}
use Rattle.std.specs.Prelude.{None, Option, Some, option_map}
use Rattle.pass_elide.specs.Elided.{coroutine_frame}
use Rattle.pass_elide.specs.Frames.{callee_layout, frame_of, layout_of, site_frame}
use Rattle.pass_elide.specs.Places.{is_site}
use Rattle.pass_elide.specs.declared.given.GivenFrame.{GivenFrame}
use Rattle.pass_elide_proof.proofs.Facts.{some_none}
use Rattle.pass_elide_proof.proofs.PhiValues.{each_as}
use Rattle.pass_elide_proof.proofs.ReleasedCallees.{callees_in_runs, callees_stay}
use Rattle.pass_elide_proof.proofs.ReleasedRooms.{callees_hold}
use Rattle.pass_elide_proof.specs.Elision.{Elision, elided, elided_code, function_in, rooms}
use Rattle.pass_elide_proof.specs.Match.{is_given_mode}
use Rattle.pass_elide_proof.specs.Places.{phi_count, room_at}
use Rattle.pass_elide_proof.specs.Placing.{HasShape, KeepsPlaces}
use Rattle.pass_elide_proof.specs.PlacingStates.{HaveShapes}
use Rattle.pass_elide_proof.specs.Releasing.{AreOfCallees, HoldsOfCallees, HoldsOfRooms}
use Rattle.pass_elide_proof.specs.pass_proofs.frame_layout.declared.layout.Layout.{Layout as TheLayout}
use Rattle.pass_elide_proof.specs.pass_proofs.ir_base.declared.outcome.Word.{Word}
use Rattle.pass_elide_proof.specs.pass_proofs.ir_model.declared.instr.Instr.{Instr}
use Rattle.pass_elide_proof.specs.pass_proofs.ir_model.declared.operand.Callee.{Callee}
use Rattle.pass_elide_proof.specs.pass_proofs.run_framed.Framed.{framed_state_at, framed_step}
use Rattle.pass_elide_proof.specs.pass_proofs.run_memory.declared.pointer.Value.{Value}
use Rattle.pass_elide_proof.specs.pass_proofs.run_source.declared.state.Activation.{Activation}
use Rattle.pass_elide_proof.specs.pass_proofs.run_source.declared.state.Mode.{Mode}
use Rattle.pass_elide_proof.specs.pass_proofs.run_source.declared.state.State.{State}

-- ---- rooms of functions that are no coroutines are allocas

never_field : (b : Bool) (o : Option TheLayout) (base distance : ℕ)
    → (if b then option_map frame_of o else None) ≡ Some (GivenFrame.Field base distance) → ⊥
never_field true (Some l) base distance h = cc
never_field true None base distance h = cc
never_field false o base distance h = cc

module _ (e : Elision) (keeps : KeepsPlaces e) where
  -- no call has a field
  pub no_field : (func block at base distance : ℕ) (i : Instr)
      → room_at (rooms e func) (function_in e func) block at i ≡ Some (GivenFrame.Field base distance) → ⊥
  no_field func block at base distance i room = by (function_in e func).coroutine refl
    where
      place : ℕ
      place = phi_count (function_in e func) block + at

      by : (t : Bool) → (function_in e func).coroutine ≡ t → ⊥
      by true is = some_none (rooms e func block place i) _ room ((keeps.wakes func is).none block place i)
      by false is =
          never_field (is_site e.sites (record { func = func; block = block; at = place }))
          (callee_layout e.code e.layouts.coroutines i) base distance
          (ap (λ (t : Bool). (if t then coroutine_frame (layout_of e.layouts.coroutines func) (function_in e func)
          else site_frame e.code e.layouts.coroutines e.sites func) block place i) (sym is) ∙ room)

  pub shapes_hold : HoldsOfRooms (HasShape e) e
  shapes_hold func block at callee result must_tail ty n args (GivenFrame.Alloca size align) there room ramp =
      let k = keeps.calls func block at size align result must_tail ty n args there room in
      subst (HasShape e) (same k.func (sym k.given ∙ ramp)) k.shape
    where
      same : (a : ℕ) → Some a ≡ Some callee → a ≡ callee
      same a h = cc
  shapes_hold func block at callee result must_tail ty n args (GivenFrame.Field base distance) there room ramp =
      absurd (no_field func block at base distance (Instr.Call result must_tail ty (Callee.Named n) args) room)

  calls_hold : HoldsOfCallees (HasShape e) (elided_code e)
  calls_hold = callees_hold (HasShape e) e keeps.ungiven shapes_hold

  pub shaped_step : (t : State) → AreOfCallees (HasShape e) t → AreOfCallees (HasShape e) (framed_step (elided e) t)
  shaped_step t h = callees_stay (elided e) (HasShape e) calls_hold t h

  pub shaped_runs : (entry : ℕ) (args : List Word) (n : ℕ)
      → AreOfCallees (HasShape e) (framed_state_at (elided e) entry args n)
  shaped_runs entry args n = callees_in_runs (elided e) (HasShape e) calls_hold entry args n

pub shapes_of : (e : Elision) (t : State) → AreOfCallees (HasShape e) t → HaveShapes e t
shapes_of e t h = record {
  ramps = each_as (λ (c : Activation). (frame : Value) → c.mode ≡ Mode.GivenRamp frame → HasShape e c.func)
      (λ (c : Activation). is_given_mode c.mode ≡ true → HasShape e c.func) by_mode (t.top ∷ t.below) h.1;
  instances = λ i y at given. (h.0 i y at).1 given;
}
  where
    by_mode : (c : Activation) → ((frame : Value) → c.mode ≡ Mode.GivenRamp frame → HasShape e c.func)
        → is_given_mode c.mode ≡ true → HasShape e c.func
    by_mode c known given = on c.mode refl given
      where
        on : (m : Mode) → c.mode ≡ m → is_given_mode m ≡ true → HasShape e c.func
        on (Mode.GivenRamp frame) is h = known frame is
        on Mode.Plain is h = absurd (cc)
        on Mode.Ramp is h = absurd (cc)
        on Mode.Resumed is h = absurd (cc)
        on (Mode.Entering from label) is h = absurd (cc)
