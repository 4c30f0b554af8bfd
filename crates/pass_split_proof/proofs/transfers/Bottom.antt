-- The lowest activations of both runs return, and the runs are over.
use Rattle.std.proofs.Common.{◌≡◌, ℕ, ◌≤◌, Bool, true, false, List, [], length, None, refl, sym, ap, ◌∙◌, subst}
use Rattle.std.proofs.lemmas.Bool.{false≢true}
use Rattle.pass_proofs.specs.ir_base.declared.outcome.Outcome.{Outcome}
use Rattle.pass_proofs.specs.ir_model.Names.{function_at}
use Rattle.pass_proofs.specs.ir_model.declared.module.Function.{Function}
use Rattle.pass_proofs.specs.pass_intrinsics.declared.shape.Part.{Part}
use Rattle.pass_proofs.specs.pass_intrinsics.declared.shape.Shape.{Shape}
use Rattle.pass_split_proof.proofs.states.Advanced.{all_beside_on, same_frames}
use Rattle.pass_split_proof.proofs.steps.Calls.{ext, frames_gone, homes_stay, length_gone, world_gone}
use Rattle.pass_split_proof.specs.states.Activations.{AtEnd, AtSuspend, AtSwitch, Inside, IsBehind, IsLeaving, IsPlaced, Making, Passed, Stopping, is_entering}
use Rattle.pass_split_proof.specs.states.Memories.{homes_of}
use Rattle.pass_split_proof.specs.states.Related.{AreRelated}
use Rattle.pass_split_proof.specs.states.Values.{AreValuesOf}
use Rattle.pass_proofs.specs.run_framed.Framed.{FramedGiven}
use Rattle.pass_proofs.specs.run_laws.memory.Pointers.{Home}
use Rattle.run_access_worked.specs.run_plain.Plain.{PlainGiven, plain_returned}
use Rattle.run_access_worked.specs.run_plain.declared.state.PlainActivation.{PlainActivation}
use Rattle.run_access_worked.specs.run_plain.declared.state.PlainState.{PlainState}
use Rattle.pass_proofs.specs.run_source.Source.{returned}
use Rattle.pass_proofs.specs.run_source.declared.state.Activation.{Activation}
use Rattle.pass_proofs.specs.run_source.declared.state.Mode.{Mode}
use Rattle.pass_proofs.specs.run_source.declared.state.State.{State}
use Rattle.pass_proofs.specs.run_step.declared.world.Slot.{Slot}

-- ---- a place doesn't hang on slots

module _ (f : Function) (a : Activation) (slots : List Slot) where
  behind_on : (suspends : Bool) → IsBehind f suspends a → IsBehind f suspends (record a { slots = slots })
  behind_on suspends x = record { before = x.before; at = x.at; instr = x.instr; there = x.there; is = x.is }

  leaving_on : (end : ℕ) → IsLeaving f end a → IsLeaving f end (record a { slots = slots })
  leaving_on end (AtSuspend i here is stop) = AtSuspend i here is stop
  leaving_on end (AtSwitch m arg cases before here both is)
      = AtSwitch m arg cases (behind_on true before) here both is
  leaving_on end (AtEnd block at) = AtEnd block at

  pub place_on : (sh : Shape) (part : Part) (q : Function) (b : PlainActivation) (mode : Mode)
      → IsPlaced sh part f q a b mode → IsPlaced sh part f q (record a { slots = slots }) (record b { slots = slots })
      mode
  place_on sh part q b _ (Inside mode e place) = Inside mode e place
  place_on sh part q b _ (Stopping mode m arg cases e before there both is jump enters)
      = Stopping mode m arg cases e (behind_on true before) there both is jump enters
  place_on sh part q b _ (Making from label x y z lt) = Making from label x y z lt
  place_on sh part q b _ (Passed there leaving) = Passed there (leaving_on sh.end leaving)

module _ (g : FramedGiven) (h : PlainGiven) (s : State) (t : PlainState) (r : AreRelated g h s t)
    (settled : is_entering s.top.mode ≡ false) (outcome : Outcome) where
  pub bottom_related : AreRelated g h (record (returned s) { outcome = outcome })
      (record (plain_returned t) { outcome = outcome })
  bottom_related = record {
    outcome = refl;
    globals = subst (λ (k : ℕ). length g.given.code.globals ≤ k) (sym (length_gone s.top.slots s.world.memory))
        r.globals;
    world = world_gone g h s t r None None;
    frames = frames_gone g h s t r None None;
    top = record {
      shape = r.top.shape;
      part = r.top.part;
      coded = r.top.coded;
      shaped = r.top.shaped;
      runs = r.top.runs;
      func = r.top.func;
      place = place_on (function_at g.given.code s.top.func) s.top [] r.top.shape r.top.part
          (function_at h.code t.top.func) t.top s.top.mode r.top.place;
      values = subst (λ (hs : List Home). AreValuesOf
          (function_at g.given.code s.top.func) hs s.top.values t.top.values)
          (homes_stay g h s t r None None) r.top.values;
      whole = r.top.whole;
      room = r.top.room;
      frame = r.top.frame;
      result = r.top.result;
      slots = refl;
      own = λ coroutine. tt;
    };
    below = all_beside_on g h.code s.instances s.instances (homes_of s.world.memory)
        (homes_of (returned s).world.memory) (ext g h s t r None None) (same_frames s.instances) s.top.result s.below
        t.below r.below;
    making = λ from label e. absurd (false≢true (sym settled ∙ ap is_entering e));
  }
