-- The hooks of framed runs keep it that names of slots before begin lead to them.
use Rattle.std.proofs.Common.{◌≡◌, ◌⊎◌, inl, inr, ℕ, true, List, ◌∷◌, Option, Some, None}
use Rattle.std.proofs.Common.{refl, sym, subst}
use Rattle.pass_frames_proof.specs.ir_base.declared.outcome.Outcome.{Outcome}
use Rattle.pass_frames_proof.specs.ir_base.declared.outcome.Word.{Word}
use Rattle.pass_frames_proof.specs.ir_model.Names.{function_at}
use Rattle.pass_frames_proof.specs.ir_paths.declared.point.Point.{Point}
use Rattle.pass_frames_proof.specs.flow_solver.Paths.{IsListed}
use Rattle.pass_frames_meaning.proofs.owned.Owned.{states_owned}
use Rattle.pass_frames_meaning.specs.Owned.{AreGivenApart}
use Rattle.pass_frames_meaning.specs.Executed.{IsFirstMode}
use Rattle.pass_frames_meaning.specs.Owned.{HasOnlySlot, IsOwnedState, KeepAllOwnRules, KeepsOwned}
use Rattle.pass_frames_proof.proofs.lines.Cells.{contained}
use Rattle.pass_frames_proof.specs.Temporaries.{HasLedSlots}
use Rattle.pass_frames_proof.specs.run_framed.Framed.{FramedGiven, alloca_from, enter_after, framed_slot}
use Rattle.pass_frames_proof.specs.run_framed.Framed.{framed_state_at, framed_step}
use Rattle.pass_frames_proof.specs.run_framed.Framed.{given_call, reentry_values}
use Rattle.pass_renewed_meaning.proofs.run_hooks.Keeping.{framed_keeps}
use Rattle.pass_renewed_meaning.proofs.run_hooks.LeftKeeping.{framed_keeps_last}
use Rattle.pass_renewed_meaning.proofs.run_hooks.Steps.{framed_steps, same_runs}
use Rattle.pass_renewed_meaning.specs.run_hooks.Hooks.{hooked_state_at, step_of}
use Rattle.pass_renewed_meaning.specs.run_hooks.Meanings.{framed_hooks}
use Rattle.pass_frames_proof.specs.run_source.Source.{first_state, push, resumed}
use Rattle.pass_frames_proof.specs.run_source.State.{frame_address_of, function_of, with_slots, with_status}
use Rattle.pass_frames_proof.specs.run_source.declared.state.Mode.{Mode}
use Rattle.pass_frames_proof.specs.run_source.declared.state.State.{State}
use Rattle.pass_frames_proof.specs.run_source.declared.state.Status.{Status}
use Rattle.pass_frames_proof.specs.run_step.Step.{fetch}
use Rattle.pass_frames_proof.specs.run_step.declared.world.Slot.{Slot}

-- what makes allocas again was resumed
enters_away : (g : FramedGiven) (s : State) (from label : ℕ) (o : Option Point)
    → IsFirstMode (enter_after g s from label o).top.mode → ⊥
enters_away g s from label (Some p) h = h
enters_away g s from label None h = h

framed_mode : (g : FramedGiven) (s : State) (slot : Slot) (mode : Mode)
    → IsFirstMode (framed_slot g s slot mode).top.mode → IsFirstMode s.top.mode
framed_mode g s slot (Mode.Entering from label) h =
    absurd (enters_away g (with_slots s (slot ∷ s.top.slots)) from label
    (alloca_from (function_of g.given s) s.top.at) h)
framed_mode g s slot Mode.Plain h = h
framed_mode g s slot Mode.Ramp h = h
framed_mode g s slot Mode.Resumed h = h
framed_mode g s slot (Mode.GivenRamp frame) h = h

one_more_slot : (s : State) (slot : Slot) → HasOnlySlot slot s (with_slots s (slot ∷ s.top.slots))
one_more_slot s slot = record {
  func = refl;
  block = refl;
  at = refl;
  values = refl;
  instance = refl;
  only = λ z l. either z l;
}
  where
    either : (z : Slot) → IsListed z (slot ∷ s.top.slots) → IsListed z s.top.slots ⊎ (z ≡ slot)
    either z (inl e) = inr e
    either z (inr l) = inl l

framed_only : (g : FramedGiven) (s : State) (slot : Slot) (mode : Mode) → IsFirstMode mode
    → HasOnlySlot slot s (framed_slot g s slot mode)
framed_only g s slot Mode.Plain h = one_more_slot s slot
framed_only g s slot Mode.Ramp h = one_more_slot s slot
framed_only g s slot _ h = absurd h

pub framed_keeps_owned : (g : FramedGiven)
    → ((s : State) (block at : ℕ) → given_call g s (fetch (function_of g.given s) block at) ≡ None)
    → KeepsOwned (framed_hooks g)
framed_keeps_owned g none = record {
  last = framed_keeps_last g;
  reached = framed_keeps g;
  go_on = λ s i x at vs label h.
      enters_away g
      (push (with_status s i x Status.Running) (resumed i x at
      (reentry_values (function_at g.given.code x.coroutine) (frame_address_of x)))) at.block label
      (alloca_from (function_at g.given.code x.coroutine) 0) h;
  place = λ s slot h. framed_mode g s slot s.top.mode h;
  placed = λ s slot h. framed_only g s slot s.top.mode h;
  marker = λ s i e d. absurd (cc);
  ungiven = none;
}

-- ---- runs

ramp_first : (mode : Mode) → mode ≡ Mode.Ramp → IsFirstMode mode
ramp_first mode e = subst IsFirstMode (sym e) tt

pub owned_led : (g : FramedGiven) (t : State) → t.outcome ≡ Outcome.Running
    → IsOwnedState g.given.code (λ func. true) t → HasLedSlots t
owned_led g t runs h = record {
  each = λ mode none slot there.
      (((h runs).0 refl (ramp_first t.top.mode mode) none).each slot (contained t.top.slots slot there)).leads;
}

module _ (g : FramedGiven)
    (none : (s : State) (block at : ℕ) → given_call g s (fetch (function_of g.given s) block at) ≡ None)
    (rules : KeepAllOwnRules g.given.code (λ func. true)) (entry : ℕ) (args : List Word)
    (apart : (n : ℕ) → AreGivenApart g.given.code (framed_state_at g entry args n).top.result
    (framed_state_at g entry args n).below) where
  same : (n : ℕ) → framed_state_at g entry args n ≡ hooked_state_at (framed_hooks g) entry args n
  same n = same_runs (framed_step g) (step_of (framed_hooks g)) (framed_steps g) n
      (first_state g.given.code entry args)

  pub framed_owned : (n : ℕ) → IsOwnedState g.given.code (λ func. true) (framed_state_at g entry args n)
  framed_owned n =
      subst (IsOwnedState g.given.code (λ func. true)) (sym (same n))
      (states_owned (framed_hooks g) (λ func. true) (framed_keeps_owned g none) rules entry args
      (λ k. subst (λ (s : State). AreGivenApart g.given.code s.top.result s.below) (same k) (apart k)) n)

  pub framed_led : (n : ℕ) → (framed_state_at g entry args n).outcome ≡ Outcome.Running
      → HasLedSlots (framed_state_at g entry args n)
  framed_led n runs = owned_led g (framed_state_at g entry args n) runs (framed_owned n)
