-- Calls of functions that are no coroutines are followed.
use Rattle.std.proofs.Common.{◌≡◌, ℕ, ◌+◌, ◌<◌, Bool, true, false, List, length, refl, sym, ap, ◌∙◌, subst, arith}
use Rattle.std.specs.Prelude.{Option, if◌then◌else◌}
use Rattle.pass_frames_steps.specs.ir_model.Names.{function_at}
use Rattle.pass_frames_steps.specs.ir_model.declared.instr.Instr.{Instr}
use Rattle.pass_frames_steps.specs.ir_model.declared.module.Function.{Function}
use Rattle.pass_frames_steps.specs.ir_model.declared.module.Module.{Module}
use Rattle.pass_frames_proof.proofs.calling.Callers.{Enters, coroutine_enters, other_enters}
use Rattle.pass_frames_proof.proofs.calling.Push.{pushed, t'}
use Rattle.pass_frames_steps.proofs.stepping.Called.{entry_standing}
use Rattle.pass_frames_steps.proofs.stepping.Onward.{EndsUp, onward_followed}
use Rattle.pass_frames_steps.proofs.stepping.Other.{AreStanding, values_other}
use Rattle.pass_frames_steps.specs.Calling.{HasBlocks, IsAtCall, IsAtPlainCall}
use Rattle.pass_frames_steps.specs.Followed.{IsFollowed}
use Rattle.pass_frames_steps.specs.Costs.{call_cost}
use Rattle.pass_frames_steps.specs.Related.{AreActivations, AreBuiltOf, Building, all_slots, is_coroutine, place_by, point_of, top_place}
use Rattle.pass_frames_steps.specs.Returning.{IsAmong}
use Rattle.pass_frames_steps.specs.Stepping.{AreGiven}
use Rattle.pass_frames_steps.specs.pass_renewed_proof.Renewed.{RenewedGiven}
use Rattle.pass_frames_steps.specs.run_framed.Framed.{frame_rights}
use Rattle.pass_frames_steps.specs.run_memory.declared.block.MemoryBlock.{MemoryBlock}
use Rattle.pass_frames_steps.specs.run_memory.declared.pointer.Value.{Value}
use Rattle.pass_frames_steps.specs.run_source.Source.{called, enter, mode_of}
use Rattle.pass_frames_steps.specs.run_source.declared.state.Activation.{Activation}
use Rattle.pass_frames_steps.specs.run_source.declared.state.State.{State}
use Rattle.pass_frames_steps.specs.run_step.Step.{entry_values}

module _ (b : Building) (g : RenewedGiven) (given : AreGiven b g) (s t : State) (func : ℕ) (args : List Value)
    (result : Option ℕ) (enters : Enters b g s t func args result) (plain : is_coroutine b func ≡ false)
    (slots_there : (n : ℕ) → IsAmong n (all_slots t) → n < length t.world.memory) where
  abbrev q : State
  q = enters.state

  abbrev r : AreBuiltOf b s q
  r = enters.related

  callee_is : function_at b.given.given.code func ≡ function_at g.given.code func
  callee_is =
      ap (λ (m : Module). function_at m func) given.code ∙ given.built.others func plain
      ∙ sym (given.others func plain)

  abbrev new_s : Activation
  new_s = called g.given.code func args result (mode_of (function_at g.given.code func))

  abbrev new_t : Activation
  new_t = called b.given.given.code func enters.others result (mode_of (function_at b.given.given.code func))

  there : (n : ℕ) → IsAmong n (all_slots q) → n < length q.world.memory
  there n l =
      subst (λ (m : List MemoryBlock). n < length m) (sym enters.memory)
      (slots_there n (subst (IsAmong n) enters.slots l))

  abbrev t2 : State
  t2 = t' b s q r given.framings there q.world (λ e lt. refl) enters.calm new_t

  standing : AreStanding r.homes new_s.values new_t.values
  standing =
      subst (λ (f : Function). AreStanding r.homes new_s.values (entry_values f enters.others)) (sym callee_is)
      (entry_standing r.homes (function_at g.given.code func) args enters.others enters.values)

  top_new : AreActivations b r.homes r.hides t2 (top_place b) new_s new_t
  top_new = record {
    func = refl;
    place = sym (ap (λ (k : Bool). if k then place_by (b.framing func) new_s new_s.mode else point_of new_s) plain);
    result = refl;
    mode = ap mode_of callee_is;
    instance = refl;
    has_left = refl;
    values = values_other b r.homes (frame_rights b.given q.instances) t2 new_s new_t (is_coroutine b func) plain
        (record { each = standing.each; room = standing.room });
    slots = λ slot e. absurd (omega (arith, e.1));
  }

  no_coroutine : is_coroutine b func ≡ true → ⊥
  no_coroutine is = let no : true ≡ false = sym is ∙ plain in absurd (cc)

  related : AreBuiltOf b (enter g.given s func args result) t2
  related =
      pushed b s q r given.framings there q.world (λ e lt. refl) enters.calm new_t r.world new_s top_new r.once
      (λ is slot e name. absurd (no_coroutine is)) (λ is first zero. absurd (no_coroutine is))

  ends : EndsUp b
  ends = record {
    source = enter g.given s func args result;
    target = t2;
    steps = 0;
    shown = λ i lt. absurd (none i lt);
    related = related;
  }
    where
      none : (i : ℕ) → i < 0 → ⊥
      none i lt = omega arith

  pub plain_call_followed : IsFollowed b g s t
  unfolding ends
  plain_call_followed =
      onward_followed b g s t ends enters.n enters.last enters.leads enters.line_shown enters.last_shown enters.next
      enters.source
      (enters.cost ∙ ap (λ (k : Bool). enters.n + 1 + (if k then call_cost (b.framing func) else 0)) plain)

-- of a coroutine, or of a function that is none
pub calls_followed : (b : Building) (g : RenewedGiven) → AreGiven b g → (s t : State) → AreBuiltOf b s t → (i : Instr)
    (func : ℕ) (args : List Value) (result : Option ℕ) (must_tail : Bool)
    → IsAtCall b g s i func args result must_tail → is_coroutine b func ≡ false → HasBlocks t → IsFollowed b g s t
calls_followed b g given s t r i func args result must_tail h plain there =
    plain_call_followed b g given s t func args result
    (coroutine_enters b g given s t r i func args result must_tail h) plain there

pub other_calls_followed : (b : Building) (g : RenewedGiven) → AreGiven b g → (s t : State) → AreBuiltOf b s t
    → (i : Instr) (func : ℕ) (args : List Value) (result : Option ℕ) (must_tail : Bool)
    → IsAtPlainCall b g s i func args result must_tail → is_coroutine b func ≡ false → HasBlocks t
    → IsFollowed b g s t
other_calls_followed b g given s t r i func args result must_tail h plain there =
    plain_call_followed b g given s t func args result
    (other_enters b g given s t r i func args result must_tail h) plain there
