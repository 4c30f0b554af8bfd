-- Returns to an activation below are followed.
use Rattle.std.proofs.Common.{◌≡◌, ℕ, ◌+◌, ◌<◌, Bool, false, List, refl, ap, ◌∙◌, arith}
use Rattle.std.specs.Prelude.{None, Option, Some, if◌then◌else◌}
use Rattle.pass_frames_steps.specs.ir_base.declared.outcome.Outcome.{Outcome}
use Rattle.pass_frames_steps.specs.ir_model.declared.instr.Terminator.{Terminator}
use Rattle.pass_frames_steps.specs.ir_model.declared.operand.Arg.{Arg}
use Rattle.pass_frames_steps.proofs.followed.Assembly.{shown_alike}
use Rattle.pass_frames_steps.proofs.lined.Lines.{framed_does}
use Rattle.pass_frames_proof.proofs.returning.Back.{GoesBack, goes_back}
use Rattle.pass_frames_steps.proofs.stepping.Onward.{onward_followed}
use Rattle.pass_frames_steps.proofs.stepping.Other.{fetched_there, operand_stands}
use Rattle.pass_frames_steps.proofs.stepping.Stands.{cost_is, renewed_does}
use Rattle.pass_frames_steps.specs.Followed.{IsFollowed}
use Rattle.pass_frames_steps.specs.Meaning.{action_at, coroutine_cost, other_cost, step_cost}
use Rattle.pass_frames_steps.specs.Related.{AreBuiltOf, Building, is_coroutine}
use Rattle.pass_frames_steps.specs.Returning.{IsAtReturn, OwnsSlots, given_value, value_of}
use Rattle.pass_frames_steps.specs.Stepping.{AreGiven}
use Rattle.pass_frames_steps.specs.pass_renewed_proof.Renewed.{RenewedGiven, renewed_step}
use Rattle.pass_frames_steps.specs.run_framed.Framed.{framed_context, framed_step}
use Rattle.pass_frames_steps.specs.run_laws.memory.Pointers.{IsValue}
use Rattle.pass_frames_steps.specs.run_memory.declared.pointer.Value.{Value}
use Rattle.pass_frames_steps.specs.run_source.Source.{context_of}
use Rattle.pass_frames_steps.specs.run_source.State.{or_undefined, work_of}
use Rattle.pass_frames_steps.specs.run_source.declared.state.Activation.{Activation}
use Rattle.pass_frames_steps.specs.run_source.declared.state.State.{State}
use Rattle.pass_frames_steps.specs.run_step.Step.{AtTerm, Context, Return, Work, action_of, term_action}

-- what a return does
pub returns_value : (c : Context) (y : Work) (arg : Option Arg)
    → term_action c y (Terminator.Ret arg) ≡ Return (value_of c.code y.values arg)
returns_value c y None = refl
returns_value c y (Some a) = refl

-- ---- of a function that is no coroutine

module _ (b : Building) (g : RenewedGiven) (given : AreGiven b g) (s t : State) (r : AreBuiltOf b s t)
    (arg : Option Arg) (a : Activation) (more : List Activation) (h : IsAtReturn b g s arg a more)
    (plain : is_coroutine b s.top.func ≡ false) (owns : OwnsSlots b s t r) where
  abbrev c : Context
  c = context_of g.given s

  abbrev d : Context
  d = framed_context b.given t

  abbrev v : Option Value
  v = value_of c.code s.top.values arg

  abbrev x : Option Value
  x = value_of d.code t.top.values arg

  running : t.outcome ≡ Outcome.Running
  running = r.outcome ∙ h.runs

  stand : (q : Option Arg)
      → IsValue r.homes (given_value c.code s.top.values q) (given_value d.code t.top.values q)
  stand None = tt
  stand (Some q) = operand_stands b g given s t r plain h.runs h.mode q.value q.ty

  back : GoesBack b s t v x
  back = goes_back b g given s t r running owns a more h.below v x (stand arg) h.goes

  source : renewed_step g s ≡ back.ends.source
  source =
      renewed_does g s (AtTerm (Terminator.Ret arg)) (Return v) h.runs h.there refl (returns_value c (work_of s) arg)
      ∙ ap (or_undefined g.given s) back.source_is

  next : framed_step b.given t ≡ back.ends.target
  next =
      framed_does b.given t (AtTerm (Terminator.Ret arg)) (Return x) running
      (fetched_there b g given s t r plain h.runs h.mode (AtTerm (Terminator.Ret arg)) h.there) refl
      (returns_value d (work_of t) arg)
      ∙ ap (or_undefined b.given.given t) (back.target_is t.top.at t.top.values t.world refl)

  cost : step_cost b g s s.top.mode ≡ 0 + 1 + back.ends.steps
  cost =
      cost_is b g s s.top.mode h.mode
      ∙ ap (λ (k : Bool). if k then coroutine_cost b g s (action_at g s) else other_cost b g s (action_at g s)) plain
      ∙ ap (other_cost b g s) (ap (action_of c (work_of s)) h.there ∙ returns_value c (work_of s) arg)
      ∙ ap (λ (k : ℕ). 1 + k) back.cost

  pub other_return_followed : IsFollowed b g s t
  other_return_followed =
      onward_followed b g s t back.ends 0 t refl (λ i lt. absurd (none i lt))
      (record { running = running; shown = shown_alike b s t r }) next source cost
    where
      none : (i : ℕ) → i < 0 → ⊥
      none i lt = omega arith
