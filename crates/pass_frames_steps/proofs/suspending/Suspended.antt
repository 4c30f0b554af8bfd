-- A suspend is followed: it gives -1 in both runs.
use Rattle.std.proofs.Common.{◌≡◌, ◌+◌, ◌-◌, ◌≤◌, ◌∷◌, ◌∙◌, [], if◌then◌else◌, Bool, Some, ap, arith, negsuc, refl, subst, sym, ℕ}
use Rattle.pass_frames_code.specs.ir_model.Names.{function_at}
use Rattle.pass_frames_code.specs.ir_model.declared.instr.Instr.{Instr}
use Rattle.pass_frames_code.specs.ir_model.declared.module.Function.{Function}
use Rattle.pass_frames_code.specs.ir_model.declared.operand.Intrinsic.{Intrinsic}
use Rattle.pass_frames_code.specs.ir_model.declared.operand.Operand.{Operand}
use Rattle.pass_frames_code.specs.ir_paths.declared.point.Point.{Point}
use Rattle.pass_frames_code.proofs.lined.Lines.{framed_does}
use Rattle.pass_frames_steps.proofs.saving.Becoming.{bare_becomes}
use Rattle.pass_frames_code.proofs.stepping.Codes.{code_stands, instr_there}
use Rattle.pass_frames_code.proofs.stepping.Other.{one_followed}
use Rattle.pass_frames_code.proofs.stepping.Stands.{cost_is, renewed_does, top_is}
use Rattle.pass_frames_steps.proofs.suspending.Given.{given_related}
use Rattle.pass_frames_code.specs.Followed.{IsFollowed}
use Rattle.pass_frames_code.specs.Framings.{IsFraming}
use Rattle.pass_frames_code.specs.Meaning.{action_at, coroutine_cost, other_cost, step_cost}
use Rattle.pass_frames_code.specs.Places.{Framing, edged, framed, place}
use Rattle.pass_frames_code.specs.Related.{AreBuiltOf, Building, point_of}
use Rattle.pass_frames_code.specs.Stepping.{AreGiven, StandsInPlace}
use Rattle.pass_frames_code.specs.Suspending.{IsAtSuspend, suspend_call}
use Rattle.pass_frames_code.specs.pass_renewed_proof.Renewed.{RenewedGiven, renewed_step}
use Rattle.pass_frames_code.specs.run_framed.Framed.{framed_step}
use Rattle.pass_frames_code.specs.run_memory.declared.pointer.Value.{Value}
use Rattle.pass_frames_code.specs.run_source.Source.{context_of}
use Rattle.pass_frames_code.specs.run_source.State.{function_of, work_of}
use Rattle.pass_frames_code.specs.run_source.declared.state.Activation.{Activation}
use Rattle.pass_frames_code.specs.run_source.declared.state.State.{State}
use Rattle.pass_frames_code.specs.run_step.Step.{AtInstr, Coro, Fetched, action_of, fetch}
use Rattle.pass_frames_code.specs.run_step.Values.{integer, with_value}

module _ (b : Building) (g : RenewedGiven) (given : AreGiven b g) (s t : State) (r : AreBuiltOf b s t)
    (h : IsAtSuspend b s) where
  abbrev x : Framing
  x = b.framing s.top.func

  is : IsFraming x
  is = given.framings s.top.func h.coroutine

  abbrev k : ℕ
  k = s.top.block

  abbrev i : Instr
  i = suspend_call h.result h.must_tail h.ty h.token_ty h.token h.args

  abbrev here : Point
  here = record { block = k; at = s.top.at }

  stands : StandsInPlace x k s.top.at (i ∷ [])
  stands =
      code_stands x k s.top.at i (i ∷ []) h.there (bare_becomes x is k s.top.at i h.there h.bare)
      (refl, tt) h.unreturned

  at_place : point_of t.top ≡ place x here
  at_place = r.top.place ∙ top_is b s.top h.coroutine h.mode

  block_is : t.top.block ≡ k
  block_is = ap (λ (p : Point). p.block) at_place

  at_is : t.top.at ≡ (place x here).at
  at_is = ap (λ (p : Point). p.at) at_place

  edged_is : function_of g.given s ≡ edged x
  edged_is = given.coroutines s.top.func h.coroutine

  framed_is : function_of b.given.given t ≡ framed x
  framed_is =
      (λ j. function_at (given.code j) (r.top.func j)) ∙ (given.built.coroutines s.top.func h.coroutine).is

  abbrev v : Value
  v = integer 8 (negsuc 0)

  fetched : fetch (function_of g.given s) k s.top.at ≡ AtInstr i
  fetched = ap (λ (f : Function). fetch f k s.top.at) edged_is ∙ instr_there (edged x) k s.top.at i h.there

  abbrev a' : Activation
  a' = record s.top { at = s.top.at + 1; values = with_value s.top.values h.result v }

  abbrev c' : Activation
  c' = record t.top { at = t.top.at + 1; values = with_value t.top.values h.result v }

  source_is : renewed_step g s ≡ record s { top = a' }
  source_is =
      renewed_does g s (AtInstr i)
      (Coro Intrinsic.CoroSuspend (record { ty = h.token_ty; value = Operand.Local h.token } ∷ h.args) (Some h.result))
      h.runs fetched refl refl

  target_is : framed_step b.given t ≡ record t { top = c' }
  target_is =
      framed_does b.given t (AtInstr i)
      (Coro Intrinsic.CoroSuspend (record { ty = h.token_ty; value = Operand.Local h.token } ∷ h.args) (Some h.result))
      (r.outcome ∙ h.runs) ((λ j. fetch (framed_is j) (block_is j) (at_is j)) ∙ stands.0.0) refl refl

  place_is : t.top.at + 1 ≡ (place x (record { block = k; at = s.top.at + 1 })).at
  place_is = ap (λ (q : ℕ). q + 1) at_is ∙ sym stands.1

  related : AreBuiltOf b (record s { top = a' }) (record t { top = c' })
  related =
      given_related b s t r given.framings h.coroutine h.mode h.unreturned h.room h.allocas h.result h.loose v v refl
      (t.top.at + 1) place_is

  cost : step_cost b g s s.top.mode ≡ 1
  cost =
      cost_is b g s s.top.mode h.mode
      ∙ ap (λ (q : Bool). if q then coroutine_cost b g s (action_at g s) else other_cost b g s (action_at g s))
      h.coroutine
      ∙ ap (λ (f : Fetched). coroutine_cost b g s (action_of (context_of g.given s) (work_of s) f)) fetched
      ∙ ap (λ (q : ℕ). q - (place x here).at) stands.1
      ∙ behind (place x here).at
    where
      behind : (q : ℕ) → (q + 1) - q ≡ 1
      behind q = omega arith

  pub suspend_followed : IsFollowed b g s t
  suspend_followed =
      one_followed b g s t (subst (λ (q : ℕ). 1 ≤ q) (sym cost) (omega arith))
      (subst (λ (q : State × State). AreBuiltOf b q.0 q.1) (λ j. (sym source_is j, sym target_is j)) related)
