-- A resumed activation returns at its end, in both runs.
use Rattle.std.proofs.Common.{◌≡◌, ℕ, ◌+◌, ◌≤◌, Bool, true, false, List, [], ◌∷◌, Option, None, refl, sym, ap, ◌∙◌, subst, arith, if◌then◌else◌}
use Rattle.pass_proofs.specs.ir_base.declared.outcome.Outcome.{Outcome}
use Rattle.pass_proofs.specs.ir_model.Ty.{Ty}
use Rattle.pass_proofs.specs.ir_model.declared.instr.Instr.{Instr}
use Rattle.pass_proofs.specs.ir_model.declared.instr.Terminator.{Terminator}
use Rattle.pass_proofs.specs.ir_model.declared.operand.Arg.{Arg}
use Rattle.pass_proofs.specs.ir_model.declared.operand.Callee.{Callee}
use Rattle.pass_proofs.specs.ir_model.declared.operand.Intrinsic.{Intrinsic}
use Rattle.pass_proofs.specs.pass_intrinsics.Shapes.{is_end}
use Rattle.pass_split_proof.proofs.simulation.Knowing.{back_knows, over_knows}
use Rattle.pass_split_proof.proofs.steps.Calls.{ext, returns_related}
use Rattle.pass_split_proof.proofs.steps.Followed.{framed_does, one_followed}
use Rattle.pass_split_proof.proofs.steps.Settled.{plain_does}
use Rattle.pass_split_proof.proofs.transfers.Bottom.{bottom_related}
use Rattle.pass_split_proof.proofs.transfers.Ended.{Ended, changed_to, ended}
use Rattle.pass_split_proof.specs.simulation.Followed.{IsFollowed}
use Rattle.pass_split_proof.specs.states.Activations.{AreAllWaiting, is_entering}
use Rattle.pass_split_proof.specs.states.Memories.{homes_of}
use Rattle.pass_split_proof.specs.states.Related.{AreRelated, credit_of, left_of_call, left_of_calls}
use Rattle.pass_split_proof.specs.transfers.Passing.{IsAtEnd}
use Rattle.pass_proofs.specs.run_framed.Framed.{FramedGiven, framed_finish, framed_step}
use Rattle.run_access_worked.specs.run_plain.Plain.{PlainGiven, plain_or_undefined, plain_pop, plain_returned, plain_step}
use Rattle.run_access_worked.specs.run_plain.declared.state.PlainActivation.{PlainActivation}
use Rattle.run_access_worked.specs.run_plain.declared.state.PlainState.{PlainState}
use Rattle.pass_proofs.specs.run_source.Source.{after_end, pop, returned}
use Rattle.pass_proofs.specs.run_source.State.{or_undefined}
use Rattle.pass_proofs.specs.run_source.declared.state.Activation.{Activation}
use Rattle.pass_proofs.specs.run_source.declared.state.Mode.{Mode}
use Rattle.pass_proofs.specs.run_source.declared.state.State.{State}
use Rattle.pass_proofs.specs.run_step.Step.{AtInstr, AtTerm, Coro, Return}

-- the end is a call
record IsEndCall (i : Instr) : Type 0 where
  result : Option ℕ
  must_tail : Bool
  ty : Option Ty
  args : List Arg
  is : i ≡ Instr.Call result must_tail ty (Callee.Intrinsic Intrinsic.CoroEnd) args

end_call : (i : Instr) → is_end i ≡ true → IsEndCall i
end_call (Instr.Call result must_tail ty (Callee.Intrinsic Intrinsic.CoroEnd) args) e
    = record { result = result; must_tail = must_tail; ty = ty; args = args; is = refl }
end_call _ e = absurd (cc)

module _ (g : FramedGiven) (h : PlainGiven) (s : State) (t : PlainState) (r : AreRelated g h s t)
    (k : IsAtEnd g h s t) where
  call : IsEndCall k.end
  call = end_call k.end k.ends

  settled : is_entering s.top.mode ≡ false
  settled = ap is_entering k.mode

  finish : Ended g h s t r settled (if s.top.has_left then s else framed_finish s)
  finish = ended g h s t r settled s.top.has_left

  abbrev u : State
  u = changed_to s finish.instances finish.memory

  does : framed_step g s ≡ or_undefined g.given s (pop (returned u) None s.below)
  does = framed_does g s (AtInstr (Instr.Call call.result call.must_tail call.ty (Callee.Intrinsic Intrinsic.CoroEnd)
      call.args)) (Coro Intrinsic.CoroEnd call.args call.result) k.running (k.there ∙ ap AtInstr call.is) refl refl
      ∙ ap (λ (v : State). or_undefined g.given s (after_end v call.result s.top.mode)) finish.is
      ∙ ap (λ (mode : Mode). or_undefined g.given s (after_end u call.result mode)) k.mode

  part_does : plain_step h t ≡ plain_or_undefined h t (plain_pop (plain_returned t) None t.below)
  part_does = plain_does h t (AtTerm (Terminator.Ret None)) (Return None) (r.outcome ∙ k.running) k.returns refl

  same : (n : ℕ) → n ≤ n
  same n = omega arith

  -- back in the activation below, or over
  by_below : (below : List Activation) (others : List PlainActivation) → s.below ≡ below → t.below ≡ others
      → AreAllWaiting g h.code u.instances (homes_of u.world.memory) s.top.result below others → IsFollowed g h s t
  by_below [] [] e f waiting = one_followed g h s t r k.running
      (record (returned u) { outcome = Outcome.Returned None })
      (record (plain_returned t) { outcome = Outcome.Returned None })
      (does ∙ ap (λ (b : List Activation). or_undefined g.given s (pop (returned u) None b)) e)
      (part_does ∙ ap (λ (b : List PlainActivation). plain_or_undefined h t (plain_pop (plain_returned t) None b)) f)
      (same (credit_of s)) (bottom_related g h u t finish.related settled (Outcome.Returned None))
      (λ know. over_knows g u t (ext g h u t finish.related None None) (Outcome.Returned None) (Outcome.Returned None)
      (finish.knows know))
  by_below [] (b ∷ bs) e f waiting = absurd waiting
  by_below (a ∷ rest) [] e f waiting = absurd waiting
  by_below (a ∷ rest) (b ∷ bs) e f waiting = one_followed g h s t r k.running _ _
      (does ∙ ap (λ (c : List Activation). or_undefined g.given s (pop (returned u) None c)) e)
      (part_does ∙ ap (λ (c : List PlainActivation). plain_or_undefined h t (plain_pop (plain_returned t) None c)) f)
      (subst (λ (c : List Activation). left_of_calls (a ∷ rest) ≤ left_of_calls (s.top ∷ c)) (sym e)
      (more (left_of_call s.top) (left_of_calls (a ∷ rest))))
      (returns_related g h u t finish.related None None a b waiting.0 tt rest bs waiting.1)
      (λ know. back_knows g u t (ext g h u t finish.related None None) None None a rest b bs e f
      finish.related.top.result (finish.knows know))
    where
      more : (x n : ℕ) → n ≤ x + n
      more x n = omega arith

  pub ends_followed : IsFollowed g h s t
  ends_followed = by_below s.below t.below refl refl finish.related.below
