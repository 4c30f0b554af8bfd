-- coro.end in a ramp that hasn't begun: no instance ends, and both go on.
use Rattle.std.proofs.Common.{◌≡◌, ◌∙◌, ℕ, Bool, true, false, List, None, Ok, Option, ap, if◌then◌else◌, refl, subst, sym}
use Rattle.std.specs.Prelude.{option_and_then}
use Rattle.pass_elide_proof.proofs.EndsRamp.{both_give, goes_on, place_same, there_same}
use Rattle.pass_elide_proof.proofs.Sized.{stepped}
use Rattle.pass_elide_proof.specs.Elision.{Elision, elided, framed}
use Rattle.pass_elide_proof.specs.Ends.{IsAtEarlyEnd}
use Rattle.pass_elide_proof.specs.Match.{AreElided}
use Rattle.pass_proofs.specs.ir_model.Ty.{Ty}
use Rattle.pass_proofs.specs.ir_model.declared.instr.Instr.{Instr}
use Rattle.pass_proofs.specs.ir_model.declared.operand.Arg.{Arg}
use Rattle.pass_proofs.specs.ir_model.declared.operand.Callee.{Callee}
use Rattle.pass_proofs.specs.ir_model.declared.operand.Intrinsic.{Intrinsic}
use Rattle.pass_proofs.specs.run_framed.Framed.{disown_given, framed_finish, framed_step}
use Rattle.pass_proofs.specs.run_source.Source.{after_end, change_own, slots_of}
use Rattle.pass_proofs.specs.run_source.State.{gives, numbered, with_memory}
use Rattle.pass_proofs.specs.run_source.declared.state.Instance.{Instance}
use Rattle.pass_proofs.specs.run_source.declared.state.Mode.{Mode}
use Rattle.pass_proofs.specs.run_source.declared.state.State.{State}
use Rattle.pass_proofs.specs.run_source.declared.state.Status.{Status}
use Rattle.pass_proofs.specs.run_step.Step.{AtInstr, Fetched, without_slots}
use Rattle.pass_proofs.specs.run_step.Values.{truth_value}

abbrev finished_by : State → Option (ℕ × Instance) → State
finished_by s o =
    disown_given (with_memory (change_own s (λ x. record x { status = Status.Finished }) o)
    (without_slots s.world.memory (slots_of o))) o

-- without an instance nothing ends
none_ends : (s : State) → s.top.instance ≡ None → framed_finish s ≡ s
none_ends s alone = ap (λ (o : Option ℕ). finished_by s (option_and_then (numbered s.instances) o)) alone

either : (s : State) → s.top.instance ≡ None → (b : Bool) → (if b then s else framed_finish s) ≡ s
either s alone true = refl
either s alone false = none_ends s alone

module _ (e : Elision) (s t : State) (result : Option ℕ) (must_tail : Bool) (ty : Option Ty) (args : List Arg)
    (r : AreElided e s t) (at : IsAtEarlyEnd e s t result must_tail ty args) where
  abbrev call : Fetched
  call = AtInstr (Instr.Call result must_tail ty (Callee.Intrinsic Intrinsic.CoroEnd) args)

  first : framed_step (framed e) s ≡ gives s result (truth_value false)
  first =
      stepped (framed e) s (gives s result (truth_value false)) call at.runs at.there
      (ap (after_end (if s.top.has_left then s else framed_finish s) result) at.ramp
      ∙ ap (λ (v : State). Ok (gives v result (truth_value false))) (either s at.alone s.top.has_left))

  second : framed_step (elided e) t ≡ gives t result (truth_value false)
  second =
      stepped (elided e) t (gives t result (truth_value false)) call (r.outcome ∙ at.runs)
      (there_same e s t r at.none at.beside at.stands call at.there)
      (goes_on s.top.mode t.top.mode r.top.mode at.ramp (if t.top.has_left then t else framed_finish t) result
      ∙ ap (λ (v : State). Ok (gives v result (truth_value false)))
      (either t (r.top.instance ∙ at.alone) t.top.has_left))

  pub early_end : AreElided e (framed_step (framed e) s) (framed_step (elided e) t)
  early_end =
      subst (λ (v : State × State). AreElided e v.0 v.1) (λ i. (sym first i, sym second i))
      (both_give e s t r at.none at.beside (place_same e s t r at.none at.beside at.stands) result at.answers
      at.holds at.kept false)
