-- A given activation waits at the test for null, or is given null to free, while the first run frees the frame.
use Rattle.std.proofs.Common.{◌≡◌, ◌+◌, ℕ, Bool, List, refl, sym, ap, ◌∙◌, subst}
use Rattle.std.specs.Prelude.{Ok, Option}
use Rattle.pass_elide_proof.proofs.EdgeEntered.{function_same}
use Rattle.pass_elide_proof.proofs.FreedAlone.{at_call, deallocates, first_value, frees_alone, null_there, was}
use Rattle.pass_elide_proof.proofs.GivingNone.{front_same}
use Rattle.pass_elide_proof.proofs.Sized.{stepped}
use Rattle.pass_elide_proof.specs.Elision.{Elision, elided, elided_code, framed, function_in, function_in_elided, rooms}
use Rattle.pass_elide_proof.specs.Ending.{IsAtFree, IsAtFreeOfNull}
use Rattle.pass_elide_proof.specs.Match.{AreElided, Beside, Freeing, IsAt, sides, was_given}
use Rattle.pass_proofs.specs.ir_model.Ty.{Ty}
use Rattle.pass_proofs.specs.ir_model.declared.module.Function.{Function}
use Rattle.pass_proofs.specs.ir_model.declared.operand.Allocator.{Allocator}
use Rattle.pass_proofs.specs.ir_model.declared.operand.Arg.{Arg}
use Rattle.pass_proofs.specs.run_framed.Framed.{framed_next, framed_step}
use Rattle.pass_proofs.specs.run_laws.memory.Pointers.{Home}
use Rattle.pass_proofs.specs.run_memory.declared.pointer.Value.{Value}
use Rattle.pass_proofs.specs.run_source.Source.{deallocate}
use Rattle.pass_proofs.specs.run_source.State.{function_of, next}
use Rattle.pass_proofs.specs.run_source.declared.state.State.{State}
use Rattle.pass_proofs.specs.run_step.Step.{fetch}
use Rattle.pass_proofs.specs.run_step.Values.{address}

pub waits : (e : Elision) (s t : State) (a : Allocator) (result : Option ℕ) (must_tail : Bool) (ty : Option Ty)
    (args : List Arg) → AreElided e s t → IsAtFree e s t a result must_tail ty args
    → AreElided e (framed_step (framed e) s) t
waits e s t a result must_tail ty args r at =
    frees_alone e s t a result must_tail ty args r at.frees t.top.block t.top.at
    (λ homes. Freeing (was e s t a result must_tail ty args r at.frees) at.waits at.stays)

module _ (e : Elision) (s t : State) (a : Allocator) (result : Option ℕ) (must_tail : Bool) (ty : Option Ty)
    (args : List Arg) (r : AreElided e s t) (at : IsAtFreeOfNull e s t a result must_tail ty args) where
  abbrev f : Function
  f = function_in e s.top.func

  same_function : function_in_elided e t.top.func ≡ f
  same_function = ap (function_in_elided e) r.top.func ∙ function_same e s.top.func at.frees.none

  stands : t.top.at ≡ s.top.at
  stands = at.stands ∙ front_same (rooms e s.top.func) f at.frees.none s.top.block s.top.at

  there_too : fetch (function_of (elided e).given t) t.top.block t.top.at ≡ at_call a result must_tail ty args
  there_too = (λ i. fetch (same_function i) (at.beside i) (stands i)) ∙ at.frees.there

  goes_on : framed_next (elided e) t (at_call a result must_tail ty args) ≡ Ok (next t)
  goes_on =
      deallocates (elided e) t a result must_tail ty args at.frees.frees
      ∙ ap (λ (v : Value). deallocate t (address v))
      (first_value (elided_code e) t.top.values args at.frees.name at.frees.takes
      ∙ null_there e s t a result must_tail ty args r at.frees)

  second : framed_step (elided e) t ≡ next t
  second =
      stepped (elided e) t (next t) (at_call a result must_tail ty args) (r.outcome ∙ at.frees.runs) there_too goes_on

  place : (homes : List Home)
      → IsAt e homes (was_given (sides s t) t.top) (record s.top { block = s.top.block; at = s.top.at + 1 })
      (record t.top { block = t.top.block; at = t.top.at + 1 })
  place homes =
      Beside at.beside
      (ap (λ (n : ℕ). n + 1) stands
      ∙ sym (front_same (rooms e s.top.func) f at.frees.none s.top.block (s.top.at + 1)))

  pub goes_beside : AreElided e (framed_step (framed e) s) (framed_step (elided e) t)
  goes_beside =
      subst (λ (v : State). AreElided e (framed_step (framed e) s) v) (sym second)
      (frees_alone e s t a result must_tail ty args r at.frees t.top.block (t.top.at + 1) place)
