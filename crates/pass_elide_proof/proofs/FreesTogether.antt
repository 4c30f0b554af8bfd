-- A deallocator's call that frees the same block in both runs, or null.
use Rattle.std.proofs.Common.{◌≡◌, ◌+◌, ℕ, Bool, List, [], ◌∷◌, true, Ok, Result, refl, sym, ap, ◌∙◌, subst, ◌==◌}
use Rattle.std.specs.Prelude.{None, Option, Some}
use Rattle.pass_elide.specs.declared.given.GivenFrame.{GivenFrame}
use Rattle.pass_elide_proof.proofs.Deallocates.{kills}
use Rattle.pass_elide_proof.proofs.EdgeEntered.{code_of, same_operand}
use Rattle.pass_elide_proof.proofs.EdgeValues.{operand_stands}
use Rattle.pass_elide_proof.proofs.FreedAlone.{at_call, deallocates}
use Rattle.pass_elide_proof.proofs.FreesBeside.{first_stands, frees_both, start, started}
use Rattle.pass_elide_proof.proofs.GoesOn.{StandsReady, both_go, instr_there}
use Rattle.pass_elide_proof.proofs.Sized.{stepped}
use Rattle.pass_elide_proof.specs.Both.{standing_at}
use Rattle.pass_elide_proof.specs.Elision.{Elision, elided, elided_code, framed, function_in, function_in_elided, rooms}
use Rattle.pass_elide_proof.specs.Ending.{IsAtFreeBeside}
use Rattle.pass_elide_proof.specs.Match.{AreElided}
use Rattle.pass_elide_proof.specs.Places.{elided_instr, name_at}
use Rattle.pass_proofs.proofs.ir_laws.facts.Truth.{equal_numbers}
use Rattle.pass_proofs.specs.ir_base.declared.cause.Cause.{Cause}
use Rattle.pass_proofs.specs.ir_model.Ty.{Ty}
use Rattle.pass_proofs.specs.ir_model.declared.instr.Instr.{Instr}
use Rattle.pass_proofs.specs.ir_model.declared.operand.Allocator.{Allocator}
use Rattle.pass_proofs.specs.ir_model.declared.operand.Arg.{Arg}
use Rattle.pass_proofs.specs.ir_model.declared.operand.Callee.{Callee}
use Rattle.pass_proofs.specs.ir_paths.Windows.{operand_at}
use Rattle.pass_proofs.specs.run_framed.Framed.{framed_step}
use Rattle.pass_proofs.specs.run_laws.memory.Pointers.{Home, IsValue, home_of}
use Rattle.pass_proofs.specs.run_memory.Pointers.{moved}
use Rattle.pass_proofs.specs.run_memory.declared.pointer.Offset.{Offset}
use Rattle.pass_proofs.specs.run_memory.declared.pointer.Pointer.{Pointer}
use Rattle.pass_proofs.specs.run_memory.declared.pointer.Value.{Value}
use Rattle.pass_proofs.specs.run_source.Source.{deallocate, if_let_go}
use Rattle.pass_proofs.specs.run_source.State.{function_of, instance_at, next}
use Rattle.pass_proofs.specs.run_source.declared.state.State.{State}
use Rattle.pass_proofs.specs.run_step.Step.{AtInstr, fetch}
use Rattle.pass_proofs.specs.run_step.Values.{address, arg_values, nth, operand_value}

address_over : (homes : List Home) (v w : Value) → IsValue homes v w → IsValue homes (address v) (address w)
address_over homes Value.Poison w h = tt
address_over homes (Value.Int x) w h = tt
address_over homes (Value.Ptr p) w h = (h.0, ap address h.1)

abbrev given_state : State → Result State Cause
given_state v = Ok v

same_given : (v w : State) → given_state v ≡ given_state w → v ≡ w
same_given v w e = cc

module _ (e : Elision) (s t : State) (a : Allocator) (result : Option ℕ) (must_tail : Bool) (ty : Option Ty)
    (args : List Arg) (front : ℕ) (r : AreElided e s (standing_at t front)) (at : IsAtFreeBeside e s t a result must_tail ty args) where
  abbrev f : ℕ
  f = s.top.func

  abbrev call : Instr
  call = Instr.Call result must_tail ty (Callee.Allocator a) args

  abbrev p : Value
  p = address (nth (arg_values e.code s.top.values args) 0)

  abbrev q : Value
  q = address (nth (arg_values (elided_code e) t.top.values args) 0)

  stands : IsValue r.homes p q
  stands =
      address_over r.homes (nth (arg_values e.code s.top.values args) 0)
      (nth (arg_values (elided_code e) t.top.values args) 0)
      (first_stands r.homes e.code (elided_code e) s.top.values t.top.values args
      (λ k. subst (λ (v : Value). IsValue r.homes (operand_value e.code s.top.values k (operand_at args 0)) v)
      (sym (same_operand e t.top.values k (operand_at args 0)))
      (operand_stands e s (standing_at t front) r (operand_at args 0) at.alike k)))

  ready : StandsReady e s.top t.top
  ready = record { beside = at.beside; stands = at.stands; made = at.made; holds = at.holds }

  abbrev FreesToo : Value → Type 0
  FreesToo u = (v : State) × (deallocate t u ≡ Ok v) × AreElided e at.after v

  at_block : (b : ℕ) (o : Offset) (u : Value) → IsValue r.homes (Value.Ptr (Pointer.At b o)) u
      → p ≡ Value.Ptr (Pointer.At b o) → deallocate s (Value.Ptr (Pointer.At b o)) ≡ Ok at.after → FreesToo u
  at_block b o u h is goes =
      let k = kills (if_let_go s (instance_at s.instances (Value.Ptr (Pointer.At b o)))) b o at.after goes in
      let zero_bits : o.bits ≡ 0 = equal_numbers o.bits 0 k.start in
      let begins : o ≡ start = λ i. record { bits = zero_bits i } in
      let f = frees_both e s t front r ready at.starts b h.0 (at.own b o is) at.after
      (ap (λ (x : Offset). deallocate s (Value.Ptr (Pointer.At b x))) (sym begins) ∙ goes) in (
        f.0,
        ap (deallocate t) h.1
            ∙ (ap (λ (x : Offset). deallocate t (Value.Ptr (Pointer.At (home_of r.homes b).block
            (moved x (home_of r.homes b).offset)))) begins ∙ f.1),
        f.2,
      )

  by_value : (v u : Value) → IsValue r.homes v u → p ≡ v → deallocate s v ≡ Ok at.after → FreesToo u
  by_value Value.Poison u h is goes = absurd (cc)
  by_value (Value.Int x) u h is goes = absurd (cc)
  by_value (Value.Ptr Pointer.Null) u h is goes = (
    next t,
    ap (deallocate t) h.1,
    subst (λ (v : State). AreElided e v (next t)) (same_given (next s) at.after goes) (both_go e s t front r ready),
  )
  by_value (Value.Ptr (Pointer.Func k)) u h is goes = absurd (cc)
  by_value (Value.Ptr (Pointer.At b o)) u h is goes = at_block b o u h is goes

  frees_too : FreesToo q
  frees_too = by_value p q stands refl at.goes

  there_too : fetch (function_of (elided e).given t) t.top.block t.top.at ≡ AtInstr call
  there_too =
      (λ i. fetch (function_in_elided e (r.top.func i)) (at.beside i) (at.stands i))
      ∙ ((code_of e f).instr s.top.block s.top.at call
      (instr_there (function_in e f) s.top.block s.top.at call at.there)
      ∙ ap (λ (o : Option GivenFrame). AtInstr (elided_instr (name_at (rooms e f) (function_in e f) s.top.block
      s.top.at) o call)) at.room)

  first : framed_step (framed e) s ≡ at.after
  first =
      stepped (framed e) s at.after (AtInstr call) at.runs at.there
      (deallocates (framed e) s a result must_tail ty args at.frees ∙ at.goes)

  second : framed_step (elided e) t ≡ frees_too.0
  second =
      stepped (elided e) t frees_too.0 (AtInstr call) (r.outcome ∙ at.runs) there_too
      (deallocates (elided e) t a result must_tail ty args at.frees ∙ frees_too.1)

  pub frees_together : AreElided e (framed_step (framed e) s) (framed_step (elided e) t)
  frees_together =
      subst (λ (v : State × State). AreElided e v.0 v.1) (λ i. (sym first i, sym second i)) frees_too.2
