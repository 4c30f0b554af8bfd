-- Both runs come to a block over blocks of their own.
use Rattle.std.proofs.Common.{◌≡◌, ℕ, Bool, true, false, List, [], ◌∷◌, length, refl, sym, ap, ◌∙◌, subst, arith}
use Rattle.pass_elide_proof.proofs.EdgeValues.{asked_kept, operand_stands, released_kept}
use Rattle.pass_elide_proof.proofs.EdgeEntered.{end_at, entered, enters, function_same}
use Rattle.pass_elide_proof.proofs.EdgeBare.{bare_made}
use Rattle.pass_elide_proof.proofs.PhiValues.{StandsBut, all_long, answers_apart, each_as, held_on, phis_but, phis_elsewhere}
use Rattle.pass_elide_proof.proofs.TopMoved.{SameHeld, moved}
use Rattle.pass_elide_proof.specs.Edges.{IsAtMeeting, IsEntering, IsNoAnswer, MadeAlike, MeetsAlike, SameOperand, TakesAlike, label_from, phis_at}
use Rattle.pass_elide_proof.specs.Elision.{Elision, differs_in, elided, framed, function_in, function_in_elided}
use Rattle.pass_elide_proof.specs.Match.{AreElided, AreMadeAlike, AreNamed, Beside, Sides, held_name, is_given_mode, sides, was_given}
use Rattle.pass_elide_proof.specs.Places.{instrs_of}
use Rattle.pass_proofs.specs.ir_model.Ty.{Ty}
use Rattle.pass_proofs.specs.ir_model.declared.instr.Phi.{Phi}
use Rattle.pass_proofs.specs.ir_model.declared.instr.Terminator.{Terminator}
use Rattle.pass_proofs.specs.ir_model.declared.module.Function.{Function}
use Rattle.pass_proofs.specs.ir_model.declared.operand.Operand.{Operand}
use Rattle.pass_proofs.specs.run_framed.Framed.{framed_step}
use Rattle.pass_proofs.specs.run_laws.changed.Changed.{Each}
use Rattle.pass_proofs.specs.run_laws.memory.Pointers.{IsValue}
use Rattle.pass_proofs.specs.run_source.declared.state.Activation.{Activation}
use Rattle.pass_proofs.specs.run_source.declared.state.State.{State}
use Rattle.pass_proofs.specs.run_step.Step.{fetch, incoming_from, phi_values, with_all}
use Rattle.pass_proofs.specs.run_step.Values.{Env, operand_value, value_in}

module _ (e : Elision) (s t : State) (r : AreElided e s t) (alike : AreMadeAlike e r.homes s.top t.top) (label to : ℕ)
    (at : IsAtMeeting e s t label to) where
  abbrev f : Function
  f = function_in e s.top.func

  abbrev phis : List Phi
  phis = phis_at f to

  abbrev from : ℕ
  from = label_from f s.top.block

  abbrev other : ℕ
  other = label_from f t.top.block

  abbrev vs : Env
  vs = with_all s.top.values (phi_values e.code s.top.values from phis)

  abbrev ws : Env
  ws = with_all t.top.values (phi_values e.code t.top.values other phis)

  abbrev d : Sides
  d = sides s t

  abbrev mode : Bool
  mode = is_given_mode t.top.mode

  abbrev differs : ℕ → Bool
  differs = differs_in (e.shape s.top.func) mode (was_given d t.top)

  abbrev a : Activation
  a = record s.top { block = to; at = 0; values = vs }

  abbrev c : Activation
  c = record t.top { block = to; at = 0; values = ws }

  -- ---- both steps

  first : framed_step (framed e) s ≡ record s { top = a }
  first =
      entered (framed e) s label at.enters
      ∙ (λ i. record s {
        top = record s.top {
          block = at.leads i;
          at = 0;
          values = with_all s.top.values (phi_values e.code s.top.values from (phis_at f (at.leads i)));
        };
      })

  same_function : function_in_elided e t.top.func ≡ f
  same_function = ap (function_in_elided e) r.top.func ∙ function_same e s.top.func at.none

  ends : t.top.at ≡ length (instrs_of f t.top.block)
  ends =
      at.same ∙ (end_at f s.top.block s.top.at at.enters.term at.enters.there ∙ sym at.many)

  enters_too : IsEntering (elided e) t at.meets.label
  enters_too = record {
    runs = r.outcome ∙ at.enters.runs;
    term = Terminator.Jump at.meets.label;
    there = (λ i. fetch (same_function i) t.top.block (ends i)) ∙ at.meets.stands;
    goes = refl;
    stays = at.stays;
  }

  second : framed_step (elided e) t ≡ record t { top = c }
  second =
      entered (elided e) t at.meets.label enters_too
      ∙ (enters e t at.meets.label s.top.func r.top.func
      ∙ (λ i. record t {
        top = record t.top {
          block = at.meets.leads i;
          at = 0;
          values = with_all t.top.values (phi_values e.code t.top.values other (phis_at f (at.meets.leads i)));
        };
      }))

  -- ---- the states behind

  taken : (x y : Operand) → TakesAlike e s t x y → (ty : Ty)
      → IsValue r.homes (operand_value e.code s.top.values ty x) (operand_value e.code t.top.values ty y)
  taken _ _ (SameOperand x same) ty = operand_stands e s t r x same ty
  taken _ _ (MadeAlike k u v i j lt is js gives too) ty = alike k u v i j lt is js gives too

  stands : (ps : List Phi) → Each (MeetsAlike e s t from other) ps
      → Each (StandsBut differs r.homes e.code s.top.values t.top.values from other) ps
  stands [] h = tt
  stands (p ∷ ps) h = (
    λ same. taken (incoming_from p.incoming from) (incoming_from p.incoming other) (h.0.takes same) p.ty,
    stands ps h.1,
  )

  named : AreNamed e r.homes (was_given d t.top) a c
  named = record {
    each = phis_but differs r.homes e.code s.top.values t.top.values from other phis s.top.values t.top.values
        r.top.values.room r.top.values.each (stands phis at.phis);
    room =
        let few = all_long s.top.values (phi_values e.code s.top.values from phis) in
        let many = all_long t.top.values (phi_values e.code t.top.values other phis) in
        let old = r.top.values.room in
        omega (arith, few, many, old);
  }

  no_answers : Each (λ (p : Phi). IsNoAnswer (e.shape s.top.func) p.result) phis
  no_answers =
      each_as (MeetsAlike e s t from other) (λ (p : Phi). IsNoAnswer (e.shape s.top.func) p.result)
      (λ p h. h.answers) phis at.phis

  kept_first : (v : ℕ) → (IsNoAnswer (e.shape s.top.func) v → ⊥) → value_in vs v ≡ value_in s.top.values v
  kept_first v bars =
      phis_elsewhere e.code s.top.values from phis s.top.values v
      (answers_apart (e.shape s.top.func) v bars phis no_answers)

  kept_second : (v : ℕ) → (IsNoAnswer (e.shape s.top.func) v → ⊥) → value_in ws v ≡ value_in t.top.values v
  kept_second v bars =
      phis_elsewhere e.code t.top.values other phis t.top.values v
      (answers_apart (e.shape s.top.func) v bars phis no_answers)

  held : (b : Bool) → mode ≡ b → SameHeld s.top.values vs (held_name e b s.top) (held_name e b a)
  held true is =
      held_on e.code s.top.values from phis ((e.shape s.top.func).holds s.top.block s.top.at)
      ((e.shape s.top.func).holds to 0) (at.held is)
  held false is = tt

  pub meets : AreElided e (framed_step (framed e) s) (framed_step (elided e) t)
  meets =
      subst (λ (p : State × State). AreElided e p.0 p.1) (λ i. (sym first i, sym second i))
      (moved e s t r to 0 vs s.top.has_left to 0 ws t.top.has_left r.top.has_left (Beside refl refl) named
      (λ ramp. asked_kept (e.shape s.top.func) d s.top t.top to 0 vs s.top.has_left to 0 ws t.top.has_left kept_first
      kept_second (r.top.asked ramp))
      (λ given. released_kept (e.shape s.top.func) d s.top t.top to 0 vs s.top.has_left to 0 ws t.top.has_left
      kept_first kept_second (r.top.released given)) (bare_made e s t r at.none to 0 to 0 vs ws) (held mode refl))
