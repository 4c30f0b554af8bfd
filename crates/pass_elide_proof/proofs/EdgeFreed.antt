-- An activation whose frame was given passes by the block that frees when the other one leaves it.
use Rattle.std.proofs.Common.{◌≡◌, ℕ, Bool, true, false, length, refl, sym, ap, ◌∙◌, subst, arith}
use Rattle.std.specs.Prelude.{if◌then◌else◌}
use Rattle.pass_elide_proof.proofs.EdgeEntered.{end_at, function_same, same_label, same_term}
use Rattle.pass_elide_proof.proofs.GivingNone.{own_same}
use Rattle.pass_elide_proof.proofs.EdgeBare.{enters_bare, enters_bare_too, gone, held_bare}
use Rattle.pass_elide_proof.specs.Edges.{GivesNone, IsEntering}
use Rattle.pass_elide_proof.specs.Elision.{Elision, elided, framed, function_in, rooms}
use Rattle.pass_elide_proof.specs.EdgesFreeing.{FreesAside, FreesFrame, IsAtFreed}
use Rattle.pass_elide_proof.specs.Match.{AreElided, Aside, Beside, IsAt, is_given_mode, sides, was_given}
use Rattle.pass_elide_proof.specs.Places.{instrs_of}
use Rattle.pass_proofs.specs.ir_model.Names.{position_of}
use Rattle.pass_proofs.specs.ir_model.declared.instr.Terminator.{Terminator}
use Rattle.pass_proofs.specs.ir_model.declared.module.Function.{Function}
use Rattle.pass_proofs.specs.ir_model.declared.operand.Operand.{Operand}
use Rattle.pass_proofs.specs.run_framed.Framed.{framed_context, framed_step}
use Rattle.pass_proofs.specs.run_memory.declared.pointer.Value.{Value}
use Rattle.pass_proofs.specs.run_source.State.{work_of}
use Rattle.pass_proofs.specs.run_source.declared.state.State.{State}
use Rattle.pass_proofs.specs.run_step.Step.{AtTerm, GoTo, branch, fetch, term_action}
use Rattle.pass_proofs.specs.run_step.Values.{truth_value, value_in}

module _ (e : Elision) (s t : State) (r : AreElided e s t)
    (k : FreesFrame (function_in e s.top.func) (e.shape s.top.func)) (label : ℕ) (at : IsAtFreed e s t k label) where
  abbrev f : Function
  f = function_in e s.top.func

  abbrev term : Terminator
  term = Terminator.Branch (Operand.Local k.tested) k.one k.other

  abbrev jump : Terminator
  jump = Terminator.Jump k.jumps.label

  abbrev way : ℕ
  way = if k.is_eq then k.one else k.other

  ends : s.top.at ≡ length (instrs_of f k.frees)
  ends =
      end_at f s.top.block s.top.at at.enters.term at.enters.there
      ∙ ap (λ (b : ℕ). length (instrs_of f b)) at.frees

  is_jump : at.enters.term ≡ jump
  is_jump =
      same_term at.enters.term jump
      (sym at.enters.there ∙ ((λ i. fetch f (at.frees i) (ends i)) ∙ k.jumps.stands))

  leads : position_of f label ≡ k.after
  leads =
      ap (position_of f)
      (sym (same_label k.jumps.label label
      (sym (ap (term_action (framed_context (framed e) s) (work_of s)) is_jump) ∙ at.enters.goes)))
      ∙ k.jumps.leads

  -- the branch of the other activation
  none_too : GivesNone e t.top.func
  none_too = subst (GivesNone e) (sym r.top.func) at.none

  branches : fetch (function_in e t.top.func) t.top.block (length (instrs_of (function_in e t.top.func) t.top.block))
      ≡ AtTerm term
  branches =
      (λ i. fetch (function_in e (r.top.func i)) (at.tests i)
      (length (instrs_of (function_in e (r.top.func i)) (at.tests i)))) ∙ k.branch

  answered : value_in t.top.values k.tested ≡ truth_value k.is_eq
  answered =
      (at.stands.skips k.tested k.one k.other branches).tested k.is_eq
      (ap (λ (q : ℕ). (e.shape q).tested k.tested) r.top.func ∙ k.is_tested)

  -- where it is null
  chosen : (q : Bool) (one other : ℕ) → branch (truth_value q) one other ≡ GoTo (if q then one else other)
  chosen true one other = refl
  chosen false one other = refl

  enters_too : IsEntering (elided e) t way
  enters_too = record {
    runs = r.outcome ∙ at.enters.runs;
    term = term;
    there =
        (λ i. fetch (function_same e t.top.func none_too i) t.top.block ((at.stands.at
        ∙ own_same (rooms e t.top.func) (function_in e t.top.func) none_too t.top.block
        (length (instrs_of (function_in e t.top.func) t.top.block))) i)) ∙ branches;
    goes = ap (λ (v : Value). branch v k.one k.other) answered ∙ chosen k.is_eq k.one k.other;
    stays = at.stays;
  }

  module _ (place : IsAt e r.homes (was_given (sides s t) t.top) (record s.top { block = k.after; at = 0 })
      (record t.top { block = k.beside; at = 0 })) where
    goes_on : AreElided e (framed_step (framed e) s) (framed_step (elided e) t)
    goes_on =
        subst (λ (p : State × State). AreElided e p.0 p.1)
        (λ i. (
          sym (enters_bare e s label k.after at.enters leads at.bare) i,
          sym (enters_bare_too e t way k.beside s.top.func r.top.func enters_too k.to_beside at.empty) i,
        ))
        (gone e s t r at.none k.after 0 k.beside 0 place
        (held_bare e s k.after at.bare (is_given_mode t.top.mode) at.held))

  pub frees_aside : FreesAside f (e.shape s.top.func) k.after k.beside
      → AreElided e (framed_step (framed e) s) (framed_step (elided e) t)
  frees_aside x =
      goes_on (Aside at.given x.aside refl (λ n u v i j lt is js gives too. absurd (omega (arith, lt))))

  pub frees_straight : k.after ≡ k.beside → AreElided e (framed_step (framed e) s) (framed_step (elided e) t)
  frees_straight same = goes_on (Beside (sym same) refl)
