-- An activation whose frame was given waits at the test for null, while the other one goes on to free its frame.
use Rattle.std.proofs.Common.{◌≡◌, ⊎_elim, ℕ, Bool, true, false, length, not, refl, sym, ap, ◌∙◌, subst}
use Rattle.std.specs.Prelude.{Some, if◌then◌else◌}
use Rattle.pass_elide_proof.proofs.EdgeValues.{yes_no}
use Rattle.pass_elide_proof.proofs.EdgeEntered.{end_at, same_label, same_term}
use Rattle.pass_elide_proof.proofs.GivingNone.{front_same}
use Rattle.pass_elide_proof.proofs.EdgeBare.{StandsAtBranch, at_end, enters_bare, gone, held_bare}
use Rattle.pass_elide_proof.specs.Elision.{Elision, framed, function_in, rooms}
use Rattle.pass_elide_proof.specs.EdgesFreeing.{FreesFrame, IsAtTest}
use Rattle.pass_elide_proof.specs.Match.{AreElided, Freeing, IsAt, IsAtEnd, is_given_mode, sides, was_given}
use Rattle.pass_elide_proof.specs.Places.{instrs_of}
use Rattle.pass_proofs.specs.ir_model.Names.{position_of}
use Rattle.pass_proofs.specs.ir_model.declared.instr.Terminator.{Terminator}
use Rattle.pass_proofs.specs.ir_model.declared.module.Function.{Function}
use Rattle.pass_proofs.specs.ir_model.declared.operand.Operand.{Operand}
use Rattle.pass_proofs.specs.run_framed.Framed.{framed_context, framed_step}
use Rattle.pass_proofs.specs.run_memory.declared.pointer.Value.{Value}
use Rattle.pass_proofs.specs.run_source.State.{work_of}
use Rattle.pass_proofs.specs.run_source.declared.state.Activation.{Activation}
use Rattle.pass_proofs.specs.run_source.declared.state.State.{State}
use Rattle.pass_proofs.specs.run_step.Step.{AtTerm, GoTo, branch, fetch, term_action}
use Rattle.pass_proofs.specs.run_step.Values.{truth_value, value_in}

module _ (e : Elision) (s t : State) (r : AreElided e s t)
    (k : FreesFrame (function_in e s.top.func) (e.shape s.top.func)) (label : ℕ) (at : IsAtTest e s t k label) where
  abbrev f : Function
  f = function_in e s.top.func

  abbrev term : Terminator
  term = Terminator.Branch (Operand.Local k.tested) k.one k.other

  abbrev a : Activation
  a = record s.top { block = k.frees; at = 0 }

  ends : s.top.at ≡ length (instrs_of f s.top.block)
  ends = end_at f s.top.block s.top.at at.enters.term at.enters.there

  is_term : at.enters.term ≡ term
  is_term =
      same_term at.enters.term term
      (sym at.enters.there
      ∙ ((λ i. fetch f s.top.block (ends i))
      ∙ ((λ i. fetch f (at.tests i) (length (instrs_of f (at.tests i)))) ∙ k.branch)))

  goes : branch (value_in s.top.values k.tested) k.one k.other ≡ GoTo label
  goes = sym (ap (term_action (framed_context (framed e) s) (work_of s)) is_term) ∙ at.enters.goes

  answered : (value_in s.top.values k.tested ≡ truth_value (not k.is_eq))
      × (value_in t.top.values k.tested ≡ truth_value k.is_eq)
  answered =
      ⊎_elim (λ poison. absurd (stuck (sym (ap (λ (v : Value). branch v k.one k.other) poison) ∙ goes)))
      (λ both. both) ((r.top.released at.given).tested k.tested k.is_eq k.is_tested)
    where
      stuck : branch Value.Poison k.one k.other ≡ GoTo label → ⊥
      stuck h = absurd (cc)

  -- where it isn't null
  chosen : (q : Bool) (one other : ℕ) → branch (truth_value (not q)) one other ≡ GoTo (if q then other else one)
  chosen true one other = refl
  chosen false one other = refl

  pub leads : position_of (function_in e s.top.func) label ≡ k.frees
  leads =
      ap (position_of f)
      (sym (same_label (if k.is_eq then k.other else k.one) label
      (sym (ap (λ (v : Value). branch v k.one k.other) answered.0 ∙ chosen k.is_eq k.one k.other) ∙ goes)))
      ∙ k.to_free

  there : t.top.at ≡ length (instrs_of f t.top.block)
  there =
      at.stands
      ∙ (front_same (rooms e s.top.func) f at.none s.top.block s.top.at
      ∙ (ends ∙ ap (λ (b : ℕ). length (instrs_of f b)) (sym at.beside)))

  branches : fetch f t.top.block (length (instrs_of f t.top.block)) ≡ AtTerm term
  branches =
      (λ i. fetch f ((at.beside ∙ at.tests) i) (length (instrs_of f ((at.beside ∙ at.tests) i)))) ∙ k.branch

  same_some : (p q : Bool) → Some p ≡ Some q → p ≡ q
  same_some p q h = cc

  stays : IsAtEnd e t.top
  stays =
      at_end e t.top k.tested k.one k.other
      (subst (λ (q : ℕ). StandsAtBranch e t.top q k.tested k.one k.other) (sym r.top.func) (record {
        none = at.none;
        at = there;
        branch = branches;
        need = λ is. absurd (yes_no ((e.shape s.top.func).need k.tested) is k.not_need);
        tested = λ q is. answered.1 ∙ ap truth_value (same_some k.is_eq q (sym k.is_tested ∙ is));
      }))

  waits : IsAt e r.homes (was_given (sides s t) t.top) a t.top
  waits = Freeing at.given (k.waits ∙ ap (λ (b : ℕ). Some b) (sym (at.beside ∙ at.tests))) stays

  pub tests_alone : AreElided e (framed_step (framed e) s) t
  tests_alone =
      subst (λ (u : State). AreElided e u t) (sym (enters_bare e s label k.frees at.enters leads at.bare))
      (gone e s t r at.none k.frees 0 t.top.block t.top.at waits
      (held_bare e s k.frees at.bare (is_given_mode t.top.mode) at.held))
