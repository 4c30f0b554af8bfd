-- A given ramp passes by the allocation when the other one leaves it.
use Rattle.std.proofs.Common.{◌≡◌, ◌<◌, ℕ, Bool, true, false, length, refl, sym, ap, ◌∙◌, subst, arith}
use Rattle.pass_elide_proof.proofs.EdgeEntered.{end_at, function_same, same_label, same_term}
use Rattle.pass_elide_proof.proofs.GivingNone.{own_same}
use Rattle.pass_elide_proof.proofs.EdgeBare.{enters_bare, enters_bare_too, gone, held_same, was_ramp}
use Rattle.pass_elide_proof.proofs.TopMoved.{SameHeld}
use Rattle.pass_elide_proof.specs.EdgesAsking.{IsAtWayOn}
use Rattle.pass_elide_proof.specs.Edges.{GivesNone, IsEntering}
use Rattle.pass_elide_proof.specs.Elision.{Elision, elided, framed, function_in, rooms}
use Rattle.pass_elide_proof.specs.Match.{AreElided, Aside, IsAt, held_name, is_given_mode, sides, was_given}
use Rattle.pass_elide_proof.specs.Places.{instrs_of}
use Rattle.pass_elide_proof.specs.Shapes.{AsksForFrame}
use Rattle.pass_proofs.proofs.ir_laws.facts.Lists.{get_within}
use Rattle.pass_proofs.specs.ir_model.Names.{position_of}
use Rattle.pass_proofs.specs.ir_model.declared.instr.Terminator.{Terminator}
use Rattle.pass_proofs.specs.ir_model.declared.module.Function.{Function}
use Rattle.pass_proofs.specs.ir_model.declared.operand.Operand.{Operand}
use Rattle.pass_proofs.specs.run_framed.Framed.{framed_context, framed_step}
use Rattle.pass_proofs.specs.run_memory.declared.pointer.Value.{Value}
use Rattle.pass_proofs.specs.run_source.State.{work_of}
use Rattle.pass_proofs.specs.run_source.declared.state.State.{State}
use Rattle.pass_proofs.specs.run_step.Step.{AtTerm, branch, fetch, term_action}
use Rattle.pass_proofs.specs.run_step.Values.{truth_value, value_in}

module _ (e : Elision) (s t : State) (r : AreElided e s t)
    (k : AsksForFrame (function_in e s.top.func) (e.shape s.top.func)) (label : ℕ) (at : IsAtWayOn e s t k label) where
  abbrev f : Function
  f = function_in e s.top.func

  abbrev term : Terminator
  term = Terminator.Branch (Operand.Local k.need) k.one k.other

  abbrev jump : Terminator
  jump = Terminator.Jump k.jumps.label

  ends : s.top.at ≡ length (instrs_of f k.allocates)
  ends =
      end_at f s.top.block s.top.at at.enters.term at.enters.there
      ∙ ap (λ (b : ℕ). length (instrs_of f b)) at.allocates

  is_jump : at.enters.term ≡ jump
  is_jump =
      same_term at.enters.term jump
      (sym at.enters.there ∙ ((λ i. fetch f (at.allocates i) (ends i)) ∙ k.jumps.stands))

  leads : position_of f label ≡ k.after
  leads =
      ap (position_of f)
      (sym (same_label k.jumps.label label
      (sym (ap (term_action (framed_context (framed e) s) (work_of s)) is_jump) ∙ at.enters.goes)))
      ∙ k.jumps.leads

  -- the given ramp's branch
  none_too : GivesNone e t.top.func
  none_too = subst (GivesNone e) (sym r.top.func) at.none

  branches : fetch (function_in e t.top.func) t.top.block (length (instrs_of (function_in e t.top.func) t.top.block))
      ≡ AtTerm term
  branches =
      (λ i. fetch (function_in e (r.top.func i)) (at.asks i)
      (length (instrs_of (function_in e (r.top.func i)) (at.asks i)))) ∙ k.branch

  asked : value_in t.top.values k.need ≡ truth_value false
  asked =
      (at.stands.skips k.need k.one k.other branches).need
      (ap (λ (q : ℕ). (e.shape q).need k.need) r.top.func ∙ k.is_need)

  enters_too : IsEntering (elided e) t k.other
  enters_too = record {
    runs = r.outcome ∙ at.enters.runs;
    term = term;
    there =
        (λ i. fetch (function_same e t.top.func none_too i) t.top.block ((at.stands.at
        ∙ own_same (rooms e t.top.func) (function_in e t.top.func) none_too t.top.block
        (length (instrs_of (function_in e t.top.func) t.top.block))) i)) ∙ branches;
    goes = ap (λ (v : Value). branch v k.one k.other) asked;
    stays = at.stays;
  }

  aside : IsAt e r.homes (was_given (sides s t) t.top) (record s.top { block = k.after; at = 0 })
      (record t.top { block = k.beside; at = 0 })
  aside =
      Aside (was_ramp (sides s t) t.top at.given) k.aside refl
      (λ n u v i j lt is js gives too. absurd (omega (arith, lt)))

  held : (b : Bool) → SameHeld s.top.values s.top.values (held_name e b s.top)
      (held_name e b (record s.top { block = k.after; at = 0 }))
  held true =
      let within = get_within (instrs_of f k.allocates) k.allocation k.allocator k.there in
      let behind : k.allocation < s.top.at = omega (arith, within, ends) in
      held_same s.top.values ((e.shape s.top.func).holds s.top.block s.top.at) ((e.shape s.top.func).holds k.after 0)
      (k.held_behind 0
      ∙ sym (ap (λ (b : ℕ). (e.shape s.top.func).holds b s.top.at) at.allocates ∙ k.held s.top.at behind))
  held false = tt

  pub goes_aside : AreElided e (framed_step (framed e) s) (framed_step (elided e) t)
  goes_aside =
      subst (λ (p : State × State). AreElided e p.0 p.1)
      (λ i. (
        sym (enters_bare e s label k.after at.enters leads at.bare) i,
        sym (enters_bare_too e t k.other k.beside s.top.func r.top.func enters_too k.to_beside at.empty) i,
      ))
      (gone e s t r at.none k.after 0 k.beside 0 aside (held (is_given_mode t.top.mode)))
