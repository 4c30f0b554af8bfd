-- A given ramp waits where it asks for its frame, while the other one goes on to allocate it.
use Rattle.std.proofs.Common.{◌≡◌, ◌<◌, ⊎_elim, ℕ, Bool, true, false, length, sym, ap, ◌∙◌, subst, arith}
use Rattle.std.specs.Prelude.{None, Some}
use Rattle.pass_elide_proof.proofs.EdgeValues.{some_none}
use Rattle.pass_elide_proof.proofs.EdgeEntered.{end_at, same_label, same_term}
use Rattle.pass_elide_proof.proofs.GivingNone.{front_same}
use Rattle.pass_elide_proof.proofs.EdgeBare.{StandsAtBranch, at_end, enters_bare, gone, held_same}
use Rattle.pass_elide_proof.proofs.TopMoved.{SameHeld}
use Rattle.pass_elide_proof.specs.EdgesAsking.{IsAtQuestion}
use Rattle.pass_elide_proof.specs.Elision.{Elision, framed, function_in, rooms}
use Rattle.pass_elide_proof.specs.Match.{AreElided, IsAt, IsAtEnd, Waiting, held_name, is_given_mode, sides, was_given}
use Rattle.pass_elide_proof.specs.Places.{instrs_of}
use Rattle.pass_elide_proof.specs.Shapes.{AsksForFrame, JumpsTo}
use Rattle.pass_proofs.proofs.ir_laws.facts.Lists.{get_within}
use Rattle.pass_proofs.proofs.ir_laws.facts.Truth.{either}
use Rattle.pass_proofs.specs.ir_model.Names.{position_of}
use Rattle.pass_proofs.specs.ir_model.declared.instr.Terminator.{Terminator}
use Rattle.pass_proofs.specs.ir_model.declared.module.Function.{Function}
use Rattle.pass_proofs.specs.ir_model.declared.operand.Operand.{Operand}
use Rattle.pass_proofs.specs.run_framed.Framed.{framed_context, framed_step}
use Rattle.pass_proofs.specs.run_memory.declared.pointer.Value.{Value}
use Rattle.pass_proofs.specs.run_source.State.{work_of}
use Rattle.pass_proofs.specs.run_source.declared.state.Activation.{Activation}
use Rattle.pass_proofs.specs.run_source.declared.state.State.{State}
use Rattle.pass_proofs.specs.run_step.Step.{AtTerm, GoTo, branch, fetch, term_action}
use Rattle.pass_proofs.specs.run_step.Values.{truth_value, value_in}

module _ (e : Elision) (s t : State) (r : AreElided e s t)
    (k : AsksForFrame (function_in e s.top.func) (e.shape s.top.func)) (label : ℕ) (at : IsAtQuestion e s t k label)
  where
    abbrev f : Function
    f = function_in e s.top.func

    abbrev term : Terminator
    term = Terminator.Branch (Operand.Local k.need) k.one k.other

    abbrev a : Activation
    a = record s.top { block = k.allocates; at = 0 }

    ends : s.top.at ≡ length (instrs_of f s.top.block)
    ends = end_at f s.top.block s.top.at at.enters.term at.enters.there

    is_term : at.enters.term ≡ term
    is_term =
        same_term at.enters.term term
        (sym at.enters.there
        ∙ ((λ i. fetch f s.top.block (ends i))
        ∙ ((λ i. fetch f (at.asks i) (length (instrs_of f (at.asks i)))) ∙ k.branch)))

    goes : branch (value_in s.top.values k.need) k.one k.other ≡ GoTo label
    goes = sym (ap (term_action (framed_context (framed e) s) (work_of s)) is_term) ∙ at.enters.goes

    answered : (value_in s.top.values k.need ≡ truth_value true)
        × (value_in t.top.values k.need ≡ truth_value false)
    answered =
        ⊎_elim (λ poison. absurd (stuck (sym (ap (λ (v : Value). branch v k.one k.other) poison) ∙ goes)))
        (λ both. both) (r.top.asked at.given k.need k.is_need)
      where
        stuck : branch Value.Poison k.one k.other ≡ GoTo label → ⊥
        stuck h = absurd (cc)

    pub leads : position_of (function_in e s.top.func) label ≡ k.allocates
    leads =
        ap (position_of f)
        (sym (same_label k.one label
        (sym (ap (λ (v : Value). branch v k.one k.other) answered.0) ∙ goes)))
        ∙ k.to_allocator

    there : t.top.at ≡ length (instrs_of f t.top.block)
    there =
        at.stands
        ∙ (front_same (rooms e s.top.func) f at.none s.top.block s.top.at
        ∙ (ends ∙ ap (λ (b : ℕ). length (instrs_of f b)) (sym at.beside)))

    branches : fetch f t.top.block (length (instrs_of f t.top.block)) ≡ AtTerm term
    branches =
        (λ i. fetch f ((at.beside ∙ at.asks) i) (length (instrs_of f ((at.beside ∙ at.asks) i)))) ∙ k.branch

    stays : IsAtEnd e t.top
    stays =
        at_end e t.top k.need k.one k.other
        (subst (λ (q : ℕ). StandsAtBranch e t.top q k.need k.one k.other) (sym r.top.func) (record {
          none = at.none;
          at = there;
          branch = branches;
          need = λ is. answered.1;
          tested = λ q is. absurd (some_none ((e.shape s.top.func).tested k.need) q is at.untested);
        }))

    waits : IsAt e r.homes (was_given (sides s t) t.top) a t.top
    waits = Waiting at.given (k.waits ∙ ap (λ (b : ℕ). Some b) (sym (at.beside ∙ at.asks))) stays

    -- no block is held, since the block ends in a branch
    branch_there : fetch f s.top.block (length (instrs_of f s.top.block)) ≡ AtTerm term
    branch_there = (λ i. fetch f (at.asks i) (length (instrs_of f (at.asks i)))) ∙ k.branch

    no_jump : (block to : ℕ) → JumpsTo f block to → s.top.block ≡ block → ⊥
    no_jump block to jumps same =
        let jump : AtTerm term ≡ AtTerm (Terminator.Jump jumps.label)
        = sym branch_there ∙ ((λ i. fetch f (same i) (length (instrs_of f (same i)))) ∙ jumps.stands) in
        absurd (cc)

    free : (e.shape s.top.func).holds s.top.block s.top.at ≡ None
    free =
        ⊎_elim
        (λ same.
        let within = get_within (instrs_of f k.begins) k.begin k.start k.is_start in
        let long : length (instrs_of f s.top.block) ≡ length (instrs_of f k.begins)
        = ap (λ (b : ℕ). length (instrs_of f b)) same in
        let last = ends in
        let behind : k.begin < s.top.at = omega (arith, within, long, last) in
        ap (λ (b : ℕ). (e.shape s.top.func).holds b s.top.at) same ∙ k.free_behind s.top.at behind)
        (λ ne. k.free_elsewhere s.top.block s.top.at (no_jump k.allocates k.after k.jumps)
        (no_jump k.after k.begins k.joins) ne)
        (either s.top.block k.begins)

    held : (b : Bool) → SameHeld s.top.values s.top.values (held_name e b s.top) (held_name e b a)
    held true =
        held_same s.top.values ((e.shape s.top.func).holds s.top.block s.top.at)
        ((e.shape s.top.func).holds k.allocates 0) (k.free_before 0 (omega arith) ∙ sym free)
    held false = tt

    pub asks_alone : AreElided e (framed_step (framed e) s) t
    asks_alone =
        subst (λ (u : State). AreElided e u t) (sym (enters_bare e s label k.allocates at.enters leads at.bare))
        (gone e s t r at.none k.allocates 0 t.top.block t.top.at waits (held (is_given_mode t.top.mode)))
