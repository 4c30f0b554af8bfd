-- At the end of a block the run that gives frames goes to a label, past the blocks that allocate and free given frames.
use Rattle.std.proofs.Common.{◌≡◌, ◌∙◌, ap, sym, refl, subst, ℕ, Bool, true, false, length}
use Rattle.std.specs.Prelude.{None, Some, slice_get, if◌then◌else◌}
use Rattle.pass_elide_kept.proofs.Goes.{goes_to}
use Rattle.pass_elide_kept.proofs.Past.{not_asked, not_tested, one_question, one_test, past_allocation, past_free, question_no_jump, question_no_test, test_no_jump}
use Rattle.pass_elide_kept.proofs.Places.{term_there}
use Rattle.pass_elide_kept.specs.Modules.{KeepsHandlesAndEnds, LeadsOut}
use Rattle.pass_elide_kept.specs.Steps.{TakesStep}
use Rattle.pass_elide_proof.proofs.CallersEdges.{goes_listed}
use Rattle.pass_elide_proof.proofs.EdgeEntered.{end_at, entered, same_label, term_end}
use Rattle.pass_elide_proof.proofs.GivingNone.{front_same, own_same}
use Rattle.pass_elide_proof.proofs.LeftWindows.{as_many, exited}
use Rattle.pass_elide_proof.specs.Callers.{StandsAtEnd}
use Rattle.pass_elide_proof.specs.Calling.{AreReady}
use Rattle.pass_elide_proof.specs.Edges.{IsAlike, IsAtEdge, IsAtMeeting, IsEntering, chosen_by}
use Rattle.pass_elide_proof.specs.EdgesAsking.{IsAtWayOn}
use Rattle.pass_elide_proof.specs.EdgesFreeing.{FreesFrame, IsAtFreed}
use Rattle.pass_elide_proof.specs.EdgesLeaving.{IsAtExit, IsLeaving}
use Rattle.pass_elide_proof.specs.Elision.{Elision, elided, framed, function_in, rooms}
use Rattle.pass_elide_proof.specs.Match.{AreElided, IsAtEnd, is_given_mode, sides, was_given}
use Rattle.pass_elide_proof.specs.Both.{standing_at}
use Rattle.pass_elide_proof.specs.Places.{front_at, instrs_of, own_at}
use Rattle.pass_elide_proof.specs.Placing.{KeepsPlaces}
use Rattle.pass_elide_proof.specs.Shapes.{AsksForFrame, JumpsTo}
use Rattle.pass_elide_proof.specs.pass_proofs.ir_base.declared.outcome.Outcome.{Outcome}
use Rattle.pass_elide_proof.specs.pass_proofs.ir_model.Names.{position_of}
use Rattle.pass_elide_proof.specs.pass_proofs.ir_model.declared.instr.Terminator.{Terminator}
use Rattle.pass_elide_proof.specs.pass_proofs.ir_model.declared.module.Block.{Block}
use Rattle.pass_elide_proof.specs.pass_proofs.ir_model.declared.module.Function.{Function}
use Rattle.pass_elide_proof.specs.pass_proofs.ir_model.declared.operand.Operand.{Operand}
use Rattle.pass_elide_proof.specs.pass_proofs.run_framed.Framed.{framed_context, framed_step}
use Rattle.pass_elide_proof.specs.pass_proofs.run_source.State.{function_of, work_of}
use Rattle.pass_elide_proof.specs.pass_proofs.run_source.declared.state.State.{State}
use Rattle.pass_elide_proof.specs.pass_proofs.run_step.Step.{AtTerm, GoTo, branch, fetch, term_action}
use Rattle.pass_elide_proof.specs.pass_proofs.run_step.Values.{truth_value}

-- the framed run goes on in its activation
pub record GoesOn (e : Elision) (s : State) : Type 0 where
  pub runs : (framed_step (framed e) s).outcome ≡ Outcome.Running
  pub below : (framed_step (framed e) s).below ≡ s.below

enters_on : (e : Elision) (s : State) (label : ℕ) → IsEntering (framed e) s label → GoesOn e s
enters_on e s label at = record {
  runs = ap (λ (u : State). u.outcome) (entered (framed e) s label at) ∙ at.runs;
  below = ap (λ (u : State). u.below) (entered (framed e) s label at);
}

leaves_on : (e : Elision) (s : State) (label : ℕ) → IsLeaving (framed e) s label → GoesOn e s
leaves_on e s label at = record {
  runs = ap (λ (u : State). u.outcome) (exited (framed e) s label at) ∙ at.runs;
  below = ap (λ (u : State). u.below) (exited (framed e) s label at);
}

module _ (e : Elision) (places : KeepsPlaces e) (keeps : KeepsHandlesAndEnds e) (s t : State)
    (func : t.top.func ≡ s.top.func) (outcome : t.outcome ≡ s.outcome) (many : length t.below ≡ length s.below)
    (runs : s.outcome ≡ Outcome.Running)
    (next : AreElided e (framed_step (framed e) s) (framed_step (elided e) t)) (on : GoesOn e s) where
  abbrev f : Function
  f = function_in e s.top.func

  -- the terminator of the block in which it stands
  record Ends : Type 0 where
    label : ℕ
    stands : StandsAtEnd e t label
    leads : LeadsOut (function_in e s.top.func) t.top.block label

  ends : (b : Block) → slice_get (function_in e s.top.func).blocks t.top.block ≡ Some b
      → t.top.at ≡ own_at (rooms e s.top.func) (function_in e s.top.func) t.top.block (length b.instrs) → Ends
  ends b has stands =
      let has_too : slice_get (function_in e t.top.func).blocks t.top.block ≡ Some b
      = (λ j. slice_get (function_in e (func j)).blocks t.top.block) ∙ has in
      let stands_too : t.top.at
      ≡ own_at (rooms e t.top.func) (function_in e t.top.func) t.top.block (length b.instrs)
      = stands ∙ (λ j. own_at (rooms e (sym func j)) (function_in e (sym func j)) t.top.block (length b.instrs)) in
      let to = goes_to (elided e) t b.term (outcome ∙ runs) (term_there e t b has_too stands_too)
      (next.outcome ∙ on.runs)
      (as_many e next.homes next.hides (sides (framed_step (framed e) s) (framed_step (elided e) t))
      (framed_step (framed e) s).below (framed_step (elided e) t).below next.below
      ∙ (ap length on.below ∙ sym many)) in
      record {
        label = to.0;
        stands = record {
          runs = outcome ∙ runs;
          block = b;
          has_block = has_too;
          stands = stands_too;
          goes = to.1;
          handles = keeps.handles t.top.func;
        };
        leads = record {
          block = b;
          there = has;
          among = goes_listed (framed_context (elided e) t) (work_of t) to.0 b.term to.1;
        };
      }

  -- the step, where the edge leads past
  enters : (k : Ends)
      → (is_given_mode t.top.mode ≡ true → (e.shape s.top.func).waits (position_of (function_in e s.top.func) k.label)
      ≡ None)
      → (was_given (sides t t) t.top ≡ true
      → (e.shape s.top.func).frees (position_of (function_in e s.top.func) k.label) ≡ None)
      → TakesStep e s t
  enters k waits frees =
      TakesStep.Enters k.label k.stands (record {
        waits = λ given.
            subst (λ (n : ℕ). (e.shape n).waits (position_of (function_in e n) k.label) ≡ None) (sym func)
            (waits given);
        frees = λ given.
            subst (λ (n : ℕ). (e.shape n).frees (position_of (function_in e n) k.label) ≡ None) (sym func)
            (frees given);
      })

  -- where the choice is alike
  enters_alike : (k : Ends) (term : Terminator) → t.top.block ≡ s.top.block
      → fetch (function_of (framed e).given s) s.top.block s.top.at ≡ AtTerm term
      → IsAlike e s t (chosen_by term) → TakesStep e s t
  enters_alike k term beside there chosen =
      enters k
      (λ given. past_allocation e places keeps s.top.func t.top.block k.label k.leads
      (λ h p from to. not_asked e s t s.top.at term there chosen h.asks given (sym beside ∙ from)))
      (λ given. past_free e places keeps s.top.func t.top.block k.label k.leads
      (λ p from. not_tested e s t s.top.at term there chosen p.frees given (sym beside ∙ from)))

  own_end : (term : Terminator) → fetch (function_of (framed e).given s) s.top.block s.top.at ≡ AtTerm term
      → t.top.block ≡ s.top.block
      → t.top.at ≡ own_at (rooms e s.top.func) (function_in e s.top.func) s.top.block s.top.at → Ends
  own_end term there beside stands =
      let end = term_end f s.top.block s.top.at term there in
      ends end.own ((λ j. slice_get f.blocks (beside j)) ∙ end.there)
      (stands ∙ (λ j. own_at (rooms e s.top.func) f (sym beside j) (end.at_end j)))

  pub takes_edge : (term : Terminator) → fetch (function_of (framed e).given s) s.top.block s.top.at ≡ AtTerm term
      → t.top.block ≡ s.top.block
      → t.top.at ≡ own_at (rooms e s.top.func) (function_in e s.top.func) s.top.block s.top.at
      → IsAlike e s t (chosen_by term) → TakesStep e s t
  takes_edge term there beside stands chosen =
      enters_alike (own_end term there beside stands) term beside there chosen

  -- ---- a block of its own

  -- it stands at the end of another block, whose terminator is known
  other_end : (term : Terminator)
      → fetch (function_in e s.top.func) t.top.block (length (instrs_of (function_in e s.top.func) t.top.block))
      ≡ AtTerm term
      → t.top.at ≡ own_at (rooms e s.top.func) (function_in e s.top.func) t.top.block
      (length (instrs_of (function_in e s.top.func) t.top.block))
      → (k : Ends) × (k.stands.block.term ≡ term)
  unfolding ends
  other_end term there stands =
      let end = term_end f t.top.block (length (instrs_of f t.top.block)) term there in
      (ends end.own end.there (stands ∙ ap (own_at (rooms e s.top.func) f t.top.block) end.at_end), end.is)

  pub takes_jump : (to : ℕ) (jumps : JumpsTo (function_in e s.top.func) t.top.block to)
      → t.top.at ≡ own_at (rooms e s.top.func) (function_in e s.top.func) t.top.block
      (length (instrs_of (function_in e s.top.func) t.top.block))
      → TakesStep e s t
  takes_jump to jumps stands =
      let k = (other_end (Terminator.Jump jumps.label) jumps.stands stands).0 in
      enters k
      (λ given. past_allocation e places keeps s.top.func t.top.block k.label k.leads
      (λ h p from there. question_no_jump f (e.shape s.top.func) h.asks t.top.block to jumps from))
      (λ given. past_free e places keeps s.top.func t.top.block k.label k.leads
      (λ p from. test_no_jump f (e.shape s.top.func) p.frees t.top.block to jumps from))

  end_stands : IsAtEnd e t.top
      → t.top.at ≡ own_at (rooms e s.top.func) (function_in e s.top.func) t.top.block
      (length (instrs_of (function_in e s.top.func) t.top.block))
  end_stands at =
      at.at
      ∙ (λ j. own_at (rooms e (func j)) (function_in e (func j)) t.top.block
      (length (instrs_of (function_in e (func j)) t.top.block)))

  label_is : (k : Ends) (term : Terminator) → k.stands.block.term ≡ term → (label : ℕ)
      → term_action (framed_context (elided e) t) (work_of t) term ≡ GoTo label → k.label ≡ label
  label_is k term is label goes =
      same_label k.label label
      (sym k.stands.goes ∙ (ap (term_action (framed_context (elided e) t) (work_of t)) is ∙ goes))

  -- a given ramp goes where coro.alloc is false
  pub takes_way_on : (k : AsksForFrame (function_in e s.top.func) (e.shape s.top.func)) → t.top.block ≡ k.asks
      → IsAtEnd e t.top → TakesStep e s t
  takes_way_on k asks stands =
      let branches : fetch f t.top.block (length (instrs_of f t.top.block))
      ≡ AtTerm (Terminator.Branch (Operand.Local k.need) k.one k.other)
      = (λ j. fetch f (asks j) (length (instrs_of f (asks j)))) ∙ k.branch in
      let end = other_end (Terminator.Branch (Operand.Local k.need) k.one k.other) branches (end_stands stands) in
      let branches_too : fetch (function_in e t.top.func) t.top.block
      (length (instrs_of (function_in e t.top.func) t.top.block))
      ≡ AtTerm (Terminator.Branch (Operand.Local k.need) k.one k.other)
      = (λ j. fetch (function_in e (func j)) t.top.block
      (length (instrs_of (function_in e (func j)) t.top.block))) ∙ branches in
      let answer = (stands.skips k.need k.one k.other branches_too).need
      (ap (λ (n : ℕ). (e.shape n).need k.need) func ∙ k.is_need) in
      let label = label_is end.0 (Terminator.Branch (Operand.Local k.need) k.one k.other) end.1 k.other
      (ap (λ v. branch v k.one k.other) answer) in
      enters end.0
      (λ given. past_allocation e places keeps s.top.func t.top.block end.0.label end.0.leads
      (λ h p from there. p.apart
      (sym (one_question f (e.shape s.top.func) k h.asks (sym asks ∙ from))
      ∙ (sym k.to_beside ∙ (ap (position_of f) (sym label) ∙ there)))))
      (λ given. past_free e places keeps s.top.func t.top.block end.0.label end.0.leads
      (λ p from. question_no_test f (e.shape s.top.func) k p.frees (sym asks ∙ from)))

  -- and a given activation where what coro.free gave is null
  pub takes_freed : (k : FreesFrame (function_in e s.top.func) (e.shape s.top.func)) → t.top.block ≡ k.tests
      → IsAtEnd e t.top → TakesStep e s t
  takes_freed k tests stands =
      let term = Terminator.Branch (Operand.Local k.tested) k.one k.other in
      let branches : fetch f t.top.block (length (instrs_of f t.top.block)) ≡ AtTerm term
      = (λ j. fetch f (tests j) (length (instrs_of f (tests j)))) ∙ k.branch in
      let end = other_end term branches (end_stands stands) in
      let branches_too : fetch (function_in e t.top.func) t.top.block
      (length (instrs_of (function_in e t.top.func) t.top.block)) ≡ AtTerm term
      = (λ j. fetch (function_in e (func j)) t.top.block
      (length (instrs_of (function_in e (func j)) t.top.block))) ∙ branches in
      let answer = (stands.skips k.tested k.one k.other branches_too).tested k.is_eq
      (ap (λ (n : ℕ). (e.shape n).tested k.tested) func ∙ k.is_tested) in
      let label = label_is end.0 term end.1 (if k.is_eq then k.one else k.other)
      (ap (λ v. branch v k.one k.other) answer ∙ chosen k.is_eq k.one k.other) in
      enters end.0
      (λ given. past_allocation e places keeps s.top.func t.top.block end.0.label end.0.leads
      (λ h p from there. question_no_test f (e.shape s.top.func) h.asks k (sym from ∙ tests)))
      (λ given. past_free e places keeps s.top.func t.top.block end.0.label end.0.leads
      (λ p from.
      let one = one_test f (e.shape s.top.func) k p.frees (sym tests ∙ from) in
      p.apart (sym one.0 ∙ (sym k.to_beside ∙ ap (position_of f) (sym label)))))
    where
      chosen : (q : Bool) (one other : ℕ) → branch (truth_value q) one other ≡ GoTo (if q then one else other)
      chosen true one other = refl
      chosen false one other = refl

-- ---- by kinds of places

module _ (e : Elision) (places : KeepsPlaces e) (keeps : KeepsHandlesAndEnds e) (s t : State) (r : AreElided e s t)
    (next : AreElided e (framed_step (framed e) s) (framed_step (elided e) t)) where
  many : length t.below ≡ length s.below
  many = as_many e r.homes r.hides (sides s t) s.below t.below r.below

  pub exit_taken : (label : ℕ) → IsAtExit e s t label → TakesStep e s t
  exit_taken label at =
      takes_edge e places keeps s t r.top.func r.outcome many at.exits.runs next (leaves_on e s label at.exits)
      at.exits.term at.exits.there at.beside
      (at.stands
      ∙ (front_same (rooms e s.top.func) (function_in e s.top.func) at.none s.top.block s.top.at
      ∙ sym (own_same (rooms e s.top.func) (function_in e s.top.func) at.none s.top.block s.top.at)))
      at.chosen

  pub way_on_taken : (k : AsksForFrame (function_in e s.top.func) (e.shape s.top.func)) (label : ℕ)
      → IsAtWayOn e s t k label → TakesStep e s t
  way_on_taken k label at =
      takes_way_on e places keeps s t r.top.func r.outcome many at.enters.runs next (enters_on e s label at.enters) k
      at.asks at.stands

  pub freed_taken : (k : FreesFrame (function_in e s.top.func) (e.shape s.top.func)) (label : ℕ)
      → IsAtFreed e s t k label → TakesStep e s t
  freed_taken k label at =
      takes_freed e places keeps s t r.top.func r.outcome many at.enters.runs next (enters_on e s label at.enters) k
      at.tests at.stands

  pub meeting_taken : (label to : ℕ) → IsAtMeeting e s t label to → TakesStep e s t
  meeting_taken label to at =
      takes_jump e places keeps s t r.top.func r.outcome many at.enters.runs next (enters_on e s label at.enters) to
      at.meets
      (at.same
      ∙ (end_at (function_in e s.top.func) s.top.block s.top.at at.enters.term at.enters.there
      ∙ (sym at.many
      ∙ sym (own_same (rooms e s.top.func) (function_in e s.top.func) at.none t.top.block
      (length (instrs_of (function_in e s.top.func) t.top.block))))))

-- behind what is put in front of the place
pub edge_taken : (e : Elision) (places : KeepsPlaces e) (keeps : KeepsHandlesAndEnds e) (s t : State)
    (r : AreReady e s t) → AreElided e (framed_step (framed e) s) (framed_step (elided e) t) → (label : ℕ)
    → IsAtEdge e s (standing_at t (front_at (rooms e s.top.func) (function_in e s.top.func) s.top.block s.top.at)) label
    → TakesStep e s t
edge_taken e places keeps s t r next label at =
    takes_edge e places keeps s t r.beside.top.func r.beside.outcome
    (as_many e r.beside.homes r.beside.hides (sides s t) s.below t.below r.beside.below) at.enters.runs next
    (enters_on e s label at.enters) at.enters.term at.enters.there at.beside r.at at.chosen
