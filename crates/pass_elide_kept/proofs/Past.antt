-- Edges lead past the blocks that allocate and free a given frame.
use Rattle.std.proofs.Common.{◌≡◌, ◌⊎◌, ◌∙◌, ◌&&◌, ◌||◌, ap, sym, refl, inl, inr, ℕ, Bool, true, false, length, Option}
use Rattle.std.specs.Prelude.{None, Some, is_some, if◌then◌else◌}
use Rattle.pass_elide_kept.specs.Modules.{KeepsHandlesAndEnds, LeadsOut, PassesAllocation, PassesFree}
use Rattle.pass_elide_proof.proofs.EdgeEntered.{end_at, same_term}
use Rattle.pass_elide_proof.proofs.Facts.{not_both, some_none}
use Rattle.pass_elide_proof.specs.Edges.{IsAlike, chosen_by}
use Rattle.pass_elide_proof.specs.EdgesFreeing.{FreesFrame}
use Rattle.pass_elide_proof.specs.Elision.{Elision, Shape, differs_in, framed, function_in, no_shape}
use Rattle.pass_elide_proof.specs.Match.{is_given_mode, sides, was_given}
use Rattle.pass_elide_proof.specs.Places.{instrs_of}
use Rattle.pass_elide_proof.specs.Placing.{HasShape, KeepsPlaces}
use Rattle.pass_elide_proof.specs.Shapes.{AsksForFrame, JumpsTo}
use Rattle.pass_elide_proof.specs.pass_proofs.ir_model.Names.{position_of}
use Rattle.pass_elide_proof.specs.pass_proofs.ir_model.declared.instr.Terminator.{Terminator}
use Rattle.pass_elide_proof.specs.pass_proofs.ir_model.declared.module.Function.{Function}
use Rattle.pass_elide_proof.specs.pass_proofs.ir_model.declared.operand.Operand.{Operand}
use Rattle.pass_elide_proof.specs.pass_proofs.run_source.State.{function_of}
use Rattle.pass_elide_proof.specs.pass_proofs.run_source.declared.state.State.{State}
use Rattle.pass_elide_proof.specs.pass_proofs.run_step.Step.{AtTerm, fetch}

module _ (e : Elision) (places : KeepsPlaces e) (keeps : KeepsHandlesAndEnds e) (func from label : ℕ)
    (leads : LeadsOut (function_in e func) from label) where
  abbrev f : Function
  f = function_in e func

  abbrev x : Shape
  x = e.shape func

  abbrev to : ℕ
  to = position_of f label

  -- it isn't the allocator's block, unless the question is asked in front of it
  pub past_allocation : ((k : HasShape e func) → PassesAllocation e func k → from ≡ k.asks.asks
      → position_of (function_in e func) label ≡ k.asks.allocates → ⊥)
      → (e.shape func).waits (position_of (function_in e func) label) ≡ None
  past_allocation never = on (x.waits to) refl (places.shapes func)
    where
      on : (o : Option ℕ) → x.waits to ≡ o → (x ≡ no_shape) ⊎ HasShape e func → x.waits to ≡ None
      on None is shape = is
      on (Some other) is (inl none) =
          absurd (some_none (x.waits to) other is (ap (λ (y : Shape). y.waits to) none))
      on (Some other) is (inr k) =
          let there = k.waits to other is in
          absurd (never k (keeps.allocations func k)
          ((keeps.allocations func k).entered from label leads there) there)

  -- it isn't a block that frees, unless what is freed is tested in front of it
  pub past_free : ((p : PassesFree e func (position_of (function_in e func) label)) → from ≡ p.frees.tests → ⊥)
      → (e.shape func).frees (position_of (function_in e func) label) ≡ None
  past_free never = on (x.frees to) refl
    where
      on : (o : Option ℕ) → x.frees to ≡ o → x.frees to ≡ None
      on None is = is
      on (Some other) is =
          let p = keeps.frees func to other is in absurd (never p (p.entered from label leads refl))

-- ---- what stands where it is asked and tested

same_branch : (a b c d m n : ℕ)
    → AtTerm (Terminator.Branch (Operand.Local a) c m) ≡ AtTerm (Terminator.Branch (Operand.Local b) d n) → a ≡ b
same_branch a b c d m n e = cc

ends_same : (f : Function) (block other : ℕ) → block ≡ other
    → fetch f block (length (instrs_of f block)) ≡ fetch f other (length (instrs_of f other))
ends_same f block other same = λ j. fetch f (same j) (length (instrs_of f (same j)))

-- a question is no test
pub question_no_test : (f : Function) (x : Shape) (k : AsksForFrame f x) (p : FreesFrame f x) → k.asks ≡ p.tests → ⊥
question_no_test f x k p same =
    let one : k.need ≡ p.tested
    = same_branch k.need p.tested k.one p.one k.other p.other
    (sym k.branch ∙ (ends_same f k.asks p.tests same ∙ p.branch)) in
    not_both (x.need p.tested) (sym (ap x.need one) ∙ k.is_need) p.not_need

-- neither ends in a jump
pub question_no_jump : (f : Function) (x : Shape) (k : AsksForFrame f x) (block to : ℕ) → JumpsTo f block to
    → block ≡ k.asks → ⊥
question_no_jump f x k block to jumps same =
    let no : AtTerm (Terminator.Jump jumps.label) ≡ AtTerm (Terminator.Branch (Operand.Local k.need) k.one k.other)
    = sym jumps.stands ∙ (ends_same f block k.asks same ∙ k.branch) in
    absurd (cc)

pub test_no_jump : (f : Function) (x : Shape) (p : FreesFrame f x) (block to : ℕ) → JumpsTo f block to
    → block ≡ p.tests → ⊥
test_no_jump f x p block to jumps same =
    let no : AtTerm (Terminator.Jump jumps.label) ≡ AtTerm (Terminator.Branch (Operand.Local p.tested) p.one p.other)
    = sym jumps.stands ∙ (ends_same f block p.tests same ∙ p.branch) in
    absurd (cc)

-- two records of one question lead beside the same block
pub same_targets : (a b c d m n : ℕ)
    → AtTerm (Terminator.Branch (Operand.Local a) c m) ≡ AtTerm (Terminator.Branch (Operand.Local b) d n)
    → (c ≡ d) × (m ≡ n)
same_targets a b c d m n e = (cc, cc)

pub one_question : (f : Function) (x : Shape) (k l : AsksForFrame f x) → k.asks ≡ l.asks → k.beside ≡ l.beside
one_question f x k l same =
    let targets = same_targets k.need l.need k.one l.one k.other l.other
    (sym k.branch ∙ (ends_same f k.asks l.asks same ∙ l.branch)) in
    sym k.to_beside ∙ (ap (position_of f) targets.1 ∙ l.to_beside)

same_some : (p q : Bool) → Some p ≡ Some q → p ≡ q
same_some p q h = cc

-- and so do two of one test
pub one_test : (f : Function) (x : Shape) (k l : FreesFrame f x) → k.tests ≡ l.tests
    → (k.beside ≡ l.beside) × (k.frees ≡ l.frees)
one_test f x k l same =
    let branches = sym k.branch ∙ (ends_same f k.tests l.tests same ∙ l.branch) in
    let targets = same_targets k.tested l.tested k.one l.one k.other l.other branches in
    let tested = same_branch k.tested l.tested k.one l.one k.other l.other branches in
    let eq : k.is_eq ≡ l.is_eq
    = same_some k.is_eq l.is_eq (sym k.is_tested ∙ (ap x.tested tested ∙ l.is_tested)) in (
      sym k.to_beside
          ∙ ((λ j. position_of f (if eq j then targets.0 j else targets.1 j)) ∙ l.to_beside),
      sym k.to_free
          ∙ ((λ j. position_of f (if eq j then targets.1 j else targets.0 j)) ∙ l.to_free),
    )

-- ---- a branch on what is alike

right : (a b : Bool) → b ≡ true → (a || b) ≡ true
right true b h = refl
right false b h = h

-- what is asked or tested isn't alike where the frame was given
module _ (e : Elision) (s t : State) (at : ℕ) (term : Terminator)
    (there : fetch (function_of (framed e).given s) s.top.block at ≡ AtTerm term)
    (chosen : IsAlike e s t (chosen_by term)) where
  abbrev g : Function
  g = function_in e s.top.func

  abbrev y : Shape
  y = e.shape s.top.func

  ended : fetch (function_in e s.top.func) s.top.block (length (instrs_of (function_in e s.top.func) s.top.block))
      ≡ AtTerm term
  ended =
      (λ j. fetch g s.top.block (sym (end_at g s.top.block at term there) j)) ∙ there

  pub not_asked : (k : AsksForFrame (function_in e s.top.func) (e.shape s.top.func))
      → is_given_mode t.top.mode ≡ true → s.top.block ≡ k.asks → ⊥
  not_asked k given same =
      let is : term ≡ Terminator.Branch (Operand.Local k.need) k.one k.other
      = same_term term (Terminator.Branch (Operand.Local k.need) k.one k.other)
      (sym ended ∙ (ends_same g s.top.block k.asks same ∙ k.branch)) in
      let calm = chosen k.need (ap chosen_by is) in
      let need = k.is_need in
      let rest = was_given (sides s t) t.top
      && (y.freed k.need || (is_some (y.tested k.need) || y.passed k.need)) in
      let differs : differs_in (e.shape s.top.func) (is_given_mode t.top.mode) (was_given (sides s t) t.top) k.need
      ≡ true
      = λ j. (given j && (need j || y.made k.need)) || rest in
      not_both (differs_in (e.shape s.top.func) (is_given_mode t.top.mode) (was_given (sides s t) t.top) k.need)
      differs calm

  pub not_tested : (p : FreesFrame (function_in e s.top.func) (e.shape s.top.func))
      → was_given (sides s t) t.top ≡ true → s.top.block ≡ p.tests → ⊥
  not_tested p given same =
      let is : term ≡ Terminator.Branch (Operand.Local p.tested) p.one p.other
      = same_term term (Terminator.Branch (Operand.Local p.tested) p.one p.other)
      (sym ended ∙ (ends_same g s.top.block p.tests same ∙ p.branch)) in
      let calm = chosen p.tested (ap chosen_by is) in
      let tested = p.is_tested in
      let first = is_given_mode t.top.mode && (y.need p.tested || y.made p.tested) in
      let differs : differs_in (e.shape s.top.func) (is_given_mode t.top.mode) (was_given (sides s t) t.top) p.tested
      ≡ true
      = (λ j. first || (given j && (y.freed p.tested || (is_some (tested j) || y.passed p.tested))))
      ∙ right first (y.freed p.tested || true) (right (y.freed p.tested) true refl) in
      not_both (differs_in (e.shape s.top.func) (is_given_mode t.top.mode) (was_given (sides s t) t.top) p.tested)
      differs calm
