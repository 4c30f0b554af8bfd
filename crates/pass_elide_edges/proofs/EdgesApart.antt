-- Behind an edge activations are in blocks of their own only as the relation says.
use Rattle.std.proofs.Common.{◌≡◌, ◌⊎◌, ◌+◌, inl, inr, ℕ, Bool, true, false, List, length, refl, sym, ap, ◌∙◌, subst, arith}
use Rattle.std.specs.Prelude.{◌≢◌, None, if◌then◌else◌, not}
use Rattle.pass_elide_edges.proofs.Choosing.{has_edge}
use Rattle.pass_elide_edges.proofs.Staying.{to_one, to_other}
use Rattle.pass_elide_edges.specs.Keeping.{EntersAlone, HasEdge}
use Rattle.pass_elide_edges.specs.States.{ApartIn, StandApart}
use Rattle.pass_elide_proof.proofs.EdgeEntered.{end_at, same_label, same_term}
use Rattle.pass_elide_proof.proofs.Facts.{not_both, some_none}
use Rattle.pass_elide_proof.specs.EdgesFreeing.{FreesAside, FreesFrame}
use Rattle.pass_elide_proof.specs.Elision.{Elision, Shape, framed, function_in}
use Rattle.pass_elide_proof.specs.Match.{AreElided, Aside, Beside, Freeing, IsAt, Waiting, is_given_mode, sides, was_given}
use Rattle.pass_elide_proof.specs.Places.{instrs_of}
use Rattle.pass_elide_proof.specs.PlacingStates.{PassesBy}
use Rattle.pass_elide_proof.specs.Shapes.{AsksForFrame, JumpsTo}
use Rattle.pass_elide_proof.specs.pass_proofs.ir_base.declared.outcome.Outcome.{Outcome}
use Rattle.pass_elide_proof.specs.pass_proofs.ir_model.Names.{position_of}
use Rattle.pass_elide_proof.specs.pass_proofs.ir_model.declared.instr.Case.{Case}
use Rattle.pass_elide_proof.specs.pass_proofs.ir_model.declared.instr.Terminator.{Terminator}
use Rattle.pass_elide_proof.specs.pass_proofs.ir_model.declared.module.Function.{Function}
use Rattle.pass_elide_proof.specs.pass_proofs.ir_model.declared.operand.Arg.{Arg}
use Rattle.pass_elide_proof.specs.pass_proofs.ir_model.declared.operand.Operand.{Operand}
use Rattle.pass_elide_proof.specs.pass_proofs.run_agreement.Machines.{IsFine}
use Rattle.pass_elide_proof.specs.pass_proofs.run_framed.Framed.{framed_context, framed_step}
use Rattle.pass_elide_proof.specs.pass_proofs.run_memory.declared.pointer.Value.{Value}
use Rattle.pass_elide_proof.specs.pass_proofs.run_source.State.{function_of, work_of}
use Rattle.pass_elide_proof.specs.pass_proofs.run_source.declared.state.State.{State}
use Rattle.pass_elide_proof.specs.pass_proofs.run_step.Step.{AtTerm, GoTo, branch, fetch, term_action}
use Rattle.pass_elide_proof.specs.pass_proofs.run_step.Values.{truth_value, value_in}

pub same_jump : (a b : ℕ) → Terminator.Jump a ≡ Terminator.Jump b → a ≡ b
same_jump a b e = cc

module _ (f : Function) (x : Shape) where
  -- ---- what ends a block

  abbrev Ends : ℕ → Terminator → Type 0
  Ends block term = fetch f block (length (instrs_of f block)) ≡ AtTerm term

  pub same_end : (block other : ℕ) (term last : Terminator) → block ≡ other
      → fetch f block (length (instrs_of f block)) ≡ AtTerm term
      → fetch f other (length (instrs_of f other)) ≡ AtTerm last → term ≡ last
  same_end block other term last same first second =
      same_term term last (sym first ∙ ((λ j. fetch f (same j) (length (instrs_of f (same j)))) ∙ second))

  -- a block doesn't end in a jump and a branch
  pub no_branch : (block other to one two : ℕ) (y : Operand) → JumpsTo f block to
      → Ends other (Terminator.Branch y one two) → block ≡ other → ⊥
  no_branch block other to one two y jumps branches same =
      let never = same_end block other (Terminator.Jump jumps.label) (Terminator.Branch y one two) same jumps.stands
      branches in
      absurd (cc)

  -- ---- edges

  jump_edge : (block to : ℕ) (j : JumpsTo f block to) → HasEdge f block j.label
  jump_edge block to j = record { term = Terminator.Jump j.label; stands = j.stands; leads = inl refl }

  asks_other : (k : AsksForFrame f x) → HasEdge f k.asks k.other
  asks_other k = record {
    term = Terminator.Branch (Operand.Local k.need) k.one k.other;
    stands = k.branch;
    leads = to_other k.one k.other (Operand.Local k.need);
  }

  tests_past : (q : FreesFrame f x) (b : Bool) → HasEdge f q.tests (if b then q.one else q.other)
  tests_past q true = record {
    term = Terminator.Branch (Operand.Local q.tested) q.one q.other;
    stands = q.branch;
    leads = to_one q.one q.other (Operand.Local q.tested);
  }
  tests_past q false = record {
    term = Terminator.Branch (Operand.Local q.tested) q.one q.other;
    stands = q.branch;
    leads = to_other q.one q.other (Operand.Local q.tested);
  }

  -- a block is held behind the allocator's, and none behind begin
  pub not_beside : (k : AsksForFrame f x) → k.allocates ≡ k.beside → ⊥
  not_beside k same =
      let one = same_end k.allocates k.beside (Terminator.Jump k.jumps.label) (Terminator.Jump k.meets.label) same
      k.jumps.stands k.meets.stands in
      let begins : k.after ≡ k.begins
      = sym k.jumps.leads ∙ (ap (position_of f) (same_jump k.jumps.label k.meets.label one) ∙ k.meets.leads) in
      some_none (x.holds k.after (k.begin + 1)) k.block (k.held_behind (k.begin + 1))
      (ap (λ (b : ℕ). x.holds b (k.begin + 1)) begins ∙ k.free_behind (k.begin + 1) (omega arith))

  module _ (alone : EntersAlone f x) (ramp given : Bool) where
    -- ---- where a function is entered

    pub entry_apart : ApartIn f x ramp given 0 0
    entry_apart = record {
      beside = λ r k is. alone.entry k.asks k.other (asks_other k) (k.to_beside ∙ sym is);
      after = λ r k is. alone.entry k.allocates k.jumps.label (jump_edge k.allocates k.after k.jumps)
          (k.jumps.leads ∙ sym is);
      asked = λ r k at is. alone.entry k.asks k.other (asks_other k) (k.to_beside ∙ sym is);
      tested = λ g q aside is.
          alone.entry q.tests (if q.is_eq then q.one else q.other) (tests_past q q.is_eq) (q.to_beside ∙ sym is);
      freed = λ g q aside is.
          alone.entry q.frees q.jumps.label (jump_edge q.frees q.after q.jumps) (q.jumps.leads ∙ sym is);
    }

    -- ---- behind a suspend, where a switch leads to a label in an activation that is no ramp

    module _ (block label : ℕ) (edge : HasEdge f block label) (arg : Arg) (default : ℕ) (cases : List Case)
        (is : edge.term ≡ Terminator.Switch arg default cases) where
      no_branch_there : (other one two : ℕ) (y : Operand) → Ends other (Terminator.Branch y one two)
          → block ≡ other → ⊥
      no_branch_there other one two y ends here =
          let never = sym is ∙ same_end block other edge.term (Terminator.Branch y one two) here edge.stands ends in
          absurd (cc)

      no_jump_there : (other to : ℕ) → JumpsTo f other to → block ≡ other → ⊥
      no_jump_there other to jumps here =
          let never = sym is ∙ same_end block other edge.term (Terminator.Jump jumps.label) here edge.stands
          jumps.stands in
          absurd (cc)

      pub switch_apart : ramp ≡ false → ApartIn f x ramp given (position_of f label) (position_of f label)
      switch_apart never = record {
        beside = λ r k at. absurd (not_both ramp r never);
        after = λ r k at. absurd (not_both ramp r never);
        asked = λ r k at other.
            no_jump_there k.allocates k.after k.jumps (alone.into_after k block label edge at);
        tested = λ g q aside at.
            no_branch_there q.tests q.one q.other (Operand.Local q.tested) q.branch
            (alone.into_tested q aside block label edge at);
        freed = λ g q aside at.
            no_jump_there q.frees q.after q.jumps (alone.into_freed q aside block label edge at);
      }

-- ---- over an edge

module _ (e : Elision) (s t : State) (r : AreElided e s t) (by : PassesBy e t t.top)
    (apart : StandApart e (sides s t) s.top t.top)
    (alone : EntersAlone (function_in e s.top.func) (e.shape s.top.func)) (runs : s.outcome ≡ Outcome.Running)
    (fine : IsFine (framed_step (framed e) s).outcome) (term : Terminator)
    (there : fetch (function_of (framed e).given s) s.top.block s.top.at ≡ AtTerm term) (label : ℕ)
    (goes : term_action (framed_context (framed e) s) (work_of s) term ≡ GoTo label) where
  abbrev g : Function
  g = function_in e s.top.func

  abbrev y : Shape
  y = e.shape s.top.func

  abbrev to : ℕ
  to = position_of g label

  edge : HasEdge g s.top.block label
  edge = has_edge e s term runs fine there label goes

  -- a branch goes by the value of a name
  branches : (v one other : ℕ)
      → fetch g s.top.block (length (instrs_of g s.top.block)) ≡ AtTerm (Terminator.Branch (Operand.Local v) one other)
      → branch (value_in s.top.values v) one other ≡ GoTo label
  branches v one other ends =
      let is : term ≡ Terminator.Branch (Operand.Local v) one other
      = same_term term (Terminator.Branch (Operand.Local v) one other)
      (sym there
      ∙ ((λ j. fetch g s.top.block (end_at g s.top.block s.top.at term there j)) ∙ ends)) in
      sym (ap (term_action (framed_context (framed e) s) (work_of s)) is) ∙ goes

  stuck : (one other : ℕ) → branch Value.Poison one other ≡ GoTo label → ⊥
  stuck one other h = cc

  by_truth_value : (b : Bool) (one other : ℕ) → branch (truth_value b) one other ≡ GoTo label
      → (if b then one else other) ≡ label
  by_truth_value true one other h = same_label one label h
  by_truth_value false one other h = same_label other label h

  -- the framed ramp beside a given one allocates
  beside_not : is_given_mode t.top.mode ≡ true → (k : AsksForFrame g y) → to ≢ k.beside
  beside_not mode k is = on (r.top.asked mode k.need k.is_need)
    where
      here : s.top.block ≡ k.asks
      here = alone.into_beside k s.top.block label edge is

      goes_by : branch (value_in s.top.values k.need) k.one k.other ≡ GoTo label
      goes_by =
          branches k.need k.one k.other ((λ j. fetch g (here j) (length (instrs_of g (here j)))) ∙ k.branch)

      on : (value_in s.top.values k.need ≡ Value.Poison)
          ⊎ ((value_in s.top.values k.need ≡ truth_value true) × (value_in t.top.values k.need ≡ truth_value false)) → ⊥
      on (inl poison) =
          stuck k.one k.other (sym (ap (λ (v : Value). branch v k.one k.other) poison) ∙ goes_by)
      on (inr answer) =
          let one = by_truth_value true k.one k.other
          (sym (ap (λ (v : Value). branch v k.one k.other) answer.0) ∙ goes_by) in
          not_beside g y k (sym k.to_allocator ∙ (ap (position_of g) one ∙ is))

  -- and where a frame was given the framed activation frees it
  tested_not : was_given (sides s t) t.top ≡ true → (q : FreesFrame g y) → FreesAside g y q.after q.beside
      → to ≢ q.beside
  tested_not given q aside is = on ((r.top.released given).tested q.tested q.is_eq q.is_tested)
    where
      here : s.top.block ≡ q.tests
      here = alone.into_tested q aside s.top.block label edge is

      goes_by : branch (value_in s.top.values q.tested) q.one q.other ≡ GoTo label
      goes_by =
          branches q.tested q.one q.other ((λ j. fetch g (here j) (length (instrs_of g (here j)))) ∙ q.branch)

      other_way : (b : Bool) → (if not b then q.one else q.other) ≡ (if b then q.other else q.one)
      other_way true = refl
      other_way false = refl

      on : (value_in s.top.values q.tested ≡ Value.Poison)
          ⊎ ((value_in s.top.values q.tested ≡ truth_value (not q.is_eq))
          × (value_in t.top.values q.tested ≡ truth_value q.is_eq)) → ⊥
      on (inl poison) =
          stuck q.one q.other (sym (ap (λ (v : Value). branch v q.one q.other) poison) ∙ goes_by)
      on (inr answer) =
          let one = by_truth_value (not q.is_eq) q.one q.other
          (sym (ap (λ (v : Value). branch v q.one q.other) answer.0) ∙ goes_by) in
          let frees : q.frees ≡ q.beside
          = sym q.to_free ∙ (ap (position_of g) (sym (other_way q.is_eq) ∙ one) ∙ is) in
          some_none (y.frees q.frees) q.tests q.waits (ap y.frees frees ∙ alone.unfreed q aside)

  -- the other activation stays, or takes an edge of its own
  module _ (block : ℕ)
      (moves : (block ≡ t.top.block)
      ⊎ ((other : ℕ) × (HasEdge (function_in e s.top.func) t.top.block other)
      × (block ≡ position_of (function_in e s.top.func) other))) where
    -- where it was in no block of a kind, and no edge leads there
    came_not : (there : ℕ) → (t.top.block ≡ there → ⊥)
        → ((other : ℕ) → HasEdge g t.top.block other → position_of g other ≡ there → ⊥) → block ≡ there → ⊥
    came_not there was edges is = on moves
      where
        on : (block ≡ t.top.block)
            ⊎ ((other : ℕ) × (HasEdge g t.top.block other) × (block ≡ position_of g other)) → ⊥
        on (inl same) = was (sym same ∙ is)
        on (inr go) = edges go.0 go.1 (sym go.2 ∙ is)

    waits_none : is_given_mode t.top.mode ≡ true → y.waits t.top.block ≡ None
    waits_none mode = subst (λ (n : ℕ). (e.shape n).waits t.top.block ≡ None) r.top.func (by.waits mode)

    frees_none : was_given (sides s t) t.top ≡ true → y.frees t.top.block ≡ None
    frees_none given = subst (λ (n : ℕ). (e.shape n).frees t.top.block ≡ None) r.top.func (by.frees given)

    -- beside the allocator's block no other activation is in a block of its own
    same_block : is_given_mode t.top.mode ≡ false → (k : AsksForFrame g y) → s.top.block ≡ k.allocates
        → t.top.block ≡ s.top.block
    same_block mode k here = on r.top.place
      where
        on : IsAt e r.homes (was_given (sides s t) t.top) s.top t.top → t.top.block ≡ s.top.block
        on (Beside same at) = same
        on (Waiting given waits stays) = absurd (not_both (is_given_mode t.top.mode) given mode)
        on (Freeing given frees stays) =
            absurd (some_none (y.frees s.top.block) t.top.block frees
            (ap y.frees here ∙ (alone.allocates k).0))
        on (Aside given aside at made) =
            absurd (some_none (y.aside s.top.block) t.top.block aside
            (ap y.aside here ∙ (alone.allocates k).1))

    asked_not : is_given_mode t.top.mode ≡ false → (k : AsksForFrame g y) → to ≡ k.after → block ≢ k.beside
    asked_not mode k is =
        came_not k.beside (λ at. not_beside g y k (sym here ∙ (sym (same_block mode k here) ∙ at)))
        (λ other edge' at.
        let asks = alone.into_beside k t.top.block other edge' at in
        no_branch g y k.allocates k.asks k.after k.one k.other (Operand.Local k.need) k.jumps k.branch
        (sym here ∙ (sym (same_block mode k here) ∙ asks)))
      where
        here : s.top.block ≡ k.allocates
        here = alone.into_after k s.top.block label edge is

    pub edge_apart : ApartIn (function_in e s.top.func) (e.shape s.top.func) (is_given_mode t.top.mode)
        (was_given (sides s t) t.top) (position_of (function_in e s.top.func) label) block
    edge_apart = record {
      beside = beside_not;
      after = λ mode k. came_not k.after (apart.after mode k)
          (λ other edge' at.
          let here = alone.into_after k t.top.block other edge' at in
          some_none (y.waits t.top.block) k.asks (ap y.waits here ∙ k.waits) (waits_none mode));
      asked = asked_not;
      tested = tested_not;
      freed = λ given q aside. came_not q.after (apart.freed given q aside)
          (λ other edge' at.
          let here = alone.into_freed q aside t.top.block other edge' at in
          some_none (y.frees t.top.block) q.tests (ap y.frees here ∙ q.waits) (frees_none given));
    }
