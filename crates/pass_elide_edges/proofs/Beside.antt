-- Both runs stand beside each other at the end of a block.
use Rattle.std.proofs.Common.{◌≡◌, ◌⊎◌, inl, inr, ℕ, Bool, true, false, List, [], ◌∷◌, length, refl, sym, ap, ◌∙◌, subst}
use Rattle.std.specs.List.{list_all}
use Rattle.std.specs.Option.{option_map_or}
use Rattle.std.specs.Prelude.{◌≢◌, None, Some, if◌then◌else◌}
use Rattle.pass_elide_edges.proofs.Alike.{StandsPlain, holds_none, holds_still, no_ramp, none_alike, none_phis, quiet_name, shape_phis, ungiven}
use Rattle.pass_elide_edges.proofs.Choosing.{Edge, Leaves, Stays}
use Rattle.pass_elide_edges.proofs.Fronts.{all_slots, place}
use Rattle.pass_elide_edges.proofs.Staying.{branch_stays, to_one, to_other, ends_here, gives_none, keeps_windows, leaving_coroutine, stays_by}
use Rattle.pass_elide_edges.specs.Keeping.{Asked, HasEdge, KeepsEnds, KeepsFreeing, LeavesNone, LooksAt, Plain, ShapesEnds, Tested}
use Rattle.pass_elide_edges.specs.States.{EndsElided, EndsReached, StandApart}
use Rattle.pass_elide_proof.proofs.EdgeEntered.{same_term}
use Rattle.pass_elide_proof.proofs.Facts.{not_both, some_none}
use Rattle.pass_elide_proof.proofs.Given.{own_of}
use Rattle.pass_elide_proof.proofs.LeftWindows.{own_there}
use Rattle.pass_elide_proof.proofs.PlacingFacts.{by_truth}
use Rattle.pass_elide_proof.proofs.PlacingQuestions.{question_place}
use Rattle.pass_elide_proof.specs.Both.{standing_at}
use Rattle.pass_elide_proof.specs.Calling.{AreReady, IsAtFront, IsBehindFront}
use Rattle.pass_elide_proof.specs.Edges.{IsAlike, IsAtEdge, IsEntering, IsHeldOn, IsPhiAlike, chosen_by, label_from, phis_at}
use Rattle.pass_elide_proof.specs.EdgesFreeing.{FreesFrame}
use Rattle.pass_elide_proof.specs.EdgesLeaving.{IsAtExit}
use Rattle.pass_elide_proof.specs.Elision.{Elision, Shape, differs_in, framed, function_in, no_shape, rooms}
use Rattle.pass_elide_proof.specs.Match.{instance_in, is_given_mode, sides, was_given}
use Rattle.pass_elide_proof.specs.Places.{front_at, instrs_of}
use Rattle.pass_elide_proof.specs.Placing.{HasShape, KeepsPlaces}
use Rattle.pass_elide_proof.specs.PlacingStates.{PassesBy}
use Rattle.pass_elide_proof.specs.Shapes.{AsksForFrame}
use Rattle.pass_elide_proof.specs.Statement.{AreRelated}
use Rattle.pass_elide_proof.specs.Stepping.{IsAccompanied, IsKnownStep, IsReadyFor, IsWaitedFor, fronted}
use Rattle.pass_elide_proof.specs.pass_proofs.flow_solver.Paths.{IsListed}
use Rattle.pass_elide_proof.specs.pass_proofs.ir_base.declared.outcome.Outcome.{Outcome}
use Rattle.pass_elide_proof.specs.pass_proofs.ir_model.Names.{position_of}
use Rattle.pass_elide_proof.specs.pass_proofs.ir_model.declared.instr.Terminator.{Terminator}
use Rattle.pass_elide_proof.specs.pass_proofs.ir_model.declared.module.Function.{Function}
use Rattle.pass_elide_proof.specs.pass_proofs.ir_model.declared.operand.Operand.{Operand}
use Rattle.pass_elide_proof.specs.pass_proofs.ir_paths.Paths.{targets}
use Rattle.pass_elide_proof.specs.pass_proofs.ir_paths.declared.point.Window.{Window}
use Rattle.pass_elide_proof.specs.pass_proofs.run_framed.Framed.{is_given, framed_context}
use Rattle.pass_elide_proof.specs.pass_proofs.run_laws.changed.Changed.{Each}
use Rattle.pass_elide_proof.specs.pass_proofs.run_source.Source.{left_windows, may_leave}
use Rattle.pass_elide_proof.specs.pass_proofs.run_source.State.{function_of, own_instance, work_of}
use Rattle.pass_elide_proof.specs.pass_proofs.run_source.declared.state.Instance.{Instance}
use Rattle.pass_elide_proof.specs.pass_proofs.run_source.declared.state.State.{State}
use Rattle.pass_elide_proof.specs.pass_proofs.run_step.Step.{AtTerm, GoTo, fetch, term_action}

same_local : (v u : ℕ) → Operand.Local v ≡ Operand.Local u → v ≡ u
same_local v u h = cc

-- what the edge to a label asks of names and of the block that is held
pub record TakesAll (e : Elision) (s u : State) (term : Terminator) (label : ℕ) : Type 0 where
  pub chosen : IsAlike e s u (chosen_by term)
  pub phis : Each (IsPhiAlike e s u (label_from (function_in e s.top.func) s.top.block))
      (phis_at (function_in e s.top.func) (position_of (function_in e s.top.func) label))
  pub held : is_given_mode u.top.mode ≡ true → IsHeldOn e s (position_of (function_in e s.top.func) label)

-- A terminator looks at what doesn't differ. Or a given ramp asks, or an activation whose frame was given tests what
-- is to be freed.
pub data Looks (e : Elision) (s t : State) (term : Terminator)
    (q : AsksForFrame (function_in e s.top.func) (e.shape s.top.func)) : Type 0 where
  Alike : IsAlike e s t (chosen_by term) → Looks e s t term q
  Asks : s.top.block ≡ q.asks → is_given_mode t.top.mode ≡ true → Looks e s t term q
  Tests : (z : FreesFrame (function_in e s.top.func) (e.shape s.top.func))
      → KeepsFreeing (function_in e s.top.func) (e.shape s.top.func) z → s.top.block ≡ z.tests
      → was_given (sides s t) t.top ≡ true → Looks e s t term q

module _ (e : Elision) (keeps : KeepsPlaces e) (ends : KeepsEnds e) (s t : State) (r : AreRelated e s t)
    (first : EndsReached e s) (second : EndsElided e t) (apart : StandApart e (sides s t) s.top t.top)
    (by : PassesBy e t t.top)
    (runs : s.outcome ≡ Outcome.Running)
    (term : Terminator) (there : fetch (function_of (framed e).given s) s.top.block s.top.at ≡ AtTerm term)
    (beside : t.top.block ≡ s.top.block)
    (stands : t.top.at ≡ front_at (rooms e s.top.func) (function_in e s.top.func) s.top.block s.top.at) where
  abbrev f : Function
  f = function_in e s.top.func

  abbrev x : Shape
  x = e.shape s.top.func

  abbrev front : ℕ
  front = front_at (rooms e s.top.func) f s.top.block s.top.at

  last : s.top.at ≡ length (instrs_of f s.top.block)
  last = ends_here e s runs term there

  -- ---- one edge

  module _ (label : ℕ) (goes : term_action (framed_context (framed e) s) (work_of s) term ≡ GoTo label)
      (leads : HasEdge (function_in e s.top.func) s.top.block label) where
    enters : left_windows (framed e).given s label ≡ [] → IsEntering (framed e) s label
    enters stays = record { runs = runs; term = term; there = there; goes = goes; stays = stays }

    edge_place : (u : State) → AreReady e s u → left_windows (framed e).given s label ≡ []
        → TakesAll e s (standing_at u front) term label → IsAtEdge e s (standing_at u front) label
    edge_place u ready stays takes = record {
      enters = record { runs = runs; term = term; there = there; goes = goes; stays = stays };
      beside = ready.block;
      made = all_slots e s u ready;
      windows = keeps_windows e keeps s.top.func;
      chosen = takes.chosen;
      phis = takes.phis;
      held = takes.held;
    }

    exit_place : (w : Window) (ws : List Window) (number : ℕ) (instance : Instance)
        → left_windows (framed e).given s label ≡ w ∷ ws → own_instance s ≡ Some (number, instance)
        → list_all (may_leave (length s.below) instance) (w ∷ ws) ≡ true → TakesAll e s t term label
        → IsAtExit e s t label
    exit_place w ws number instance leaves own may takes = record {
      exits = record {
        runs = runs;
        term = term;
        there = there;
        goes = goes;
        window = w;
        windows = ws;
        leaves = leaves;
        number = number;
        instance = instance;
        own = own;
        may = may;
      };
      is_its = is_own number instance own;
      beside = beside;
      stands = stands;
      none = gives_none e keeps s.top.func (leaving_coroutine e keeps s label w ws leaves);
      chosen = takes.chosen;
      phis = takes.phis;
      held = takes.held;
    }
      where
        is_own : (number : ℕ) (instance : Instance) → own_instance s ≡ Some (number, instance)
            → instance.coroutine ≡ s.top.func
        is_own number instance own =
            let at = own_there s number instance own in
            own_of (framed e) s first.ends.sound instance (ap (instance_in s.instances) at.0 ∙ at.1)

    -- ---- in a function whose calls give no frame

    takes_none : e.shape s.top.func ≡ no_shape → (u : State) → TakesAll e s u term label
    takes_none none u = record {
      chosen = none_alike e s u none (chosen_by term);
      phis = none_phis e s u none (label_from f s.top.block) (position_of f label)
          (ends.phis s.top.func (position_of f label));
      held = λ given. holds_none e s u none (position_of f label);
    }

    -- ---- the kinds of the step

    -- a function that is no coroutine has no shape
    front_none : IsAtFront e s t → e.shape s.top.func ≡ no_shape
    front_none at = on (keeps.shapes s.top.func)
      where
        on : (e.shape s.top.func ≡ no_shape) ⊎ HasShape e s.top.func → e.shape s.top.func ≡ no_shape
        on (inl none) = none
        on (inr k) = absurd (not_both f.coroutine k.coroutine at.plain)

    edge_known : left_windows (framed e).given s label ≡ [] → TakesAll e s (standing_at t front) term label
        → IsKnownStep e s t r.beside
    edge_known stays takes = on (place e keeps s t r.beside first.ends second runs term there beside stands)
      where
        on : IsAtFront e s t ⊎ IsBehindFront e s t → IsKnownStep e s t r.beside
        on (inl at) =
            IsKnownStep.Fronting at
            (λ ready. IsReadyFor.Edge label
            (edge_place (fronted e s t) ready stays (takes_none (front_none at) (standing_at (fronted e s t) front))))
        on (inr at) = IsKnownStep.Standing at (λ ready. IsReadyFor.Edge label (edge_place t ready stays takes))

    goes_known : Edge e s label → TakesAll e s (standing_at t front) term label → TakesAll e s t term label
        → IsKnownStep e s t r.beside
    goes_known (Stays stays) takes here = edge_known stays takes
    goes_known (Leaves w ws number instance leaves own may) takes here =
        IsKnownStep.Going (IsAccompanied.Exit label (exit_place w ws number instance leaves own may here))

    pub plain_goes : Edge e s label → e.shape s.top.func ≡ no_shape → IsKnownStep e s t r.beside
    plain_goes edge none = goes_known edge (takes_none none (standing_at t front)) (takes_none none t)

  -- ---- in a coroutine whose calls may give its frame

  module _ (k : ShapesEnds e s.top.func) where
    abbrev q : AsksForFrame f x
    q = k.shape.asks

    not_allocates : is_given_mode t.top.mode ≡ true → s.top.block ≢ q.allocates
    not_allocates given is =
        some_none (x.waits s.top.block) q.asks (ap x.waits is ∙ q.waits)
        (ap x.waits (sym beside)
        ∙ subst (λ (n : ℕ). (e.shape n).waits t.top.block ≡ None) r.beside.top.func (by.waits given))

    stands_plain : StandsPlain f x q s.top.block (is_given_mode t.top.mode) (was_given (sides s t) t.top)
    stands_plain = record {
      allocates = not_allocates;
      after = λ given is. apart.after given q (beside ∙ is);
      beside = λ given. apart.beside given q;
      freed = λ given z aside. (λ is. apart.freed given z aside (beside ∙ is), apart.tested given z aside);
    }

    takes_shape : (label : ℕ) → HasEdge f s.top.block label → IsAlike e s t (chosen_by term)
        → TakesAll e s t term label
    takes_shape label edge chosen = record {
      chosen = chosen;
      phis = shape_phis e s t q k.ends stands_plain first.reached label edge (ends.phis s.top.func (position_of f label));
      held = holds_still e s t q k.ends stands_plain first.reached label edge last;
    }

    takes_standing : (label : ℕ) → HasEdge f s.top.block label → IsAlike e s t (chosen_by term)
        → TakesAll e s (standing_at t front) term label
    takes_standing label edge chosen = record {
      chosen = chosen;
      phis = shape_phis e s (standing_at t front) q k.ends stands_plain first.reached label edge
          (ends.phis s.top.func (position_of f label));
      held = holds_still e s (standing_at t front) q k.ends stands_plain first.reached label edge last;
    }

    -- ---- at what the terminator looks

    abbrev ramp : Bool
    ramp = is_given_mode t.top.mode

    abbrev given : Bool
    given = was_given (sides s t) t.top

    one_name : (v : ℕ) → chosen_by term ≡ Operand.Local v → differs_in x ramp given v ≡ false
        → IsAlike e s t (chosen_by term)
    one_name v is same u at =
        let name : v ≡ u = same_local v u (sym is ∙ at) in
        subst (λ (n : ℕ). differs_in x ramp given n ≡ false) name same

    looks_at : (v : ℕ) → chosen_by term ≡ Operand.Local v → LooksAt f x q s.top.block v → Looks e s t term q
    looks_at v is (Plain h) = Alike (one_name v is (quiet_name x v ramp given h))
    looks_at v is (Asked here freed tested passed) =
        by_truth ramp (λ is_so. Asks here is_so)
        (λ never. Alike (one_name v is (no_ramp x v ramp given never freed tested passed)))
    looks_at v is (Tested z keeps here) =
        by_truth given (λ is_so. Tests z keeps here is_so)
        (λ never. Alike (one_name v is (ungiven x v ramp given (no_mode never) never)))
      where
        no_mode : given ≡ false → ramp ≡ false
        no_mode never = by_truth ramp (λ is_so. absurd (not_both given (given_mode is_so) never)) (λ other. other)
          where
            given_mode : ramp ≡ true → given ≡ true
            given_mode is_so =
                ap (λ (b : Bool). if b then true
                else option_map_or (is_given t.world.memory) (instance_in t.instances t.top.instance) false) is_so

    looks : (o : Operand) → chosen_by term ≡ o → Looks e s t term q
    looks (Operand.Local v) is =
        looks_at v is
        (k.ends.looks s.top.block v term first.reached
        ((λ j. fetch f s.top.block (sym last j)) ∙ there) is)
    looks _ is = Alike (λ v at. absurd (cc))

    -- ---- what the step is

    asked_known : (label : ℕ) → term_action (framed_context (framed e) s) (work_of s) term ≡ GoTo label
        → HasEdge f s.top.block label → s.top.block ≡ q.asks → ramp ≡ true → IsKnownStep e s t r.beside
    asked_known label goes edge here is_so =
        IsKnownStep.Waiting
        (IsWaitedFor.Question q label
        (question_place e keeps s t k.shape label (enters label goes edge stays) here is_so beside stands))
      where
        is_term : edge.term ≡ Terminator.Branch (Operand.Local q.need) q.one q.other
        is_term =
            same_term edge.term (Terminator.Branch (Operand.Local q.need) q.one q.other)
            (sym edge.stands ∙ ((λ j. fetch f (here j) (length (instrs_of f (here j)))) ∙ q.branch))

        stays : left_windows (framed e).given s label ≡ []
        stays =
            stays_by e s q.asks label here last
            (branch_stays f q.asks q.one q.other label (Operand.Local q.need)
            (subst (λ (z : Terminator). IsListed label (targets z)) is_term edge.leads)
            k.ends.asking.stays_asks k.ends.asking.stays_passes)

    abbrev tests_by : FreesFrame f x → Terminator
    tests_by z = Terminator.Branch (Operand.Local z.tested) z.one z.other

    tests_known : (label : ℕ) → term_action (framed_context (framed e) s) (work_of s) term ≡ GoTo label
        → HasEdge f s.top.block label → (z : FreesFrame f x) → KeepsFreeing f x z → s.top.block ≡ z.tests
        → given ≡ true → IsKnownStep e s t r.beside
    tests_known label goes edge z free here is_so =
        IsKnownStep.Waiting (IsWaitedFor.Test z label (record {
          enters = enters label goes edge stays;
          tests = here;
          given = is_so;
          beside = beside;
          stands = stands;
          none = gives_none e keeps s.top.func k.shape.coroutine;
          bare = free.bare;
          held = λ mode. subst (IsHeldOn e s) z.to_free
              (holds_still e s t q k.ends stands_plain first.reached (if z.is_eq then z.other else z.one) (to_free z.is_eq) last
              mode);
        }))
      where
        is_term : edge.term ≡ tests_by z
        is_term =
            same_term edge.term (tests_by z)
            (sym edge.stands ∙ ((λ j. fetch f (here j) (length (instrs_of f (here j)))) ∙ z.branch))

        to_label : IsListed label (targets (tests_by z))
        to_label = subst (λ (y : Terminator). IsListed label (targets y)) is_term edge.leads

        either_stays : (b : Bool) → LeavesNone f z.tests (if b then z.other else z.one)
            → LeavesNone f z.tests (if b then z.one else z.other) → LeavesNone f z.tests label
        either_stays true a b = branch_stays f z.tests z.one z.other label (Operand.Local z.tested) to_label b a
        either_stays false a b = branch_stays f z.tests z.one z.other label (Operand.Local z.tested) to_label a b

        stays : left_windows (framed e).given s label ≡ []
        stays =
            stays_by e s z.tests label here last (either_stays z.is_eq free.stays_tests free.stays_passes)

        leads_to : (b : Bool) → IsListed (if b then z.other else z.one) (targets (tests_by z))
        leads_to true = to_other z.one z.other (Operand.Local z.tested)
        leads_to false = to_one z.one z.other (Operand.Local z.tested)

        to_free : (b : Bool) → HasEdge f s.top.block (if b then z.other else z.one)
        to_free b = record {
          term = tests_by z;
          stands = (λ j. fetch f (here j) (length (instrs_of f (here j)))) ∙ z.branch;
          leads = leads_to b;
        }

    pub shape_goes : (label : ℕ) → term_action (framed_context (framed e) s) (work_of s) term ≡ GoTo label
        → HasEdge f s.top.block label → Edge e s label → IsKnownStep e s t r.beside
    shape_goes label goes edge leads = on (looks (chosen_by term) refl)
      where
        on : Looks e s t term q → IsKnownStep e s t r.beside
        on (Alike chosen) =
            goes_known label goes edge leads (takes_standing label edge chosen) (takes_shape label edge chosen)
        on (Asks here is_so) = asked_known label goes edge here is_so
        on (Tests z free here is_so) = tests_known label goes edge z free here is_so
