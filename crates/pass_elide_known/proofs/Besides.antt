-- Both runs stand beside each other at a deallocation, at a comparison, or at an alloca.
use Rattle.std.proofs.Common.{◌≡◌, ◌+◌, ◌⊎◌, ◌∙◌, ℕ, Bool, true, false, List, [], ◌∷◌, Option, Ok, ap, inl, inr, refl, subst, sym, ◌||◌, ◌&&◌}
use Rattle.std.specs.Prelude.{None, Some, is_some, slice_get}
use Rattle.elide_shape.specs.Calls.{deals}
use Rattle.elide_shape.specs.declared.calls.Dealing.{Dealing}
use Rattle.pass_elide_known.proofs.Acting.{next_ok}
use Rattle.pass_elide_known.proofs.Fronting.{known_there, none_ahead, ready_standing}
use Rattle.pass_elide_known.proofs.ReadyPlaces.{alloca_ready, free_ready, none_differs, ordinary_ready, or_given}
use Rattle.pass_elide_known.specs.Keeping.{KeepsMore, KeepsPhi, TakesPlain}
use Rattle.pass_elide_known.specs.States.{IsKnownFramed, IsKnownGiving, IsReadyGiving}
use Rattle.pass_elide_proof.proofs.Facts.{not_both}
use Rattle.pass_elide_proof.proofs.FreedAlone.{deallocates}
use Rattle.pass_elide_proof.proofs.FrontsMade.{own_is_front}
use Rattle.pass_elide_proof.proofs.OwnPlaces.{instr_there}
use Rattle.pass_elide_proof.proofs.PlacingEntered.{behind_place, unput}
use Rattle.pass_elide_proof.proofs.PlacingFacts.{by_truth, holds_over, no_frames, no_room, quiet}
use Rattle.pass_elide_proof.proofs.PlacingFrames.{frees_place}
use Rattle.pass_elide_proof.proofs.PlacingLooks.{again_place}
use Rattle.pass_elide_proof.proofs.PlacingOwn.{never_frees, never_waits, own_of}
use Rattle.pass_elide_proof.specs.Calling.{AreReady}
use Rattle.pass_elide_proof.specs.Edges.{IsAlike, IsPhiAlike, label_from, phis_at}
use Rattle.pass_elide_proof.specs.Elision.{Elision, Shape, differs_in, framed, function_in, no_shape, rooms}
use Rattle.pass_elide_proof.specs.Making.{IsNotEntering}
use Rattle.pass_elide_proof.specs.Match.{is_given_mode, sides, was_given}
use Rattle.pass_elide_proof.specs.Places.{allocas_ahead, front_at, instrs_of, own_at}
use Rattle.pass_elide_proof.specs.Placing.{HasShape, KeepsPlaces, ReadsPlain}
use Rattle.pass_elide_proof.specs.PlacingStates.{AreAtInstr}
use Rattle.pass_elide_proof.specs.Statement.{AreRelated}
use Rattle.pass_elide_proof.specs.Stepping.{IsAccompanied, IsKnownStep}
use Rattle.pass_elide_proof.proofs.pass_proofs.ir_laws.facts.Truth.{itself}
use Rattle.pass_elide_proof.specs.pass_proofs.ir_base.declared.ops.Pred.{Pred}
use Rattle.pass_elide_proof.specs.pass_proofs.ir_base.declared.outcome.Outcome.{Outcome}
use Rattle.pass_elide_proof.specs.pass_proofs.ir_model.Names.{is_local, position_of}
use Rattle.pass_elide_proof.specs.pass_proofs.ir_model.Ty.{Ty}
use Rattle.pass_elide_proof.specs.pass_proofs.ir_model.declared.instr.Instr.{Instr}
use Rattle.pass_elide_proof.specs.pass_proofs.ir_model.declared.instr.Phi.{Phi}
use Rattle.pass_elide_proof.specs.pass_proofs.ir_model.declared.module.Function.{Function}
use Rattle.pass_elide_proof.specs.pass_proofs.ir_model.declared.module.Module.{Module}
use Rattle.pass_elide_proof.specs.pass_proofs.ir_model.declared.operand.Allocator.{Allocator}
use Rattle.pass_elide_proof.specs.pass_proofs.ir_model.declared.operand.Arg.{Arg}
use Rattle.pass_elide_proof.specs.pass_proofs.ir_model.declared.operand.Callee.{Callee}
use Rattle.pass_elide_proof.specs.pass_proofs.ir_model.declared.operand.Operand.{Operand}
use Rattle.pass_elide_proof.specs.pass_proofs.ir_paths.Slots.{is_in_args}
use Rattle.pass_elide_proof.specs.pass_proofs.ir_paths.Windows.{operand_at}
use Rattle.pass_elide_proof.specs.pass_proofs.ir_paths.declared.point.Point.{Point}
use Rattle.pass_elide_proof.specs.pass_proofs.run_agreement.Machines.{IsFine}
use Rattle.pass_elide_proof.specs.pass_proofs.run_framed.Framed.{alloca_from, framed_next, framed_step}
use Rattle.pass_elide_proof.specs.pass_proofs.run_laws.changed.Changed.{Each}
use Rattle.pass_elide_proof.specs.pass_proofs.run_memory.declared.pointer.Value.{Value}
use Rattle.pass_elide_proof.specs.pass_proofs.run_source.Source.{deallocate}
use Rattle.pass_elide_proof.specs.pass_proofs.run_source.State.{function_of}
use Rattle.pass_elide_proof.specs.pass_proofs.run_source.declared.state.Mode.{Mode}
use Rattle.pass_elide_proof.specs.pass_proofs.run_source.declared.state.State.{State}
use Rattle.pass_elide_proof.specs.pass_proofs.run_step.Step.{AtInstr, fetch}
use Rattle.pass_elide_proof.specs.pass_proofs.run_step.Values.{Env, address, arg_values, nth, operand_value, value_in}

-- ---- operands

first_value : (m : Module) (env : Env) (args : List Arg) (name : ℕ) → operand_at args 0 ≡ Operand.Local name
    → nth (arg_values m env args) 0 ≡ value_in env name
first_value m env [] name h = absurd (cc)
first_value m env (a ∷ args) name h = ap (operand_value m env a.ty) h

first_read : (args : List Arg) (v : ℕ) → operand_at args 0 ≡ Operand.Local v → is_in_args v args ≡ true
first_read [] v h = absurd (cc)
first_read (a ∷ args) v h = (λ j. is_local v (h j) || is_in_args v args) ∙ (λ j. itself v j || is_in_args v args)

or_none : (a b : Bool) → (a || b) ≡ false → (a ≡ false) × (b ≡ false)
or_none true b h = absurd (cc)
or_none false b h = (refl, h)

-- what differs nowhere in a phi's name differs nowhere in what the phi takes
takes_alike : (x : Shape) (ramp given : Bool) (p v : ℕ) → TakesPlain x p v → differs_in x ramp given p ≡ false
    → differs_in x ramp given v ≡ false
takes_alike x ramp given p v plain alike =
    quiet x ramp given v plain.need (made ramp alike) plain.freed plain.tested (passed given alike)
  where
    made : (b : Bool) → differs_in x b given p ≡ false → b ≡ true → x.made v ≡ false
    made false h is = absurd (cc)
    made true h is =
        let no = (or_none (x.need p) (x.made p) (or_none (x.need p || x.made p)
        (given && (x.freed p || (is_some (x.tested p) || x.passed p))) h).0).1 in
        by_truth (x.made v) (λ yes. absurd (not_both (x.made p) (plain.made yes) no)) (λ n. n)

    passed : (b : Bool) → differs_in x ramp b p ≡ false → b ≡ true → x.passed v ≡ false
    passed false h is = absurd (cc)
    passed true h is =
        let rest = (or_none (ramp && (x.need p || x.made p)) (x.freed p || (is_some (x.tested p) || x.passed p)) h).1 in
        let no = (or_none (is_some (x.tested p)) (x.passed p)
        (or_none (x.freed p) (is_some (x.tested p) || x.passed p) rest).1).1 in
        by_truth (x.passed v) (λ yes. absurd (not_both (x.passed p) (plain.passed yes) no)) (λ n. n)

-- ---- shapes

-- a shape that tells a test is no other's
tested_shape : (e : Elision) (func name : ℕ) → is_some ((e.shape func).tested name) ≡ true
    → (e.shape func ≡ no_shape) ⊎ HasShape e func → HasShape e func
tested_shape e func name is (inl none) =
    absurd (not_both (is_some ((e.shape func).tested name)) is (ap (λ (x : Shape). is_some (x.tested name)) none))
tested_shape e func name is (inr k) = k

freed_shape : (e : Elision) (func name : ℕ) → (e.shape func).freed name ≡ true
    → (e.shape func ≡ no_shape) ⊎ HasShape e func → HasShape e func
freed_shape e func name is (inl none) =
    absurd (not_both ((e.shape func).freed name) is (ap (λ (x : Shape). x.freed name) none))
freed_shape e func name is (inr k) = k

some_of : {A : Type 0} (o : Option A) → is_some o ≡ true → (a : A) × (o ≡ Some a)
some_of None h = absurd (cc)
some_of (Some a) h = (a, refl)

-- ---- deallocators

frees_other : (a : Allocator) → deals Dealing.Frees a ≡ true → deals Dealing.Allocates a ≡ false
frees_other Allocator.Malloc is = absurd (cc)
frees_other Allocator.Znwm is = absurd (cc)
frees_other Allocator.Free is = refl
frees_other Allocator.ZdlPv is = refl
frees_other Allocator.ZdlPvm is = refl

module _ (e : Elision) (keeps : KeepsPlaces e) (more : KeepsMore e) (s t : State) (r : AreRelated e s t)
    (known : IsKnownFramed e s) (giving : IsKnownGiving e t) (runs : s.outcome ≡ Outcome.Running)
    (fine : IsFine (framed_step (framed e) s).outcome) (block : t.top.block ≡ s.top.block)
    (stands : t.top.at ≡ front_at (rooms e s.top.func) (function_in e s.top.func) s.top.block s.top.at) where
  abbrev f : Function
  f = function_in e s.top.func

  abbrev x : Shape
  x = e.shape s.top.func

  abbrev ramp : Bool
  ramp = is_given_mode t.top.mode

  abbrev given : Bool
  given = was_given (sides s t) t.top

  func : t.top.func ≡ s.top.func
  func = r.beside.top.func

  own_here : (allocas : s.top.block ≡ 0 → s.top.at ≡ 0 → allocas_ahead (rooms e s.top.func) (function_in e s.top.func)
      ≡ []) → t.top.at ≡ own_at (rooms e s.top.func) (function_in e s.top.func) s.top.block s.top.at
  own_here none = stands ∙ sym (own_is_front e s.top.func (unput e keeps s.top.func) s.top.block s.top.at none)

  -- ---- deallocations

  module _ (a : Allocator) (result : Option ℕ) (must_tail : Bool) (ty : Option Ty) (args : List Arg)
      (frees : deals Dealing.Frees a ≡ true)
      (there : fetch (function_of (framed e).given s) s.top.block s.top.at
      ≡ AtInstr (Instr.Call result must_tail ty (Callee.Allocator a) args)) where
    abbrev call : Instr
    call = Instr.Call result must_tail ty (Callee.Allocator a) args

    here : slice_get (instrs_of f s.top.block) s.top.at ≡ Some call
    here = instr_there f s.top.block s.top.at call there

    next : (u : State) × (framed_next (framed e) s (AtInstr call) ≡ Ok u)
    next = next_ok e keeps s runs fine call there

    goes : deallocate s (address (nth (arg_values e.code s.top.values args) 0)) ≡ Ok next.0
    goes = sym (deallocates (framed e) s a result must_tail ty args frees) ∙ next.1

    -- what coro.free gave is freed, where the frame was given
    of_null : (name : ℕ) → operand_at args 0 ≡ Operand.Local name → x.freed name ≡ true → given ≡ true
        → IsKnownStep e s t r.beside
    of_null name takes is was =
        IsKnownStep.Going (IsAccompanied.FreeOfNull a result must_tail ty args (record {
          frees = frees_place e keeps s t r.beside giving.sound a result must_tail ty args runs frees there was name
              takes is next.0
              (sym (ap (λ (v : Value). deallocate s (address v)) (first_value e.code s.top.values args name takes))
              ∙ goes);
          beside = block;
          stands = stands;
        }))

    beside : ((u : State) → AreReady e s u → IsReadyGiving e s u → IsAlike e s u (operand_at args 0))
        → IsKnownStep e s t r.beside
    beside alike =
        known_there e keeps more s t r known giving runs call there block stands (λ u ready giving'.
        free_ready e keeps s known runs fine u ready giving' a result must_tail ty args frees (frees_other a frees)
        there (alike u ready giving'))

    read : (v : ℕ) → operand_at args 0 ≡ Operand.Local v → ReadsPlain x s.top.block call v
    read v is = (keeps.instrs s.top.func).takes s.top.block s.top.at v call known.reached here
        (first_read args v is)

    -- it is no name that coro.free gave
    plain_operand : ((v : ℕ) → operand_at args 0 ≡ Operand.Local v → x.freed v ≡ false) → (u : State)
        → AreReady e s u → IsReadyGiving e s u → IsAlike e s u (operand_at args 0)
    plain_operand other u ready giving' =
        λ v is.
        let k = read v is in
        quiet x (is_given_mode u.top.mode) (was_given (sides s u) u.top) v k.need
        (λ h. k.made refl (never_waits e keeps s u ready.beside.top.func ready.block giving'.passed h)) (other v is)
        k.tested (λ h. k.passed (never_frees e keeps s u ready.beside.top.func ready.block giving'.passed h))

    -- a name that coro.free gives is one of a coroutine, in front of which no allocas are put
    of_frame : (name : ℕ) → operand_at args 0 ≡ Operand.Local name → x.freed name ≡ true → IsKnownStep e s t r.beside
    of_frame name is freed =
        by_truth given (of_null name is freed)
        (λ other. IsKnownStep.Standing (behind_place e keeps s t block stands
        (λ first start. none_ahead e keeps more s t r known giving runs call there block stands
        (freed_shape e s.top.func name freed (keeps.shapes s.top.func)).coroutine))
        (λ ready. free_ready e keeps s known runs fine t ready
        (ready_standing e keeps more s t r known giving runs call there block stands ready) a result must_tail ty args
        frees (frees_other a frees) there (λ v local. none_differs x ramp given v (or_given ramp _ other) other)))

    no_local : (o : Operand) → operand_at args 0 ≡ o → ((v : ℕ) → o ≡ Operand.Local v → ⊥)
        → IsKnownStep e s t r.beside
    no_local o is never = beside (plain_operand (λ v local. absurd (never v (sym is ∙ local))))

    one_local : (n v : ℕ) → Operand.Local n ≡ Operand.Local v → v ≡ n
    one_local n v q = cc

    by_operand : (o : Operand) → operand_at args 0 ≡ o → IsKnownStep e s t r.beside
    by_operand (Operand.Local name) is =
        by_truth (x.freed name) (of_frame name is)
        (λ no. beside (plain_operand (λ v local. ap x.freed (one_local name v (sym is ∙ local)) ∙ no)))
    by_operand (Operand.Global n) is = no_local (Operand.Global n) is (λ v q. cc)
    by_operand (Operand.Number z) is = no_local (Operand.Number z) is (λ v q. cc)
    by_operand Operand.True is = no_local Operand.True is (λ v q. cc)
    by_operand Operand.False is = no_local Operand.False is (λ v q. cc)
    by_operand Operand.Null is = no_local Operand.Null is (λ v q. cc)
    by_operand Operand.None is = no_local Operand.None is (λ v q. cc)
    by_operand Operand.Poison is = no_local Operand.Poison is (λ v q. cc)

    pub deallocation_known : IsKnownStep e s t r.beside
    deallocation_known = by_operand (operand_at args 0) refl

  -- ---- comparisons

  module _ (name : ℕ) (pred : Pred) (ty : Ty) (a b : Operand)
      (there : fetch (function_of (framed e).given s) s.top.block s.top.at
      ≡ AtInstr (Instr.Icmp name pred ty a b)) where
    abbrev test : Instr
    test = Instr.Icmp name pred ty a b

    test_here : slice_get (instrs_of f s.top.block) s.top.at ≡ Some test
    test_here = instr_there f s.top.block s.top.at test there

    module _ (is : is_some (x.tested name) ≡ true) where
      shape : HasShape e s.top.func
      shape = tested_shape e s.top.func name is (keeps.shapes s.top.func)

      null_test : given ≡ true → IsKnownStep e s t r.beside
      null_test was =
          let answer = some_of (x.tested name) is in
          let k = more.tests s.top.func s.top.block s.top.at name pred ty a b answer.0 test_here answer.1 in
          let set = (keeps.instrs s.top.func).sets s.top.block s.top.at name (Instr.Icmp name pred ty a b) test_here
          refl in
          IsKnownStep.Going (IsAccompanied.NullTest name pred a b (record {
            runs = runs;
            there = there ∙ ap (λ (z : Ty). AtInstr (Instr.Icmp name pred z a b)) k.pointers;
            none = no_frames (rooms e s.top.func) (keeps.wakes s.top.func shape.coroutine).none f;
            beside = block;
            stands = stands;
            given = was;
            freed = k.freed;
            is_freed = k.is_freed;
            operands = k.operands;
            tested = k.tested;
            not_need = set.need refl;
            not_freed = set.freed refl;
            holds = holds_over e s.top.func s.top.block s.top.at test test_here refl refl (keeps.shapes s.top.func);
            kept = λ n held. set.kept n held;
            fine = fine;
          }))

      other_test : given ≡ false → IsKnownStep e s t r.beside
      other_test other =
          IsKnownStep.Standing (behind_place e keeps s t block stands
          (λ first start. none_ahead e keeps more s t r known giving runs test there block stands shape.coroutine))
          (λ ready. ordinary_ready e keeps s known runs fine t ready
          (ready_standing e keeps more s t r known giving runs test there block stands ready) test there refl
          (inr other))

    pub comparison_known : IsKnownStep e s t r.beside
    comparison_known =
        by_truth (is_some (x.tested name)) (λ is. by_truth given (null_test is) (other_test is))
        (λ no. known_there e keeps more s t r known giving runs test there block stands
        (λ u ready there'. ordinary_ready e keeps s known runs fine u ready there' test there refl (inl no)))

  -- ---- allocas

  module _ (name : ℕ) (ty : Ty) (align : ℕ)
      (there : fetch (function_of (framed e).given s) s.top.block s.top.at ≡ AtInstr (Instr.Alloca name ty align)) where
    abbrev made_by : Instr
    made_by = Instr.Alloca name ty align

    alloca_here : slice_get (instrs_of f s.top.block) s.top.at ≡ Some made_by
    alloca_here = instr_there f s.top.block s.top.at made_by there

    new_alloca : IsNotEntering s.top.mode → IsKnownStep e s t r.beside
    new_alloca mode =
        known_there e keeps more s t r known giving runs made_by there block stands
        (λ u ready giving'. alloca_ready e keeps s known runs fine u ready giving' name ty align there mode)

    module _ (from label : ℕ) (mode : s.top.mode ≡ Mode.Entering from label) where
      other : Mode.Entering from label ≡ Mode.Plain → ⊥
      other q = cc

      inside : f.coroutine ≡ true
      inside = by_truth f.coroutine (λ h. h) (λ no. absurd (other (sym mode ∙ (known.known.acts.0.plain no).0)))

      no_allocas_ahead : allocas_ahead (rooms e s.top.func) (function_in e s.top.func) ≡ []
      no_allocas_ahead = none_ahead e keeps more s t r known giving runs made_by there block stands inside

      at : AreAtInstr e s t (Instr.Alloca name ty align)
      at = record {
        runs = runs;
        there = there;
        block = block;
        at = own_here (λ first start. no_allocas_ahead);
        reached = known.reached;
      }

      phi_alike : (p : Phi) → KeepsPhi e s.top.func (label_from f from) p → IsPhiAlike e s t (label_from f from) p
      phi_alike p k = record {
        known = k.low;
        answers = k.answers;
        takes = λ alike v is. takes_alike x ramp given p.result v (k.takes v is) alike;
      }

      phis_alike : (ps : List Phi) → Each (KeepsPhi e s.top.func (label_from f from)) ps
          → Each (IsPhiAlike e s t (label_from f from)) ps
      phis_alike [] h = tt
      phis_alike (p ∷ ps) h = (phi_alike p h.0, phis_alike ps h.1)

      by_next : (o : Option Point) → alloca_from (function_in e s.top.func) (s.top.at + 1) ≡ o
          → IsKnownStep e s t r.beside
      by_next (Some next) follows =
          IsKnownStep.Going (IsAccompanied.AllocaAgain name ty align from label next stands
          (again_place e keeps s t func r.passed.0 known.known name ty align from label next at known.slots mode
          follows))
      by_next None last =
          let small = (keeps.instrs s.top.func).allocas s.top.block s.top.at name align ty alloca_here in
          let entering = known.entering from label mode in
          IsKnownStep.Going (IsAccompanied.LastAlloca name ty align from label stands (record {
            own = own_of e keeps s t made_by func r.passed.0 at
                (record { begins = refl; asks = refl; frees = refl; tests = refl; takes = λ h. absurd (cc) })
                (no_room e keeps s.top.func s.top.block s.top.at made_by refl);
            slots = known.slots;
            mode = mode;
            small = small.small;
            aligned = small.aligned;
            none = (keeps.wakes s.top.func inside).none;
            last = last;
            phis = phis_alike (phis_at f (position_of f label))
                (more.phis s.top.func from entering.at (position_of f label) entering.suspend entering.is_there
                entering.suspends);
          }))

      alloca_again : IsKnownStep e s t r.beside
      alloca_again = by_next (alloca_from f (s.top.at + 1)) refl

    by_mode : (m : Mode) → s.top.mode ≡ m → IsKnownStep e s t r.beside
    by_mode Mode.Plain is = new_alloca (subst IsNotEntering (sym is) tt)
    by_mode Mode.Ramp is = new_alloca (subst IsNotEntering (sym is) tt)
    by_mode Mode.Resumed is = new_alloca (subst IsNotEntering (sym is) tt)
    by_mode (Mode.Entering from label) is = alloca_again from label is
    by_mode (Mode.GivenRamp frame) is = new_alloca (subst IsNotEntering (sym is) tt)

    pub alloca_known : IsKnownStep e s t r.beside
    alloca_known = by_mode s.top.mode refl
