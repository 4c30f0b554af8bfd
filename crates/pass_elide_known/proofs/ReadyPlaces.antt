-- Places at which the run that gives frames has executed what is put in front: each instruction is of a known kind
-- there that isn't one of coroutines alone, and no deallocation.
use Rattle.std.proofs.Common.{◌≡◌, ◌+◌, ◌⊎◌, ◌∙◌, ℕ, Bool, true, false, List, [], ◌∷◌, Option, Ok, ap, arith, inl, inr, length, length-append, map, refl, subst, sym, if◌then◌else◌}
use Rattle.std.specs.Prelude.{None, Some, slice_get}
use Rattle.elide_shape.specs.Calls.{deals}
use Rattle.elide_shape.specs.declared.calls.Dealing.{Dealing}
use Rattle.pass_elide.specs.declared.given.GivenFrame.{GivenFrame}
use Rattle.pass_elide_known.proofs.Acting.{IsDoing, act_ok, calls_through, declared_doing, doing_done, instr_doing, next_ok, ordinary_of, word_taken}
use Rattle.pass_elide_known.specs.Keeping.{is_marker, is_ordinary}
use Rattle.pass_elide_known.specs.States.{IsKnownFramed, IsReadyGiving}
use Rattle.pass_elide_proof.proofs.EdgeValues.{map_long}
use Rattle.pass_elide_proof.proofs.Facts.{not_both}
use Rattle.pass_elide_proof.proofs.FreedAlone.{deallocates}
use Rattle.pass_elide_proof.proofs.OwnPlaces.{instr_there}
use Rattle.pass_elide_proof.proofs.PlacingEntered.{local_place, named_place, site_place, unput, waking_place}
use Rattle.pass_elide_proof.proofs.PlacingFacts.{gives_result, holds_over, no_ramp, no_room}
use Rattle.pass_elide_proof.proofs.PlacingKinds.{alloca_place, allocator_place, asking_place, ordinary}
use Rattle.pass_elide_proof.proofs.PlacingLooks.{done_place, marker_place, promise_place}
use Rattle.pass_elide_proof.specs.Asked.{asks_same}
use Rattle.pass_elide_proof.proofs.ReleasedBeside.{freed_own}
use Rattle.pass_elide_proof.specs.Calling.{AreReady, at_front}
use Rattle.pass_elide_proof.specs.Edges.{IsAlike}
use Rattle.pass_elide_proof.specs.Elision.{Elision, Shape, differs_in, framed, function_in, rooms}
use Rattle.pass_elide_proof.specs.Making.{IsNotEntering}
use Rattle.pass_elide_proof.specs.Marking.{first_operand}
use Rattle.pass_elide_proof.specs.Match.{is_given_mode, sides, was_given}
use Rattle.pass_elide_proof.specs.Ordinary.{IsAtOwn}
use Rattle.pass_elide_proof.specs.Places.{allocas_ahead, front_at, instrs_of, phi_count, put_by, room_at}
use Rattle.pass_elide_proof.specs.Placing.{IsPlain, KeepsPlaces, is_test}
use Rattle.pass_elide_proof.specs.PlacingStates.{AreAtInstr}
use Rattle.pass_elide_proof.specs.Stepping.{IsReadyFor}
use Rattle.pass_elide_proof.specs.pass_proofs.ir_base.declared.name.Name.{Name}
use Rattle.pass_elide_proof.specs.pass_proofs.ir_base.declared.outcome.Outcome.{Outcome}
use Rattle.pass_elide_proof.specs.pass_proofs.ir_model.Names.{declaration_named, function_named}
use Rattle.pass_elide_proof.specs.pass_proofs.ir_model.Ty.{Ty}
use Rattle.pass_elide_proof.specs.pass_proofs.ir_model.declared.instr.Instr.{Instr}
use Rattle.pass_elide_proof.specs.pass_proofs.ir_model.declared.module.Function.{Function}
use Rattle.pass_elide_proof.specs.pass_proofs.ir_model.declared.operand.Allocator.{Allocator}
use Rattle.pass_elide_proof.specs.pass_proofs.ir_model.declared.operand.Arg.{Arg}
use Rattle.pass_elide_proof.specs.pass_proofs.ir_model.declared.operand.Callee.{Callee}
use Rattle.pass_elide_proof.specs.pass_proofs.ir_model.declared.operand.Intrinsic.{Intrinsic}
use Rattle.pass_elide_proof.specs.pass_proofs.ir_paths.Windows.{operand_at}
use Rattle.pass_elide_proof.specs.pass_proofs.run_agreement.Machines.{IsFine}
use Rattle.pass_elide_proof.specs.pass_proofs.run_framed.Framed.{framed_act, framed_context, framed_next, framed_step}
use Rattle.pass_elide_proof.specs.pass_proofs.run_laws.embedded.Deaths.{moved_slot}
use Rattle.pass_elide_proof.specs.pass_proofs.run_laws.embedded.Related.{HasNoSlot}
use Rattle.pass_elide_proof.specs.pass_proofs.run_memory.declared.pointer.Value.{Value}
use Rattle.pass_elide_proof.specs.pass_proofs.run_source.Source.{deallocate}
use Rattle.pass_elide_proof.specs.pass_proofs.run_source.State.{function_of, work_of}
use Rattle.pass_elide_proof.specs.pass_proofs.run_source.declared.state.State.{State}
use Rattle.pass_elide_proof.specs.pass_proofs.run_step.Step.{AtInstr, Coro, Done, Work, action_of, block_of, fetch, named_call}
use Rattle.pass_elide_proof.specs.pass_proofs.run_step.Values.{address, arg_values, nth, value_in}

none_of : {A : Type 0} (xs : List A) → length xs ≡ 0 → xs ≡ []
none_of [] h = refl
none_of (x ∷ xs) h = absurd (omega (arith, h))

none_some : (b : ℕ) (o : Option ℕ) → o ≡ Some b → o ≡ None → ⊥
none_some b None is none = absurd (cc)
none_some b (Some c) is none = absurd (cc)

-- ---- an activation whose frame wasn't given

pub or_given : (b rest : Bool) → (if b then true else rest) ≡ false → b ≡ false
or_given true rest h = absurd (cc)
or_given false rest h = refl

-- what differs where a frame was given differs in no other activation
pub none_differs : (x : Shape) (ramp given : Bool) (v : ℕ) → ramp ≡ false → given ≡ false
    → differs_in x ramp given v ≡ false
none_differs x true given v r g = absurd (cc)
none_differs x false true v r g = absurd (cc)
none_differs x false false v r g = refl

module _ (e : Elision) (keeps : KeepsPlaces e) (s u : State) (i : Instr) (at : AreAtInstr e s u i)
    (other : was_given (sides s u) u.top ≡ false) where
  not_ramp : is_given_mode u.top.mode ≡ false
  not_ramp = or_given (is_given_mode u.top.mode) _ other

  here : slice_get (instrs_of (function_in e s.top.func) s.top.block) s.top.at ≡ Some i
  here = instr_there (function_in e s.top.func) s.top.block s.top.at i at.there

  pub other_own : room_at (rooms e s.top.func) (function_in e s.top.func) s.top.block s.top.at i ≡ None
      → IsAtOwn e s u i
  other_own none = record {
    runs = at.runs;
    there = at.there;
    block = at.block;
    at = at.at;
    no_room = none;
    no_ramp = no_ramp e.code keeps.ungiven s.top.func s.top.block s.top.at i at.there;
    indices = (keeps.instrs s.top.func).steady s.top.block s.top.at i here;
    reads = λ v is. none_differs (e.shape s.top.func) (is_given_mode u.top.mode) (was_given (sides s u) u.top) v
        not_ramp other;
    named = λ v is. ((keeps.instrs s.top.func).sets s.top.block s.top.at v i here (gives_result i v is)).low;
    plain = λ v is. record {
      need = λ h. absurd (not_both (is_given_mode u.top.mode) h not_ramp);
      freed = λ h. absurd (not_both (was_given (sides s u) u.top) h other);
      tested = λ h. absurd (not_both (was_given (sides s u) u.top) h other);
    };
    holds = λ h. absurd (not_both (is_given_mode u.top.mode) h not_ramp);
    kept = λ v name h is held. absurd (not_both (is_given_mode u.top.mode) h not_ramp);
  }

-- ---- places of each kind

module _ (e : Elision) (keeps : KeepsPlaces e) (s : State) (known : IsKnownFramed e s)
    (runs : s.outcome ≡ Outcome.Running) (fine : IsFine (framed_step (framed e) s).outcome) (u : State)
    (r : AreReady e s u) (giving : IsReadyGiving e s u) where
  abbrev f : Function
  f = function_in e s.top.func

  abbrev x : Shape
  x = e.shape s.top.func

  func : u.top.func ≡ s.top.func
  func = r.beside.top.func

  at_instr : (i : Instr) → fetch (function_of (framed e).given s) s.top.block s.top.at ≡ AtInstr i
      → AreAtInstr e s u i
  at_instr i there = record { runs = runs; there = there; block = r.block; at = r.at; reached = known.reached }

  -- ---- what is done

  pub ordinary_ready : (i : Instr) → fetch (function_of (framed e).given s) s.top.block s.top.at ≡ AtInstr i
      → is_ordinary i ≡ true → (is_test x i ≡ false) ⊎ (was_given (sides s u) u.top ≡ false)
      → IsReadyFor e s u r
  ordinary_ready i there is which =
      let kind = ordinary_of x i is in
      let none = no_room e keeps s.top.func s.top.block s.top.at i kind.unnamed in
      let acts = act_ok e keeps s runs fine i there in
      let done = doing_done (framed e) s (action_of (framed_context (framed e) s) (work_of s) (AtInstr i))
      (instr_doing (framed_context (framed e) s) (work_of s) i is) acts.0 acts.1 in
      by which kind.plain none kind.no_slot done.0 done.1
    where
      by : (is_test x i ≡ false) ⊎ (was_given (sides s u) u.top ≡ false) → (is_test x i ≡ false → IsPlain x i)
          → room_at (rooms e s.top.func) f s.top.block s.top.at i ≡ None → HasNoSlot (AtInstr i) → (w : Work)
          → action_of (framed_context (framed e) s) (work_of s) (AtInstr i) ≡ Done w → IsReadyFor e s u r
      by (inl tests) plain none no_slot w does =
          IsReadyFor.Ordinary i w
          (ordinary e keeps s u func giving.passed i w (at_instr i there) (plain tests) none no_slot does)
      by (inr other) plain none no_slot w does =
          IsReadyFor.Ordinary i w
          (record {
            own = other_own e keeps s u i (at_instr i there) other none;
            no_slot = no_slot;
            bytes = (keeps.instrs s.top.func).bytes s.top.block s.top.at i
                (instr_there f s.top.block s.top.at i there);
            does = does;
          })

  -- ---- calls of functions

  module _ (result : Option ℕ) (must_tail : Bool) (ty : Option Ty) (n : Name) (args : List Arg)
      (there : fetch (function_of (framed e).given s) s.top.block s.top.at
      ≡ AtInstr (Instr.Call result must_tail ty (Callee.Named n) args)) where
    abbrev calling : Instr
    calling = Instr.Call result must_tail ty (Callee.Named n) args

    abbrev vs : List Value
    vs = arg_values e.code s.top.values args

    -- a declared function is called
    declared : room_at (rooms e s.top.func) f s.top.block s.top.at calling ≡ None
        → function_named e.code n ≡ None → IsReadyFor e s u r
    declared none unnamed =
        let acts = act_ok e keeps s runs fine calling there in
        let is : action_of (framed_context (framed e) s) (work_of s) (AtInstr calling)
        ≡ named_call (framed_context (framed e) s) (work_of s) None (declaration_named e.code n) ty result must_tail vs
        = ap (λ (o : Option ℕ). named_call (framed_context (framed e) s) (work_of s) o (declaration_named e.code n)
        ty result must_tail vs) unnamed in
        let done = doing_done (framed e) s (action_of (framed_context (framed e) s) (work_of s) (AtInstr calling))
        (subst IsDoing (sym is)
        (declared_doing (framed_context (framed e) s) (work_of s) (declaration_named e.code n) ty result must_tail vs))
        acts.0 acts.1 in
        IsReadyFor.Ordinary calling done.0
        (ordinary e keeps s u func giving.passed calling done.0 (at_instr calling there)
        (record { begins = refl; asks = refl; frees = refl; tests = refl; takes = λ h. absurd (cc) }) none tt done.1)

    by_name : room_at (rooms e s.top.func) f s.top.block s.top.at calling ≡ None → (o : Option ℕ)
        → function_named e.code n ≡ o → IsReadyFor e s u r
    by_name none (Some callee) is =
        IsReadyFor.Call (named_place e keeps s u func giving.passed result must_tail ty n args callee
        (at_instr calling there) none is)
    by_name none None is = declared none is

    one_put : (n : ℕ) → n ≡ 1 → n ≡ 0 → ⊥
    one_put n is none = omega (arith, is, none)

    by_room : (o : Option GivenFrame) → room_at (rooms e s.top.func) f s.top.block s.top.at calling ≡ o
        → IsReadyFor e s u r
    by_room None none = by_name none (function_named e.code n) refl
    by_room (Some (GivenFrame.Alloca size align)) room =
        IsReadyFor.Site (site_place e keeps s u func giving.passed result must_tail ty n args size align
        (at_instr calling there) room)
    by_room (Some (GivenFrame.Field base distance)) room =
        absurd (one_put (put_by (room_at (rooms e s.top.func) f s.top.block s.top.at calling)) (ap put_by room)
        (unput e keeps s.top.func s.top.block (phi_count f s.top.block + s.top.at) calling))

    pub named_ready : IsReadyFor e s u r
    named_ready = by_room (room_at (rooms e s.top.func) f s.top.block s.top.at calling) refl

  pub pointed_ready : (result : Option ℕ) (must_tail : Bool) (ty : Option Ty) (v : ℕ) (args : List Arg)
      → fetch (function_of (framed e).given s) s.top.block s.top.at
      ≡ AtInstr (Instr.Call result must_tail ty (Callee.Local v) args) → IsReadyFor e s u r
  pointed_ready result must_tail ty v args there =
      let call = Instr.Call result must_tail ty (Callee.Local v) args in
      let acts = act_ok e keeps s runs fine (Instr.Call result must_tail ty (Callee.Local v) args) there in
      let k = calls_through (framed e) s (value_in s.top.values v) ty result must_tail args
      (arg_values e.code s.top.values args) acts.0 acts.1 in
      IsReadyFor.Call (local_place e keeps s u func giving.passed result must_tail ty v args k.func
      (at_instr call there) k.leads k.fits)

  -- ---- blocks that are made

  pub alloca_ready : (name : ℕ) (ty : Ty) (align : ℕ)
      → fetch (function_of (framed e).given s) s.top.block s.top.at ≡ AtInstr (Instr.Alloca name ty align)
      → IsNotEntering s.top.mode → IsReadyFor e s u r
  alloca_ready name ty align there mode =
      IsReadyFor.Alloca name ty align
      (alloca_place e keeps s u func giving.passed name ty align (at_instr (Instr.Alloca name ty align) there)
      known.slots mode)

  module _ (a : Allocator) (result : Option ℕ) (must_tail : Bool) (ty : Option Ty) (args : List Arg)
      (there : fetch (function_of (framed e).given s) s.top.block s.top.at
      ≡ AtInstr (Instr.Call result must_tail ty (Callee.Allocator a) args)) where
    abbrev allocation : Instr
    allocation = Instr.Call result must_tail ty (Callee.Allocator a) args

    pub allocator_ready : deals Dealing.Allocates a ≡ true → IsReadyFor e s u r
    allocator_ready is =
        let w = word_taken e keeps s runs fine a result must_tail ty args there is in
        IsReadyFor.AllocatorCall a result must_tail ty args
        (allocator_place e keeps s u func giving.passed a result must_tail ty args w.0 (at_instr allocation there)
        known.slots is w.1
        (known.small a result must_tail ty args w.0
        (record {
          there = instr_there f s.top.block s.top.at (Instr.Call result must_tail ty (Callee.Allocator a) args) there;
          allocates = is;
          takes = w.1;
        })))

  -- ---- markers, looks and wakings

  module _ (j : Intrinsic) (result : Option ℕ) (must_tail : Bool) (ty : Option Ty) (args : List Arg)
      (there : fetch (function_of (framed e).given s) s.top.block s.top.at
      ≡ AtInstr (Instr.Call result must_tail ty (Callee.Intrinsic j) args)) where
    abbrev call : Instr
    call = Instr.Call result must_tail ty (Callee.Intrinsic j) args

    here_it : slice_get (instrs_of f s.top.block) s.top.at ≡ Some call
    here_it = instr_there f s.top.block s.top.at call there

    pub marker_ready : (j ≡ Intrinsic.LifetimeStart) ⊎ (j ≡ Intrinsic.LifetimeEnd) → IsReadyFor e s u r
    marker_ready is =
        let marks = known.marks j result must_tail ty args (marked j is) here_it in
        IsReadyFor.Marker j result must_tail ty args
        (marker_place e keeps s u func giving.passed j result must_tail ty args is (at_instr call there)
        (λ none. absurd (none_some marks.block (block_of (first_operand e s args 1)) marks.leads none)) marks.bare
        (giving.marks j result must_tail ty args (marked j is) here_it))
      where
        marked : (k : Intrinsic) → (k ≡ Intrinsic.LifetimeStart) ⊎ (k ≡ Intrinsic.LifetimeEnd)
            → is_marker (Instr.Call result must_tail ty (Callee.Intrinsic k) args) ≡ true
        marked Intrinsic.LifetimeStart k = refl
        marked Intrinsic.LifetimeEnd k = refl
        marked _ (inl k) = absurd (cc)
        marked _ (inr k) = absurd (cc)

    pub asking_ready : asks_same j ≡ true → IsReadyFor e s u r
    asking_ready is =
        IsReadyFor.Asking j result must_tail ty args
        (asking_place e keeps s u func giving.passed j result must_tail ty args (at_instr call there) is)

  made : s.top.block ≡ 0 → s.top.at ≡ 0 → r.beside.top.own ≡ []
      → allocas_ahead (rooms e s.top.func) (function_in e s.top.func) ≡ []
  made block at own = none_of (allocas_ahead (rooms e s.top.func) f) (sym r.many ∙ ap length own)

  module _ (result : Option ℕ) (must_tail : Bool) (ty : Option Ty) (args : List Arg) where
    pub done_ready : fetch (function_of (framed e).given s) s.top.block s.top.at
        ≡ AtInstr (Instr.Call result must_tail ty (Callee.Intrinsic Intrinsic.CoroDone) args) → IsReadyFor e s u r
    done_ready there =
        IsReadyFor.Looks result must_tail ty args giving.front
        (done_place e keeps s u (front_at (rooms e s.top.func) f s.top.block s.top.at) r.beside giving.passed result
        must_tail ty args made
        (at_instr (Instr.Call result must_tail ty (Callee.Intrinsic Intrinsic.CoroDone) args) there)
        known.known.instances)

    pub promise_ready : fetch (function_of (framed e).given s) s.top.block s.top.at
        ≡ AtInstr (Instr.Call result must_tail ty (Callee.Intrinsic Intrinsic.CoroPromise) args) → IsReadyFor e s u r
    promise_ready there =
        IsReadyFor.Promise result must_tail ty args giving.front
        (promise_place e keeps s u (front_at (rooms e s.top.func) f s.top.block s.top.at) r.beside giving.passed result
        must_tail ty args made
        (at_instr (Instr.Call result must_tail ty (Callee.Intrinsic Intrinsic.CoroPromise) args) there) giving.sound)

    pub resume_ready : fetch (function_of (framed e).given s) s.top.block s.top.at
        ≡ AtInstr (Instr.Call result must_tail ty (Callee.Intrinsic Intrinsic.CoroResume) args) → IsReadyFor e s u r
    resume_ready there =
        by args there
        (act_ok e keeps s runs fine
        (Instr.Call result must_tail ty (Callee.Intrinsic Intrinsic.CoroResume) args) there)
      where
        by : (xs : List Arg) → fetch (function_of (framed e).given s) s.top.block s.top.at
            ≡ AtInstr (Instr.Call result must_tail ty (Callee.Intrinsic Intrinsic.CoroResume) xs)
            → (v : State) × (framed_act (framed e) s (action_of (framed_context (framed e) s) (work_of s)
            (AtInstr (Instr.Call result must_tail ty (Callee.Intrinsic Intrinsic.CoroResume) xs))) ≡ Ok v)
            → IsReadyFor e s u r
        by [] here acts = absurd (no_resume acts.0 acts.1)
          where
            no_resume : (v : State) → framed_act (framed e) s (Coro Intrinsic.CoroResume [] result) ≡ Ok v → ⊥
            no_resume v h = cc
        by (arg ∷ rest) here acts =
            IsReadyFor.Waking (waking_place e keeps s u func giving.passed Intrinsic.CoroResume result must_tail ty arg
            rest (inl refl)
            (at_instr (Instr.Call result must_tail ty (Callee.Intrinsic Intrinsic.CoroResume) (arg ∷ rest)) here)
            known.known.instances giving.callers fine)

    pub destroy_ready : fetch (function_of (framed e).given s) s.top.block s.top.at
        ≡ AtInstr (Instr.Call result must_tail ty (Callee.Intrinsic Intrinsic.CoroDestroy) args) → IsReadyFor e s u r
    destroy_ready there =
        by args there
        (act_ok e keeps s runs fine
        (Instr.Call result must_tail ty (Callee.Intrinsic Intrinsic.CoroDestroy) args) there)
      where
        by : (xs : List Arg) → fetch (function_of (framed e).given s) s.top.block s.top.at
            ≡ AtInstr (Instr.Call result must_tail ty (Callee.Intrinsic Intrinsic.CoroDestroy) xs)
            → (v : State) × (framed_act (framed e) s (action_of (framed_context (framed e) s) (work_of s)
            (AtInstr (Instr.Call result must_tail ty (Callee.Intrinsic Intrinsic.CoroDestroy) xs))) ≡ Ok v)
            → IsReadyFor e s u r
        by [] here acts = absurd (no_destroy acts.0 acts.1)
          where
            no_destroy : (v : State) → framed_act (framed e) s (Coro Intrinsic.CoroDestroy [] result) ≡ Ok v → ⊥
            no_destroy v h = cc
        by (arg ∷ rest) here acts =
            IsReadyFor.Waking (waking_place e keeps s u func giving.passed Intrinsic.CoroDestroy result must_tail ty
            arg rest (inr refl)
            (at_instr (Instr.Call result must_tail ty (Callee.Intrinsic Intrinsic.CoroDestroy) (arg ∷ rest)) here)
            known.known.instances giving.callers fine)

    pub look_ready : (j : Intrinsic) → fetch (function_of (framed e).given s) s.top.block s.top.at
        ≡ AtInstr (Instr.Call result must_tail ty (Callee.Intrinsic j) args)
        → (j ≡ Intrinsic.CoroDone) ⊎ (j ≡ Intrinsic.CoroPromise) → IsReadyFor e s u r
    look_ready Intrinsic.CoroDone there is = done_ready there
    look_ready Intrinsic.CoroPromise there is = promise_ready there
    look_ready _ there (inl is) = absurd (cc)
    look_ready _ there (inr is) = absurd (cc)

    pub waking_ready : (j : Intrinsic) → fetch (function_of (framed e).given s) s.top.block s.top.at
        ≡ AtInstr (Instr.Call result must_tail ty (Callee.Intrinsic j) args)
        → (j ≡ Intrinsic.CoroResume) ⊎ (j ≡ Intrinsic.CoroDestroy) → IsReadyFor e s u r
    waking_ready Intrinsic.CoroResume there is = resume_ready there
    waking_ready Intrinsic.CoroDestroy there is = destroy_ready there
    waking_ready _ there (inl is) = absurd (cc)
    waking_ready _ there (inr is) = absurd (cc)

  -- ---- deallocations

  module _ (a : Allocator) (result : Option ℕ) (must_tail : Bool) (ty : Option Ty) (args : List Arg)
      (frees : deals Dealing.Frees a ≡ true) (other : deals Dealing.Allocates a ≡ false)
      (there : fetch (function_of (framed e).given s) s.top.block s.top.at
      ≡ AtInstr (Instr.Call result must_tail ty (Callee.Allocator a) args)) where
    abbrev freeing : Instr
    freeing = Instr.Call result must_tail ty (Callee.Allocator a) args

    next : (v : State) × (framed_next (framed e) s (AtInstr freeing) ≡ Ok v)
    next = next_ok e keeps s runs fine freeing there

    goes : deallocate s (address (nth (arg_values e.code s.top.values args) 0)) ≡ Ok next.0
    goes = sym (deallocates (framed e) s a result must_tail ty args frees) ∙ next.1

    many_slots : length u.top.slots
        ≡ length s.top.slots + length (allocas_ahead (rooms e s.top.func) (function_in e s.top.func))
    many_slots =
        let long = length-append (map (moved_slot r.beside.homes) s.top.slots) r.beside.top.own in
        let same = map_long (moved_slot r.beside.homes) s.top.slots in
        let whole = ap length r.beside.top.slots in
        let some = r.many in
        omega (arith, long, same, whole, some)

    -- both free what stands for the same, in which no frame lies that was given
    pub free_ready : IsAlike e s u (operand_at args 0) → IsReadyFor e s u r
    free_ready alike =
        IsReadyFor.FreeBeside a result must_tail ty args (record {
          runs = runs;
          frees = frees;
          there = there;
          beside = r.block;
          stands = r.at;
          made = many_slots;
          room = no_room e keeps s.top.func s.top.block s.top.at freeing refl;
          alike = alike;
          own = freed_own e s (at_front e s u) a result must_tail ty args r.beside known.released known.slotted
              (λ number y at given. (giving.callees.0 number y at).1 given)
              (record { frees = frees; there = there; alike = alike; after = next.0; goes = goes });
          starts = giving.sound.blocks.starts;
          holds = holds_over e s.top.func s.top.block s.top.at freeing
              (instr_there f s.top.block s.top.at freeing there) refl other (keeps.shapes s.top.func);
          after = next.0;
          goes = goes;
        })
