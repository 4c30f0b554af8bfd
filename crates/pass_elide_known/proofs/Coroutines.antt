-- Both runs stand beside each other at an intrinsic that stands in coroutines alone.
use Rattle.std.proofs.Common.{◌≡◌, ◌<◌, ◌⊎◌, ◌∙◌, ℕ, Bool, true, false, List, [], ◌∷◌, Option, Result, Ok, ap, inl, inr, refl, subst, sym}
use Rattle.std.specs.Prelude.{None, Some, is_none, slice_get}
use Rattle.pass_elide_known.proofs.Acting.{act_ok}
use Rattle.pass_elide_known.proofs.Fronting.{none_ahead}
use Rattle.pass_elide_known.specs.Keeping.{KeepsMore}
use Rattle.pass_elide_known.specs.States.{IsKnownFramed, IsKnownGiving}
use Rattle.pass_elide_proof.proofs.Given.{given_of, own_of}
use Rattle.pass_elide_proof.proofs.Grown.{have_at}
use Rattle.pass_elide_proof.proofs.OwnPlaces.{instr_there}
use Rattle.pass_elide_proof.proofs.PlacingBack.{returns_place}
use Rattle.pass_elide_proof.proofs.PlacingCalls.{alloc_place, constant_place, free_place, save_place, suspend_place}
use Rattle.pass_elide_proof.proofs.PlacingEnds.{ramp_end_place, resumed_end_place}
use Rattle.pass_elide_proof.proofs.PlacingEntered.{behind_place}
use Rattle.pass_elide_proof.proofs.PlacingFacts.{by_truth, holds_over, no_frames, no_room}
use Rattle.pass_elide_proof.proofs.PlacingFrames.{begin_place, given_begin_place, room_place}
use Rattle.pass_elide_proof.proofs.PlacingLeft.{goes_behind}
use Rattle.pass_elide_proof.proofs.Rooms.{room_is_given}
use Rattle.pass_elide_proof.proofs.Slotted.{frame_allocated}
use Rattle.pass_elide_proof.proofs.UnownedSlots.{own_blocks}
use Rattle.pass_elide_proof.specs.Both.{is_constant}
use Rattle.pass_elide_proof.specs.Calling.{AreReady}
use Rattle.pass_elide_proof.specs.Elision.{Elision, Shape, elided, framed, function_in, rooms}
use Rattle.pass_elide_proof.specs.Invariant.{AreGivenBy}
use Rattle.pass_elide_proof.specs.Match.{AreModes, Given, Same, instance_in, is_given_mode}
use Rattle.pass_elide_proof.specs.OwnSlots.{HaveNoSlots}
use Rattle.pass_elide_proof.specs.Places.{front_at, instrs_of}
use Rattle.pass_elide_proof.specs.Placing.{HasShape, KeepsPlaces, SetsPlain, is_own}
use Rattle.pass_elide_proof.specs.PlacingStates.{AreAtIntrinsic, IsEntryLowest}
use Rattle.pass_elide_proof.specs.Returning.{IsAtLeftEnd, LeadsBack}
use Rattle.pass_elide_proof.specs.Saves.{MaySave}
use Rattle.pass_elide_proof.specs.Statement.{AreRelated}
use Rattle.pass_elide_proof.specs.Stepping.{IsAccompanied, IsKnownStep, IsReadyFor}
use Rattle.pass_elide_proof.proofs.pass_proofs.ir_laws.facts.Lists.{get_within}
use Rattle.pass_elide_proof.specs.pass_proofs.ir_base.declared.cause.Cause.{Cause}
use Rattle.pass_elide_proof.specs.pass_proofs.ir_base.declared.outcome.Outcome.{Outcome}
use Rattle.pass_elide_proof.specs.pass_proofs.ir_model.Ty.{Ty}
use Rattle.pass_elide_proof.specs.pass_proofs.ir_model.declared.instr.Instr.{Instr}
use Rattle.pass_elide_proof.specs.pass_proofs.ir_model.declared.module.Function.{Function}
use Rattle.pass_elide_proof.specs.pass_proofs.ir_model.declared.operand.Arg.{Arg}
use Rattle.pass_elide_proof.specs.pass_proofs.ir_model.declared.operand.Callee.{Callee}
use Rattle.pass_elide_proof.specs.pass_proofs.ir_model.declared.operand.Intrinsic.{Intrinsic}
use Rattle.pass_elide_proof.specs.pass_proofs.run_agreement.Machines.{IsFine}
use Rattle.pass_elide_proof.specs.pass_proofs.run_framed.Framed.{allocates, framed_begin, framed_step}
use Rattle.pass_elide_proof.specs.pass_proofs.run_memory.declared.pointer.Value.{Value}
use Rattle.pass_elide_proof.specs.pass_proofs.run_source.Source.{begin}
use Rattle.pass_elide_proof.specs.pass_proofs.run_source.State.{function_of, is_finished}
use Rattle.pass_elide_proof.specs.pass_proofs.run_source.declared.state.Activation.{Activation}
use Rattle.pass_elide_proof.specs.pass_proofs.run_source.declared.state.Instance.{Instance}
use Rattle.pass_elide_proof.specs.pass_proofs.run_source.declared.state.Mode.{Mode}
use Rattle.pass_elide_proof.specs.pass_proofs.run_source.declared.state.State.{State}
use Rattle.pass_elide_proof.specs.pass_proofs.run_step.Results.{and_then, ok_if}
use Rattle.pass_elide_proof.specs.pass_proofs.run_step.Step.{AtInstr, fetch}
use Rattle.pass_elide_proof.specs.pass_proofs.run_step.Values.{arg_values, nth, pointer_to}

-- ---- modes

-- the mode of a ramp that was given its frame has the frame's address
given_frame : (m : Mode) → is_given_mode m ≡ true → (frame : Value) × (m ≡ Mode.GivenRamp frame)
given_frame (Mode.GivenRamp frame) is = (frame, refl)
given_frame Mode.Plain is = absurd (cc)
given_frame Mode.Ramp is = absurd (cc)
given_frame Mode.Resumed is = absurd (cc)
given_frame (Mode.Entering from label) is = absurd (cc)

-- beside it stands a ramp
ramp_beside : (m k : Mode) → AreModes m k → is_given_mode k ≡ true → m ≡ Mode.Ramp
ramp_beside m k (Same mode allocating) given = absurd (by mode allocating given)
  where
    by : (n : Mode) → allocates n ≡ true → is_given_mode n ≡ true → ⊥
    by (Mode.GivenRamp frame) h g = cc
    by Mode.Plain h g = cc
    by Mode.Ramp h g = cc
    by Mode.Resumed h g = cc
    by (Mode.Entering from label) h g = cc
ramp_beside m k (Given block offset) given = refl

-- the framed run gives no frames
never_given : (m k : Mode) → AreModes m k → (frame : Value) → m ≡ Mode.GivenRamp frame → ⊥
never_given m k (Same mode allocating) frame is = by mode allocating is
  where
    by : (n : Mode) → allocates n ≡ true → n ≡ Mode.GivenRamp frame → ⊥
    by (Mode.GivenRamp v) h g = cc
    by Mode.Plain h g = cc
    by Mode.Ramp h g = cc
    by Mode.Resumed h g = cc
    by (Mode.Entering from label) h g = cc
never_given m k (Given block offset) frame is = cc

ok_true : {A B : Type 0} (b : Bool) (cause : Cause) (a : A) (k : A → Result B Cause) (v : B)
    → and_then (ok_if b cause a) k ≡ Ok v → b ≡ true
ok_true true cause a k v h = refl
ok_true false cause a k v h = absurd (cc)

none_is : {A : Type 0} (o : Option A) → is_none o ≡ true → o ≡ None
none_is None h = refl
none_is (Some a) h = absurd (cc)

-- ---- the places

module _ (e : Elision) (keeps : KeepsPlaces e) (more : KeepsMore e) (s t : State) (r : AreRelated e s t)
    (known : IsKnownFramed e s) (giving : IsKnownGiving e t) (runs : s.outcome ≡ Outcome.Running)
    (fine : IsFine (framed_step (framed e) s).outcome) (block : t.top.block ≡ s.top.block)
    (stands : t.top.at ≡ front_at (rooms e s.top.func) (function_in e s.top.func) s.top.block s.top.at)
    (result : Option ℕ) (must_tail : Bool) (ty : Option Ty) (args : List Arg) where
  abbrev f : Function
  f = function_in e s.top.func

  abbrev x : Shape
  x = e.shape s.top.func

  abbrev call : Intrinsic → Instr
  call j = Instr.Call result must_tail ty (Callee.Intrinsic j) args

  -- the framed run's activation stands at the intrinsic
  abbrev At : Intrinsic → Type 0
  At j =
      fetch (function_of (framed e).given s) s.top.block s.top.at
      ≡ AtInstr (Instr.Call result must_tail ty (Callee.Intrinsic j) args)

  func : t.top.func ≡ s.top.func
  func = r.beside.top.func

  place : (j : Intrinsic) → At j → AreAtIntrinsic e s t j result must_tail ty args
  place j there = record { runs = runs; there = there; block = block; front = stands }

  here : (j : Intrinsic) → At j → slice_get (instrs_of f s.top.block) s.top.at ≡ Some (call j)
  here j there = instr_there f s.top.block s.top.at (call j) there

  coroutine : (j : Intrinsic) → At j → is_own j ≡ true → f.coroutine ≡ true
  coroutine j there own =
      (keeps.instrs s.top.func).own s.top.block s.top.at result must_tail ty j args (here j there) own

  -- ---- what is asked of the frame

  pub constant_known : (j : Intrinsic) → At j → is_constant j ≡ true → IsKnownStep e s t r.beside
  constant_known j there is =
      IsKnownStep.Going (IsAccompanied.Constant j result must_tail ty args
      (constant_place e keeps s t func r.passed.0 j result must_tail ty args (place j there) is))

  pub alloc_known : At Intrinsic.CoroAlloc → IsKnownStep e s t r.beside
  alloc_known there =
      IsKnownStep.Going (IsAccompanied.Memory result must_tail ty args
      (alloc_place e keeps s t func r.passed.0 giving.shapes result must_tail ty args
      (place Intrinsic.CoroAlloc there)))

  pub free_known : At Intrinsic.CoroFree → IsKnownStep e s t r.beside
  free_known there =
      IsKnownStep.Going (IsAccompanied.Freeing result must_tail ty args
      (free_place e keeps s t func r.passed.0 giving.shapes result must_tail ty args
      (frame_allocated s known.slotted) (given_of (elided e) t giving.sound) (own_of (elided e) t giving.sound)
      (place Intrinsic.CoroFree there)))

  -- ---- saves

  may_save : f.coroutine ≡ true
      → ((y : Instance) → instance_in s.instances s.top.instance ≡ Some y → is_finished y.status ≡ false) → MaySave e s
  may_save inside goes = record {
    bare = no_frames (rooms e s.top.func) (keeps.wakes s.top.func inside).none f;
    own = own_of (framed e) s known.sound;
    goes = goes;
  }

  pub save_known : At Intrinsic.CoroSave → IsKnownStep e s t r.beside
  save_known there =
      IsKnownStep.Going (IsAccompanied.Save result must_tail ty args
      (save_place e keeps s t func r.passed.0
      (may_save (coroutine Intrinsic.CoroSave there refl)
      (known.saves result must_tail ty args (here Intrinsic.CoroSave there))) result must_tail ty args
      (place Intrinsic.CoroSave there)))

  pub suspend_known : At Intrinsic.CoroSuspend → IsKnownStep e s t r.beside
  suspend_known there =
      IsKnownStep.Going (IsAccompanied.Suspend result must_tail ty args
      (suspend_place e keeps s t func r.passed.0 result must_tail ty args
      (λ none. may_save (coroutine Intrinsic.CoroSuspend there refl)
      (known.suspends result must_tail ty args (here Intrinsic.CoroSuspend there) none))
      (place Intrinsic.CoroSuspend there)))

  -- ---- begins

  -- a begin that isn't undefined is the activation's first
  first_begin : At Intrinsic.CoroBegin → s.top.mode ≡ Mode.Ramp → s.top.instance ≡ None
  first_begin there ramp =
      let acts = act_ok e keeps s runs fine (call Intrinsic.CoroBegin) there in
      let begun : begin (framed e).given s result (nth (arg_values e.code s.top.values args) 1) ≡ Ok acts.0
      = sym (ap (framed_begin (framed e) s result (nth (arg_values e.code s.top.values args) 1)) ramp) ∙ acts.1 in
      none_is s.top.instance (ok_true (is_none s.top.instance) Cause.Begin s _ acts.0 begun)

  -- the caller of a ramp that was given its frame gave it an alloca
  given_by : (frame : Value) → t.top.mode ≡ Mode.GivenRamp frame → t.top.instance ≡ None → (below : List Activation)
      → t.below ≡ below → AreGivenBy e t.instances (t.top ∷ below) → (n : ℕ) × (frame ≡ pointer_to n)
  given_by frame mode none [] is h = absurd (h frame mode)
  given_by frame mode none (c ∷ below) is h = let by = h.0 frame mode none in (by.block, by.is)

  begin_given : At Intrinsic.CoroBegin → is_given_mode t.top.mode ≡ true → IsKnownStep e s t r.beside
  begin_given there given =
      let none = first_begin there (ramp_beside s.top.mode t.top.mode r.beside.top.mode given) in
      let alone = r.beside.top.instance ∙ none in
      let frame = given_frame t.top.mode given in
      let by = given_by frame.0 frame.1 alone t.below refl r.callers.ramps in
      let mode = frame.1 ∙ ap Mode.GivenRamp by.1 in
      let shape = subst (HasShape e) func (giving.shapes.ramps.0 given) in
      let exact = known.exact result must_tail ty args (here Intrinsic.CoroBegin there)
      (ramp_beside s.top.mode t.top.mode r.beside.top.mode given) shape in
      let room = room_is_given e s t r by.0
      (room_place e keeps s t known.slotted giving.sound giving.called by.0 mode alone) in
      IsKnownStep.Going (IsAccompanied.GivenBegin result must_tail ty args
      (given_begin_place e keeps s t r.beside known.slotted known.sound giving.sound result must_tail ty args
      (place Intrinsic.CoroBegin there) giving.shapes by.0 mode room exact))

  pub begin_known : At Intrinsic.CoroBegin → IsKnownStep e s t r.beside
  begin_known there =
      by_truth (is_given_mode t.top.mode) (begin_given there)
      (λ ramp. IsKnownStep.Going (IsAccompanied.Begin result must_tail ty args
      (begin_place e keeps s t r.beside known.slotted known.sound giving.sound result must_tail ty args
      (place Intrinsic.CoroBegin there) ramp)))

  -- ---- the end

  module _ (there : At Intrinsic.CoroEnd) where
    abbrev ending : Instr
    ending = Instr.Call result must_tail ty (Callee.Intrinsic Intrinsic.CoroEnd) args

    inside : f.coroutine ≡ true
    inside = coroutine Intrinsic.CoroEnd there refl

    set : (v : ℕ) → result ≡ Some v → SetsPlain f x s.top.block s.top.at ending v
    set v is = (keeps.instrs s.top.func).sets s.top.block s.top.at v ending (here Intrinsic.CoroEnd there) is

    stand : ((ready : AreReady e s t) → IsReadyFor e s t ready)
        → IsKnownStep e s t r.beside
    stand place =
        IsKnownStep.Standing (behind_place e keeps s t block stands
        (λ first start. none_ahead e keeps more s t r known giving runs ending there block stands inside)) place

    -- ---- of a ramp that hasn't begun

    early_end : s.top.mode ≡ Mode.Ramp → s.top.instance ≡ None → IsKnownStep e s t r.beside
    early_end ramp alone =
        IsKnownStep.Going (IsAccompanied.EarlyEnd result must_tail ty args (record {
          runs = runs;
          there = there;
          none = no_frames (rooms e s.top.func) (keeps.wakes s.top.func inside).none f;
          beside = block;
          stands = stands;
          ramp = ramp;
          alone = alone;
          answers = λ v is. record {
            need = (set v is).need refl;
            freed = (set v is).freed refl;
            tested = (set v is).tested refl;
          };
          holds = holds_over e s.top.func s.top.block s.top.at ending (here Intrinsic.CoroEnd there) refl refl
              (keeps.shapes s.top.func);
          kept = λ v name is held. (set v is).kept name held;
        }))

    -- ---- behind a suspend

    left_ramp : s.top.has_left ≡ true → s.top.mode ≡ Mode.Ramp → IsKnownStep e s t r.beside
    left_ramp left ramp =
        let k : IsAtLeftEnd e s t = record {
          runs = runs;
          result = result;
          must_tail = must_tail;
          ty = ty;
          args = args;
          there = here Intrinsic.CoroEnd there;
          none = no_room e keeps s.top.func s.top.block s.top.at
              (Instr.Call result must_tail ty (Callee.Intrinsic Intrinsic.CoroEnd) args) refl;
          left = left;
        } in
        stand (λ ready. IsReadyFor.LeftRampEnd k (goes_behind e keeps s result must_tail ty args there ramp))

    -- it has its resumer below it
    below_it : s.top.mode ≡ Mode.Resumed → (c : Activation) × ((below : List Activation) × (s.below ≡ c ∷ below))
    below_it resumed = by s.below known.known.lowest
      where
        other : Mode.Resumed ≡ Mode.Plain → ⊥
        other q = cc

        by : (bs : List Activation) → IsEntryLowest (s.top ∷ bs)
            → (c : Activation) × ((below : List Activation) × (bs ≡ c ∷ below))
        by [] low = absurd (other (sym resumed ∙ low))
        by (c ∷ below) low = (c, (below, refl))

    no_slots : HaveNoSlots s
    no_slots i y is =
        let other = have_at t.instances i
        (subst (λ (n : ℕ). i < n) (sym r.beside.count) (get_within s.instances i y is)) in
        (r.beside.instances i y other.0 is other.1).slots

    left_resumed : s.top.has_left ≡ true → s.top.mode ≡ Mode.Resumed → IsKnownStep e s t r.beside
    left_resumed left resumed =
        let low = below_it resumed in
        let back : LeadsBack e s t = record {
          resumed = resumed;
          coroutine = inside;
          returns = returns_place e keeps s low.0 low.1.0 known.known low.1.1;
          ours = own_blocks s known.slotted no_slots;
          theirs = giving.own;
          callers = r.callers;
          freed = r.freed;
        } in
        stand (λ ready. IsReadyFor.LeftResumedEnd
        (record {
          runs = runs;
          result = result;
          must_tail = must_tail;
          ty = ty;
          args = args;
          there = here Intrinsic.CoroEnd there;
          none = no_room e keeps s.top.func s.top.block s.top.at
              (Instr.Call result must_tail ty (Callee.Intrinsic Intrinsic.CoroEnd) args) refl;
          left = left;
        }) back)

    -- ---- of an instance that isn't Finished

    module _ (stays : s.top.has_left ≡ false) (number : ℕ) (own : s.top.instance ≡ Some number) where
      first : (y : Instance) × (slice_get s.instances number ≡ Some y)
      first = have_at s.instances number (known.sound.acts.0.known number own)

      goes : is_finished first.0.status ≡ false
      goes =
          known.ends result must_tail ty args (here Intrinsic.CoroEnd there) stays first.0
          (ap (instance_in s.instances) own ∙ first.1)

      ramp_end : s.top.mode ≡ Mode.Ramp → IsKnownStep e s t r.beside
      ramp_end ramp =
          IsKnownStep.Going (IsAccompanied.RampEnd result must_tail ty args
          (ramp_end_place e keeps s t r known.known known.slotted result must_tail ty args runs there block stands
          number first.0 own first.1 goes ramp))

      resumed_end : s.top.mode ≡ Mode.Resumed → IsKnownStep e s t r.beside
      resumed_end resumed =
          IsKnownStep.Going (IsAccompanied.ResumedEnd result must_tail ty args
          (resumed_end_place e keeps s t r known.known known.slotted result must_tail ty args runs there block stands
          number first.0 own first.1 goes resumed
          (known.own result must_tail ty args (here Intrinsic.CoroEnd there) resumed) giving.sound))

    by_instance : s.top.has_left ≡ false → (s.top.mode ≡ Mode.Ramp) ⊎ (s.top.mode ≡ Mode.Resumed) → (o : Option ℕ)
        → s.top.instance ≡ o → IsKnownStep e s t r.beside
    by_instance stays (inl ramp) None own = early_end ramp own
    by_instance stays (inr resumed) None own = absurd (known.resumed resumed own)
    by_instance stays (inl ramp) (Some number) own = ramp_end stays number own ramp
    by_instance stays (inr resumed) (Some number) own = resumed_end stays number own resumed

    -- ---- by the mode

    by_left : (s.top.mode ≡ Mode.Ramp) ⊎ (s.top.mode ≡ Mode.Resumed) → IsKnownStep e s t r.beside
    by_left mode =
        by_truth s.top.has_left (λ left. when left mode) (λ stays. by_instance stays mode s.top.instance refl)
      where
        when : s.top.has_left ≡ true → (s.top.mode ≡ Mode.Ramp) ⊎ (s.top.mode ≡ Mode.Resumed)
            → IsKnownStep e s t r.beside
        when left (inl ramp) = left_ramp left ramp
        when left (inr resumed) = left_resumed left resumed

    no_alloca : (name align : ℕ) (kind : Ty)
        → slice_get (instrs_of f s.top.block) s.top.at ≡ Some (Instr.Alloca name kind align) → ⊥
    no_alloca name align kind is = apart (sym is ∙ here Intrinsic.CoroEnd there)
      where
        apart : Some (Instr.Alloca name kind align) ≡ Some ending → ⊥
        apart q = cc

    by_mode : (m : Mode) → s.top.mode ≡ m → IsKnownStep e s t r.beside
    by_mode Mode.Plain is = absurd (known.inside inside is)
    by_mode Mode.Ramp is = by_left (inl is)
    by_mode Mode.Resumed is = by_left (inr is)
    by_mode (Mode.Entering from label) is =
        let k = known.entering from label is in absurd (no_alloca k.name k.align k.ty k.there)
    by_mode (Mode.GivenRamp frame) is =
        absurd (never_given s.top.mode t.top.mode r.beside.top.mode frame is)

    pub end_known : IsKnownStep e s t r.beside
    end_known = by_mode s.top.mode refl

  -- ---- each of them

  pub own_known : (j : Intrinsic) → At j → is_own j ≡ true → IsKnownStep e s t r.beside
  own_known Intrinsic.CoroId there is = constant_known Intrinsic.CoroId there refl
  own_known Intrinsic.CoroSizeI32 there is = constant_known Intrinsic.CoroSizeI32 there refl
  own_known Intrinsic.CoroSizeI64 there is = constant_known Intrinsic.CoroSizeI64 there refl
  own_known Intrinsic.CoroAlignI32 there is = constant_known Intrinsic.CoroAlignI32 there refl
  own_known Intrinsic.CoroAlignI64 there is = constant_known Intrinsic.CoroAlignI64 there refl
  own_known Intrinsic.CoroFrame there is = constant_known Intrinsic.CoroFrame there refl
  own_known Intrinsic.CoroAlloc there is = alloc_known there
  own_known Intrinsic.CoroBegin there is = begin_known there
  own_known Intrinsic.CoroFree there is = free_known there
  own_known Intrinsic.CoroSave there is = save_known there
  own_known Intrinsic.CoroSuspend there is = suspend_known there
  own_known Intrinsic.CoroEnd there is = end_known there
  own_known _ there is = absurd (cc)
