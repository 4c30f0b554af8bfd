-- So they are behind returns, ends of resumed activations, and begins.
use Rattle.std.proofs.Common.{◌≡◌, ◌++◌, ◌<◌, ◌∙◌, ◌&&◌, ◌||◌, ◌==◌, ◌∷◌, [], ap, arith, Bool, Err, false, List, length, not, Ok, Option, refl, Result, subst, sym, true, ℕ, if◌then◌else◌}
use Rattle.std.specs.Prelude.{None, Some, is_none, slice_get, slice_set}
use Rattle.pass_elide_kept.proofs.Moves.{gives_move, marks_move, ramp_ends_move, saves_move}
use Rattle.pass_elide_kept.proofs.MovesMaking.{allocas_move, allocators_move, done_moves}
use Rattle.pass_elide_kept.proofs.Passed.{PassedIf, again_passes, calls_pass, destroys_pass, edges_pass, next_passed, or_passed, resumes_pass, sites_pass}
use Rattle.pass_elide_kept.proofs.Passing.{IsAgedAt, aged_by, all_aged, all_pass, moved_pass, moves_pass, passes}
use Rattle.pass_elide_kept.specs.Modules.{KeepsHandlesAndEnds}
use Rattle.pass_elide_kept.specs.Runs.{IsKeptGiving}
use Rattle.pass_elide_kept.specs.Steps.{StandsAtCall, TakesStep}
use Rattle.pass_elide_proof.proofs.CallersBack.{ret_does, ret_there, value_of}
use Rattle.pass_elide_proof.proofs.CallersBlocks.{stack_with}
use Rattle.pass_elide_proof.proofs.CallersEdges.{status_was}
use Rattle.pass_elide_proof.proofs.CallersInstr.{was_itself}
use Rattle.pass_elide_proof.proofs.LeftWindows.{own_there}
use Rattle.pass_elide_proof.specs.Beginning.{IsKnownTo}
use Rattle.pass_elide_proof.specs.Callers.{HaveBlocks, WasBefore}
use Rattle.pass_elide_proof.specs.CallersStack.{StandsAtRet}
use Rattle.pass_elide_proof.specs.Elision.{Elision, elided}
use Rattle.pass_elide_proof.specs.OwnSlots.{HaveNoSlots}
use Rattle.pass_elide_proof.specs.Placing.{KeepsPlaces}
use Rattle.pass_elide_proof.specs.PlacingStates.{HavePassedBy, PassesBy}
use Rattle.pass_elide_proof.proofs.pass_proofs.ir_laws.facts.Lists.{get_front, set_other}
use Rattle.pass_elide_proof.specs.pass_proofs.ir_base.declared.cause.Cause.{Cause}
use Rattle.pass_elide_proof.specs.pass_proofs.ir_base.declared.outcome.Outcome.{Outcome}
use Rattle.pass_elide_proof.specs.pass_proofs.ir_model.Ty.{Ty}
use Rattle.pass_elide_proof.specs.pass_proofs.ir_model.declared.instr.Instr.{Instr}
use Rattle.pass_elide_proof.specs.pass_proofs.ir_model.declared.operand.Arg.{Arg}
use Rattle.pass_elide_proof.specs.pass_proofs.ir_model.declared.operand.Callee.{Callee}
use Rattle.pass_elide_proof.specs.pass_proofs.ir_model.declared.operand.Intrinsic.{Intrinsic}
use Rattle.pass_elide_proof.specs.pass_proofs.run_agreement.Machines.{IsFine}
use Rattle.pass_elide_proof.specs.pass_proofs.run_framed.Framed.{are_finished_at, begin_given_at, begin_in_block, begin_in_frame, disown_given, framed_advance, framed_begin, framed_finish, framed_next, framed_step, frame_around, has_room, has_size, is_given, is_stack_block}
use Rattle.pass_elide_proof.specs.pass_proofs.run_laws.changed.Changed.{Each}
use Rattle.pass_elide_proof.specs.pass_proofs.run_memory.Memory.{check, disown, disowned, killed, killed_block, may_be_owned, owned_to, with_block}
use Rattle.pass_elide_proof.specs.pass_proofs.run_memory.declared.block.Kind.{Kind}
use Rattle.pass_elide_proof.specs.pass_proofs.run_memory.declared.block.MemoryBlock.{MemoryBlock}
use Rattle.pass_elide_proof.specs.pass_proofs.run_memory.declared.pointer.Pointer.{Pointer}
use Rattle.pass_elide_proof.specs.pass_proofs.run_memory.declared.pointer.Value.{Value}
use Rattle.pass_elide_proof.specs.pass_proofs.run_source.Source.{after_end, begin_at, begun, change_own, given_back, is_live_at, pop, return, returned, slots_of}
use Rattle.pass_elide_proof.specs.pass_proofs.run_source.State.{gives, or_undefined, own_frame, own_instance, with_memory}
use Rattle.pass_elide_proof.specs.pass_proofs.run_source.declared.state.Activation.{Activation}
use Rattle.pass_elide_proof.specs.pass_proofs.run_source.declared.state.Instance.{Instance}
use Rattle.pass_elide_proof.specs.pass_proofs.run_source.declared.state.Mode.{Mode}
use Rattle.pass_elide_proof.specs.pass_proofs.run_source.declared.state.State.{State}
use Rattle.pass_elide_proof.specs.pass_proofs.run_source.declared.state.Status.{Status}
use Rattle.pass_elide_proof.specs.pass_proofs.run_step.Results.{and_then, found, ok_if}
use Rattle.pass_elide_proof.specs.pass_proofs.run_step.Step.{Fetched, outcome_of, without_slots}
use Rattle.pass_elide_proof.specs.pass_proofs.run_step.Values.{arg_values, nth}
use Rattle.pass_elide_proof.specs.pass_proofs.run_step.declared.world.Slot.{Slot}
use Rattle.pass_elide_proof.specs.pass_proofs.run_step.declared.world.World.{World}

-- ---- an activation returns

stack_without : (m : List MemoryBlock) (zs : List Slot) (b : ℕ)
    → is_stack_block (without_slots m zs) b ≡ is_stack_block m b
stack_without m [] b = refl
stack_without m (z ∷ zs) b =
    stack_without (killed m z.block) zs b ∙ stack_with killed_block (λ x. refl) m z.block b

module _ (e : Elision) (t : State) (h : HavePassedBy e t) (world : World) (ys : List Instance)
    (was : (number : ℕ) (y : Instance) → slice_get ys number ≡ Some y → WasBefore t.instances number y)
    (stacks : (b : ℕ) → is_stack_block world.memory b ≡ is_stack_block t.world.memory b) where
  abbrev now : State
  now = record t { world = world; instances = ys }

  dead : (y : Instance) → is_given (without_slots world.memory t.top.slots) y ≡ is_given t.world.memory y
  dead y =
      λ j. (stack_without world.memory t.top.slots y.block ∙ stacks y.block) j || not (y.start == 0)

  popped : (v : Option Value) (rows : List Activation) → t.below ≡ rows → PassedIf e (pop (returned now) v rows)
  popped v [] below = over (outcome_of v)
    where
      over : (r : Result Outcome Cause)
          → PassedIf e (and_then r (λ (o : Outcome). Ok (record (returned now) { outcome = o })))
      over (Err cause) = tt
      over (Ok o) =
          let u = record (returned now) { outcome = o } in
          let aged = aged_by e t u was (λ number y there given. sym (dead y) ∙ given) in
          moves_pass e t u aged refl (passes e t u t.top u.top (λ n is. aged n) refl refl refl refl h.0) h
  popped v (b ∷ rest) below =
      let u = record (returned now) { top = given_back b t.top.result v; below = rest } in
      let aged = aged_by e t u was (λ number y there given. sym (dead y) ∙ given) in
      let old = subst (λ (rows : List Activation). Each (PassesBy e t) rows) below h.1 in (
        passes e t u b u.top (λ n is. aged n) refl refl refl refl old.0,
        all_pass e t u rest (all_aged e t u rest aged) old.1,
      )

  pub returns_pass : (v : Option Value) → PassedIf e (return (record t { world = world; instances = ys }) v)
  returns_pass v = popped v t.below refl

-- ---- rets

pub rets_pass : (e : Elision) (t : State) (k : StandsAtRet e t) → IsFine (framed_step (elided e) t).outcome
    → HavePassedBy e t → HavePassedBy e (framed_step (elided e) t)
rets_pass e t k fine h =
    let is = ap (framed_advance (elided e) t) k.runs
    ∙ (ap (λ (x : Fetched). or_undefined (elided e).given t (framed_next (elided e) t x)) (ret_there e t k)
    ∙ ap (or_undefined (elided e).given t) (ret_does e t k k.value)) in
    subst (HavePassedBy e) (sym is)
    (or_passed e t (return t (value_of e t k k.value)) (subst (λ (u : State). IsFine u.outcome) is fine)
    (returns_pass e t h t.world t.instances (was_itself t.instances) (λ b. refl) (value_of e t k k.value)))

-- ---- the end of a resumed activation

module _ (e : Elision) (t : State) (h : HavePassedBy e t) (none : HaveNoSlots t) where
  abbrev ended : Option (ℕ × Instance) → State
  ended o =
      with_memory (change_own t (λ x. record x { status = Status.Finished }) o)
      (without_slots t.world.memory (slots_of o))

  ends_some : (x : ℕ × Instance) → own_instance t ≡ Some x → (b : Bool)
      → PassedIf e (return (if b then with_memory (ended (Some x)) (disown (ended (Some x)).world.memory x.1.block)
      else ended (Some x)) None)
  ends_some x own b = on b
    where
      was : (number : ℕ) (y : Instance)
          → slice_get (slice_set t.instances x.0 (record x.1 { status = Status.Finished })) number ≡ Some y
          → WasBefore t.instances number y
      was =
          status_was t.instances x.0 x.1 (record x.1 { status = Status.Finished }) (own_there t x.0 x.1 own).1 refl
          refl refl (λ going. absurd (cc))

      on : (b : Bool) → PassedIf e (return (if b then with_memory (ended (Some x))
          (disown (ended (Some x)).world.memory x.1.block) else ended (Some x)) None)
      on true =
          returns_pass e t h
          (record t.world { memory = disown (without_slots t.world.memory x.1.slots) x.1.block })
          (slice_set t.instances x.0 (record x.1 { status = Status.Finished })) was
          (λ b. stack_with disowned (λ y. refl) (without_slots t.world.memory x.1.slots) x.1.block b
          ∙ stack_without t.world.memory x.1.slots b) None
      on false =
          returns_pass e t h (record t.world { memory = without_slots t.world.memory x.1.slots })
          (slice_set t.instances x.0 (record x.1 { status = Status.Finished })) was
          (λ b. stack_without t.world.memory x.1.slots b) None

  finishes : PassedIf e (return (framed_finish t) None)
  finishes = on (own_instance t) refl
    where
      on : (o : Option (ℕ × Instance)) → own_instance t ≡ o → PassedIf e (return (disown_given (ended o) o) None)
      on None own =
          returns_pass e t h (record t.world { memory = t.world.memory }) t.instances (was_itself t.instances)
          (λ b. refl) None
      on (Some x) own = ends_some x own (is_stack_block (ended (Some x)).world.memory x.1.block && (x.1.start == 0))

  module _ (at : ℕ) (result : Option ℕ) (must_tail : Bool) (ty : Option Ty) (args : List Arg)
      (k : StandsAtCall e t at Intrinsic.CoroEnd result must_tail ty args) (resumed : t.top.mode ≡ Mode.Resumed) where
    ends : PassedIf e (after_end (if t.top.has_left then t else framed_finish t) result t.top.mode)
    ends =
        subst (λ (mode : Mode). PassedIf e (after_end (if t.top.has_left then t else framed_finish t) result mode))
        (sym resumed) (on t.top.has_left)
      where
        on : (b : Bool) → PassedIf e (return (if b then t else framed_finish t) None)
        on true = returns_pass e t h t.world t.instances (was_itself t.instances) (λ b. refl) None
        on false = finishes

    pub resumed_ends_pass : IsFine (framed_step (elided e) t).outcome → HavePassedBy e (framed_step (elided e) t)
    resumed_ends_pass fine =
        next_passed e t at (Instr.Call result must_tail ty (Callee.Intrinsic Intrinsic.CoroEnd) args) k fine ends

-- ---- begins

-- the instances that there were are there still
old_there : (xs : List Instance) (first last : Instance) (number : ℕ) (y : Instance) → number < length xs
    → slice_get (slice_set (xs ++ first ∷ []) (length xs) last) number ≡ Some y → slice_get xs number ≡ Some y
old_there xs first last number y lt there =
    sym (set_other (xs ++ first ∷ []) (length xs) number last (λ is. absurd (omega (arith, is, lt)))
    ∙ get_front xs (first ∷ []) number lt) ∙ there

module _ (e : Elision) (t : State) (result : Option ℕ) (h : HavePassedBy e t)
    (known : Each (IsKnownTo t.instances) (t.top ∷ t.below))
    (calm : (e.shape t.top.func).frees t.top.block ≡ None) where
  module _ (memory : List MemoryBlock) (stacks : (b : ℕ) → is_stack_block memory b ≡ is_stack_block t.world.memory b)
      (block start : ℕ) (v : Value) where
    abbrev after : State
    after = gives (begun (elided e).given (with_memory t memory) block start) result v

    aged : (number : ℕ) → number < length t.instances → IsAgedAt t after number
    aged number lt y there given =
        (y, old_there t.instances _ _ number y lt there, (λ j. sym (stacks y.block) j || not (y.start == 0)) ∙ given)

    rows_aged : (rows : List Activation) → Each (IsKnownTo t.instances) rows
        → Each (λ (c : Activation). (n : ℕ) → c.instance ≡ Some n → IsAgedAt t after n) rows
    rows_aged [] known = tt
    rows_aged (c ∷ rows) known = (λ n is. aged n (known.0 n is), rows_aged rows known.1)

    pub begun_passes : HavePassedBy e (gives (begun (elided e).given (with_memory t memory) block start) result v)
    begun_passes = (
      record { waits = h.0.waits; frees = λ given. calm },
      all_pass e t after t.below (rows_aged t.below known.1) h.1,
    )

  abbrev finish_with : Value → Result State Cause → Result State Cause
  finish_with v r = and_then r (λ (s : State). Ok (gives s result v))

  -- in a block that is owned
  owned_passes : (p : Value) (kind : Kind) (v : Value)
      → PassedIf e (finish_with v (begin_at (elided e).given t p kind))
  owned_passes (Value.Ptr (Pointer.At b o)) kind v =
      by ((o.bits == 0) && may_be_owned kind (own_frame (elided e).given t).size (slice_get t.world.memory b))
    where
      by : (q : Bool) → PassedIf e (finish_with v (and_then
          (check q Cause.Begin (Ok (with_block t.world.memory b (owned_to (own_frame (elided e).given t).size))))
          (λ (memory : List MemoryBlock). and_then (found Cause.Begin (Some b))
          (λ (b : ℕ). Ok (begun (elided e).given (with_memory t memory) b 0)))))
      by true =
          begun_passes (with_block t.world.memory b (owned_to (own_frame (elided e).given t).size))
          (λ c. stack_with (owned_to (own_frame (elided e).given t).size) (λ x. refl) t.world.memory b c) b 0 v
      by false = tt
  owned_passes (Value.Ptr Pointer.Null) kind v = tt
  owned_passes (Value.Ptr (Pointer.Func g)) kind v = tt
  owned_passes Value.Poison kind v = tt
  owned_passes (Value.Int w) kind v = tt

  -- where the frame was given
  given_passes : (frame : Value) → PassedIf e (finish_with frame (begin_given_at (elided e) t frame))
  given_passes (Value.Ptr (Pointer.At b o)) =
      by_room (has_room (elided e) o.bits (own_frame (elided e).given t).size
      (frame_around (elided e) t.instances b o.bits))
    where
      in_frame : (q : Bool) → PassedIf e (finish_with (Value.Ptr (Pointer.At b o))
          (ok_if q Cause.Begin (begun (elided e).given t b o.bits)))
      in_frame true = begun_passes t.world.memory (λ c. refl) b o.bits (Value.Ptr (Pointer.At b o))
      in_frame false = tt

      in_block : (q : Bool) → PassedIf e (finish_with (Value.Ptr (Pointer.At b o))
          (and_then (ok_if q Cause.Begin t) (λ (s : State).
          begin_at (elided e).given s (Value.Ptr (Pointer.At b o)) Kind.Stack)))
      in_block true = owned_passes (Value.Ptr (Pointer.At b o)) Kind.Stack (Value.Ptr (Pointer.At b o))
      in_block false = tt

      by_room : (q : Bool) → PassedIf e (finish_with (Value.Ptr (Pointer.At b o))
          (if q then begin_in_frame (elided e) t b o else begin_in_block (elided e) t b o))
      by_room true = in_frame (is_live_at t.world.memory b)
      by_room false = in_block ((o.bits == 0) && has_size t.world.memory b (own_frame (elided e).given t).size)
  given_passes (Value.Ptr Pointer.Null) = tt
  given_passes (Value.Ptr (Pointer.Func g)) = tt
  given_passes Value.Poison = tt
  given_passes (Value.Int w) = tt

  other_passes : (p : Value) → PassedIf e (and_then (ok_if (is_none t.top.instance) Cause.Begin t)
      (λ (s : State). finish_with p (begin_at (elided e).given s p Kind.Allocator)))
  other_passes p = on (is_none t.top.instance)
    where
      on : (q : Bool) → PassedIf e (and_then (ok_if q Cause.Begin t) (λ (s : State). finish_with p
          (begin_at (elided e).given s p Kind.Allocator)))
      on true = owned_passes p Kind.Allocator p
      on false = tt

  begins_pass : (p : Value) (mode : Mode) → PassedIf e (framed_begin (elided e) t result p mode)
  begins_pass p (Mode.GivenRamp frame) = on (is_none t.top.instance && are_finished_at t.instances frame)
    where
      on : (q : Bool) → PassedIf e (and_then (ok_if q Cause.Begin t) (λ (s : State). finish_with frame
          (begin_given_at (elided e) s frame)))
      on true = given_passes frame
      on false = tt
  begins_pass p Mode.Plain = other_passes p
  begins_pass p Mode.Ramp = other_passes p
  begins_pass p Mode.Resumed = other_passes p
  begins_pass p (Mode.Entering from label) = other_passes p

-- ---- all steps

module _ (e : Elision) (places : KeepsPlaces e) (keeps : KeepsHandlesAndEnds e) (s t : State)
    (theirs : IsKeptGiving e t) (slots : HaveNoSlots t) (blocks : HaveBlocks t)
    (fine : IsFine (framed_step (elided e) t).outcome) (h : HavePassedBy e t) where
  -- no coroutine begins where a frame is freed
  begins_calm : (at : ℕ) (result : Option ℕ) (must_tail : Bool) (ty : Option Ty) (args : List Arg)
      → StandsAtCall e t at Intrinsic.CoroBegin result must_tail ty args
      → (e.shape t.top.func).frees t.top.block ≡ None
  begins_calm at result must_tail ty args k = on ((e.shape t.top.func).frees t.top.block) refl
    where
      on : (o : Option ℕ) → (e.shape t.top.func).frees t.top.block ≡ o
          → (e.shape t.top.func).frees t.top.block ≡ None
      on None is = is
      on (Some other) is =
          let no : true ≡ false
          = (keeps.frees t.top.func t.top.block other is).calm at
          (Instr.Call result must_tail ty (Callee.Intrinsic Intrinsic.CoroBegin) args) k.there in
          absurd (cc)

  pub stays_passed : TakesStep e s t → HavePassedBy e (framed_step (elided e) t)
  stays_passed (TakesStep.Works at i w k) = moved_pass e t _ i (done_moves e t at i w k) h
  stays_passed (TakesStep.Allocates at a result must_tail ty args k) =
      moved_pass e t _ _ (allocators_move e t at a result must_tail ty args slots fine k) h
  stays_passed (TakesStep.Marks at j result must_tail ty args is k free) =
      moved_pass e t _ _ (marks_move e t at result must_tail ty args fine j is k free) h
  stays_passed (TakesStep.Makes at name ty align k mode) =
      moved_pass e t _ _ (allocas_move e t at name ty align mode blocks fine k) h
  stays_passed (TakesStep.MakesAgain at name ty align from label k inside mode) =
      again_passes e places keeps t theirs blocks at name ty align from label mode h k fine
  stays_passed (TakesStep.Gives at j result must_tail ty args is k) =
      moved_pass e t _ _ (gives_move e t at result must_tail ty args fine j is k) h
  stays_passed (TakesStep.Saves at j result must_tail ty args is k m) =
      moved_pass e t _ _ (saves_move e t at result must_tail ty args fine j is k m) h
  stays_passed (TakesStep.Begins at result must_tail ty args k inside those) =
      next_passed e t at (Instr.Call result must_tail ty (Callee.Intrinsic Intrinsic.CoroBegin) args) k fine
      (begins_pass e t result h those (begins_calm at result must_tail ty args k)
      (nth (arg_values (elided e).given.code t.top.values args) 1) t.top.mode)
  stays_passed (TakesStep.EndsRamp at result must_tail ty args k ramp) =
      moved_pass e t _ _ (ramp_ends_move e t at result must_tail ty args fine slots ramp k) h
  stays_passed (TakesStep.EndsResumed at result must_tail ty args k resumed inside _) =
      resumed_ends_pass e t h slots at result must_tail ty args k resumed fine
  stays_passed (TakesStep.Enters label k past) = edges_pass e t label k past h fine
  stays_passed (TakesStep.Calls r k) = calls_pass e s t r k h
  stays_passed (TakesStep.Sites r k) = sites_pass e places keeps s t r k h
  stays_passed (TakesStep.Resumes at result must_tail ty args k none) =
      resumes_pass e places keeps t none h theirs at result must_tail ty args fine k
  stays_passed (TakesStep.Destroys at result must_tail ty args k none) =
      destroys_pass e places keeps t none h theirs at result must_tail ty args fine k
  stays_passed (TakesStep.Returns k) = rets_pass e t k fine h
