-- Where the topmost activation goes on by one instruction, its place, its values and memory change, and nothing else.
use Rattle.std.proofs.Common.{◌≡◌, ◌+◌, ◌⊎◌, ◌∙◌, ◌&&◌, ◌||◌, ◌==◌, [], ap, Bool, Err, false, inl, inr, List, length, not, Ok, Option, refl, Result, subst, sym, true, ℕ, if◌then◌else◌}
use Rattle.std.specs.List.{Contains}
use Rattle.std.specs.Prelude.{None, Some, negsuc, slice_get}
use Rattle.elide_sites.specs.Destroyed.{is_stop}
use Rattle.pass_elide_kept.proofs.Goes.{step_is}
use Rattle.pass_elide_kept.specs.Steps.{GoesStill, SavesAt, StandsAtCall}
use Rattle.pass_elide_proof.proofs.CallersBlocks.{KeepsStacks, changed_keeps, disowned_life, ended_kind, frames_kept, lives_elsewhere, stack_with, stacks_same, started_life}
use Rattle.pass_elide_proof.proofs.CallersEdges.{status_was}
use Rattle.pass_elide_proof.proofs.CallersInstr.{fetched_at, was_itself}
use Rattle.pass_elide_proof.proofs.CallersValues.{result_elsewhere}
use Rattle.pass_elide_proof.proofs.LeftWindows.{own_there}
use Rattle.pass_elide_proof.specs.Callers.{KeepsFrames, LivesAt, MarksNoFrame, StandsAtInstr, WasBefore, gives_only, saves_by}
use Rattle.pass_elide_proof.specs.Elision.{Elision, elided}
use Rattle.pass_elide_proof.specs.Match.{instance_in}
use Rattle.pass_elide_proof.specs.OwnSlots.{HaveNoSlots}
use Rattle.pass_elide_proof.specs.pass_proofs.ir_base.declared.cause.Cause.{Cause}
use Rattle.pass_elide_proof.specs.pass_proofs.ir_model.Names.{function_at}
use Rattle.pass_elide_proof.specs.pass_proofs.ir_model.Ty.{Ty}
use Rattle.pass_elide_proof.specs.pass_proofs.ir_model.declared.instr.Instr.{Instr}
use Rattle.pass_elide_proof.specs.pass_proofs.ir_model.declared.operand.Arg.{Arg}
use Rattle.pass_elide_proof.specs.pass_proofs.ir_model.declared.operand.Callee.{Callee}
use Rattle.pass_elide_proof.specs.pass_proofs.ir_model.declared.operand.Intrinsic.{Intrinsic}
use Rattle.pass_elide_proof.specs.pass_proofs.ir_model.declared.operand.Operand.{Operand}
use Rattle.pass_elide_proof.specs.pass_proofs.ir_parts.Contents.{result_of}
use Rattle.pass_elide_proof.specs.pass_proofs.ir_paths.Windows.{operand_at, suspend_of}
use Rattle.pass_elide_proof.specs.pass_proofs.ir_paths.declared.point.Point.{Point}
use Rattle.pass_elide_proof.specs.pass_proofs.run_agreement.Machines.{IsFine}
use Rattle.pass_elide_proof.specs.pass_proofs.run_framed.Framed.{disown_given, framed_finish, framed_next, framed_promise, framed_step, is_given, is_stack_block}
use Rattle.pass_elide_proof.specs.pass_proofs.run_memory.Memory.{disown, disowned, end, ended, start, started}
use Rattle.pass_elide_proof.specs.pass_proofs.run_memory.declared.block.MemoryBlock.{MemoryBlock}
use Rattle.pass_elide_proof.specs.pass_proofs.run_memory.declared.pointer.Value.{Value}
use Rattle.pass_elide_proof.specs.pass_proofs.run_source.Source.{Sleeper, after_end, change_own, done_at, release, save, save_for, sleeper_at, slots_of, suspend}
use Rattle.pass_elide_proof.specs.pass_proofs.run_source.State.{function_of, gives, next, or_undefined, own_instance, point_of, settled, with_instance, with_left, with_memory, work_of}
use Rattle.pass_elide_proof.specs.pass_proofs.run_source.declared.state.Activation.{Activation}
use Rattle.pass_elide_proof.specs.pass_proofs.run_source.declared.state.Instance.{Instance}
use Rattle.pass_elide_proof.specs.pass_proofs.run_source.declared.state.Mode.{Mode}
use Rattle.pass_elide_proof.specs.pass_proofs.run_source.declared.state.State.{State}
use Rattle.pass_elide_proof.specs.pass_proofs.run_source.declared.state.Status.{Status}
use Rattle.pass_elide_proof.specs.pass_proofs.run_source_tables.Given.{has_final, is_final}
use Rattle.pass_elide_proof.specs.pass_proofs.run_step.Results.{and_then, found, ok_if}
use Rattle.pass_elide_proof.specs.pass_proofs.run_step.Step.{AtInstr, Work, block_of, on_block, set_memory, set_result, without_slots}
use Rattle.pass_elide_proof.specs.pass_proofs.run_step.Values.{arg_values, integer, nth, truth_value, value_in}
use Rattle.pass_elide_proof.specs.pass_proofs.run_step.declared.world.Slot.{Slot}
use Rattle.pass_elide_proof.specs.pass_proofs.run_step.declared.world.World.{World}

-- ---- what such a step leaves as it is

-- Instances keep their frames. The activation has left only if it saves.
pub record MovesBy (e : Elision) (t u : State) (i : Instr) : Type 0 where
  pub below : u.below ≡ t.below
  pub instances : (number : ℕ) (y : Instance) → slice_get u.instances number ≡ Some y → WasBefore t.instances number y
  pub frames : KeepsFrames t u
  pub func : u.top.func ≡ t.top.func
  pub block : u.top.block ≡ t.top.block
  pub result : u.top.result ≡ t.top.result
  pub mode : u.top.mode ≡ t.top.mode
  pub instance : u.top.instance ≡ t.top.instance
  pub left : (u.top.has_left ≡ t.top.has_left) ⊎ (is_stop i ≡ true)
  pub next : u.top.at ≡ t.top.at + 1
  pub values : (v : ℕ) → (result_of i ≡ Some v → ⊥) → value_in u.top.values v ≡ value_in t.top.values v
  pub slots : (z : Slot) → Contains t.top.slots z → Contains u.top.slots z

-- ---- parts of a step

module _ (e : Elision) (t : State) (i : Instr) where
  abbrev pub MovesIf : Result State Cause → Type 0
  MovesIf (Err cause) = Unit {0}
  MovesIf (Ok u) = MovesBy e t u i

  or_moves : (r : Result State Cause) → IsFine (or_undefined (elided e).given t r).outcome → MovesIf r
      → MovesBy e t (or_undefined (elided e).given t r) i
  or_moves (Err cause) fine h = absurd fine
  or_moves (Ok u) fine h = h

  pub next_moves : (at : ℕ) → StandsAtInstr e t at i → IsFine (framed_step (elided e) t).outcome
      → MovesIf (framed_next (elided e) t (AtInstr i)) → MovesBy e t (framed_step (elided e) t) i
  next_moves at k fine h =
      let is = step_is (elided e) t (AtInstr i) k.runs (fetched_at e t at i k) in
      subst (λ (u : State). MovesBy e t u i) (sym is)
      (or_moves (framed_next (elided e) t (AtInstr i)) (subst (λ (u : State). IsFine u.outcome) is fine) h)

  then_moves : {A : Type 0} (r : Result A Cause) (f : A → Result State Cause)
      → ((a : A) → r ≡ Ok a → MovesIf (f a)) → MovesIf (and_then r f)
  then_moves (Err cause) f h = tt
  then_moves (Ok a) f h = h a refl

  if_moves : (b : Bool) (cause : Cause) (u : State) → MovesBy e t u i → MovesIf (ok_if b cause u)
  if_moves true cause u h = h
  if_moves false cause u h = tt

  -- where the activation is as it was, but for its place, and for a value
  on : (z : State) → z.top ≡ t.top → z.below ≡ t.below → KeepsFrames t z
      → ((number : ℕ) (y : Instance) → slice_get z.instances number ≡ Some y → WasBefore t.instances number y)
      → (w : Work) → w.world ≡ z.world
      → ((v : ℕ) → (result_of i ≡ Some v → ⊥) → value_in w.values v ≡ value_in z.top.values v)
      → MovesBy e t (settled z w) i
  on z top below frames was w world values = record {
    below = below;
    instances = was;
    frames = record {
      given = λ number y there given.
          frames.given number y there
          (ap (λ (q : World). is_given q.memory y) (sym world) ∙ given);
      lives = λ number y there stack going live.
          subst (λ (q : World). LivesAt q.memory y.block) (sym world) (frames.lives number y there stack going live);
    };
    func = ap (λ (c : Activation). c.func) top;
    block = ap (λ (c : Activation). c.block) top;
    result = ap (λ (c : Activation). c.result) top;
    mode = ap (λ (c : Activation). c.mode) top;
    instance = ap (λ (c : Activation). c.instance) top;
    left = inl (ap (λ (c : Activation). c.has_left) top);
    next = ap (λ (c : Activation). c.at + 1) top;
    values = λ v ne. values v ne ∙ ap (λ (c : Activation). value_in c.values v) top;
    slots = λ s has. subst (λ (c : Activation). Contains c.slots s) (sym top) has;
  }

  pub next_on : (z : State) → z.top ≡ t.top → z.below ≡ t.below → KeepsFrames t z
      → ((number : ℕ) (y : Instance) → slice_get z.instances number ≡ Some y → WasBefore t.instances number y)
      → MovesBy e t (next z) i
  next_on z top below frames was = on z top below frames was (work_of z) refl (λ v ne. refl)

-- ---- calls that give a value

module _ (e : Elision) (t : State) (result : Option ℕ) (must_tail : Bool) (ty : Option Ty) (args : List Arg)
    (j : Intrinsic) where
  abbrev i : Instr
  i = Instr.Call result must_tail ty (Callee.Intrinsic j) args

  gives_on : (z : State) → z.top ≡ t.top → z.below ≡ t.below → KeepsFrames t z
      → ((number : ℕ) (y : Instance) → slice_get z.instances number ≡ Some y → WasBefore t.instances number y)
      → (v : Value)
      → MovesBy e t (gives z result v) (Instr.Call result must_tail ty (Callee.Intrinsic j) args)
  gives_on z top below frames was v =
      on e t i z top below frames was (set_result (work_of z) result v) refl (λ u ne. result_elsewhere z.top.values result v u ne)

  same_frames : KeepsFrames t t
  same_frames = frames_kept t t (stacks_same t.world.memory)

  gives_it : (v : Value) → MovesBy e t (gives t result v) (Instr.Call result must_tail ty (Callee.Intrinsic j) args)
  gives_it v = gives_on t refl refl same_frames (was_itself t.instances) v

  done_moves : (p : Value)
      → MovesIf e t (Instr.Call result must_tail ty (Callee.Intrinsic j) args) (done_at (elided e).given t result p)
  done_moves p =
      then_moves e t i (sleeper_at t p) (λ (y : Sleeper).
      let f = function_at (elided e).given.code y.instance.coroutine in
      ok_if (has_final f) Cause.State (gives t result (truth_value (is_final f y.suspend))))
      (λ y is. if_moves e t i (has_final (function_at (elided e).given.code y.instance.coroutine)) Cause.State _
      (gives_it _))

  promise_moves : (r : Result Value Cause)
      → MovesIf e t (Instr.Call result must_tail ty (Callee.Intrinsic j) args)
      (and_then r (λ v. Ok (gives t result v)))
  promise_moves (Err cause) = tt
  promise_moves (Ok v) = gives_it v

  -- coro.free releases the instance
  release_moves : (v : Value) → MovesBy e t (gives (release t) result v)
      (Instr.Call result must_tail ty (Callee.Intrinsic j) args)
  release_moves v = by (own_instance t) refl
    where
      by : (o : Option (ℕ × Instance)) → own_instance t ≡ o
          → MovesBy e t (gives (change_own t (λ x. record x { released = true }) o) result v) i
      by None own = gives_it v
      by (Some y) own =
          gives_on (with_instance t y.0 (record y.1 { released = true })) refl refl
          (frames_kept t (with_instance t y.0 (record y.1 { released = true })) (stacks_same t.world.memory))
          (status_was t.instances y.0 y.1 (record y.1 { released = true }) (own_there t y.0 y.1 own).1 refl refl refl
          (λ going. going)) v

  -- ---- the end in a ramp

  module _ (none : HaveNoSlots t) where
    no_slots : (o : Option (ℕ × Instance)) → own_instance t ≡ o → slots_of o ≡ []
    no_slots None own = refl
    no_slots (Some y) own = none y.0 y.1 (own_there t y.0 y.1 own).1

    finished : (o : Option (ℕ × Instance)) → own_instance t ≡ o → (number : ℕ) (y : Instance)
        → slice_get (change_own t (λ x. record x { status = Status.Finished }) o).instances number ≡ Some y
        → WasBefore t.instances number y
    finished None own number y there = was_itself t.instances number y there
    finished (Some x) own number y there =
        status_was t.instances x.0 x.1 (record x.1 { status = Status.Finished }) (own_there t x.0 x.1 own).1 refl refl
        refl (λ going. absurd (cc)) number y there

    abbrev over : Option (ℕ × Instance) → State
    over o =
        with_memory (change_own t (λ x. record x { status = Status.Finished }) o)
        (without_slots t.world.memory (slots_of o))

    finish_moves : (v : Value) → MovesBy e t (gives (framed_finish t) result v)
        (Instr.Call result must_tail ty (Callee.Intrinsic j) args)
    finish_moves v = by_own (own_instance t) refl
      where
        calm_memory : (x : ℕ × Instance) → own_instance t ≡ Some x → (change : List MemoryBlock → List MemoryBlock)
            → KeepsStacks t.world.memory (change t.world.memory)
            → KeepsStacks t.world.memory (change (without_slots t.world.memory x.1.slots))
        calm_memory x own change same =
            subst (λ (zs : List Slot). KeepsStacks t.world.memory (change (without_slots t.world.memory zs)))
            (sym (no_slots (Some x) own)) same

        by : (x : ℕ × Instance) → own_instance t ≡ Some x → (b : Bool)
            → MovesBy e t (gives (if b then with_memory (over (Some x)) (disown (over (Some x)).world.memory
            x.1.block) else over (Some x)) result v) i
        by x own true =
            let z = with_memory (over (Some x)) (disown (over (Some x)).world.memory x.1.block) in
            gives_on z refl refl
            (frames_kept t z (calm_memory x own (λ m. disown m x.1.block)
            (changed_keeps disowned t.world.memory x.1.block disowned_life))) (finished (Some x) own) v
        by x own false =
            gives_on (over (Some x)) refl refl
            (frames_kept t (over (Some x)) (calm_memory x own (λ m. m) (stacks_same t.world.memory)))
            (finished (Some x) own) v

        by_own : (o : Option (ℕ × Instance)) → own_instance t ≡ o
            → MovesBy e t (gives (disown_given (over o) o) result v) i
        by_own None own =
            gives_on (over None) refl refl (frames_kept t (over None) (stacks_same t.world.memory))
            (finished None own) v
        by_own (Some x) own = by x own (is_stack_block (over (Some x)).world.memory x.1.block && (x.1.start == 0))

    end_moves : (mode : Mode) → (mode ≡ Mode.Resumed → ⊥)
        → MovesIf e t (Instr.Call result must_tail ty (Callee.Intrinsic j) args)
        (after_end (if t.top.has_left then t else framed_finish t) result mode)
    end_moves mode ramp = by t.top.has_left mode ramp
      where
        by : (b : Bool) (mode : Mode) → (mode ≡ Mode.Resumed → ⊥)
            → MovesIf e t i (after_end (if b then t else framed_finish t) result mode)
        by b Mode.Resumed ramp = absurd (ramp refl)
        by true Mode.Plain ramp = gives_it (truth_value false)
        by true Mode.Ramp ramp = gives_it (truth_value false)
        by true (Mode.GivenRamp frame) ramp = gives_it (truth_value false)
        by true (Mode.Entering from label) ramp = gives_it (truth_value false)
        by false Mode.Plain ramp = finish_moves (truth_value false)
        by false Mode.Ramp ramp = finish_moves (truth_value false)
        by false (Mode.GivenRamp frame) ramp = finish_moves (truth_value false)
        by false (Mode.Entering from label) ramp = finish_moves (truth_value false)

  -- ---- saves

  module _ (stops : is_stop (Instr.Call result must_tail ty (Callee.Intrinsic j) args) ≡ true) where
    abbrev asleep : Point → Point → Instance → Instance
    asleep save suspend x =
        record x {
          status = Status.Suspended suspend t.top.values;
          last_save = Some (record { depth = length t.below; save = save });
        }

    abbrev after : Point → Point → ℕ × Instance → State
    after save suspend x = with_left (with_instance t x.0 (asleep save suspend x.1)) true

    was_awake : (save suspend : Point) (x : ℕ × Instance) → own_instance t ≡ Some x → GoesStill t → (number : ℕ)
        (y : Instance) → slice_get (after save suspend x).instances number ≡ Some y → WasBefore t.instances number y
    was_awake save suspend x own goes =
        let own_is = own_there t x.0 x.1 own in
        status_was t.instances x.0 x.1 (asleep save suspend x.1) own_is.1 refl refl refl
        (λ going. goes x.1 (ap (instance_in t.instances) own_is.0 ∙ own_is.1))

    left_on : (z : State) → z.below ≡ t.below → z.world.memory ≡ t.world.memory
        → ((number : ℕ) (y : Instance) → slice_get z.instances number ≡ Some y → WasBefore t.instances number y)
        → z.top.func ≡ t.top.func → z.top.block ≡ t.top.block → z.top.result ≡ t.top.result
        → z.top.mode ≡ t.top.mode → z.top.instance ≡ t.top.instance → z.top.at ≡ t.top.at + 1
        → ((v : ℕ) → (result ≡ Some v → ⊥) → value_in z.top.values v ≡ value_in t.top.values v)
        → z.top.slots ≡ t.top.slots → MovesBy e t z i
    left_on z below memory was func block result mode instance next values slots = record {
      below = below;
      instances = was;
      frames = frames_kept t z (subst (KeepsStacks t.world.memory) (sym memory) (stacks_same t.world.memory));
      func = func;
      block = block;
      result = result;
      mode = mode;
      instance = instance;
      left = inr stops;
      next = next;
      values = values;
      slots = λ s has. subst (λ (zs : List Slot). Contains zs s) (sym slots) has;
    }

    saved : (save suspend : Point) (f : State → State)
        → ((x : ℕ × Instance) → own_instance t ≡ Some x → MovesBy e t (f (after save suspend x)) i)
        → MovesIf e t i (and_then (save_for t save suspend) (λ (z : State). Ok (f z)))
    saved save suspend f further = by_own (own_instance t) refl
      where
        by : (x : ℕ × Instance) → own_instance t ≡ Some x → (b : Bool)
            → MovesIf e t i (and_then (ok_if b Cause.State (after save suspend x)) (λ (z : State). Ok (f z)))
        by x own true = further x own
        by x own false = tt

        by_own : (o : Option (ℕ × Instance)) → own_instance t ≡ o
            → MovesIf e t i (and_then (and_then (found Cause.State o)
            (λ (x : ℕ × Instance). ok_if (not x.1.freed) Cause.State (after save suspend x)))
            (λ (z : State). Ok (f z)))
        by_own None own = tt
        by_own (Some x) own = by x own (not x.1.freed)

    save_moves : GoesStill t
        → MovesIf e t (Instr.Call result must_tail ty (Callee.Intrinsic j) args) (save (elided e).given t)
    save_moves goes = by (found Cause.State (suspend_of (function_of (elided e).given t) (point_of t)))
      where
        by : (r : Result Point Cause)
            → MovesIf e t i (and_then r (λ (q : Point). and_then (save_for t (point_of t) q)
            (λ (z : State). Ok (next z))))
        by (Err cause) = tt
        by (Ok q) =
            saved (point_of t) q next
            (λ x own. left_on (next (after (point_of t) q x)) refl refl (was_awake (point_of t) q x own goes) refl refl
            refl refl refl refl (λ v ne. refl) refl)

    suspend_moves : (x : Operand) → (x ≡ Operand.None → GoesStill t)
        → MovesIf e t (Instr.Call result must_tail ty (Callee.Intrinsic j) args) (suspend t result x)
    suspend_moves Operand.None goes =
        saved (point_of t) (point_of t) (λ z. gives z result (integer 8 (negsuc 0)))
        (λ x own. left_on (gives (after (point_of t) (point_of t) x) result (integer 8 (negsuc 0))) refl refl
        (was_awake (point_of t) (point_of t) x own (goes refl)) refl refl refl refl refl refl
        (λ v ne. result_elsewhere t.top.values result (integer 8 (negsuc 0)) v ne) refl)
    suspend_moves (Operand.Local v) goes = gives_it (integer 8 (negsuc 0))
    suspend_moves (Operand.Global n) goes = gives_it (integer 8 (negsuc 0))
    suspend_moves (Operand.Number z) goes = gives_it (integer 8 (negsuc 0))
    suspend_moves Operand.True goes = gives_it (integer 8 (negsuc 0))
    suspend_moves Operand.False goes = gives_it (integer 8 (negsuc 0))
    suspend_moves Operand.Null goes = gives_it (integer 8 (negsuc 0))
    suspend_moves Operand.Poison goes = gives_it (integer 8 (negsuc 0))

-- ---- which intrinsic it is

module _ (e : Elision) (t : State) (at : ℕ) (result : Option ℕ) (must_tail : Bool) (ty : Option Ty)
    (args : List Arg) (fine : IsFine (framed_step (elided e) t).outcome) where
  abbrev call_by : Intrinsic → Instr
  call_by j = Instr.Call result must_tail ty (Callee.Intrinsic j) args

  abbrev vs : List Value
  vs = arg_values (elided e).given.code t.top.values args

  abbrev Moves : Intrinsic → Type 0
  Moves j = MovesIf e t (call_by j) (framed_next (elided e) t (AtInstr (call_by j)))

  given_moves : (j : Intrinsic) → gives_only j ≡ true → Moves j
  given_moves Intrinsic.CoroId is =
      next_on e t (call_by Intrinsic.CoroId) t refl refl (frames_kept t t (stacks_same t.world.memory))
      (was_itself t.instances)
  given_moves Intrinsic.CoroSizeI32 is = gives_it e t result must_tail ty args Intrinsic.CoroSizeI32 _
  given_moves Intrinsic.CoroSizeI64 is = gives_it e t result must_tail ty args Intrinsic.CoroSizeI64 _
  given_moves Intrinsic.CoroAlignI32 is = gives_it e t result must_tail ty args Intrinsic.CoroAlignI32 _
  given_moves Intrinsic.CoroAlignI64 is = gives_it e t result must_tail ty args Intrinsic.CoroAlignI64 _
  given_moves Intrinsic.CoroAlloc is = gives_it e t result must_tail ty args Intrinsic.CoroAlloc _
  given_moves Intrinsic.CoroFrame is = gives_it e t result must_tail ty args Intrinsic.CoroFrame _
  given_moves Intrinsic.CoroFree is = release_moves e t result must_tail ty args Intrinsic.CoroFree _
  given_moves Intrinsic.CoroDone is = done_moves e t result must_tail ty args Intrinsic.CoroDone (nth vs 0)
  given_moves Intrinsic.CoroPromise is =
      promise_moves e t result must_tail ty args Intrinsic.CoroPromise
      (framed_promise (elided e) t (nth vs 0) (operand_at args 2))
  given_moves Intrinsic.CoroBegin is = absurd (cc)
  given_moves Intrinsic.CoroSave is = absurd (cc)
  given_moves Intrinsic.CoroSuspend is = absurd (cc)
  given_moves Intrinsic.CoroEnd is = absurd (cc)
  given_moves Intrinsic.CoroResume is = absurd (cc)
  given_moves Intrinsic.CoroDestroy is = absurd (cc)
  given_moves Intrinsic.LifetimeStart is = absurd (cc)
  given_moves Intrinsic.LifetimeEnd is = absurd (cc)
  given_moves Intrinsic.MemcpyI64 is = absurd (cc)
  given_moves Intrinsic.MemcpyI32 is = absurd (cc)

  pub gives_move : (j : Intrinsic) → gives_only j ≡ true → StandsAtCall e t at j result must_tail ty args
      → MovesBy e t (framed_step (elided e) t) (Instr.Call result must_tail ty (Callee.Intrinsic j) args)
  gives_move j is k = next_moves e t (call_by j) at k fine (given_moves j is)

  saved_moves : (j : Intrinsic) → saves_by j ≡ true → SavesAt e t j args → Moves j
  saved_moves Intrinsic.CoroSave is m =
      save_moves e t result must_tail ty args Intrinsic.CoroSave refl (m.goes (inl refl))
  saved_moves Intrinsic.CoroSuspend is m =
      suspend_moves e t result must_tail ty args Intrinsic.CoroSuspend refl (operand_at args 0)
      (λ none. m.goes (inr none))
  saved_moves _ is m = absurd (cc)

  pub saves_move : (j : Intrinsic) → saves_by j ≡ true → StandsAtCall e t at j result must_tail ty args
      → SavesAt e t j args
      → MovesBy e t (framed_step (elided e) t) (Instr.Call result must_tail ty (Callee.Intrinsic j) args)
  saves_move j is k m = next_moves e t (call_by j) at k fine (saved_moves j is m)

  pub ramp_ends_move : HaveNoSlots t → (t.top.mode ≡ Mode.Resumed → ⊥)
      → StandsAtCall e t at Intrinsic.CoroEnd result must_tail ty args
      → MovesBy e t (framed_step (elided e) t)
      (Instr.Call result must_tail ty (Callee.Intrinsic Intrinsic.CoroEnd) args)
  ramp_ends_move none ramp k =
      next_moves e t (call_by Intrinsic.CoroEnd) at k fine
      (end_moves e t result must_tail ty args Intrinsic.CoroEnd none t.top.mode ramp)

  -- ---- markers

  abbrev marked : Value
  marked = nth (arg_values (elided e).given.code t.top.values args) 1

  marked_moves : (j : Intrinsic) (memory : List MemoryBlock)
      → KeepsFrames t (settled t (set_memory (work_of t) memory))
      → MovesBy e t (settled t (set_memory (work_of t) memory))
      (Instr.Call result must_tail ty (Callee.Intrinsic j) args)
  marked_moves j memory frames = record {
    below = refl;
    instances = was_itself t.instances;
    frames = frames;
    func = refl;
    block = refl;
    result = refl;
    mode = refl;
    instance = refl;
    left = inl refl;
    next = refl;
    values = λ v ne. refl;
    slots = λ s has. has;
  }

  starts_frames : (o : Option ℕ) → KeepsStacks t.world.memory (on_block start t.world.memory o)
  starts_frames None = stacks_same t.world.memory
  starts_frames (Some b) = changed_keeps started t.world.memory b started_life

  ends_frames : (o : Option ℕ) → block_of marked ≡ o → MarksNoFrame t marked
      → KeepsFrames t (settled t (set_memory (work_of t) (on_block end t.world.memory o)))
  ends_frames None is free = frames_kept t _ (stacks_same t.world.memory)
  ends_frames (Some b) is free = record {
    given = λ number y there given.
        (λ j. sym (stack_with ended ended_kind t.world.memory b y.block) j || not (y.start == 0)) ∙ given;
    lives = λ number y there stack going live.
        lives_elsewhere ended t.world.memory b y.block (free b number y is there going) live;
  }

  pub marks_move : (j : Intrinsic) → (j ≡ Intrinsic.LifetimeStart) ⊎ (j ≡ Intrinsic.LifetimeEnd)
      → StandsAtCall e t at j result must_tail ty args
      → MarksNoFrame t (nth (arg_values (elided e).given.code t.top.values args) 1)
      → MovesBy e t (framed_step (elided e) t) (Instr.Call result must_tail ty (Callee.Intrinsic j) args)
  marks_move j is k free = next_moves e t (call_by j) at k fine (by is)
    where
      by : (j ≡ Intrinsic.LifetimeStart) ⊎ (j ≡ Intrinsic.LifetimeEnd) → Moves j
      by (inl first) =
          subst Moves (sym first)
          (marked_moves Intrinsic.LifetimeStart (on_block start t.world.memory (block_of marked))
          (frames_kept t _ (starts_frames (block_of marked))))
      by (inr second) =
          subst Moves (sym second)
          (marked_moves Intrinsic.LifetimeEnd (on_block end t.world.memory (block_of marked))
          (ends_frames (block_of marked) refl free))
