-- A step of the first run keeps offsets of 64 bits, and its first state has such offsets.
use Rattle.std.proofs.Common.{◌≡◌, ◌<◌, ℕ, zero, suc, ◌+◌, ◌^◌, Bool, true, false, not, List, [], ◌∷◌, ◌++◌, length, map}
use Rattle.std.proofs.Common.{Option, Some, None, Result, Ok, Err, refl, sym, ap, ◌∙◌, subst, arith, if◌then◌else◌, ◌&&◌, ◌==◌}
use Rattle.std.specs.Prelude.{filter, find, is_none, negsuc, slice_get}
use Rattle.run_types.specs.ir_base.declared.cause.Cause.{Cause}
use Rattle.run_types.specs.ir_base.declared.outcome.Outcome.{Outcome}
use Rattle.run_types.specs.ir_base.declared.outcome.Word.{Word}
use Rattle.run_types.specs.ir_model.Names.{function_at}
use Rattle.run_types.specs.ir_model.declared.module.GlobalItem.{GlobalItem}
use Rattle.run_types.specs.ir_model.declared.module.Module.{Module}
use Rattle.run_types.specs.ir_model.declared.operand.Arg.{Arg}
use Rattle.run_types.specs.ir_model.declared.operand.Intrinsic.{Intrinsic}
use Rattle.run_types.specs.ir_model.declared.operand.Operand.{Operand}
use Rattle.run_types.specs.ir_paths.Windows.{operand_at, suspend_of}
use Rattle.run_types.specs.ir_paths.declared.point.Point.{Point}
use Rattle.run_types.specs.pass_kept_proof.Kept.{Keep, continue_keeping, kept}
use Rattle.run_types.specs.run_agreement.Machines.{iterate}
use Rattle.run_types.proofs.run_hooks.alive.Parts.{all_append}
use Rattle.run_types.proofs.run_hooks.alive.Places.{own_there}
use Rattle.run_types.specs.run_memory.Memory.{access_bytes, own}
use Rattle.run_types.specs.run_memory.declared.block.Kind.{Kind}
use Rattle.run_types.specs.run_memory.declared.block.MemoryBlock.{MemoryBlock}
use Rattle.run_types.specs.run_memory.declared.pointer.Pointer.{Pointer}
use Rattle.run_types.specs.run_memory.declared.pointer.Value.{Value}
use Rattle.run_types.specs.run_source.Source.{Sleeper, act, advance_by, after_end, begin, begun, called, context_of}
use Rattle.run_types.specs.run_source.Source.{coro, deallocate, end_of, enter_block, finish, first_state, frame_address, frame_of_promise}
use Rattle.run_types.specs.run_source.Source.{go_to, has_promise_at, if_let_go, is_among, is_live_at, is_over, kill_late, left_windows}
use Rattle.run_types.specs.run_source.Source.{let_go, may_be_freed, may_leave, new_instance, new_slot, pop, promise, promise_block, push}
use Rattle.run_types.specs.run_source.Source.{promise_of_frame, release, resumed, return, returned, save, save_for, sleeper_at, slots_of}
use Rattle.run_types.specs.run_source.Source.{sleeper_of, step_by, suspend, with_new_slots}
use Rattle.run_types.specs.run_source.State.{frame_address_of, function_of, gives, instance_at, next, or_undefined, own_facts, own_frame}
use Rattle.run_types.specs.run_source.State.{own_instance, point_of, settled, with_instance, with_left, with_memory, with_slots}
use Rattle.run_types.specs.run_source.State.{with_status, work_of}
use Rattle.run_types.specs.run_source.declared.state.Instance.{Instance}
use Rattle.run_types.specs.run_source.declared.state.Mode.{Mode}
use Rattle.run_types.specs.run_source.declared.state.State.{State}
use Rattle.run_types.specs.run_source.declared.state.Status.{Status}
use Rattle.run_types.specs.run_source_tables.Given.{Given, is_true}
use Rattle.run_types.specs.run_step.Results.{and_then, found, ok_if}
use Rattle.run_types.specs.run_step.Step.{Action, Coro, Deallocate, Done, Enter, GoTo, NewSlot, Return, Stuck, Work, block_of}
use Rattle.run_types.specs.run_step.Step.{deallocated, fetch, global_block, label_of, outcome_of, values_in, without_slots}
use Rattle.run_types.specs.run_step.Values.{access_of, arg_values, integer, nth, operand_value, pointer_to, stored, truth_value}
use Rattle.pass_renewed_meaning.proofs.Handles.{find_there}
use Rattle.pass_renewed_meaning.proofs.OffsetBytes.{GivesSmall, HaveSmall, encoded}
use Rattle.pass_renewed_meaning.proofs.OffsetBytes.{own_has, without_has}
use Rattle.pass_renewed_meaning.proofs.OffsetValues.{AllSmall, AreSmall, IsSmallAction, action_fine, args_small}
use Rattle.pass_renewed_meaning.proofs.OffsetValues.{entry_small, kept_small, nth_small, result_small, stored_small, zero_small}
use Rattle.pass_renewed_meaning.proofs.OrdinaryCases.{small_operand}
use Rattle.pass_renewed_meaning.proofs.ResumeCases.{sleeper_there}
use Rattle.run_types.specs.pass_renewed_proof.Small.{HasSmallOffset}
use Rattle.pass_renewed_meaning.proofs.OffsetSteps.{IsSmallInstance, IsSmallState, IsSmallStatus, Stays}
use Rattle.pass_renewed_meaning.proofs.OffsetSteps.{block_entered, change_small, finish_small, freed_small, gives_small}
use Rattle.pass_renewed_meaning.proofs.OffsetSteps.{goes_small, instance_set, memory_set, next_small, pushed, return_small}
use Rattle.pass_renewed_meaning.proofs.OffsetSteps.{saved_small, slot_small, slots_small, there}
use Rattle.pass_renewed_meaning.specs.Offsets.{AreOffsetsSmall}
use Rattle.pass_renewed_meaning.specs.Rules.{Setting}
use Rattle.pass_renewed_meaning.specs.Runs.{first_given}

-- ---- frame addresses

address_small : (x : Instance) → IsSmallInstance x → HasSmallOffset (frame_address_of x)
address_small x h = h.start

own_small : (s : State) → IsSmallState s → HasSmallOffset (frame_address (own_instance s))
own_small s h = on (own_instance s) (λ i x e. (own_there s i x e).1)
  where
    on : (o : Option (ℕ × Instance)) → ((i : ℕ) (x : Instance) → o ≡ Some (i, x) → slice_get s.instances i ≡ Some x)
        → HasSmallOffset (frame_address o)
    on None is = tt
    on (Some p) is = address_small p.1 (there s h p.0 p.1 (is p.0 p.1 refl))

if_small : (b : Bool) (t : State) → IsSmallState t → Stays (ok_if b Cause.State t)
if_small true t j = j
if_small false t j = tt

-- ---- the coro intrinsics

module _ (g : Given) (keep : Keep) (s : State) (h : IsSmallState s) where
  -- a resumed activation
  goes_on : (y : Sleeper) → slice_get s.instances y.number ≡ Some y.instance → AreSmall y.values → (label : ℕ)
      → IsSmallState (continue_keeping g keep s y.number y.instance y.suspend y.values label)
  goes_on y at small label =
      let t = with_status s y.number y.instance Status.Running in
      let a = resumed y.number y.instance y.suspend (kept (keep y.instance.coroutine y.suspend) y.values) in
      block_entered g (push t a) (pushed t (instance_set s h y.number (record y.instance { status = Status.Running }) (record {
        start = (there s h y.number y.instance at).start;
        status = tt;
      })) a (kept_small (keep y.instance.coroutine y.suspend) y.values small)) label

  sleeping : (v : Value) (goes : Sleeper → Result State Cause) → ((y : Sleeper) → slice_get s.instances y.number ≡ Some
      y.instance → AreSmall y.values → Stays (goes y)) → Stays (and_then (sleeper_at s v) goes)
  sleeping v goes k = on (sleeper_at s v) refl
    where
      on : (r : Result Sleeper Cause) → sleeper_at s v ≡ r → Stays (and_then r goes)
      on (Err cause) e = tt
      on (Ok y) e =
          let r = sleeper_there s v y e in
          k y r.there (subst IsSmallStatus r.status (there s h y.number y.instance r.there).status)

  begins : (result : Option ℕ) (mem : Value) → HasSmallOffset mem → Stays (begin g s result mem)
  begins result mem small = on (is_none s.top.instance)
    where
      made : (memory : List MemoryBlock) → HaveSmall memory → (b : ℕ) → IsSmallState (begun g (with_memory s memory) b 0)
      made memory k b =
          let x = new_instance s.top.func b 0 in
          let i = length s.instances in
          let s' : State = record (with_memory s memory) {
            instances = s.instances ++ x ∷ [];
            top = record s.top { instance = Some i; slots = [] };
          } in
          let start : 0 < 2 ^ 64 = omega arith in
          let new : IsSmallInstance x = record { start = start; status = tt } in
          let all : IsSmallState s' = record {
            memory = k;
            top = h.top;
            below = h.below;
            instances = all_append (λ (z : Instance). IsSmallInstance z) s.instances (x ∷ []) h.instances (new, tt);
          } in
          let y : Instance = record x {
            slots = filter (λ slot. not (is_among (own_facts g (with_memory s memory)).ramp_slots slot)) s.top.slots ++ x.slots;
          } in
          slots_small (with_instance s' i y) (instance_set s' all i y (record { start = start; status = tt })) (filter (is_among
          (own_facts g (with_memory s memory)).ramp_slots) s.top.slots ++ [])

      there_is : (memory : List MemoryBlock) → HaveSmall memory → (o : Option ℕ) → Stays (and_then (and_then (found Cause.Begin
          o) (λ b. Ok (begun g (with_memory s memory) b 0))) (λ t. Ok (gives t result mem)))
      there_is memory k None = tt
      there_is memory k (Some b) = gives_small (begun g (with_memory s memory) b 0) (made memory k b) result mem small

      owned : (r : Result (List MemoryBlock) Cause) → GivesSmall r → Stays (and_then (and_then r (λ memory. and_then (found
          Cause.Begin (block_of mem)) (λ b. Ok (begun g (with_memory s memory) b 0)))) (λ t. Ok (gives t result mem)))
      owned (Err cause) k = tt
      owned (Ok memory) k = there_is memory k (block_of mem)

      on : (t : Bool) → Stays (and_then (ok_if t Cause.Begin s) (λ u. and_then (and_then (own u.world.memory mem (own_frame g
          u).size Kind.Allocator) (λ memory. and_then (found Cause.Begin (block_of mem)) (λ b. Ok (begun g (with_memory u
          memory) b 0)))) (λ t. Ok (gives t result mem))))
      on false = tt
      on true = owned (own s.world.memory mem (own_frame g s).size Kind.Allocator) (own_has s.world.memory mem (own_frame g
          s).size Kind.Allocator h.memory)

  frees : (result : Option ℕ) → IsSmallState (gives (release s) result (frame_address (own_instance s)))
  frees result = gives_small (release s) (change_small s h (λ x. record x { released = true }) (λ x k. record {
    start = k.start;
    status = k.status;
  })) result (frame_address (own_instance s)) (own_small s h)

  saves : Stays (save g s)
  saves = on (suspend_of (function_of g s) (point_of s))
    where
      on : (o : Option Point) → Stays (and_then (found Cause.State o) (λ u. and_then (save_for s (point_of s) u) (λ t. Ok (next
          t))))
      on None = tt
      on (Some u) = saved_small s h (point_of s) u (λ t. Ok (next t)) (λ t k. next_small t k)

  suspends : (result : Option ℕ) (token : Operand) → Stays (suspend s result token)
  suspends result Operand.None = saved_small s h (point_of s) (point_of s) (λ t. Ok (gives t result (integer 8 (negsuc 0)))) (λ
      t k. gives_small t k result (integer 8 (negsuc 0)) tt)
  suspends result token = gives_small s h result (integer 8 (negsuc 0)) tt

  ends : (result : Option ℕ) → Stays (end_of s finish result)
  ends result = on s.top.has_left
    where
      after : (t : State) → IsSmallState t → (mode : Mode) → Stays (after_end t result mode)
      after t k Mode.Resumed = return_small t k None tt
      after t k Mode.Plain = gives_small t k result (truth_value false) tt
      after t k Mode.Ramp = gives_small t k result (truth_value false) tt
      after t k (Mode.Entering from label) = gives_small t k result (truth_value false) tt
      after t k (Mode.GivenRamp v) = gives_small t k result (truth_value false) tt

      on : (b : Bool) → Stays (after_end (if b then s else finish s) result s.top.mode)
      on true = after s h s.top.mode
      on false = after (finish s) (finish_small s h) s.top.mode

  abbrev GivesValue : Result Value Cause → Type 0
  GivesValue (Ok v) = HasSmallOffset v
  GivesValue (Err cause) = Unit {0}

  of_frame : (v : Value) → GivesValue (promise_of_frame g s v)
  of_frame v = on (instance_at s.instances v)
    where
      live : (b : ℕ) (t : Bool) → GivesValue (ok_if t Cause.Dead (pointer_to b))
      live b true = zero_small b
      live b false = tt

      has : (x : Instance) (o : Option ℕ) → GivesValue (and_then (found Cause.Promise o) (λ b. ok_if (not (is_over x)) Cause.Dead
          (pointer_to b)))
      has x None = tt
      has x (Some b) = live b (not (is_over x))

      on : (o : Option (ℕ × Instance)) → GivesValue (and_then (found Cause.Frame o) (λ (r : ℕ × Instance). and_then (found
          Cause.Promise (promise_block g r.1)) (λ b. ok_if (not (is_over r.1)) Cause.Dead (pointer_to b))))
      on None = tt
      on (Some r) = has r.1 (promise_block g r.1)

  of_promise : (v : Value) → GivesValue (frame_of_promise g s v)
  of_promise (Value.Ptr (Pointer.At b o)) = on (o.bits == 0)
    where
      live : (x : Instance) → HasSmallOffset (frame_address_of x) → (t : Bool) → GivesValue (ok_if t Cause.Promise
          (frame_address_of x))
      live x k true = k
      live x k false = tt

      has : (q : Option Instance) → find (has_promise_at g b) s.instances ≡ q → GivesValue (and_then (found Cause.Promise q) (λ
          x. ok_if (is_live_at s.world.memory b) Cause.Promise (frame_address_of x)))
      has None e = tt
      has (Some x) e =
          let r = find_there (has_promise_at g b) s.instances x e in
          live x (address_small x (there s h r.0 x r.1)) (is_live_at s.world.memory b)

      on : (t : Bool) → GivesValue (and_then (found Cause.Promise (if t then find (has_promise_at g b) s.instances else None)) (λ
          x. ok_if (is_live_at s.world.memory b) Cause.Promise (frame_address_of x)))
      on true = has (find (has_promise_at g b) s.instances) refl
      on false = tt
  of_promise (Value.Ptr Pointer.Null) = tt
  of_promise (Value.Ptr (Pointer.Func f)) = tt
  of_promise (Value.Int n) = tt
  of_promise Value.Poison = tt

  promises : (result : Option ℕ) (v : Value) (from : Operand) → Stays (and_then (promise g s v from) (λ w. Ok (gives s result
      w)))
  promises result v from = on (is_true from)
    where
      give : (r : Result Value Cause) → GivesValue r → Stays (and_then r (λ w. Ok (gives s result w)))
      give (Err cause) k = tt
      give (Ok w) k = gives_small s h result w k

      on : (t : Bool) → Stays (and_then (if t then frame_of_promise g s v else promise_of_frame g s v) (λ w. Ok (gives s result
          w)))
      on true = give (frame_of_promise g s v) (of_promise v)
      on false = give (promise_of_frame g s v) (of_frame v)

  coro_small : (i : Intrinsic) (args : List Arg) (vs : List Value) (result : Option ℕ) → AllSmall vs → Stays (coro g
      (continue_keeping g keep) s i args vs result)
  coro_small Intrinsic.CoroId args vs result k = next_small s h
  coro_small Intrinsic.CoroSizeI32 args vs result k = gives_small s h result _ tt
  coro_small Intrinsic.CoroSizeI64 args vs result k = gives_small s h result _ tt
  coro_small Intrinsic.CoroAlignI32 args vs result k = gives_small s h result _ tt
  coro_small Intrinsic.CoroAlignI64 args vs result k = gives_small s h result _ tt
  coro_small Intrinsic.CoroAlloc args vs result k = gives_small s h result (truth_value true) tt
  coro_small Intrinsic.CoroBegin args vs result k = begins result (nth vs 1) (nth_small vs 1 k)
  coro_small Intrinsic.CoroFree args vs result k = frees result
  coro_small Intrinsic.CoroFrame args vs result k = gives_small s h result (frame_address (own_instance s)) (own_small s h)
  coro_small Intrinsic.CoroSave args vs result k = saves
  coro_small Intrinsic.CoroSuspend args vs result k = suspends result (operand_at args 0)
  coro_small Intrinsic.CoroEnd args vs result k = ends result
  coro_small Intrinsic.CoroResume args vs result k = sleeping (nth vs 0) _ (λ y at small. if_small _ _ (goes_on y at small _))
  coro_small Intrinsic.CoroDestroy args vs result k = sleeping (nth vs 0) _ (λ y at small. goes_on y at small _)
  coro_small Intrinsic.CoroDone args vs result k = sleeping (nth vs 0) _ (λ y at small. if_small _ _ (gives_small s h result _
      tt))
  coro_small Intrinsic.CoroPromise args vs result k = promises result (nth vs 0) (operand_at args 2)
  coro_small Intrinsic.LifetimeStart args vs result k = next_small s h
  coro_small Intrinsic.LifetimeEnd args vs result k = next_small s h
  coro_small Intrinsic.MemcpyI64 args vs result k = next_small s h
  coro_small Intrinsic.MemcpyI32 args vs result k = next_small s h

  -- ---- a step

  settled_small : (w : Work) → AreSmall w.values → HaveSmall w.world.memory → IsSmallState (settled s w)
  settled_small w k l = record { memory = l; top = k; below = h.below; instances = h.instances }

  act_small : (a : Action) → IsSmallAction a → Stays (act g (continue_keeping g keep) s a)
  act_small (Done w) k = settled_small w k.0 k.1
  act_small (NewSlot w slot) k = slot_small g (settled s w) (settled_small w k.0 k.1) slot
  act_small (Enter func args result must_tail) k = pushed s h (called g.code func args result _) (entry_small (function_at g.code
      func) args k)
  act_small (Coro i args result) k = coro_small i args (arg_values g.code s.top.values args) result (args_small g.code
      s.top.values args h.top)
  act_small (Deallocate v) k = freed_small s h v
  act_small (GoTo label) k = goes_small g s h label
  act_small (Return v) k = return_small s h v k
  act_small (Stuck cause) k = tt

  or_small : (r : Result State Cause) → Stays r → IsSmallState (or_undefined g s r)
  or_small (Err cause) k = record { memory = h.memory; top = h.top; below = h.below; instances = h.instances }
  or_small (Ok t) k = k

  advance_small : (o : Outcome) → IsSmallState (advance_by g (continue_keeping g keep) s o)
  advance_small Outcome.Running = or_small _ (act_small _ (action_fine (context_of g s) (work_of s) h.top h.memory (fetch
      (function_of g s) s.top.block s.top.at)))
  advance_small (Outcome.Returned v) = h
  advance_small (Outcome.Undefined cause place) = h

  pub step_small : IsSmallState (step_by g (continue_keeping g keep) s)
  step_small = advance_small s.outcome

-- ---- the start

words_small : (args : List Word) → AllSmall (map Value.Int args)
words_small [] = tt
words_small (w ∷ args) = (tt, words_small args)

globals_small : (m : Module) (gs : List GlobalItem) → HaveSmall (map (global_block m) gs)
globals_small m [] = tt
globals_small m (x ∷ gs) = (
  encoded (access_bytes (access_of x.ty)) (stored (access_of x.ty) (operand_value m [] x.ty x.init)) (stored_small (access_of
      x.ty) (operand_value m [] x.ty x.init) (small_operand m [] (λ v. tt) x.ty x.init)),
  globals_small m gs,
)

first_small : (m : Module) (entry : ℕ) (args : List Word) → IsSmallState (first_state m entry args)
first_small m entry args = record {
  memory = globals_small m m.globals;
  top = entry_small (function_at m entry) (map Value.Int args) (words_small args);
  below = tt;
  instances = tt;
}

run_small : (g : Given) (keep : Keep) (n : ℕ) (s : State) → IsSmallState s → IsSmallState (iterate (step_by g (continue_keeping g
    keep)) n s)
run_small g keep zero s h = h
run_small g keep (suc n) s h = run_small g keep n (step_by g (continue_keeping g keep) s) (step_small g keep s h)

pub offsets_small : (c : Setting) → AreOffsetsSmall c
offsets_small c n v = (run_small (first_given c) c.keep n (first_state c.code c.entry c.args) (first_small c.code c.entry
    c.args)).top v
