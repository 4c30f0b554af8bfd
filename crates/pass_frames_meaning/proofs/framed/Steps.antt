-- Each step keeps the frames of instances that aren't freed.
use Rattle.std.proofs.Common.{◌≡◌, ◌+◌, ◌<◌, ℕ, zero, suc, Bool, true, false, List, [], ◌∷◌, ◌++◌, length}
use Rattle.std.proofs.Common.{Option, Some, None, Result, Ok, Err, refl, sym, ap, ◌∙◌, subst, arith}
use Rattle.std.specs.Prelude.{if◌then◌else◌, not, slice_get, unwrap_or, ◌==◌}
use Rattle.pass_frames_proof.specs.ir_base.declared.cause.Cause.{Cause}
use Rattle.pass_frames_proof.specs.ir_base.declared.outcome.Outcome.{Outcome}
use Rattle.pass_frames_proof.specs.ir_model.declared.module.Frame.{Frame}
use Rattle.pass_frames_proof.specs.ir_model.declared.operand.Arg.{Arg}
use Rattle.pass_frames_proof.specs.ir_model.declared.operand.Intrinsic.{Intrinsic}
use Rattle.pass_frames_proof.specs.ir_model.declared.operand.Operand.{Operand}
use Rattle.pass_frames_proof.specs.ir_paths.Windows.{operand_at, suspend_of}
use Rattle.pass_frames_proof.specs.ir_paths.declared.point.Point.{Point}
use Rattle.pass_frames_proof.specs.ir_paths.declared.point.Window.{Window}
use Rattle.pass_frames_meaning.proofs.framed.Memory.{GivesHeld, IsStill, IsUnmarkedBlock, LeavesStill, changed_held}
use Rattle.pass_frames_meaning.proofs.framed.Memory.{freed_held, moved_held, other_still, step_still, still_held}
use Rattle.pass_frames_meaning.proofs.framed.Memory.{without_still}
use Rattle.pass_frames_meaning.specs.Framed.{AreFramesHeld, IsFrameHeld, IsHeldState, KeepsHeld, MarksNoFrame}
use Rattle.pass_frames_meaning.specs.Framed.{StaysHeld}
use Rattle.pass_renewed_meaning.proofs.run_hooks.Reached.{at_is, own_is}
use Rattle.pass_renewed_meaning.proofs.run_hooks.alive.Parts.{Here, IsSet, Other, get_set}
use Rattle.pass_renewed_meaning.specs.run_hooks.Hooks.{Hooks, hooked_act, hooked_advance, hooked_context, hooked_coro, hooked_next}
use Rattle.pass_renewed_meaning.specs.run_hooks.Hooks.{step_of}
use Rattle.pass_frames_proof.specs.run_memory.Memory.{disown, disowned}
use Rattle.pass_frames_proof.specs.run_memory.declared.block.MemoryBlock.{MemoryBlock}
use Rattle.pass_frames_proof.specs.run_memory.declared.pointer.Value.{Value}
use Rattle.run_slots.proofs.Blocks.{StaysAlike, step_alike}
use Rattle.run_slots.proofs.Keeping.{added_slotted, alike_slotted, in_instance}
use Rattle.run_slots.proofs.Steps.{step_slotted}
use Rattle.run_slots.specs.Slots.{AreSlotted, IsSlottedState, once_if, times_on}
use Rattle.pass_frames_proof.specs.run_source.Source.{Sleeper, after_end, branch_leaving, change_own, deallocate, end_of, if_let_go}
use Rattle.pass_frames_proof.specs.run_source.Source.{left_windows, let_go, may_be_freed, pop, release, return, returned, save_for}
use Rattle.pass_frames_proof.specs.run_source.Source.{sleeper_at, sleeper_of, suspend}
use Rattle.pass_frames_proof.specs.run_source.State.{function_of, instance_at, next, or_undefined, own_instance, point_of}
use Rattle.pass_frames_proof.specs.run_source.State.{settled, with_instance, with_left, with_memory, work_of}
use Rattle.pass_frames_proof.specs.run_source.declared.state.Activation.{Activation}
use Rattle.pass_frames_proof.specs.run_source.declared.state.Instance.{Instance}
use Rattle.pass_frames_proof.specs.run_source.declared.state.Mode.{Mode}
use Rattle.pass_frames_proof.specs.run_source.declared.state.State.{State}
use Rattle.pass_frames_proof.specs.run_source.declared.state.Status.{Status}
use Rattle.pass_frames_proof.specs.run_source_tables.Given.{Given, frame_of}
use Rattle.pass_frames_proof.specs.run_step.Results.{and_then, found, ok_if}
use Rattle.pass_frames_proof.specs.run_step.Runs.{iterate}
use Rattle.pass_frames_proof.specs.run_step.Step.{Action, Coro, Deallocate, Done, Enter, Fetched, GoTo, NewSlot, Return, Stuck}
use Rattle.pass_frames_proof.specs.run_step.Step.{action_of, deallocated, fetch, outcome_of, without_slots}
use Rattle.pass_frames_proof.specs.run_step.Values.{arg_values, nth}

-- ---- parts of a step

module _ (sizes : List Frame) where
  then_held : {A : Type 0} (r : Result A Cause) (f : A → Result State Cause)
      → ((a : A) → r ≡ Ok a → StaysHeld sizes (f a)) → StaysHeld sizes (and_then r f)
  then_held (Err cause) f h = tt
  then_held (Ok a) f h = h a refl

  ok_held : (b : Bool) (cause : Cause) (s : State) → IsHeldState sizes s → StaysHeld sizes (ok_if b cause s)
  ok_held true cause s h = h
  ok_held false cause s h = tt

  module _ (s : State) (h : IsHeldState sizes s) where
    -- an instance changes in its status, marks and slots
    pub instance_held : (i : ℕ) (x y : Instance) → slice_get s.instances i ≡ Some x → y.coroutine ≡ x.coroutine
        → y.block ≡ x.block → y.freed ≡ x.freed → IsHeldState sizes (with_instance s i y)
    instance_held i x y e coroutine block freed =
        changed_held sizes s.world.memory s.instances h i x y e coroutine block freed

    released_held : IsHeldState sizes (release s)
    released_held = on (own_instance s) (λ i x e. own_is s i x e)
      where
        on : (o : Option (ℕ × Instance))
            → ((i : ℕ) (x : Instance) → o ≡ Some (i, x) → slice_get s.instances i ≡ Some x)
            → IsHeldState sizes (change_own s (λ x. record x { released = true }) o)
        on None is = h
        on (Some p) is = instance_held p.0 p.1 (record p.1 { released = true }) (is p.0 p.1 refl) refl refl refl

    own_there : (p : ℕ × Instance) → found Cause.State (own_instance s) ≡ Ok p → slice_get s.instances p.0 ≡ Some p.1
    own_there p e = on (own_instance s) (λ i x d. own_is s i x d) e
      where
        on : (o : Option (ℕ × Instance))
            → ((i : ℕ) (x : Instance) → o ≡ Some (i, x) → slice_get s.instances i ≡ Some x)
            → found Cause.State o ≡ Ok p → slice_get s.instances p.0 ≡ Some p.1
        on None is k = absurd (cc)
        on (Some q) is k =
            let same : q ≡ p = cc in
            subst (λ (r : ℕ × Instance). slice_get s.instances r.0 ≡ Some r.1) same (is q.0 q.1 refl)

    leaves_held : (g : Given) (label : ℕ) (windows : List Window) → StaysHeld sizes (branch_leaving g s label windows)
    leaves_held g label [] = h
    leaves_held g label (w ∷ windows) = then_held (found Cause.State (own_instance s)) _ (λ p e.
        ok_held _ Cause.State _
        (instance_held p.0 p.1 (record p.1 { status = Status.Running }) (own_there p e) refl refl refl))

    save_held : (k u : Point) (f : State → Result State Cause)
        → ((t : State) → IsHeldState sizes t → StaysHeld sizes (f t)) → StaysHeld sizes (and_then (save_for s k u) f)
    save_held k u f then' = on (own_instance s) (λ i x d. own_is s i x d)
      where
        by : (p : ℕ × Instance) → slice_get s.instances p.0 ≡ Some p.1 → (b : Bool)
            → StaysHeld sizes (and_then (ok_if b Cause.State (with_left (with_instance s p.0 (record p.1 {
              status = Status.Suspended u s.top.values;
              last_save = Some (record { depth = length s.below; save = k });
            })) true)) f)
        by p e false = tt
        by p e true = then' _ (instance_held p.0 p.1 (record p.1 {
          status = Status.Suspended u s.top.values;
          last_save = Some (record { depth = length s.below; save = k });
        }) e refl refl refl)

        on : (o : Option (ℕ × Instance))
            → ((i : ℕ) (x : Instance) → o ≡ Some (i, x) → slice_get s.instances i ≡ Some x)
            → StaysHeld sizes (and_then (and_then (found Cause.State o) (λ (i, x).
            ok_if (not x.freed) Cause.State
            (with_left
            (with_instance s i (record x {
              status = Status.Suspended u s.top.values;
              last_save = Some (record { depth = length s.below; save = k });
            })) true))) f)
        on None is = tt
        on (Some p) is = by p (is p.0 p.1 refl) (not p.1.freed)

    suspend_held : (result : Option ℕ) (of_save : Operand) → StaysHeld sizes (suspend s result of_save)
    suspend_held result Operand.None = save_held (point_of s) (point_of s) _ (λ t k. k)
    suspend_held result _ = h

    sleeper_held : (p : Value) (go : Sleeper → Result State Cause)
        → ((y : Sleeper) → slice_get s.instances y.number ≡ Some y.instance → StaysHeld sizes (go y))
        → StaysHeld sizes (and_then (sleeper_at s p) go)
    sleeper_held p go k = on (instance_at s.instances p) (λ j x e. at_is s.instances p j x e)
      where
        by : (i : ℕ) (x : Instance) → slice_get s.instances i ≡ Some x → (st : Status)
            → StaysHeld sizes (and_then (sleeper_of i x st) go)
        by i x e Status.Running = tt
        by i x e (Status.Suspended at vs) = k (record { number = i; instance = x; suspend = at; values = vs }) e
        by i x e Status.Finished = tt

        on : (o : Option (ℕ × Instance))
            → ((j : ℕ) (x : Instance) → o ≡ Some (j, x) → slice_get s.instances j ≡ Some x)
            → StaysHeld sizes (and_then (and_then (found Cause.Frame o) (λ (i, x). sleeper_of i x x.status)) go)
        on None is = tt
        on (Some z) is = by z.0 z.1 (is z.0 z.1 refl) z.1.status

    -- ---- slots that die lie in no frame

    module _ (slotted : IsSlottedState s) where
      return_held : (v : Option Value) → StaysHeld sizes (return s v)
      return_held v = on s.below
        where
          k : AreFramesHeld sizes (without_slots s.world.memory s.top.slots) s.instances
          k = moved_held sizes s.world.memory (without_slots s.world.memory s.top.slots) s.instances h (λ i x e u f.
              without_still s.world.memory (times_on (s.top ∷ s.below)) s.instances slotted.slotted s.top.slots
              (λ n c. omega (arith, c)) i x e f.block f.there)

          on : (below : List Activation) → StaysHeld sizes (pop (returned s) v below)
          on [] = then_held (outcome_of v) _ (λ outcome e. k)
          on (a ∷ below) = k

      after_held : (result : Option ℕ) (mode : Mode) → StaysHeld sizes (after_end s result mode)
      after_held result Mode.Resumed = return_held None
      after_held result _ = h

      -- the slots of an instance
      pub instance_still : (i : ℕ) (x : Instance) → slice_get s.instances i ≡ Some x → (j : ℕ) (y : Instance)
          → slice_get s.instances j ≡ Some y → (z : MemoryBlock) → slice_get s.world.memory y.block ≡ Some z
          → IsStill (without_slots s.world.memory x.slots) y.block z
      instance_still i x e = without_still s.world.memory (times_on (s.top ∷ s.below)) s.instances slotted.slotted
          x.slots
          (λ n c. in_instance s.world.memory (times_on (s.top ∷ s.below)) s.instances slotted.slotted i x e n c)

      -- an instance is freed, and the others begin in other blocks
      gone_held : (i : ℕ) (x : Instance) → slice_get s.instances i ≡ Some x → IsHeldState sizes (let_go s i x)
      gone_held i x e j z d u = on (get_set s.instances i (record x { freed = true }) j z d)
        where
          on : IsSet s.instances i (record x { freed = true }) j z
              → IsFrameHeld (disown (without_slots s.world.memory x.slots) x.block) (frame_of sizes z.coroutine).size z
          on (Here a b) =
              let no : true ≡ false = sym (ap (λ (w : Instance). w.freed) b) ∙ u in
              absurd (cc)
          on (Other a b) =
              let f = h j z b u in
              let k = still_held (frame_of sizes z.coroutine).size s.world.memory
              (without_slots s.world.memory x.slots) z f (instance_still i x e j z b f.block f.there) in
              still_held (frame_of sizes z.coroutine).size (without_slots s.world.memory x.slots)
              (disown (without_slots s.world.memory x.slots) x.block) z k
              (other_still (without_slots s.world.memory x.slots) x.block disowned z.block k.block
              (λ same. a (slotted.slotted.apart j i z x b e same)) k.there)

      frees_held : (p : Value) → StaysHeld sizes (deallocate s p)
      frees_held p = on (instance_at s.instances p) (λ j x e. at_is s.instances p j x e)
        where
          by : (t : State) → IsHeldState sizes t
              → StaysHeld sizes (and_then (deallocated t.world.memory p) (λ (memory : List MemoryBlock).
              Ok (next (with_memory t memory))))
          by t k = last (deallocated t.world.memory p) (freed_held sizes t.world.memory t.instances k p)
            where
              last : (r : Result (List MemoryBlock) Cause) → GivesHeld sizes t.instances r
                  → StaysHeld sizes (and_then r (λ (memory : List MemoryBlock). Ok (next (with_memory t memory))))
              last (Err cause) b = tt
              last (Ok memory) b = b

          freed : (i : ℕ) (x : Instance) → slice_get s.instances i ≡ Some x → (b : Bool)
              → StaysHeld sizes (and_then (deallocated (if b then let_go s i x else s).world.memory p)
              (λ (memory : List MemoryBlock). Ok (next (with_memory (if b then let_go s i x else s) memory))))
          freed i x e true = by (let_go s i x) (gone_held i x e)
          freed i x e false = by s h

          on : (o : Option (ℕ × Instance))
              → ((j : ℕ) (x : Instance) → o ≡ Some (j, x) → slice_get s.instances j ≡ Some x)
              → StaysHeld sizes (and_then (deallocated (if_let_go s o).world.memory p)
              (λ (memory : List MemoryBlock). Ok (next (with_memory (if_let_go s o) memory))))
          on None is = by s h
          on (Some q) is = freed q.0 q.1 (is q.0 q.1 refl) (may_be_freed q.1)

  end_held : (s : State) (result : Option ℕ) (close : State → State) → IsSlottedState s → IsSlottedState (close s)
      → IsHeldState sizes s → IsHeldState sizes (close s) → StaysHeld sizes (end_of s close result)
  end_held s result close slotted closed h k = on s.top.has_left
    where
      on : (b : Bool) → StaysHeld sizes (after_end (if b then s else close s) result s.top.mode)
      on true = after_held s h slotted result s.top.mode
      on false = after_held (close s) k closed result s.top.mode

-- ---- steps

module _ (hooks : Hooks) (keeps : KeepsHeld hooks) (s : State) (slotted : IsSlottedState s)
    (marks : MarksNoFrame hooks s) (h : IsHeldState hooks.given.sizes s) where
  coro_held : (i : Intrinsic) (args : List Arg) (vs : List Value) (result : Option ℕ)
      → StaysHeld hooks.given.sizes (hooked_coro hooks s i args vs result)
  coro_held Intrinsic.CoroId args vs result = h
  coro_held Intrinsic.CoroSizeI32 args vs result = h
  coro_held Intrinsic.CoroSizeI64 args vs result = h
  coro_held Intrinsic.CoroAlignI32 args vs result = h
  coro_held Intrinsic.CoroAlignI64 args vs result = h
  coro_held Intrinsic.CoroAlloc args vs result = h
  coro_held Intrinsic.CoroFrame args vs result = h
  coro_held Intrinsic.LifetimeStart args vs result = h
  coro_held Intrinsic.LifetimeEnd args vs result = h
  coro_held Intrinsic.MemcpyI64 args vs result = h
  coro_held Intrinsic.MemcpyI32 args vs result = h
  coro_held Intrinsic.CoroBegin args vs result = keeps.start s result (nth vs 1) slotted h
  coro_held Intrinsic.CoroFree args vs result = released_held hooks.given.sizes s h
  coro_held Intrinsic.CoroSave args vs result =
      then_held hooks.given.sizes (found Cause.State (suspend_of (function_of hooks.given s) (point_of s))) _ (λ u eu.
      save_held hooks.given.sizes s h (point_of s) u _ (λ t k. k))
  coro_held Intrinsic.CoroSuspend args vs result = suspend_held hooks.given.sizes s h result (operand_at args 0)
  coro_held Intrinsic.CoroEnd args vs result =
      end_held hooks.given.sizes s result hooks.close slotted (keeps.slots.close s slotted) h (keeps.close s slotted h)
  coro_held Intrinsic.CoroResume args vs result = sleeper_held hooks.given.sizes s h (nth vs 0) _ (λ y there.
      ok_held hooks.given.sizes _ Cause.State _ (keeps.go_on s y.number y.instance y.suspend y.values _ there h))
  coro_held Intrinsic.CoroDestroy args vs result = sleeper_held hooks.given.sizes s h (nth vs 0) _ (λ y there.
      keeps.go_on s y.number y.instance y.suspend y.values _ there h)
  coro_held Intrinsic.CoroDone args vs result = sleeper_held hooks.given.sizes s h (nth vs 0) _ (λ y there.
      ok_held hooks.given.sizes _ Cause.State _ h)
  coro_held Intrinsic.CoroPromise args vs result =
      then_held hooks.given.sizes (hooks.promised s (nth vs 0) (operand_at args 2)) _ (λ v ev. h)

  -- no marker that is executed is of a frame's block
  abbrev Unmarked : Fetched → Type 0
  Unmarked x = (i : ℕ) (y : Instance) → slice_get s.instances i ≡ Some y → y.freed ≡ false
      → IsUnmarkedBlock (hooked_context hooks s) (work_of s) x y.block

  act_held : (x : Fetched) → Unmarked x → (a : Action)
      → LeavesStill s.world.memory (IsUnmarkedBlock (hooked_context hooks s) (work_of s) x) a
      → StaysAlike s.world.memory a → StaysHeld hooks.given.sizes (hooked_act hooks s a)
  act_held x apart (Stuck cause) k l = tt
  act_held x apart (Done w) k l =
      moved_held hooks.given.sizes s.world.memory w.world.memory s.instances h (λ i y e u f.
      k y.block f.block (apart i y e u) f.there)
  act_held x apart (NewSlot w slot) k l =
      keeps.place (settled s w) slot (record {
        slotted = subst (λ (b : ℕ). AreSlotted w.world.memory
            (λ n. once_if (b == n) + times_on (s.top ∷ s.below) n) s.instances) (sym l.number)
            (alike_slotted (s.world.memory ++ l.block ∷ []) _ s.instances
            (added_slotted s.world.memory (times_on (s.top ∷ s.below)) s.instances slotted.slotted l.block l.made l.free
            l.lives) w.world.memory l.rest);
        ungiven = slotted.ungiven;
      })
      (moved_held hooks.given.sizes s.world.memory w.world.memory s.instances h (λ i y e u f.
      k y.block f.block f.there))
  act_held x apart (Enter func args result must_tail) k l = h
  act_held x apart (Coro i args result) k l = coro_held i args (arg_values hooks.given.code s.top.values args) result
  act_held x apart (Deallocate p) k l = frees_held hooks.given.sizes s h slotted p
  act_held x apart (GoTo label) k l =
      leaves_held hooks.given.sizes s h hooks.given label (left_windows hooks.given s label)
  act_held x apart (Return v) k l = return_held hooks.given.sizes s h slotted v

  next_held : s.outcome ≡ Outcome.Running → (x : Fetched) → fetch (function_of hooks.given s) s.top.block s.top.at ≡ x
      → hooks.given_call s x ≡ None → StaysHeld hooks.given.sizes (hooked_next hooks s x)
  next_held runs x at none = on (hooks.is_idle s x) refl (hooks.given_call s x) none
    where
      apart : hooks.is_idle s x ≡ false → Unmarked x
      apart idle i y e u starts result must_tail ty args stands marked =
          marks runs starts result must_tail ty args (at ∙ stands) (sym (ap (hooks.is_idle s) stands) ∙ idle) y.block
          marked i y e u refl

      on : (b : Bool) → hooks.is_idle s x ≡ b → (o : Option (Result State Cause)) → o ≡ None
          → StaysHeld hooks.given.sizes (if b then Ok (next s) else unwrap_or o
          (hooked_act hooks s (action_of (hooked_context hooks s) (work_of s) x)))
      on true idle o e = h
      on false idle None e = act_held x (apart idle) (action_of (hooked_context hooks s) (work_of s) x)
          (step_still (hooked_context hooks s) (work_of s) x) (step_alike (hooked_context hooks s) (work_of s) x)
      on false idle (Some r) e = absurd (cc)

  or_held : (r : Result State Cause) → StaysHeld hooks.given.sizes r
      → IsHeldState hooks.given.sizes (or_undefined hooks.given s r)
  or_held (Err cause) k = h
  or_held (Ok t) k = k

  advance_held : (o : Outcome) → s.outcome ≡ o → IsHeldState hooks.given.sizes (hooked_advance hooks s o)
  advance_held Outcome.Running runs =
      let x = fetch (function_of hooks.given s) s.top.block s.top.at in
      or_held (hooked_next hooks s x) (next_held runs x refl (keeps.slots.call s))
  advance_held (Outcome.Returned v) e = h
  advance_held (Outcome.Undefined cause place) e = h

  pub step_held : IsHeldState hooks.given.sizes (step_of hooks s)
  step_held = advance_held s.outcome refl

pub steps_held : (hooks : Hooks) → KeepsHeld hooks → (n : ℕ) (s : State) → IsSlottedState s
    → ((k : ℕ) → k < n → MarksNoFrame hooks (iterate (step_of hooks) k s)) → IsHeldState hooks.given.sizes s
    → IsHeldState hooks.given.sizes (iterate (step_of hooks) n s)
steps_held hooks keeps zero s slotted marks h = h
steps_held hooks keeps (suc n) s slotted marks h =
    steps_held hooks keeps n (step_of hooks s) (step_slotted hooks keeps.slots s slotted)
    (λ k lt. marks (suc k) (omega (arith, lt))) (step_held hooks keeps s slotted (marks 0 (omega arith)) h)
