-- Steps by hooks keep slots and frames.
use Rattle.std.proofs.Common.{◌≡◌, ◌+◌, ℕ, zero, suc, Bool, true, false, List, [], ◌∷◌, ◌++◌, length}
use Rattle.std.proofs.Common.{Option, Some, None, Result, Ok, Err, refl, sym, ap, ◌∙◌, subst, arith}
use Rattle.std.specs.Prelude.{if◌then◌else◌, is_some, map, not, option_and_then, option_map, slice_get, slice_set}
use Rattle.std.specs.Prelude.{unwrap_or}
use Rattle.std.specs.Prelude.{◌&&◌, ◌||◌, ◌==◌}
use Rattle.run_hooks.specs.ir_base.declared.cause.Cause.{Cause}
use Rattle.run_hooks.specs.ir_base.declared.outcome.Outcome.{Outcome}
use Rattle.run_hooks.specs.ir_base.declared.outcome.Word.{Word}
use Rattle.run_hooks.specs.ir_model.declared.module.GlobalItem.{GlobalItem}
use Rattle.run_hooks.specs.ir_model.declared.module.Module.{Module}
use Rattle.run_hooks.specs.ir_model.declared.operand.Arg.{Arg}
use Rattle.run_hooks.specs.ir_model.declared.operand.Intrinsic.{Intrinsic}
use Rattle.run_hooks.specs.ir_model.declared.operand.Operand.{Operand}
use Rattle.run_hooks.specs.ir_paths.Windows.{operand_at, suspend_of}
use Rattle.run_hooks.specs.ir_paths.declared.point.Point.{Point}
use Rattle.run_hooks.specs.ir_paths.declared.point.Window.{Window}
use Rattle.run_hooks.proofs.Reached.{at_is, own_is}
use Rattle.run_hooks.specs.Hooks.{Hooks, hooked_act, hooked_advance, hooked_context, hooked_coro, hooked_next}
use Rattle.run_hooks.specs.Hooks.{hooked_state_at, step_of}
use Rattle.run_hooks.specs.run_memory.Memory.{disown, disowned, is_killed, is_owned, is_unkilled, kill, killed, killed_block}
use Rattle.run_hooks.specs.run_memory.Memory.{same_kind}
use Rattle.run_hooks.specs.run_memory.declared.block.Kind.{Kind}
use Rattle.run_hooks.specs.run_memory.declared.block.MemoryBlock.{MemoryBlock}
use Rattle.run_hooks.specs.run_memory.declared.pointer.Offset.{Offset}
use Rattle.run_hooks.specs.run_memory.declared.pointer.Pointer.{Pointer}
use Rattle.run_hooks.specs.run_memory.declared.pointer.Value.{Value}
use Rattle.run_slots.proofs.Blocks.{StaysAlike, step_alike}
use Rattle.run_slots.proofs.Keeping.{added_slotted, alike_slotted, counted_slotted, dead_slotted, frame_apart}
use Rattle.run_slots.proofs.Keeping.{heap_slotted, none_more}
use Rattle.run_slots.proofs.Keeping.{in_instance, marked_slotted, over_slotted}
use Rattle.run_slots.proofs.Times.{Dies, IsLeft, Stays, equal_is, with_back, with_other}
use Rattle.run_slots.proofs.Times.{with_there, without_at, without_back}
use Rattle.run_slots.specs.Slots.{AreSlotted, AreUngiven, IsFrameBlock, IsSlottedState, KeepsSlots}
use Rattle.run_slots.specs.Slots.{StaysSlotted, is_alloca_block, once_if, times, times_on}
use Rattle.run_hooks.proofs.run_source.Indexes.{last-passes}
use Rattle.run_hooks.specs.run_source.Source.{Sleeper, after_end, branch_leaving, change_own, deallocate, end_of}
use Rattle.run_hooks.specs.run_source.Source.{finish, if_let_go, is_over, left_windows, let_go, may_be_freed}
use Rattle.run_hooks.specs.run_source.Source.{first_state, pop, release, return, returned, save_for, sleeper_at}
use Rattle.run_hooks.specs.run_source.Source.{sleeper_of, slots_of, suspend}
use Rattle.run_hooks.specs.run_source.State.{began_at, function_of, gives, instance_at, is_finished, last_from, last_where, next, numbered}
use Rattle.run_hooks.specs.run_source.State.{or_undefined, own_instance, point_of, settled, with_instance, with_left, with_memory}
use Rattle.run_hooks.specs.run_source.State.{work_of}
use Rattle.run_hooks.specs.run_source.declared.state.Activation.{Activation}
use Rattle.run_hooks.specs.run_source.declared.state.Instance.{Instance}
use Rattle.run_hooks.specs.run_source.declared.state.Mode.{Mode}
use Rattle.run_hooks.specs.run_source.declared.state.State.{State}
use Rattle.run_hooks.specs.run_source.declared.state.Status.{Status}
use Rattle.run_hooks.specs.run_source_tables.Given.{Given}
use Rattle.run_hooks.specs.run_step.Results.{and_then, found, ok_if}
use Rattle.run_hooks.specs.run_step.Runs.{iterate}
use Rattle.run_hooks.specs.run_step.Step.{Action, Coro, Deallocate, Done, Enter, Fetched, GoTo, NewSlot, Return, Stuck}
use Rattle.run_hooks.specs.run_step.Step.{action_of, deallocated, fetch, global_block, outcome_of, without_slots}
use Rattle.run_hooks.specs.run_step.Values.{arg_values, nth}
use Rattle.run_hooks.specs.run_step.declared.world.Slot.{Slot}

-- ---- results

then_slotted : {A : Type 0} (r : Result A Cause) (f : A → Result State Cause)
    → ((a : A) → r ≡ Ok a → StaysSlotted (f a)) → StaysSlotted (and_then r f)
then_slotted (Err cause) f h = tt
then_slotted (Ok a) f h = h a refl

ok_slotted : (b : Bool) (cause : Cause) (s : State) → IsSlottedState s → StaysSlotted (ok_if b cause s)
ok_slotted true cause s h = h
ok_slotted false cause s h = tt

-- ---- states

-- the same activations at other places, with other values
gives_slotted : (s : State) (result : Option ℕ) (v : Value) → IsSlottedState s → IsSlottedState (gives s result v)
gives_slotted s result v h = record { slotted = h.slotted; ungiven = h.ungiven }

-- an instance of the state changes in its status and marks
pub changed_slotted : (s : State) (i : ℕ) (x y : Instance) → slice_get s.instances i ≡ Some x → y.block ≡ x.block
    → y.start ≡ x.start → y.freed ≡ x.freed → y.slots ≡ x.slots → (is_over y ≡ true → is_over x ≡ true)
    → IsSlottedState s → IsSlottedState (with_instance s i y)
changed_slotted s i x y e block start freed slots over h = record {
  slotted = marked_slotted s.world.memory (times_on (s.top ∷ s.below)) s.instances h.slotted i x y e block start freed
      slots over;
  ungiven = h.ungiven;
}

-- one that runs again is over only if it was
running_over : (x : Instance) → (false || x.freed) ≡ true → is_over x ≡ true
running_over x e = on x.status
  where
    or_true : (a : Bool) → (a || x.freed) ≡ true
    or_true true = refl
    or_true false = e

    on : (st : Status) → (is_finished st || x.freed) ≡ true
    on st = or_true (is_finished st)

pub status_slotted : (s : State) (i : ℕ) (x : Instance) → slice_get s.instances i ≡ Some x → IsSlottedState s
    → IsSlottedState (with_instance s i (record x { status = Status.Running }))
status_slotted s i x e h =
    changed_slotted s i x (record x { status = Status.Running }) e refl refl refl refl (running_over x) h

-- ---- returns

pop_slotted : (s : State) (v : Option Value) → AreSlotted s.world.memory (times_on s.below) s.instances
    → AreSlotted s.world.memory (times_on (s.top ∷ s.below)) s.instances → AreUngiven (s.top ∷ s.below)
    → StaysSlotted (pop s v s.below)
pop_slotted s v below all u = on s.below refl
  where
    on : (as' : List Activation) → s.below ≡ as' → StaysSlotted (pop s v as')
    on [] e = then_slotted (outcome_of v) _ (λ outcome d. record { slotted = all; ungiven = u })
    on (a ∷ more) e = record {
      slotted = subst (λ (as' : List Activation). AreSlotted s.world.memory (times_on as') s.instances) e below;
      ungiven = subst AreUngiven e u.1;
    }

return_slotted : (s : State) (v : Option Value) → IsSlottedState s → StaysSlotted (return s v)
return_slotted s v h =
    pop_slotted (returned s) v gone
    (counted_slotted (without_slots s.world.memory s.top.slots) (times_on s.below) (λ n. times n [] + times_on s.below n)
    s.instances (λ n. none_more (times_on s.below n)) gone) (h.ungiven.0, h.ungiven.1)
  where
    gone : AreSlotted (without_slots s.world.memory s.top.slots) (times_on s.below) s.instances
    gone = dead_slotted s.world.memory (times_on (s.top ∷ s.below)) s.instances h.slotted (times_on s.below) s.top.slots
        (λ n. refl)

after_slotted : (s : State) (result : Option ℕ) (mode : Mode) → IsSlottedState s
    → StaysSlotted (after_end s result mode)
after_slotted s result Mode.Resumed h = return_slotted s None h
after_slotted s result _ h = gives_slotted s result _ h

-- ---- instances

found_there : (test : Instance → Bool) (xs : List Instance) (i : ℕ) (x : Instance)
    → last_where test xs ≡ Some (i, x) → test x ≡ true
found_there test xs i x e = on (last_from test 0 xs) refl e
  where
    by : (j : ℕ) (o : Option Instance) → slice_get xs j ≡ o → option_map {U = ℕ × Instance} (λ y. (j, y)) o ≡ Some (i, x)
        → last_from test 0 xs ≡ Some j → test x ≡ true
    by j None d k f = absurd (cc)
    by j (Some y) d k f =
        let pair : ◌≡◌ {A = ℕ × Instance} (j, y) (i, x) = cc in
        let same : y ≡ x = ap (λ (p : ℕ × Instance). p.1) pair in
        subst (λ (z : Instance). test z ≡ true) same (last-passes test xs (Some j) (sym f) y d)

    on : (o : Option ℕ) → last_from test 0 xs ≡ o → option_and_then (numbered xs) o ≡ Some (i, x) → test x ≡ true
    on None f k = absurd (cc)
    on (Some j) f k = by j (slice_get xs j) refl k f

sleeper_slotted : (s : State) (p : Value) (go : Sleeper → Result State Cause)
    → ((y : Sleeper) → slice_get s.instances y.number ≡ Some y.instance → StaysSlotted (go y))
    → StaysSlotted (and_then (sleeper_at s p) go)
sleeper_slotted s p go k = on (instance_at s.instances p) (λ j x e. at_is s.instances p j x e)
  where
    by : (i : ℕ) (x : Instance) → slice_get s.instances i ≡ Some x → (st : Status)
        → StaysSlotted (and_then (sleeper_of i x st) go)
    by i x e Status.Running = tt
    by i x e (Status.Suspended at vs) = k (record { number = i; instance = x; suspend = at; values = vs }) e
    by i x e Status.Finished = tt

    on : (o : Option (ℕ × Instance)) → ((j : ℕ) (x : Instance) → o ≡ Some (j, x) → slice_get s.instances j ≡ Some x)
        → StaysSlotted (and_then (and_then (found Cause.Frame o) (λ (i, x). sleeper_of i x x.status)) go)
    on None is = tt
    on (Some z) is = by z.0 z.1 (is z.0 z.1 refl) z.1.status

released_slotted : (s : State) → IsSlottedState s → IsSlottedState (release s)
released_slotted s h = on (own_instance s) (λ i x e. own_is s i x e)
  where
    on : (o : Option (ℕ × Instance)) → ((i : ℕ) (x : Instance) → o ≡ Some (i, x) → slice_get s.instances i ≡ Some x)
        → IsSlottedState (change_own s (λ x. record x { released = true }) o)
    on None is = h
    on (Some p) is =
        changed_slotted s p.0 p.1 (record p.1 { released = true }) (is p.0 p.1 refl) refl refl refl refl (λ o. o) h

-- ---- the end, and blocks that are given back

-- the instance is over, and its slots die
pub finished_slotted : (s : State) → IsSlottedState s → IsSlottedState (finish s)
finished_slotted s h = on (own_instance s) (λ i x e. own_is s i x e)
  where
    on : (o : Option (ℕ × Instance)) → ((i : ℕ) (x : Instance) → o ≡ Some (i, x) → slice_get s.instances i ≡ Some x)
        → IsSlottedState (with_memory (change_own s (λ x. record x { status = Status.Finished }) o)
        (without_slots s.world.memory (slots_of o)))
    on None is = h
    on (Some p) is = record {
      slotted = over_slotted s.world.memory (times_on (s.top ∷ s.below)) s.instances h.slotted
          (without_slots s.world.memory p.1.slots) p.0 p.1 (record p.1 { status = Status.Finished }) e refl refl
          (record {
            block = f.block;
            there = left f.block f.there (without_at s.world.memory p.1.slots p.1.block f.block f.there);
            heap = f.heap;
            start = f.start;
            unkilled = f.unkilled;
            owned = f.owned;
            gone = f.gone;
          })
          (λ n z away g. without_at s.world.memory p.1.slots n z g)
          (λ n w g. without_back s.world.memory p.1.slots n w g);
      ungiven = h.ungiven;
    }
      where
        e : slice_get s.instances p.0 ≡ Some p.1
        e = is p.0 p.1 refl

        f : IsFrameBlock s.world.memory p.1
        f = h.slotted.frames p.0 p.1 e

        left : (z : MemoryBlock) → slice_get s.world.memory p.1.block ≡ Some z
            → IsLeft p.1.slots p.1.block z (slice_get (without_slots s.world.memory p.1.slots) p.1.block)
            → slice_get (without_slots s.world.memory p.1.slots) p.1.block ≡ Some z
        left z d (Stays a b) = b
        left z d (Dies a b) = absurd (frame_apart s.world.memory
            (times_on (s.top ∷ s.below)) s.instances h.slotted p.0 p.1 e p.1.block
            (in_instance s.world.memory (times_on (s.top ∷ s.below)) s.instances
            h.slotted p.0 p.1 e p.1.block a) refl)

-- what a deallocator kills was an allocator's block that nobody owned
record IsKilled (m k : List MemoryBlock) (b : ℕ) : Type 0 where
  pub block : MemoryBlock
  pub there : slice_get m b ≡ Some block
  pub heap : block.kind ≡ Kind.Allocator
  pub lives : is_killed block.life ≡ false
  pub free : is_some block.owned ≡ false
  pub is : killed m b ≡ k

pub kind_is : (k : Kind) → same_kind k Kind.Allocator ≡ true → k ≡ Kind.Allocator
kind_is Kind.Allocator e = refl
kind_is Kind.Slot e = absurd (cc)
kind_is Kind.Stack e = absurd (cc)
kind_is Kind.Global e = absurd (cc)
kind_is Kind.Constant e = absurd (cc)

killed_ok : (m : List MemoryBlock) (b : ℕ) (o : Offset) (k : List MemoryBlock)
    → kill m (Value.Ptr (Pointer.At b o)) Kind.Allocator ≡ Ok k → IsKilled m k b
killed_ok m b o k e = on (o.bits == 0) (slice_get m b) refl e
  where
    by : (z : MemoryBlock) → slice_get m b ≡ Some z → (c d f : Bool) → same_kind z.kind Kind.Allocator ≡ c
        → is_killed z.life ≡ d → is_some z.owned ≡ f
        → (if not (c && not d) then Err Cause.Free else if f then Err Cause.Owned else Ok (killed m b)) ≡ Ok k
        → IsKilled m k b
    by z there true false false kind lives free g =
        record { block = z; there = there; heap = kind_is z.kind kind; lives = lives; free = free; is = cc }
    by z there true false true kind lives free g = absurd (cc)
    by z there true true f kind lives free g = absurd (cc)
    by z there false d f kind lives free g = absurd (cc)

    on : (t : Bool) (q : Option MemoryBlock) → slice_get m b ≡ q
        → (if not (t && is_unkilled Kind.Allocator q) then Err Cause.Free else if is_owned q then Err Cause.Owned
        else Ok (killed m b)) ≡ Ok k → IsKilled m k b
    on true (Some z) there g = by z there _ _ _ refl refl refl g
    on true None there g = absurd (cc)
    on false q there g = absurd (cc)

-- a block that is no frame is given back
plain_freed : (s : State) (p : Value) → IsSlottedState s
    → StaysSlotted (and_then (deallocated s.world.memory p) (λ (memory : List MemoryBlock). Ok (next (with_memory s memory))))
plain_freed s (Value.Ptr Pointer.Null) h = record { slotted = h.slotted; ungiven = h.ungiven }
plain_freed s (Value.Ptr (Pointer.At b o)) h =
    then_slotted (kill s.world.memory (Value.Ptr (Pointer.At b o)) Kind.Allocator) _ (λ memory e.
    let k = killed_ok s.world.memory b o memory e in
    record {
      slotted = subst (λ (m : List MemoryBlock). AreSlotted m (times_on (s.top ∷ s.below)) s.instances) k.is
          (heap_slotted s.world.memory (times_on (s.top ∷ s.below)) s.instances h.slotted b k.block k.there k.heap
          k.lives k.free killed_block k.heap);
      ungiven = h.ungiven;
    })
plain_freed s (Value.Ptr (Pointer.Func f)) h = tt
plain_freed s (Value.Int w) h = tt
plain_freed s Value.Poison h = tt

and_first : (a b : Bool) → (a && b) ≡ true → a ≡ true
and_first true b e = refl
and_first false b e = absurd (cc)

-- the memory behind the deaths of an instance's slots, and where its block is owned no more
abbrev dead_of : State → Instance → List MemoryBlock
dead_of s x = without_slots s.world.memory x.slots

abbrev gone_of : State → Instance → List MemoryBlock
gone_of s x = disown (without_slots s.world.memory x.slots) x.block

-- an instance's frame is given back: its slots die, and its block is killed
let_go_freed : (s : State) → IsSlottedState s → (i : ℕ) (x : Instance) → slice_get s.instances i ≡ Some x → (b : ℕ)
    (o : Offset) → x.block ≡ b
    → StaysSlotted (and_then (deallocated (let_go s i x).world.memory (Value.Ptr (Pointer.At b o)))
    (λ (memory : List MemoryBlock). Ok (next (with_memory (let_go s i x) memory))))
let_go_freed s h i x e b o same =
    then_slotted (kill (gone_of s x) (Value.Ptr (Pointer.At b o)) Kind.Allocator) _ (λ memory d.
    let k = killed_ok (gone_of s x) b o memory d in
    record {
      slotted = subst (λ (m : List MemoryBlock). AreSlotted m (times_on (s.top ∷ s.below))
          (slice_set s.instances i (record x { freed = true }))) (ap (killed (gone_of s x)) same ∙ k.is) over;
      ungiven = h.ungiven;
    })
  where
    f : IsFrameBlock s.world.memory x
    f = h.slotted.frames i x e

    frame_stays : slice_get (dead_of s x) x.block ≡ Some f.block
    frame_stays = left f.block f.there (without_at s.world.memory x.slots x.block f.block f.there)
      where
        left : (z : MemoryBlock) → slice_get s.world.memory x.block ≡ Some z
            → IsLeft x.slots x.block z (slice_get (dead_of s x) x.block) → slice_get (dead_of s x) x.block ≡ Some z
        left z d (Stays a c) = c
        left z d (Dies a c) = absurd (frame_apart s.world.memory (times_on (s.top ∷ s.below)) s.instances h.slotted i x
            e x.block (in_instance s.world.memory (times_on (s.top ∷ s.below)) s.instances h.slotted i x e x.block a)
            refl)

    last : slice_get (killed (gone_of s x) x.block) x.block ≡ Some (killed_block (disowned f.block))
    last = with_there (gone_of s x) x.block killed_block (disowned f.block)
        (with_there (dead_of s x) x.block disowned f.block frame_stays)

    other : (n : ℕ) → (n ≡ x.block → ⊥) → slice_get (killed (gone_of s x) x.block) n ≡ slice_get (dead_of s x) n
    other n away = with_other (gone_of s x) x.block killed_block n away ∙ with_other (dead_of s x) x.block disowned n away

    moved_left : (n : ℕ) (z : MemoryBlock) → slice_get (killed (gone_of s x) x.block) n ≡ slice_get (dead_of s x) n
        → IsLeft x.slots n z (slice_get (dead_of s x) n) → IsLeft x.slots n z (slice_get (killed (gone_of s x) x.block) n)
    moved_left n z d (Stays a c) = Stays a (d ∙ c)
    moved_left n z d (Dies a c) = Dies a (d ∙ c)

    over : AreSlotted (killed (gone_of s x) x.block) (times_on (s.top ∷ s.below))
        (slice_set s.instances i (record x { freed = true }))
    over = over_slotted s.world.memory (times_on (s.top ∷ s.below)) s.instances h.slotted (killed (gone_of s x) x.block) i x
        (record x { freed = true }) e refl refl
        (record {
          block = killed_block (disowned f.block);
          there = last;
          heap = f.heap;
          start = f.start;
          unkilled = λ u. absurd (cc);
          owned = λ u. absurd (cc);
          gone = λ u. refl;
        })
        (λ n z away g. moved_left n z (other n away) (without_at s.world.memory x.slots n z g))
        (λ n w g.
        let k = with_back (gone_of s x) x.block killed_block n w g in
        let l = with_back (dead_of s x) x.block disowned n k.0 k.1 in
        without_back s.world.memory x.slots n l.0 l.1)

module _ (s : State) (h : IsSlottedState s) where
  abbrev Freed : Value → Option (ℕ × Instance) → Type 0
  Freed p o = StaysSlotted (and_then (deallocated (if_let_go s o).world.memory p) (λ (memory : List MemoryBlock).
      Ok (next (with_memory (if_let_go s o) memory))))

  freed_by : (b : ℕ) (o : Offset) (q : Option (ℕ × Instance)) → last_where (began_at b o.bits) s.instances ≡ q
      → Freed (Value.Ptr (Pointer.At b o)) q
  freed_by b o None e = plain_freed s (Value.Ptr (Pointer.At b o)) h
  freed_by b o (Some (i, x)) e = on (may_be_freed x)
    where
      began : began_at b o.bits x ≡ true
      began = found_there (began_at b o.bits) s.instances i x e

      on : (t : Bool) → StaysSlotted (and_then (deallocated (if t then let_go s i x else s).world.memory
          (Value.Ptr (Pointer.At b o))) (λ (memory : List MemoryBlock).
          Ok (next (with_memory (if t then let_go s i x else s) memory))))
      on false = plain_freed s (Value.Ptr (Pointer.At b o)) h
      on true = let_go_freed s h i x (at_is s.instances (Value.Ptr (Pointer.At b o)) i x e) b o
          (equal_is x.block b (and_first (x.block == b) _ began))

  pub frees_slotted : (p : Value) → StaysSlotted (deallocate s p)
  frees_slotted (Value.Ptr (Pointer.At b o)) = freed_by b o (last_where (began_at b o.bits) s.instances) refl
  frees_slotted (Value.Ptr Pointer.Null) = plain_freed s (Value.Ptr Pointer.Null) h
  frees_slotted (Value.Ptr (Pointer.Func f)) = plain_freed s (Value.Ptr (Pointer.Func f)) h
  frees_slotted (Value.Int x) = plain_freed s (Value.Int x) h
  frees_slotted Value.Poison = plain_freed s Value.Poison h

  own_there : (p : ℕ × Instance) → found Cause.State (own_instance s) ≡ Ok p → slice_get s.instances p.0 ≡ Some p.1
  own_there p e = on (own_instance s) (λ i x d. own_is s i x d) e
    where
      on : (o : Option (ℕ × Instance)) → ((i : ℕ) (x : Instance) → o ≡ Some (i, x) → slice_get s.instances i ≡ Some x)
          → found Cause.State o ≡ Ok p → slice_get s.instances p.0 ≡ Some p.1
      on None is k = absurd (cc)
      on (Some q) is k =
          let same : q ≡ p = cc in
          subst (λ (r : ℕ × Instance). slice_get s.instances r.0 ≡ Some r.1) same (is q.0 q.1 refl)

  leaves_slotted : (g : Given) (label : ℕ) (windows : List Window) → StaysSlotted (branch_leaving g s label windows)
  leaves_slotted g label [] = record { slotted = h.slotted; ungiven = h.ungiven }
  leaves_slotted g label (w ∷ windows) = then_slotted (found Cause.State (own_instance s)) _ (λ p e.
      let k = status_slotted s p.0 p.1 (own_there p e) h in
      ok_slotted _ Cause.State _ (record { slotted = k.slotted; ungiven = k.ungiven }))

  save_slotted : (k u : Point) (f : State → Result State Cause) → ((t : State) → IsSlottedState t → StaysSlotted (f t))
      → StaysSlotted (and_then (save_for s k u) f)
  save_slotted k u f then' = on (own_instance s) (λ i x d. own_is s i x d)
    where
      by : (p : ℕ × Instance) → slice_get s.instances p.0 ≡ Some p.1 → (b : Bool)
          → StaysSlotted (and_then (ok_if b Cause.State (with_left (with_instance s p.0 (record p.1 {
            status = Status.Suspended u s.top.values;
            last_save = Some (record { depth = length s.below; save = k });
          })) true)) f)
      by p e false = tt
      by p e true =
          let y : Instance = record p.1 {
            status = Status.Suspended u s.top.values;
            last_save = Some (record { depth = length s.below; save = k });
          } in
          let c = changed_slotted s p.0 p.1 y e refl refl refl refl (running_over p.1) h in
          then' _ (record { slotted = c.slotted; ungiven = c.ungiven })

      on : (o : Option (ℕ × Instance)) → ((i : ℕ) (x : Instance) → o ≡ Some (i, x) → slice_get s.instances i ≡ Some x)
          → StaysSlotted (and_then (and_then (found Cause.State o) (λ (i, x).
          ok_if (not x.freed) Cause.State
          (with_left
          (with_instance s i (record x {
            status = Status.Suspended u s.top.values;
            last_save = Some (record { depth = length s.below; save = k });
          })) true))) f)
      on None is = tt
      on (Some p) is = by p (is p.0 p.1 refl) (not p.1.freed)

  suspend_slotted : (result : Option ℕ) (of_save : Operand) → StaysSlotted (suspend s result of_save)
  suspend_slotted result Operand.None = save_slotted (point_of s) (point_of s) _ (λ t k. gives_slotted t result _ k)
  suspend_slotted result _ = gives_slotted s result _ h

  end_slotted : (result : Option ℕ) (close : State → State) → IsSlottedState (close s)
      → StaysSlotted (end_of s close result)
  end_slotted result close k = on s.top.has_left
    where
      on : (b : Bool) → StaysSlotted (after_end (if b then s else close s) result s.top.mode)
      on true = after_slotted s result s.top.mode h
      on false = after_slotted (close s) result s.top.mode k

-- ---- steps

called_mode : (b : Bool) (frame : Value) → (if b then Mode.Ramp else Mode.Plain) ≡ Mode.GivenRamp frame → ⊥
called_mode true frame e = absurd (cc)
called_mode false frame e = absurd (cc)

module _ (hooks : Hooks) (keeps : KeepsSlots hooks) (s : State) (h : IsSlottedState s) where
  coro_slotted : (i : Intrinsic) (args : List Arg) (vs : List Value) (result : Option ℕ)
      → StaysSlotted (hooked_coro hooks s i args vs result)
  coro_slotted Intrinsic.CoroId args vs result = gives_slotted s None Value.Poison h
  coro_slotted Intrinsic.CoroSizeI32 args vs result = gives_slotted s result _ h
  coro_slotted Intrinsic.CoroSizeI64 args vs result = gives_slotted s result _ h
  coro_slotted Intrinsic.CoroAlignI32 args vs result = gives_slotted s result _ h
  coro_slotted Intrinsic.CoroAlignI64 args vs result = gives_slotted s result _ h
  coro_slotted Intrinsic.CoroAlloc args vs result = gives_slotted s result _ h
  coro_slotted Intrinsic.CoroFrame args vs result = gives_slotted s result _ h
  coro_slotted Intrinsic.LifetimeStart args vs result = gives_slotted s None Value.Poison h
  coro_slotted Intrinsic.LifetimeEnd args vs result = gives_slotted s None Value.Poison h
  coro_slotted Intrinsic.MemcpyI64 args vs result = gives_slotted s None Value.Poison h
  coro_slotted Intrinsic.MemcpyI32 args vs result = gives_slotted s None Value.Poison h
  coro_slotted Intrinsic.CoroBegin args vs result = keeps.start s result (nth vs 1) h
  coro_slotted Intrinsic.CoroFree args vs result = gives_slotted (release s) result (hooks.freed s) (released_slotted s h)
  coro_slotted Intrinsic.CoroSave args vs result =
      then_slotted (found Cause.State (suspend_of (function_of hooks.given s) (point_of s))) _ (λ u eu.
      save_slotted s h (point_of s) u _ (λ t k. gives_slotted t None Value.Poison k))
  coro_slotted Intrinsic.CoroSuspend args vs result = suspend_slotted s h result (operand_at args 0)
  coro_slotted Intrinsic.CoroEnd args vs result = end_slotted s h result hooks.close (keeps.close s h)
  coro_slotted Intrinsic.CoroResume args vs result = sleeper_slotted s (nth vs 0) _ (λ y there.
      ok_slotted _ Cause.State _ (keeps.go_on s y.number y.instance y.suspend y.values _ h there))
  coro_slotted Intrinsic.CoroDestroy args vs result = sleeper_slotted s (nth vs 0) _ (λ y there.
      keeps.go_on s y.number y.instance y.suspend y.values _ h there)
  coro_slotted Intrinsic.CoroDone args vs result = sleeper_slotted s (nth vs 0) _ (λ y there.
      ok_slotted _ Cause.State _ (gives_slotted s result _ h))
  coro_slotted Intrinsic.CoroPromise args vs result =
      then_slotted (hooks.promised s (nth vs 0) (operand_at args 2)) _ (λ v ev. gives_slotted s result v h)

  act_slotted : (a : Action) → StaysAlike s.world.memory a → StaysSlotted (hooked_act hooks s a)
  act_slotted (Stuck cause) k = tt
  act_slotted (Done w) k = record {
    slotted = alike_slotted s.world.memory (times_on (s.top ∷ s.below)) s.instances h.slotted w.world.memory k;
    ungiven = h.ungiven;
  }
  act_slotted (NewSlot w slot) k =
      keeps.place (settled s w) slot (record {
        slotted = subst (λ (b : ℕ). AreSlotted w.world.memory
            (λ n. once_if (b == n) + times_on (s.top ∷ s.below) n) s.instances) (sym k.number)
            (alike_slotted (s.world.memory ++ k.block ∷ []) _ s.instances
            (added_slotted s.world.memory (times_on (s.top ∷ s.below)) s.instances h.slotted k.block k.made k.free
            k.lives) w.world.memory k.rest);
        ungiven = h.ungiven;
      })
  act_slotted (Enter func args result must_tail) k = record {
    slotted = counted_slotted s.world.memory (times_on (s.top ∷ s.below))
        (λ n. times n [] + times_on (s.top ∷ s.below) n) s.instances
        (λ n. none_more (times_on (s.top ∷ s.below) n)) h.slotted;
    ungiven = (λ frame e. called_mode _ frame e, h.ungiven);
  }
  act_slotted (Coro i args result) k = coro_slotted i args (arg_values hooks.given.code s.top.values args) result
  act_slotted (Deallocate p) k = frees_slotted s h p
  act_slotted (GoTo label) k = leaves_slotted s h hooks.given label (left_windows hooks.given s label)
  act_slotted (Return v) k = return_slotted s v h

  next_slotted : (x : Fetched) → hooks.given_call s x ≡ None → StaysSlotted (hooked_next hooks s x)
  next_slotted x none = on (hooks.is_idle s x) (hooks.given_call s x) none
    where
      on : (b : Bool) (o : Option (Result State Cause)) → o ≡ None
          → StaysSlotted (if b then Ok (next s) else unwrap_or o
          (hooked_act hooks s (action_of (hooked_context hooks s) (work_of s) x)))
      on true o e = gives_slotted s None Value.Poison h
      on false None e = act_slotted (action_of (hooked_context hooks s) (work_of s) x)
          (step_alike (hooked_context hooks s) (work_of s) x)
      on false (Some r) e = absurd (cc)

  or_slotted : (r : Result State Cause) → StaysSlotted r → IsSlottedState (or_undefined hooks.given s r)
  or_slotted (Err cause) k = record { slotted = h.slotted; ungiven = h.ungiven }
  or_slotted (Ok t) k = k

  advance_slotted : (o : Outcome) → IsSlottedState (hooked_advance hooks s o)
  advance_slotted Outcome.Running =
      let x = fetch (function_of hooks.given s) s.top.block s.top.at in
      or_slotted (hooked_next hooks s x) (next_slotted x (keeps.call s))
  advance_slotted (Outcome.Returned v) = h
  advance_slotted (Outcome.Undefined cause place) = h

  pub step_slotted : IsSlottedState (step_of hooks s)
  step_slotted = advance_slotted s.outcome

steps_slotted : (hooks : Hooks) → KeepsSlots hooks → (n : ℕ) (s : State) → IsSlottedState s
    → IsSlottedState (iterate (step_of hooks) n s)
steps_slotted hooks keeps zero s h = h
steps_slotted hooks keeps (suc n) s h =
    steps_slotted hooks keeps n (step_of hooks s) (step_slotted hooks keeps s h)

-- ---- the start

global_made : (m : Module) (gs : List GlobalItem) (n : ℕ) (z : MemoryBlock)
    → slice_get (map (global_block m) gs) n ≡ Some z → is_alloca_block z ≡ false
global_made m [] n z e = absurd (cc)
global_made m (g ∷ gs) zero z e =
    let same : global_block m g ≡ z = cc in
    subst (λ (y : MemoryBlock). is_alloca_block y ≡ false) same (on g.constant)
  where
    on : (t : Bool) → (same_kind (if t then Kind.Constant else Kind.Global) Kind.Slot
        || same_kind (if t then Kind.Constant else Kind.Global) Kind.Stack) ≡ false
    on true = refl
    on false = refl
global_made m (g ∷ gs) (suc n) z e = global_made m gs n z e

pub first_slotted : (m : Module) (entry : ℕ) (args : List Word) → IsSlottedState (first_state m entry args)
first_slotted m entry args = record {
  slotted = record {
    there = λ n c. absurd (omega (arith, c));
    once = λ n. omega arith;
    fresh = λ n c. absurd (omega (arith, c));
    listed = λ n z e made lives. let k = global_made m m.globals n z e in absurd (cc);
    over = λ i x e. absurd (cc);
    frames = λ i x e. absurd (cc);
    apart = λ i j x y e. absurd (cc);
  };
  ungiven = (λ frame e. absurd (cc), tt);
}

pub states_slotted : (hooks : Hooks) → KeepsSlots hooks → (entry : ℕ) (args : List Word) (n : ℕ)
    → IsSlottedState (hooked_state_at hooks entry args n)
states_slotted hooks keeps entry args n =
    steps_slotted hooks keeps n (first_state hooks.given.code entry args) (first_slotted hooks.given.code entry args)
