-- The hooks of the four meanings keep slots and frames.
use Rattle.std.proofs.Common.{◌≡◌, ◌+◌, ◌≤◌, ℕ, Bool, true, false, List, [], ◌∷◌, ◌++◌, length, Option, Some}
use Rattle.std.proofs.Common.{None, Ok, refl, ap, ◌∙◌, subst, arith}
use Rattle.std.specs.Prelude.{if◌then◌else◌, filter, is_none, is_some, nat_le, not, slice_get, slice_set, ◌&&◌, ◌==◌}
use Rattle.std.specs.Option.{option_map_or}
use Rattle.run_hooks.specs.ir_base.declared.cause.Cause.{Cause}
use Rattle.run_hooks.specs.ir_model.Names.{function_at}
use Rattle.run_hooks.specs.ir_model.declared.instr.Instr.{Instr}
use Rattle.run_hooks.specs.ir_model.declared.operand.Callee.{Callee}
use Rattle.run_hooks.specs.ir_paths.declared.point.Point.{Point}
use Rattle.run_hooks.specs.pass_kept_proof.Kept.{Keep, kept}
use Rattle.run_hooks.specs.pass_renewed_proof.Renewed.{RenewedGiven, renew_after, renewed_from, renewed_slot, with_life}
use Rattle.run_hooks.specs.run_framed.Framed.{FramedGiven, alloca_from, disown_given, enter_after, framed_begin, framed_slot}
use Rattle.run_hooks.specs.run_framed.Framed.{enter_given, given_call, is_stack_block, reentry_values}
use Rattle.run_hooks.proofs.Reached.{own_is}
use Rattle.run_hooks.proofs.alive.Parts.{set_there}
use Rattle.run_hooks.specs.Meanings.{framed_hooks, hooks_by, kept_hooks, renewed_hooks, source_hooks}
use Rattle.run_hooks.specs.run_memory.Memory.{disown, is_killed, is_live, killed, killed_block, may_be_owned, own, owned_to}
use Rattle.run_hooks.specs.run_memory.Memory.{check}
use Rattle.run_hooks.specs.run_memory.Memory.{same_kind, start, started, with_block}
use Rattle.run_hooks.specs.run_memory.declared.block.Kind.{Kind}
use Rattle.run_hooks.specs.run_memory.declared.block.Life.{Life}
use Rattle.run_hooks.specs.run_memory.declared.block.MemoryBlock.{MemoryBlock}
use Rattle.run_hooks.specs.run_memory.declared.pointer.Pointer.{Pointer}
use Rattle.run_hooks.specs.run_memory.declared.pointer.Value.{Value}
use Rattle.run_slots.proofs.Blocks.{changed_alike, started_alike}
use Rattle.run_slots.proofs.Keeping.{alike_slotted, begun_slotted, counted_slotted, dead_slotted, none_more}
use Rattle.run_slots.proofs.Keeping.{set_slotted, taken_slotted, with_slot}
use Rattle.run_slots.proofs.Steps.{changed_slotted, finished_slotted, kind_is, status_slotted}
use Rattle.run_slots.proofs.Times.{itself, more_last, times_joined, times_split, with_there}
use Rattle.run_slots.specs.Slots.{AreSlotted, GivesNoFrames, HasNewSlot, IsFrameBlock, IsSlotBlock, IsSlottedState, KeepsSlots}
use Rattle.run_slots.specs.Slots.{StaysSlotted}
use Rattle.run_slots.specs.Slots.{is_killed_in, once_if, times, times_in, times_on}
use Rattle.run_hooks.specs.run_source.Source.{Continues, begin, begin_at, begun, change_own, continue, is_among, is_over, kill_late}
use Rattle.run_hooks.specs.run_source.Source.{new_instance, new_slot, push, resumed, slots_of, with_new_slots}
use Rattle.run_hooks.specs.run_source.State.{frame_address_of, function_of, gives, own_facts, own_frame, own_instance}
use Rattle.run_hooks.specs.run_source.State.{with_instance, with_memory, with_slots, with_status}
use Rattle.run_hooks.specs.run_source.declared.state.Instance.{Instance}
use Rattle.run_hooks.specs.run_source.declared.state.Mode.{Mode}
use Rattle.run_hooks.specs.run_source.declared.state.State.{State}
use Rattle.run_hooks.specs.run_source.declared.state.Status.{Status}
use Rattle.run_hooks.specs.run_source_tables.Given.{Given}
use Rattle.run_hooks.specs.run_step.Results.{and_then, found, ok_if}
use Rattle.run_hooks.specs.run_step.Step.{AtInstr, Fetched, block_of, fetch, without_slots}
use Rattle.run_hooks.specs.run_step.Values.{Env, arg_values}
use Rattle.run_hooks.specs.run_step.declared.world.Slot.{Slot}

-- ---- a new slot is placed

-- it stays the activation's
own_placed : (s : State) (slot : Slot) → HasNewSlot s slot → IsSlottedState (with_slots s (slot ∷ s.top.slots))
own_placed s slot h = record {
  slotted = same_counts (times_on (s.top ∷ s.below)) h.slotted;
  ungiven = h.ungiven;
}
  where
    same_counts : (own : ℕ → ℕ) → AreSlotted s.world.memory
        (λ n. once_if (slot.block == n) + (times n s.top.slots + times_on s.below n)) s.instances
        → AreSlotted s.world.memory
        (λ n. (once_if (slot.block == n) + times n s.top.slots) + times_on s.below n) s.instances
    same_counts own k =
        subst (λ (f : ℕ → ℕ). AreSlotted s.world.memory f s.instances)
        (λ i n. joined n i) k
      where
        joined : (n : ℕ) → once_if (slot.block == n) + (times n s.top.slots + times_on s.below n)
            ≡ (once_if (slot.block == n) + times n s.top.slots) + times_on s.below n
        joined n = omega arith

-- how many slots of activations a block is
abbrev own_of : State → ℕ → ℕ
own_of s = times_on (s.top ∷ s.below)

-- or it comes to the instance, and is dead at once where that is over
moved_placed : (s : State) (slot : Slot) (i : ℕ) (x : Instance) → slice_get s.instances i ≡ Some x → HasNewSlot s slot
    → (o : Bool) → is_over x ≡ o
    → IsSlottedState (record (if o then with_memory s (killed s.world.memory slot.block) else s) {
      instances = slice_set s.instances i (record x { slots = slot ∷ x.slots });
    })
moved_placed s slot i x e h = on
  where
    counts : (n : ℕ) → own_of s n + times n (slot ∷ x.slots) ≡ (once_if (slot.block == n) + own_of s n) + times n x.slots
    counts n = omega arith

    on : (t : Bool) → is_over x ≡ t
        → IsSlottedState (record (if t then with_memory s (killed s.world.memory slot.block) else s) {
          instances = slice_set s.instances i (record x { slots = slot ∷ x.slots });
        })
    on false d = record {
      slotted = set_slotted s.world.memory (λ n. once_if (slot.block == n) + own_of s n) s.instances h.slotted (own_of s) i x (with_slot x slot) e refl
          counts (λ n c. h.slotted.fresh n (omega (arith, c))) (λ o. absurd (cc)) (frame_is (h.slotted.frames i x e));
      ungiven = h.ungiven;
    }
      where
        frame_is : IsFrameBlock s.world.memory x → IsFrameBlock s.world.memory (with_slot x slot)
        frame_is f = record {
          block = f.block;
          there = f.there;
          heap = f.heap;
          start = f.start;
          unkilled = f.unkilled;
          owned = f.owned;
          gone = f.gone;
        }
    on true d = record {
      slotted = taken_slotted (killed s.world.memory slot.block) (own_of s) s.instances dead i x slot e made
          (ap is_killed_in (with_there s.world.memory slot.block killed_block block.block block.there)) none;
      ungiven = h.ungiven;
    }
      where
        one : once_if (slot.block == slot.block) ≡ 1
        one = ap once_if (itself slot.block)

        block : IsSlotBlock s.world.memory slot.block
        block = h.slotted.there slot.block (omega (arith, one))

        none : own_of s slot.block + times_in slot.block s.instances ≡ 0
        none = let k = h.slotted.once slot.block in omega (arith, one, k)

        dead : AreSlotted (killed s.world.memory slot.block) (own_of s) s.instances
        dead = dead_slotted s.world.memory (λ n. once_if (slot.block == n) + own_of s n) s.instances h.slotted (own_of s) (slot ∷ [])
            (λ n. omega arith)

        made : IsSlotBlock (killed s.world.memory slot.block) slot.block
        made = record {
          block = killed_block block.block;
          there = with_there s.world.memory slot.block killed_block block.block block.there;
          made = block.made;
          free = refl;
        }

-- it is dead where the instance is over
abbrev late : State → Slot → Bool → State
late s slot o = if o then with_memory s (killed s.world.memory slot.block) else s

-- by its class
new_placed : (g : Given) (s : State) (slot : Slot) → HasNewSlot s slot → IsSlottedState (new_slot g s slot)
new_placed g s slot h = on (own_instance s) (λ i x e. own_is s i x e)
  where
    stays : (i : ℕ) (x : Instance) → slice_get s.instances i ≡ Some x
        → IsSlottedState (with_slots (with_instance s i x) (slot ∷ s.top.slots))
    stays i x e =
        let k = changed_slotted (with_slots s (slot ∷ s.top.slots)) i x x e refl refl refl refl (λ o. o)
        (own_placed s slot h) in
        record { slotted = k.slotted; ungiven = k.ungiven }

    by : (t o : Bool) (i : ℕ) (x : Instance) → slice_get s.instances i ≡ Some x → is_over x ≡ o
        → IsSlottedState (with_slots
        (with_instance (late s slot (o && not t)) i (record x { slots = (if not t then slot ∷ [] else []) ++ x.slots }))
        ((if t then slot ∷ [] else []) ++ (late s slot (o && not t)).top.slots))
    by true true i x e over = stays i x e
    by true false i x e over = stays i x e
    by false true i x e over =
        let k = moved_placed s slot i x e h true over in record { slotted = k.slotted; ungiven = k.ungiven }
    by false false i x e over =
        let k = moved_placed s slot i x e h false over in record { slotted = k.slotted; ungiven = k.ungiven }

    on : (o : Option (ℕ × Instance)) → ((i : ℕ) (x : Instance) → o ≡ Some (i, x) → slice_get s.instances i ≡ Some x)
        → IsSlottedState (with_new_slots (own_facts g s).ramp_slots o (kill_late (own_facts g s).ramp_slots o s slot) (slot ∷ []))
    on None is = own_placed s slot h
    on (Some p) is = by (is_among (own_facts g s).ramp_slots slot) (is_over p.1) p.0 p.1 (is p.0 p.1 refl) refl

-- ---- begin

live_unkilled : (l : Life) → is_live l ≡ true → is_killed l ≡ false
live_unkilled Life.Live e = refl
live_unkilled Life.Ended e = absurd (cc)
live_unkilled Life.Killed e = absurd (cc)

-- a block in which an instance may begin
record IsFreeHeap (m : List MemoryBlock) (b : ℕ) : Type 0 where
  pub block : MemoryBlock
  pub there : slice_get m b ≡ Some block
  pub heap : block.kind ≡ Kind.Allocator
  pub lives : is_killed block.life ≡ false
  pub free : is_some block.owned ≡ false

free_heap : (m : List MemoryBlock) (b size : ℕ) → may_be_owned Kind.Allocator size (slice_get m b) ≡ true → IsFreeHeap m b
free_heap m b size e = on (slice_get m b) refl e
  where
    by : (z : MemoryBlock) → slice_get m b ≡ Some z → (c d f g : Bool) → is_live z.life ≡ c
        → same_kind z.kind Kind.Allocator ≡ d → is_some z.owned ≡ f → (((c && d) && not f) && g) ≡ true → IsFreeHeap m b
    by z there true true false g lives kind free k = record {
      block = z;
      there = there;
      heap = kind_is z.kind kind;
      lives = live_unkilled z.life lives;
      free = free;
    }
    by z there true true true g lives kind free k = absurd (cc)
    by z there true false f g lives kind free k = absurd (cc)
    by z there false d f g lives kind free k = absurd (cc)

    on : (o : Option MemoryBlock) → slice_get m b ≡ o → may_be_owned Kind.Allocator size o ≡ true → IsFreeHeap m b
    on None there k = absurd (cc)
    on (Some z) there k =
        by z there (is_live z.life) (same_kind z.kind Kind.Allocator) (is_some z.owned) (nat_le size z.size) refl refl refl k

-- slots that stay the activation's at begin, and those that become the instance's
abbrev stays_of : Given → State → List Slot
stays_of g s = filter (is_among (own_facts g s).ramp_slots) s.top.slots

abbrev goes_of : Given → State → List Slot
goes_of g s = filter (λ slot. not (is_among (own_facts g s).ramp_slots slot)) s.top.slots

begun_slots : (g : Given) (s : State) (size b : ℕ) → IsFreeHeap s.world.memory b → IsSlottedState s
    → IsSlottedState (begun g (with_memory s (with_block s.world.memory b (owned_to size))) b 0)
begun_slots g s size b f h = record {
  slotted = set_slotted (with_block s.world.memory b (owned_to size)) (own_of s) (s.instances ++ (new_instance s.top.func b 0) ∷ []) first
      (times_on (record s.top { slots = (stays_of g s) ++ [] } ∷ s.below)) (length s.instances) (new_instance s.top.func b 0) (record (new_instance s.top.func b 0) { slots = (goes_of g s) ++ [] })
      (more_last s.instances (new_instance s.top.func b 0)) refl counts (λ n c. first.fresh n (few n c)) (λ o. absurd (cc))
      (framed (first.frames (length s.instances) (new_instance s.top.func b 0) (more_last s.instances (new_instance s.top.func b 0))));
  ungiven = h.ungiven;
}
  where
    first : AreSlotted (with_block s.world.memory b (owned_to size)) (own_of s) (s.instances ++ (new_instance s.top.func b 0) ∷ [])
    first = begun_slotted s.world.memory (own_of s) s.instances h.slotted b f.block f.there f.heap f.lives f.free (owned_to size)
        f.heap (new_instance s.top.func b 0) refl refl refl refl f.lives refl

    counts : (n : ℕ) → (times n ((stays_of g s) ++ []) + times_on s.below n) + times n ((goes_of g s) ++ []) ≡ (own_of s) n + 0
    counts n =
        let a = times_split n (is_among (own_facts g s).ramp_slots) s.top.slots in
        let c = times_joined n (stays_of g s) [] in
        let d = times_joined n (goes_of g s) [] in
        omega (arith, a, c, d)

    few : (n : ℕ) → 1 ≤ times n ((stays_of g s) ++ []) + times_on s.below n → 1 ≤ (own_of s) n
    few n e = let a = counts n in omega (arith, a, e)

    framed : IsFrameBlock (with_block s.world.memory b (owned_to size)) (new_instance s.top.func b 0)
        → IsFrameBlock (with_block s.world.memory b (owned_to size)) (record (new_instance s.top.func b 0) { slots = (goes_of g s) ++ [] })
    framed r = record {
      block = r.block;
      there = r.there;
      heap = r.heap;
      start = r.start;
      unkilled = r.unkilled;
      owned = r.owned;
      gone = r.gone;
    }

begin_slotted : (g : Given) (s : State) (result : Option ℕ) (mem : Value) → IsSlottedState s
    → StaysSlotted (begin g s result mem)
begin_slotted g s result mem h = on (is_none s.top.instance)
  where
    gives_back : (m : List MemoryBlock) → (b : ℕ) → IsSlottedState (begun g (with_memory s m) b 0)
        → IsSlottedState (gives (begun g (with_memory s m) b 0) result mem)
    gives_back m b k = record { slotted = k.slotted; ungiven = k.ungiven }

    owned : (v : Value) → StaysSlotted (and_then (and_then (own s.world.memory v (own_frame g s).size Kind.Allocator)
        (λ memory. and_then (found Cause.Begin (block_of v)) (λ b. Ok (begun g (with_memory s memory) b 0))))
        (λ z. Ok (gives z result mem)))
    owned (Value.Ptr (Pointer.At b o)) =
        by (o.bits == 0) (may_be_owned Kind.Allocator (own_frame g s).size (slice_get s.world.memory b)) refl
      where
        by : (c d : Bool) → may_be_owned Kind.Allocator (own_frame g s).size (slice_get s.world.memory b) ≡ d
            → StaysSlotted (and_then (and_then (check (c && d) Cause.Begin
            (Ok (with_block s.world.memory b (owned_to (own_frame g s).size))))
            (λ memory. and_then (found Cause.Begin (Some b)) (λ b. Ok (begun g (with_memory s memory) b 0))))
            (λ z. Ok (gives z result mem)))
        by true true e =
            gives_back (with_block s.world.memory b (owned_to (own_frame g s).size)) b
            (begun_slots g s (own_frame g s).size b (free_heap s.world.memory b (own_frame g s).size e) h)
        by true false e = tt
        by false d e = tt
    owned (Value.Ptr Pointer.Null) = tt
    owned (Value.Ptr (Pointer.Func f)) = tt
    owned (Value.Int w) = tt
    owned Value.Poison = tt

    on : (b : Bool) → StaysSlotted (and_then (ok_if b Cause.Begin s)
        (λ z. and_then (begin_at g z mem Kind.Allocator) (λ z. Ok (gives z result mem))))
    on true = owned mem
    on false = tt

-- ---- resumes

pushed_slotted : (s : State) (i : ℕ) (x : Instance) (at : Point) (vs : Env) → IsSlottedState s
    → slice_get s.instances i ≡ Some x
    → IsSlottedState (push (with_status s i x Status.Running) (resumed i x at vs))
pushed_slotted s i x at vs h e =
    let k = status_slotted s i x e h in
    record {
      slotted = counted_slotted s.world.memory (times_on (s.top ∷ s.below))
          (λ n. times n [] + times_on (s.top ∷ s.below) n) (slice_set s.instances i (record x { status = Status.Running }))
          (λ n. none_more (times_on (s.top ∷ s.below) n)) k.slotted;
      ungiven = (λ frame d. absurd (cc), k.ungiven);
    }

-- ---- sources

hooks_keep_slots : (g : Given) (go : Continues)
    → ((s : State) (i : ℕ) (x : Instance) (at : Point) (vs : Env) (label : ℕ) → IsSlottedState s
    → slice_get s.instances i ≡ Some x → IsSlottedState (go s i x at vs label)) → KeepsSlots (hooks_by g go)
hooks_keep_slots g go goes = record {
  go_on = goes;
  place = new_placed g;
  start = begin_slotted g;
  close = finished_slotted;
  call = λ s. refl;
}

continue_slotted : (g : Given) (s : State) (i : ℕ) (x : Instance) (at : Point) (vs : Env) (label : ℕ)
    → IsSlottedState s → slice_get s.instances i ≡ Some x → IsSlottedState (continue g s i x at vs label)
continue_slotted g s i x at vs label h e =
    let k = pushed_slotted s i x at vs h e in record { slotted = k.slotted; ungiven = k.ungiven }

pub source_keeps_slots : (g : Given) → KeepsSlots (source_hooks g)
source_keeps_slots g = hooks_keep_slots g (continue g) (continue_slotted g)

pub kept_keeps_slots : (g : Given) (keep : Keep) → KeepsSlots (kept_hooks g keep)
kept_keeps_slots g keep = hooks_keep_slots g _
    (λ s i x at vs label. continue_slotted g s i x at (kept (keep x.coroutine at) vs) label)

-- ---- entry of a label, after allocas

enters_slotted : (g : FramedGiven) (s : State) (from label : ℕ) (o : Option Point) → IsSlottedState s
    → IsSlottedState (enter_after g s from label o)
enters_slotted g s from label (Some p) h =
    record { slotted = h.slotted; ungiven = (λ frame e. absurd (cc), h.ungiven.1) }
enters_slotted g s from label None h =
    record { slotted = h.slotted; ungiven = (λ frame e. absurd (cc), h.ungiven.1) }

renews_slotted : (g : RenewedGiven) (s : State) (from label : ℕ) (o : Option Point) → IsSlottedState s
    → IsSlottedState (renew_after g s from label o)
renews_slotted g s from label (Some p) h =
    record { slotted = h.slotted; ungiven = (λ frame e. absurd (cc), h.ungiven.1) }
renews_slotted g s from label None h =
    record { slotted = h.slotted; ungiven = (λ frame e. absurd (cc), h.ungiven.1) }

-- ---- slots that are made anew

life_slotted : (g : RenewedGiven) (s : State) (slot : Slot) → HasNewSlot s slot → HasNewSlot (with_life g s slot) slot
life_slotted g s slot h = on (g.flags s.top.func slot.alloca)
  where
    on : (b : Bool) → HasNewSlot (if b then with_memory s (start s.world.memory slot.block) else s) slot
    on true = record {
      slotted = alike_slotted s.world.memory (λ n. once_if (slot.block == n) + times_on (s.top ∷ s.below) n) s.instances
          h.slotted (start s.world.memory slot.block)
          (changed_alike s.world.memory slot.block started started_alike);
      ungiven = h.ungiven;
    }
    on false = h

renewed_placed : (g : RenewedGiven) (s : State) (slot : Slot) (mode : Mode) → HasNewSlot s slot
    → IsSlottedState (renewed_slot g s slot mode)
renewed_placed g s slot (Mode.Entering from label) h =
    renews_slotted g (with_slots s (slot ∷ s.top.slots)) from label
    (renewed_from (g.flags s.top.func) (function_of g.given s) s.top.at) (own_placed s slot h)
renewed_placed g s slot _ h = new_placed g.given s slot h

pub renewed_keeps_slots : (g : RenewedGiven) → KeepsSlots (renewed_hooks g)
renewed_keeps_slots g = record {
  go_on = λ s i x at vs label h e.
      renews_slotted g (push (with_status s i x Status.Running) (resumed i x at (kept (g.keep x.coroutine at) vs)))
      at.block label (renewed_from (g.flags x.coroutine) (function_at g.given.code x.coroutine) 0)
      (pushed_slotted s i x at (kept (g.keep x.coroutine at) vs) h e);
  place = λ s slot h. renewed_placed g (with_life g s slot) slot s.top.mode (life_slotted g s slot h);
  start = begin_slotted g.given;
  close = finished_slotted;
  call = λ s. refl;
}

-- ---- frames

framed_placed : (g : FramedGiven) (s : State) (slot : Slot) (mode : Mode) → HasNewSlot s slot
    → IsSlottedState (framed_slot g s slot mode)
framed_placed g s slot (Mode.Entering from label) h =
    enters_slotted g (with_slots s (slot ∷ s.top.slots)) from label (alloca_from (function_of g.given s) s.top.at)
    (own_placed s slot h)
framed_placed g s slot _ h = own_placed s slot h

framed_begins : (g : FramedGiven) (s : State) (result : Option ℕ) (memory : Value) (mode : Mode)
    → ((frame : Value) → mode ≡ Mode.GivenRamp frame → ⊥) → IsSlottedState s
    → StaysSlotted (framed_begin g s result memory mode)
framed_begins g s result memory (Mode.GivenRamp frame) none h = absurd (none frame refl)
framed_begins g s result memory _ none h = begin_slotted g.given s result memory h

-- an instance's block is no stack block
no_stack : (m : List MemoryBlock) (x : Instance) → IsFrameBlock m x → is_stack_block m x.block ≡ false
no_stack m x f =
    ap (λ (o : Option MemoryBlock). option_map_or (λ z. same_kind z.kind Kind.Stack) o false) f.there
    ∙ ap (λ (k : Kind). same_kind k Kind.Stack) f.heap

abbrev finish_by : State → Option (ℕ × Instance) → State
finish_by s o =
    with_memory (change_own s (λ x. record x { status = Status.Finished }) o)
    (without_slots s.world.memory (slots_of o))

closed_by : (s : State) (o : Option (ℕ × Instance))
    → ((i : ℕ) (x : Instance) → o ≡ Some (i, x) → slice_get s.instances i ≡ Some x) → IsSlottedState (finish_by s o)
    → IsSlottedState (disown_given (finish_by s o) o)
closed_by s None is h = h
closed_by s (Some (i, x)) is h = on (is_stack_block (finish_by s (Some (i, x))).world.memory x.block) refl
  where
    frame : IsFrameBlock (finish_by s (Some (i, x))).world.memory (record x { status = Status.Finished })
    frame = h.slotted.frames i (record x { status = Status.Finished })
        (set_there s.instances i x (record x { status = Status.Finished }) (is i x refl))

    on : (b : Bool) → is_stack_block (finish_by s (Some (i, x))).world.memory x.block ≡ b
        → IsSlottedState (if b && (x.start == 0) then with_memory (finish_by s (Some (i, x)))
        (disown (finish_by s (Some (i, x))).world.memory x.block) else finish_by s (Some (i, x)))
    on true e =
        let k : is_stack_block (finish_by s (Some (i, x))).world.memory x.block ≡ false =
        no_stack (finish_by s (Some (i, x))).world.memory (record x { status = Status.Finished }) frame in
        absurd (cc)
    on false e = h

pub framed_keeps_slots : (g : FramedGiven) → GivesNoFrames g.given.code → KeepsSlots (framed_hooks g)
framed_keeps_slots g none = record {
  go_on = λ s i x at vs label h e.
      enters_slotted g (push (with_status s i x Status.Running) (resumed i x at
      (reentry_values (function_at g.given.code x.coroutine) (frame_address_of x)))) at.block label
      (alloca_from (function_at g.given.code x.coroutine) 0)
      (pushed_slotted s i x at (reentry_values (function_at g.given.code x.coroutine) (frame_address_of x)) h e);
  place = λ s slot h. framed_placed g s slot s.top.mode h;
  start = λ s result memory h. framed_begins g s result memory s.top.mode h.ungiven.0 h;
  close = λ s h. closed_by s (own_instance s) (λ i x e. own_is s i x e) (finished_slotted s h);
  call = λ s. calls s (fetch (function_of g.given s) s.top.block s.top.at) refl;
}
  where
    calls : (s : State) (x : Fetched) → fetch (function_of g.given s) s.top.block s.top.at ≡ x → given_call g s x ≡ None
    calls s (AtInstr (Instr.Call result must_tail ty (Callee.Named n) args)) e =
        ap (enter_given g s result (arg_values g.given.code s.top.values args))
        (none s.top.func s.top.block s.top.at result must_tail ty n args e)
    calls s _ e = refl
