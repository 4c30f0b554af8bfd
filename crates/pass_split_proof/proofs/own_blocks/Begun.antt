-- A coroutine begins in a block of an allocator, or where a call gave room for its frame.
use Rattle.std.proofs.Common.{◌≡◌, ℕ, ◌<◌, ◌≤◌, inl, inr, Bool, true, false, not, List, [], ◌∷◌, ◌++◌, length, Option, Some, None, Result, Ok, Err, refl, sym, ap, ◌∙◌, subst, arith, ◌&&◌, ◌||◌, ◌==◌, if◌then◌else◌}
use Rattle.std.specs.Prelude.{is_none, slice_get}
use Rattle.std.specs.Option.{option_map_or}
use Rattle.std.proofs.lemmas.Bool.{and_parts, false≢true, ne_eqb}
use Rattle.std.proofs.lemmas.Option.{slice_get_within}
use Rattle.pass_proofs.specs.ir_base.declared.cause.Cause.{Cause}
use Rattle.pass_proofs.specs.ir_model.Names.{function_at}
use Rattle.pass_proofs.specs.ir_model.declared.instr.Instr.{Instr}
use Rattle.pass_proofs.specs.ir_model.declared.module.Module.{Module}
use Rattle.pass_split_proof.proofs.held.Begins.{around_behind}
use Rattle.pass_split_proof.proofs.held.Moves.{ok_is, ok_same}
use Rattle.pass_split_proof.proofs.own_blocks.Heaps.{SameHeaps, changed_heaps}
use Rattle.pass_split_proof.proofs.own_blocks.States.{StaysOwn, gives_own, memory_own, then_own}
use Rattle.pass_split_proof.specs.held.Kept.{is_heap_in, is_stack_in}
use Rattle.pass_split_proof.specs.own_blocks.Own.{BeginsWell, FitsMode, GivesFrames, HasOwnBlocks, IsOwnInstance, IsOwnState, SetsNoAlloca}
use Rattle.pass_proofs.specs.run_framed.Framed.{FramedGiven, are_finished_at, begin_given, begin_given_at, begin_in_block, begin_in_frame, frame_around, framed_begin, has_room, has_size}
use Rattle.pass_proofs.specs.run_memory.Memory.{check, is_live, may_be_owned, own, owned_to, with_block}
use Rattle.pass_proofs.specs.run_memory.declared.block.Kind.{Kind}
use Rattle.pass_proofs.specs.run_memory.declared.block.MemoryBlock.{MemoryBlock}
use Rattle.pass_proofs.specs.run_memory.declared.pointer.Offset.{Offset}
use Rattle.pass_proofs.specs.run_memory.declared.pointer.Pointer.{Pointer}
use Rattle.pass_proofs.specs.run_memory.declared.pointer.Value.{Value}
use Rattle.pass_proofs.specs.run_source.Source.{begin, begin_at, begun, is_live_at, new_instance}
use Rattle.pass_proofs.specs.run_source.State.{function_of, gives, own_frame, with_memory}
use Rattle.pass_proofs.specs.run_source.declared.state.Mode.{Mode}
use Rattle.pass_proofs.specs.run_source.declared.state.State.{State}
use Rattle.pass_proofs.proofs.run_states.sound_states.Kept.{each_more, each_set}
use Rattle.pass_proofs.specs.run_step.Effects.{is_alloca}
use Rattle.pass_proofs.specs.run_step.Results.{and_then, found, ok_if}
use Rattle.pass_proofs.specs.run_step.Step.{AtInstr, block_of, fetch}

-- what is owned is a block of an allocator
record IsOwnedHeap (m : List MemoryBlock) (mem : Value) (n : ℕ) (k : List MemoryBlock) : Type 0 where
  at : ℕ
  offset : Offset
  is : mem ≡ Value.Ptr (Pointer.At at offset)
  known : at < length m
  heap : is_heap_in (slice_get m at) ≡ true
  memory : k ≡ with_block m at (owned_to n)

owned_heap : (m : List MemoryBlock) (mem : Value) (n : ℕ) (k : List MemoryBlock) → own m mem n Kind.Allocator ≡ Ok k
    → IsOwnedHeap m mem n k
owned_heap m (Value.Ptr (Pointer.At b o)) n k h =
    on ((o.bits == 0) && may_be_owned Kind.Allocator n (slice_get m b)) refl h
  where
    heap_by : (q : Option MemoryBlock) → slice_get m b ≡ q → may_be_owned Kind.Allocator n q ≡ true
        → (b < length m) × (is_heap_in (slice_get m b) ≡ true)
    heap_by None e h = absurd (false≢true h)
    heap_by (Some u) e h =
        let p = and_parts _ _ h in let q = and_parts _ _ p.0 in let r = and_parts _ _ q.0 in
        (slice_get_within m b u e, ap is_heap_in e ∙ r.1)

    on : (t : Bool) → ((o.bits == 0) && may_be_owned Kind.Allocator n (slice_get m b)) ≡ t
        → check t Cause.Begin (Ok (with_block m b (owned_to n))) ≡ Ok k
        → IsOwnedHeap m (Value.Ptr (Pointer.At b o)) n k
    on false e h = absurd (cc)
    on true e h =
        let y = heap_by (slice_get m b) refl (and_parts (o.bits == 0) (may_be_owned Kind.Allocator n (slice_get m b))
        e).1 in record {
          at = b;
          offset = o;
          is = refl;
          known = y.0;
          heap = y.1;
          memory = sym (ok_same (Ok (with_block m b (owned_to n))) (with_block m b (owned_to n)) k refl h);
        }
owned_heap m (Value.Ptr Pointer.Null) n k h = absurd (cc)
owned_heap m (Value.Ptr (Pointer.Func f)) n k h = absurd (cc)
owned_heap m Value.Poison n k h = absurd (cc)
owned_heap m (Value.Int x) n k h = absurd (cc)

-- or a stack block
record IsOwnedStack (m : List MemoryBlock) (b n : ℕ) (k : List MemoryBlock) : Type 0 where
  known : b < length m
  stack : is_stack_in (slice_get m b) ≡ true
  memory : k ≡ with_block m b (owned_to n)

owned_stack : (m : List MemoryBlock) (b : ℕ) (o : Offset) (n : ℕ) (k : List MemoryBlock)
    → own m (Value.Ptr (Pointer.At b o)) n Kind.Stack ≡ Ok k → IsOwnedStack m b n k
owned_stack m b o n k h = on ((o.bits == 0) && may_be_owned Kind.Stack n (slice_get m b)) refl h
  where
    stack_by : (q : Option MemoryBlock) → slice_get m b ≡ q → may_be_owned Kind.Stack n q ≡ true
        → (b < length m) × (is_stack_in (slice_get m b) ≡ true)
    stack_by None e h = absurd (false≢true h)
    stack_by (Some u) e h =
        let p = and_parts _ _ h in let q = and_parts _ _ p.0 in let r = and_parts _ _ q.0 in
        (slice_get_within m b u e, ap is_stack_in e ∙ r.1)

    on : (t : Bool) → ((o.bits == 0) && may_be_owned Kind.Stack n (slice_get m b)) ≡ t
        → check t Cause.Begin (Ok (with_block m b (owned_to n))) ≡ Ok k → IsOwnedStack m b n k
    on false e h = absurd (cc)
    on true e h =
        let y = stack_by (slice_get m b) refl (and_parts (o.bits == 0) (may_be_owned Kind.Stack n (slice_get m b)) e).1
        in record {
          known = y.0;
          stack = y.1;
          memory = sym (ok_same (Ok (with_block m b (owned_to n))) (with_block m b (owned_to n)) k refl h);
        }

-- a live block is there
live_block : (m : List MemoryBlock) (b : ℕ) → is_live_at m b ≡ true → b < length m
live_block m b h = on (slice_get m b) refl h
  where
    on : (o : Option MemoryBlock) → slice_get m b ≡ o
        → option_map_or (λ (x : MemoryBlock). is_live x.life) o false ≡ true → b < length m
    on None e h = absurd (false≢true h)
    on (Some u) e h = slice_get_within m b u e

or_left : (a b : Bool) → a ≡ true → (a || b) ≡ true
or_left true b e = refl
or_left false b e = absurd (false≢true e)

or_right : (a b : Bool) → b ≡ true → (a || b) ≡ true
or_right true b e = refl
or_right false b e = e

-- an activation that has an instance fits its mode still
fits_some : (c : Module) (coroutine : Bool) (old : Option ℕ) (i : ℕ) (mode : Mode) → FitsMode c coroutine old mode
    → FitsMode c coroutine (Some i) mode
fits_some c coroutine old i Mode.Plain h = h
fits_some c coroutine old i Mode.Ramp h = h
fits_some c coroutine old i Mode.Resumed h = (h.0, refl)
fits_some c coroutine old i (Mode.GivenRamp frame) h = h
fits_some c coroutine old i (Mode.Entering from label) h = (h.0, refl)

module _ (g : FramedGiven) (asks : HasOwnBlocks g.given.code) where
  abbrev c : Module
  c = g.given.code

  begun_own : (s : State) (block start : ℕ) → IsOwnState c s → block < length s.world.memory
      → BeginsWell c s.world.memory block start → (function_of g.given s).coroutine ≡ true
      → IsOwnState c (begun g.given s block start)
  begun_own s block start o known begins coroutine = record {
    instances = each_set (IsOwnInstance c s.world.memory) (s.instances ++ new_instance s.top.func block start ∷ [])
        (length s.instances) _ (record { known = known; begins = begins; coroutine = coroutine })
        (each_more (IsOwnInstance c s.world.memory) s.instances (new_instance s.top.func block start)
        (record { known = known; begins = begins; coroutine = coroutine }) o.instances);
    top = record {
      mode = fits_some c (function_at c s.top.func).coroutine s.top.instance (length s.instances) s.top.mode o.top.mode;
      whole = o.top.whole;
      made = o.top.made;
    };
    below = o.below;
  }

  module _ (s : State) (o : IsOwnState c s) (i : Instr)
      (there : fetch (function_of g.given s) s.top.block s.top.at ≡ AtInstr i) (plain : is_alloca i ≡ false)
      (coroutine : (function_of g.given s).coroutine ≡ true) (result : Option ℕ)
      (none : SetsNoAlloca (function_of g.given s) result) where
    owned_own : (mem : Value) (k : List MemoryBlock) → own s.world.memory mem (own_frame g.given s).size Kind.Allocator
        ≡ Ok k → (b : ℕ) → block_of mem ≡ Some b → IsOwnState c (begun g.given (with_memory s k) b 0)
    owned_own mem k e b f = begun_own (with_memory s k) b 0 (memory_own c s k heaps o) known (inl (refl, heap)) coroutine
      where
        y : IsOwnedHeap s.world.memory mem (own_frame g.given s).size k
        y = owned_heap s.world.memory mem (own_frame g.given s).size k e

        at_is : y.at ≡ b
        at_is = same_at (ap block_of (sym y.is) ∙ f)
          where
            same_at : Some y.at ≡ Some b → y.at ≡ b
            same_at e = cc

        heaps : SameHeaps s.world.memory k
        heaps = subst (SameHeaps s.world.memory) (sym y.memory)
            (changed_heaps s.world.memory y.at (owned_to (own_frame g.given s).size) (λ u. refl))

        known : b < length k
        known = more b (length s.world.memory) (length k) (subst (λ (a : ℕ). a < length s.world.memory) at_is y.known)
            heaps.longer
          where
            more : (a b c : ℕ) → a < b → b ≤ c → a < c
            more a b c lt le = omega arith

        heap : is_heap_in (slice_get k b) ≡ true
        heap = subst (λ (a : ℕ). is_heap_in (slice_get k a) ≡ true) at_is (heaps.each y.at y.known ∙ y.heap)

    begin_own : (mem : Value) → StaysOwn c (begin g.given s result mem)
    begin_own mem = then_own c (ok_if (is_none s.top.instance) Cause.Begin s)
        (λ (u : State). and_then (begin_at g.given u mem Kind.Allocator) (λ (v : State). Ok (gives v result mem)))
        (λ u e. subst (λ (w : State). StaysOwn c (and_then (begin_at g.given w mem Kind.Allocator)
        (λ (v : State). Ok (gives v result mem)))) (ok_is (is_none s.top.instance) Cause.Begin s u e).1
        (by_memory (own s.world.memory mem (own_frame g.given s).size Kind.Allocator) refl))
      where
        by_block : (k : List MemoryBlock) → own s.world.memory mem (own_frame g.given s).size Kind.Allocator ≡ Ok k
            → (q : Option ℕ) → block_of mem ≡ q
            → StaysOwn c (and_then (and_then (found Cause.Begin q) (λ (b : ℕ).
            Ok (begun g.given (with_memory s k) b 0))) (λ (v : State). Ok (gives v result mem)))
        by_block k e None f = tt
        by_block k e (Some b) f = gives_own g asks (begun g.given (with_memory s k) b 0) (owned_own mem k e b f) result
            mem i there plain none

        by_memory : (r : Result (List MemoryBlock) Cause)
            → own s.world.memory mem (own_frame g.given s).size Kind.Allocator ≡ r
            → StaysOwn c (and_then (and_then r (λ (memory : List MemoryBlock).
            and_then (found Cause.Begin (block_of mem)) (λ (b : ℕ). Ok (begun g.given (with_memory s memory) b 0))))
            (λ (v : State). Ok (gives v result mem)))
        by_memory (Err cause) e = tt
        by_memory (Ok k) e = by_block k e (block_of mem) refl

    -- ---- where the frame was given

    module _ (may : GivesFrames c) (frame : Value) where
      abbrev on_to : State → Result State Cause
      on_to u = Ok (gives u result frame)

      -- in a field, which lies behind the start of its block or in a stack block
      field_own : (b : ℕ) (at : Offset) → (at.bits ≡ 0 → ⊥) → StaysOwn c (and_then (begin_in_frame g s b at) on_to)
      field_own b at behind = by (is_live_at s.world.memory b) refl
        where
          by : (t : Bool) → is_live_at s.world.memory b ≡ t
              → StaysOwn c (and_then (ok_if t Cause.Begin (begun g.given s b at.bits)) on_to)
          by false e = tt
          by true e = gives_own g asks (begun g.given s b at.bits) (begun_own s b at.bits o
              (live_block s.world.memory b e) (inr (
                may,
                or_right (is_stack_in (slice_get s.world.memory b))
                    (not (at.bits == 0)) (ap not (ne_eqb at.bits 0 behind)),
              )) coroutine) result frame i there plain none

      -- in a stack block
      stack_own : (b : ℕ) (at : Offset) (k : List MemoryBlock)
          → own s.world.memory (Value.Ptr (Pointer.At b at)) (own_frame g.given s).size Kind.Stack ≡ Ok k
          → IsOwnState c (begun g.given (with_memory s k) b 0)
      stack_own b at k e = begun_own (with_memory s k) b 0 (memory_own c s k heaps o) known
          (inr (may, or_left (is_stack_in (slice_get k b)) (not (0 == 0)) stack)) coroutine
        where
          y : IsOwnedStack s.world.memory b (own_frame g.given s).size k
          y = owned_stack s.world.memory b at (own_frame g.given s).size k e

          heaps : SameHeaps s.world.memory k
          heaps = subst (SameHeaps s.world.memory) (sym y.memory)
              (changed_heaps s.world.memory b (owned_to (own_frame g.given s).size) (λ u. refl))

          known : b < length k
          known = more b (length s.world.memory) (length k) y.known heaps.longer
            where
              more : (a b c : ℕ) → a < b → b ≤ c → a < c
              more a b c lt le = omega arith

          stack : is_stack_in (slice_get k b) ≡ true
          stack = heaps.stacks b y.known ∙ y.stack

      block_own : (b : ℕ) (at : Offset) → StaysOwn c (and_then (begin_in_block g s b at) on_to)
      block_own b at = by ((at.bits == 0) && has_size s.world.memory b (own_frame g.given s).size)
        where
          by_memory : (r : Result (List MemoryBlock) Cause)
              → own s.world.memory (Value.Ptr (Pointer.At b at)) (own_frame g.given s).size Kind.Stack ≡ r
              → StaysOwn c (and_then (and_then r (λ (memory : List MemoryBlock).
              Ok (begun g.given (with_memory s memory) b 0))) on_to)
          by_memory (Err cause) e = tt
          by_memory (Ok k) e = gives_own g asks (begun g.given (with_memory s k) b 0) (stack_own b at k e) result frame i
              there plain none

          by : (t : Bool) → StaysOwn c (and_then (and_then (ok_if t Cause.Begin s) (λ (u : State).
              begin_at g.given u (Value.Ptr (Pointer.At b at)) Kind.Stack)) on_to)
          by false = tt
          by true = by_memory (own s.world.memory (Value.Ptr (Pointer.At b at)) (own_frame g.given s).size Kind.Stack)
              refl

      given_at_own : (v : Value) → StaysOwn c (and_then (begin_given_at g s v) on_to)
      given_at_own (Value.Ptr (Pointer.At b at))
          = by (has_room g at.bits (own_frame g.given s).size (frame_around g s.instances b at.bits)) refl
        where
          by : (t : Bool) → has_room g at.bits (own_frame g.given s).size (frame_around g s.instances b at.bits) ≡ t
              → StaysOwn c (and_then (if t then begin_in_frame g s b at else begin_in_block g s b at) on_to)
          by true e = field_own b at (around_behind g s.instances b at.bits (own_frame g.given s).size e)
          by false e = block_own b at
      given_at_own (Value.Ptr Pointer.Null) = tt
      given_at_own (Value.Ptr (Pointer.Func f)) = tt
      given_at_own (Value.Int x) = tt
      given_at_own Value.Poison = tt

      begin_given_own : StaysOwn c (begin_given g s result frame)
      begin_given_own = then_own c (ok_if (is_none s.top.instance && are_finished_at s.instances frame) Cause.Begin s)
          (λ (u : State). and_then (begin_given_at g u frame) on_to)
          (λ u e. subst (λ (w : State). StaysOwn c (and_then (begin_given_at g w frame) on_to))
          (ok_is (is_none s.top.instance && are_finished_at s.instances frame) Cause.Begin s u e).1
          (given_at_own frame))

    pub begins_own : (mem : Value) (mode : Mode) → FitsMode c (function_of g.given s).coroutine s.top.instance mode
        → StaysOwn c (framed_begin g s result mem mode)
    begins_own mem (Mode.GivenRamp frame) h = begin_given_own h.1 frame
    begins_own mem Mode.Plain h = begin_own mem
    begins_own mem Mode.Ramp h = begin_own mem
    begins_own mem Mode.Resumed h = begin_own mem
    begins_own mem (Mode.Entering from label) h = begin_own mem
