-- A deallocation kills a block and its home alike.
use Rattle.std.proofs.Common.{◌≡◌, ℕ, ◌+◌, ◌%◌, ◌^◌, Bool, true, false, not, List, Result, Ok, Err, refl, sym, ap, subst, if◌then◌else◌, ◌&&◌, ◌==◌}
use Rattle.std.specs.Prelude.{slice_get}
use Rattle.std.proofs.lemmas.Bool.{eqb-true}
use Rattle.run_memory.specs.Memory.{Rights, is_owned, is_unkilled, killed, killed_block}
use Rattle.run_memory.specs.Pointers.{moved}
use Rattle.run_memory.specs.declared.block.Kind.{Kind}
use Rattle.run_memory.specs.declared.block.MemoryBlock.{MemoryBlock}
use Rattle.run_memory.specs.declared.pointer.Offset.{Offset}
use Rattle.run_memory.specs.declared.pointer.Pointer.{Pointer}
use Rattle.run_memory.specs.declared.pointer.Value.{Value}
use Rattle.ir_base.specs.declared.cause.Cause.{Cause}
use Rattle.run_laws.specs.memory.Pointers.{Home, IsValue, home_of}
use Rattle.run_laws.specs.memory.Standing.{AreByteRights}
use Rattle.run_step.specs.Step.{Work, deallocated, set_memory}
use Rattle.run_laws.proofs.embedded.Mirrors.{bounds_changed, dies_embedded, nulls_dead}
use Rattle.run_laws.specs.embedded.Deaths.{DiesToo, IsDeallocated, MayDie}
use Rattle.run_laws.specs.embedded.Marks.{LivesAlone}
use Rattle.run_laws.specs.embedded.Related.{AreWorks}

-- both hold
and_first : (a b : Bool) → (a && b) ≡ true → a ≡ true
and_first true b e = refl
and_first false b e = absurd (cc)

and_second : (a b : Bool) → (a && b) ≡ true → b ≡ true
and_second true b e = e
and_second false b e = absurd (cc)

-- the start of a block stands for its home's start
start_moved : (o h : ℕ) → (o == 0) ≡ true → h ≡ 0 → ((o + h) % 2 ^ 64 == 0) ≡ true
start_moved o h e is = ap (λ (p : ℕ × ℕ). (p.0 + p.1) % 2 ^ 64 == 0) (λ i. (eqb-true o 0 e i, is i))

module _ (rights target : Rights) (homes : List Home) (moves : ℕ → ℕ) (w x : Work) (law : AreByteRights rights) (law' : AreByteRights target) (works : AreWorks rights target homes moves w x) where
  abbrev m : List MemoryBlock
  m = w.world.memory

  abbrev n : List MemoryBlock
  n = x.world.memory

  abbrev Gone : Result (List MemoryBlock) Cause → Result (List MemoryBlock) Cause → Type 0
  Gone r s = IsDeallocated rights target homes moves w x r s

  abbrev killed_at : (start owned : Bool) → List MemoryBlock → ℕ → Result (List MemoryBlock) Cause
  killed_at start owned k b = if not start then Err Cause.Free else if owned then Err Cause.Owned else Ok (killed k b)

  -- a block that lives alone in its home is killed, and its home is
  pub kills_carried : (b : ℕ) → LivesAlone homes m b → AreWorks rights target homes moves (set_memory w (killed m b)) (set_memory x (killed n (home_of homes b).block))
  kills_carried b alone = record {
    world = record {
      memory = dies_embedded rights target law law' homes m n b works.world.memory alone killed_block killed_block (λ y. refl);
      nulls = nulls_dead rights target homes m n b killed_block killed_block (λ y. refl) works.world.nulls;
      bounds = bounds_changed homes m n b (home_of homes b).block killed_block killed_block (λ y. refl) (λ y. refl) works.world.bounds;
      events = works.world.events;
      answers = works.world.answers;
      allocs = works.world.allocs;
    };
    values = works.values;
  }

  module _ (b : ℕ) (dies : DiesToo homes m n b) where
    killed_alike : (start owned start' owned' : Bool) → (start ≡ true → start' ≡ true) → (owned ≡ false → owned' ≡ false) → Gone (killed_at start owned m b) (killed_at start' owned' n (home_of homes b).block)
    killed_alike false owned start' owned' h k = tt
    killed_alike true true start' owned' h k = tt
    killed_alike true false start' owned' h k = (killed n (home_of homes b).block, (λ i. killed_at (h refl i) (k refl i) n (home_of homes b).block), kills_carried b dies.alone)

    at_alike : (o : Offset) → Gone (deallocated m (Value.Ptr (Pointer.At b o))) (deallocated n (Value.Ptr (Pointer.At (home_of homes b).block (moved o (home_of homes b).offset))))
    at_alike o =
        killed_alike ((o.bits == 0) && is_unkilled Kind.Allocator (slice_get m b)) (is_owned (slice_get m b)) (((o.bits + (home_of homes b).offset) % 2 ^ 64 == 0) && is_unkilled Kind.Allocator (slice_get n (home_of homes b).block)) (is_owned (slice_get n (home_of homes b).block))
        (λ e. λ i. start_moved o.bits (home_of homes b).offset (and_first _ _ e) dies.start i && dies.unkilled (and_second (o.bits == 0) _ e) i)
        dies.free

  value_dies : (p q : Value) → IsValue homes p q → MayDie homes m n p → Gone (deallocated m p) (deallocated n q)
  value_dies (Value.Ptr (Pointer.At b o)) q h k = subst (λ (u : Value). Gone (deallocated m (Value.Ptr (Pointer.At b o))) (deallocated n u)) (sym h.1) (at_alike b k o)
  value_dies (Value.Ptr Pointer.Null) q h k = (n, ap (deallocated n) h.1, works)
  value_dies (Value.Ptr (Pointer.Func g)) q h k = tt
  value_dies (Value.Int y) q h k = tt
  value_dies Value.Poison q h k = tt

pub deallocation_carried : (rights target : Rights) (homes : List Home) (moves : ℕ → ℕ) (w x : Work) (p q : Value) → AreByteRights rights → AreByteRights target → AreWorks rights target homes moves w x → IsValue homes p q → MayDie homes w.world.memory x.world.memory p → IsDeallocated rights target homes moves w x (deallocated w.world.memory p) (deallocated x.world.memory q)
deallocation_carried rights target homes moves w x p q law law' works h k = value_dies rights target homes moves w x law law' works p q h k
