-- Memories in which blocks are of allocators as they were before, and what holds in them still.
use Rattle.std.proofs.Common.{◌≡◌, ℕ, zero, suc, ◌<◌, ◌≤◌, inl, inr, ⊎_elim, Bool, false, not, ◌||◌, ◌==◌, List, [], ◌∷◌, length, Option, Some, None, Ok, refl, sym, ap, ◌∙◌, subst, arith}
use Rattle.std.specs.Prelude.{slice_get}
use Rattle.std.specs.Option.{option_map_or}
use Rattle.std.proofs.lemmas.Bool.{cases_eq}
use Rattle.pass_proofs.specs.ir_model.declared.module.Function.{Function}
use Rattle.pass_proofs.specs.ir_model.declared.module.Module.{Module}
use Rattle.pass_split_proof.proofs.held.Freed.{killed_ok}
use Rattle.pass_split_proof.proofs.held.Memory.{Keeps}
use Rattle.pass_split_proof.proofs.held.Moves.{ok_same}
use Rattle.pass_split_proof.proofs.states.Written.{length-changed}
use Rattle.pass_split_proof.specs.held.Kept.{IsNoHeap, is_heap_in, is_stack_in}
use Rattle.pass_split_proof.specs.own_blocks.Own.{AreMade, AreOwn, AreOwnBelow, IsMade, IsOwnActivation}
use Rattle.pass_proofs.proofs.run_laws.memory.Written.{changed_elsewhere, changed_here}
use Rattle.pass_proofs.specs.run_memory.Memory.{killed, killed_block, same_kind, with_block}
use Rattle.pass_proofs.specs.run_memory.declared.block.Kind.{Kind}
use Rattle.pass_proofs.specs.run_memory.declared.block.MemoryBlock.{MemoryBlock}
use Rattle.pass_proofs.specs.run_memory.declared.pointer.Pointer.{Pointer}
use Rattle.pass_proofs.specs.run_memory.declared.pointer.Value.{Value}
use Rattle.pass_proofs.specs.run_source.declared.state.Activation.{Activation}
use Rattle.pass_proofs.specs.run_source.declared.state.Instance.{Instance}
use Rattle.pass_proofs.specs.run_step.Step.{deallocated, without_slots}
use Rattle.pass_proofs.specs.run_step.Values.{Env}
use Rattle.pass_proofs.specs.run_step.declared.world.Slot.{Slot}

-- there are no fewer blocks, and those that there were are of allocators, or of the stack, as before
pub record SameHeaps (m k : List MemoryBlock) : Type 0 where
  pub longer : length m ≤ length k
  pub each : (b : ℕ) → b < length m → is_heap_in (slice_get k b) ≡ is_heap_in (slice_get m b)
  pub stacks : (b : ℕ) → b < length m → is_stack_in (slice_get k b) ≡ is_stack_in (slice_get m b)

pub same_heaps : (m : List MemoryBlock) → SameHeaps m m
same_heaps m = record { longer = omega arith; each = λ b lt. refl; stacks = λ b lt. refl }

pub heaps_then : (m k l : List MemoryBlock) → SameHeaps m k → SameHeaps k l → SameHeaps m l
heaps_then m k l x y = record {
  longer = chain (length m) (length k) (length l) x.longer y.longer;
  each = λ b lt. y.each b (before b (length m) (length k) lt x.longer) ∙ x.each b lt;
  stacks = λ b lt. y.stacks b (before b (length m) (length k) lt x.longer) ∙ x.stacks b lt;
}
  where
    chain : (a b c : ℕ) → a ≤ b → b ≤ c → a ≤ c
    chain a b c le ge = omega arith

    before : (b a c : ℕ) → b < a → a ≤ c → b < c
    before b a c lt le = omega arith

pub kept_heaps : (m k : List MemoryBlock) → Keeps m k → SameHeaps m k
kept_heaps m k x = record { longer = x.longer; each = λ b lt. (x.each b lt).heap; stacks = λ b lt. (x.each b lt).stack }

-- there is a block whose kind passes a test
abbrev has : (Kind → Bool) → Option MemoryBlock → Bool
has test o = option_map_or (λ (y : MemoryBlock). test y.kind) o false

-- one block is another of its kind
pub changed_heaps : (m : List MemoryBlock) (c : ℕ) (f : MemoryBlock → MemoryBlock)
    → ((u : MemoryBlock) → (f u).kind ≡ u.kind) → SameHeaps m (with_block m c f)
changed_heaps m c f kind = record {
  longer = same_long (length m) (length (with_block m c f)) (length-changed m c f);
  each = λ b lt. tested (λ k. same_kind k Kind.Allocator) b;
  stacks = λ b lt. tested (λ k. same_kind k Kind.Stack) b;
}
  where
    same_long : (a b : ℕ) → b ≡ a → a ≤ b
    same_long a b e = omega arith

    nothing : (m : List MemoryBlock) (c : ℕ) → slice_get m c ≡ None → slice_get (with_block m c f) c ≡ None
    nothing [] c e = refl
    nothing (x ∷ m) zero e = absurd (cc)
    nothing (x ∷ m) (suc c) e = nothing m c e

    at : (test : Kind → Bool) (o : Option MemoryBlock) → slice_get m c ≡ o
        → has test (slice_get (with_block m c f) c) ≡ has test (slice_get m c)
    at test None e = ap (has test) (nothing m c e) ∙ sym (ap (has test) e)
    at test (Some u) e = ap (has test) (changed_here m c f u e) ∙ ap test (kind u) ∙ sym (ap (has test) e)

    tested : (test : Kind → Bool) (b : ℕ) → has test (slice_get (with_block m c f) b) ≡ has test (slice_get m b)
    tested test b = ⊎_elim
        (λ e. subst (λ (a : ℕ). has test (slice_get (with_block m c f) a) ≡ has test (slice_get m a)) (sym e)
        (at test (slice_get m c) refl))
        (λ ne. ap (has test) (changed_elsewhere m c b f ne))
        (cases_eq b c)

pub dead_heaps : (m : List MemoryBlock) (slots : List Slot) → SameHeaps m (without_slots m slots)
dead_heaps m [] = same_heaps m
dead_heaps m (slot ∷ slots) = heaps_then m (killed m slot.block) (without_slots (killed m slot.block) slots)
    (changed_heaps m slot.block killed_block (λ u. refl)) (dead_heaps (killed m slot.block) slots)

pub freed_heaps : (m k : List MemoryBlock) (p : Value) → deallocated m p ≡ Ok k → SameHeaps m k
freed_heaps m k (Value.Ptr Pointer.Null) h = subst (SameHeaps m) (ok_same (Ok m) m k refl h) (same_heaps m)
freed_heaps m k (Value.Ptr (Pointer.At b o)) h =
    let y = killed_ok m b o k h in subst (SameHeaps m) (sym y.memory) (changed_heaps m b killed_block (λ u. refl))
freed_heaps m k (Value.Ptr (Pointer.Func f)) h = absurd (cc)
freed_heaps m k (Value.Int x) h = absurd (cc)
freed_heaps m k Value.Poison h = absurd (cc)

-- ---- what holds later

pub no_heap_later : (m k : List MemoryBlock) (b : ℕ) → SameHeaps m k → IsNoHeap m b → IsNoHeap k b
no_heap_later m k b same x = record {
  known = below b (length m) (length k) x.known same.longer;
  is = same.each b x.known ∙ x.is;
}
  where
    below : (b a c : ℕ) → b < a → a ≤ c → b < c
    below b a c lt le = omega arith

pub made_later : (m k : List MemoryBlock) (env : Env) (name : ℕ) → SameHeaps m k → IsMade m env name
    → IsMade k env name
made_later m k env name same x = record {
  block = x.block;
  offset = x.offset;
  is = x.is;
  none = no_heap_later m k x.block same x.none;
}

pub all_made_later : (f : Function) (m k : List MemoryBlock) (env : Env) (block at : ℕ) → SameHeaps m k
    → AreMade f m env block at → AreMade f k env block at
all_made_later f m k env block at same x = λ j name a lt. made_later m k env name same (x j name a lt)

pub activation_later : (c : Module) (m k : List MemoryBlock) (a : Activation) → SameHeaps m k
    → IsOwnActivation c m a → IsOwnActivation c k a
activation_later c m k a same x = record {
  mode = x.mode;
  whole = x.whole;
  made = λ j name e lt. made_later m k a.values name same (x.made j name e lt);
}

pub below_later : (c : Module) (m k : List MemoryBlock) (result : Option ℕ) (below : List Activation) → SameHeaps m k
    → AreOwnBelow c m result below → AreOwnBelow c k result below
below_later c m k result [] same x = tt
below_later c m k result (a ∷ below) same x =
    (activation_later c m k a same x.0, x.1, below_later c m k a.result below same x.2)

pub own_later : (c : Module) (m k : List MemoryBlock) (xs : List Instance) → SameHeaps m k → AreOwn c m xs
    → AreOwn c k xs
own_later c m k xs same x = λ i y e. let z = x i y e in record {
  known = below y.block (length m) (length k) z.known same.longer;
  begins = ⊎_elim (λ p. inl (p.0, same.each y.block z.known ∙ p.1))
      (λ p. inr (p.0, ap (λ (b : Bool). b || not (y.start == 0)) (same.stacks y.block z.known) ∙ p.1)) z.begins;
  coroutine = z.coroutine;
}
  where
    below : (b a c : ℕ) → b < a → a ≤ c → b < c
    below b a c lt le = omega arith
