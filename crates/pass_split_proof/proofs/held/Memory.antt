-- Memories that keep the blocks of allocators that live and are owned.
use Rattle.std.proofs.Common.{◌≡◌, ℕ, zero, suc, ◌<◌, ◌≤◌, Bool, true, false, List, [], ◌∷◌, ◌++◌, length, replicate, Option, Some, None, refl, sym, ap, ◌∙◌, subst, ⊎_elim, arith, if◌then◌else◌, ◌&&◌}
use Rattle.std.specs.Prelude.{slice_get, is_some}
use Rattle.std.proofs.lemmas.Bool.{cases_eq, false≢true}
use Rattle.pass_split_proof.proofs.states.Written.{length-changed}
use Rattle.pass_split_proof.specs.held.Kept.{IsNoHeap, is_heap_in, is_kept_in, is_killed_in, is_stack_in}
use Rattle.pass_proofs.proofs.run_laws.memory.Written.{changed_elsewhere, changed_here}
use Rattle.pass_proofs.specs.run_laws.changed.Changed.{Each}
use Rattle.pass_proofs.specs.run_laws.embedded.Refilled.{AreRefilled, IsRefilled}
use Rattle.pass_proofs.specs.run_memory.Memory.{ended, is_killed, is_live, killed, killed_block, same_kind, started, with_block}
use Rattle.pass_proofs.specs.run_memory.declared.block.Byte.{Byte}
use Rattle.pass_proofs.specs.run_memory.declared.block.Kind.{Kind}
use Rattle.pass_proofs.specs.run_memory.declared.block.Life.{Life}
use Rattle.pass_proofs.specs.run_memory.declared.block.MemoryBlock.{MemoryBlock}
use Rattle.pass_proofs.specs.run_step.Step.{without_slots}
use Rattle.pass_proofs.specs.run_step.declared.world.Slot.{Slot}

-- what holds of a block later
pub record IsKeptOn (o p : Option MemoryBlock) : Type 0 where
  pub heap : is_heap_in p ≡ is_heap_in o
  pub stack : is_stack_in p ≡ is_stack_in o
  pub kept : is_heap_in o ≡ true → is_kept_in o ≡ true → is_kept_in p ≡ true
  pub gone : is_heap_in o ≡ true → is_killed_in o ≡ true → is_killed_in p ≡ true

-- there are no fewer blocks, and those there were are of allocators or of the stack as before; one that lived and was
-- owned does so still
pub record Keeps (m k : List MemoryBlock) : Type 0 where
  pub longer : length m ≤ length k
  pub each : (b : ℕ) → b < length m → IsKeptOn (slice_get m b) (slice_get k b)

pub same_on : (o : Option MemoryBlock) → IsKeptOn o o
same_on o = record { heap = refl; stack = refl; kept = λ h k. k; gone = λ h k. k }

pub keeps_same : (m : List MemoryBlock) → Keeps m m
keeps_same m = record { longer = omega arith; each = λ b lt. same_on (slice_get m b) }

pub keeps_then : (m k l : List MemoryBlock) → Keeps m k → Keeps k l → Keeps m l
keeps_then m k l x y = record {
  longer = chain (length m) (length k) (length l) x.longer y.longer;
  each = λ b lt. let p = x.each b lt in let q = y.each b (before b (length m) (length k) lt x.longer) in record {
    heap = q.heap ∙ p.heap;
    stack = q.stack ∙ p.stack;
    kept = λ h c. q.kept (p.heap ∙ h) (p.kept h c);
    gone = λ h c. q.gone (p.heap ∙ h) (p.gone h c);
  };
}
  where
    chain : (a b c : ℕ) → a ≤ b → b ≤ c → a ≤ c
    chain a b c le ge = omega arith

    before : (b a c : ℕ) → b < a → a ≤ c → b < c
    before b a c lt le = omega arith

-- ---- bytes

pub keeps_refilled : (m k : List MemoryBlock) → length k ≡ length m → AreRefilled m k → Keeps m k
keeps_refilled m k long r = record {
  longer = same_long (length m) (length k) long;
  each = λ b lt. on (slice_get m b) (slice_get k b) (r.each b);
}
  where
    same_long : (a b : ℕ) → b ≡ a → a ≤ b
    same_long a b e = omega arith

    on : (o p : Option MemoryBlock) → IsRefilled o p → IsKeptOn o p
    on None None h = same_on None
    on None (Some y) h = absurd h
    on (Some x) None h = absurd h
    on (Some x) (Some y) h = record {
      heap = ap (λ (z : MemoryBlock). same_kind z.kind Kind.Allocator) h;
      stack = ap (λ (z : MemoryBlock). same_kind z.kind Kind.Stack) h;
      kept = λ heap c. ap (λ (z : MemoryBlock). is_live z.life && is_some z.owned) h ∙ c;
      gone = λ heap c. ap (λ (z : MemoryBlock). is_killed z.life) h ∙ c;
    }

-- ---- one block more

get_front : (m : List MemoryBlock) (x : MemoryBlock) (b : ℕ) → b < length m
    → slice_get (m ++ x ∷ []) b ≡ slice_get m b
get_front [] x b lt = absurd (omega arith)
get_front (y ∷ m) x zero lt = refl
get_front (y ∷ m) x (suc b) lt = get_front m x b (omega arith)

pub get_last : (m : List MemoryBlock) (x : MemoryBlock) → slice_get (m ++ x ∷ []) (length m) ≡ Some x
get_last [] x = refl
get_last (y ∷ m) x = get_last m x

long_by_one : (m : List MemoryBlock) (x : MemoryBlock) → length (m ++ x ∷ []) ≡ suc (length m)
long_by_one [] x = refl
long_by_one (y ∷ m) x = ap suc (long_by_one m x)

pub longer_by_one : (m : List MemoryBlock) (x : MemoryBlock) → length m < length (m ++ x ∷ [])
longer_by_one m x = let e = long_by_one m x in omega (arith, e)

pub keeps_more : (m : List MemoryBlock) (x : MemoryBlock) → Keeps m (m ++ x ∷ [])
keeps_more m x = record {
  longer = let e = long_by_one m x in omega (arith, e);
  each = λ b lt. subst (IsKeptOn (slice_get m b)) (sym (get_front m x b lt)) (same_on (slice_get m b));
}

-- ---- one block is another

pub keeps_changed : (m : List MemoryBlock) (c : ℕ) (f : MemoryBlock → MemoryBlock)
    → ((u : MemoryBlock) → slice_get m c ≡ Some u → IsKeptOn (Some u) (Some (f u))) → Keeps m (with_block m c f)
keeps_changed m c f on = record {
  longer = same_long (length m) (length (with_block m c f)) (length-changed m c f);
  each = λ b lt. ⊎_elim
      (λ e. subst (λ (a : ℕ). IsKeptOn (slice_get m a) (slice_get (with_block m c f) a)) (sym e) here)
      (λ ne. subst (IsKeptOn (slice_get m b)) (sym (changed_elsewhere m c b f ne)) (same_on (slice_get m b)))
      (cases_eq b c);
}
  where
    same_long : (a b : ℕ) → b ≡ a → a ≤ b
    same_long a b e = omega arith

    at : (o : Option MemoryBlock) → slice_get m c ≡ o → IsKeptOn (slice_get m c) (slice_get (with_block m c f) c)
    at None e = subst (λ (o : Option MemoryBlock). IsKeptOn o (slice_get (with_block m c f) c)) (sym e)
        (subst (IsKeptOn None) (sym (nothing m c e)) (same_on None))
      where
        nothing : (m : List MemoryBlock) (c : ℕ) → slice_get m c ≡ None → slice_get (with_block m c f) c ≡ None
        nothing [] c e = refl
        nothing (x ∷ m) zero e = absurd (cc)
        nothing (x ∷ m) (suc c) e = nothing m c e
    at (Some u) e = subst (λ (o : Option MemoryBlock). IsKeptOn o (slice_get (with_block m c f) c)) (sym e)
        (subst (IsKeptOn (Some u)) (sym (changed_here m c f u e)) (on u e))

    here : IsKeptOn (slice_get m c) (slice_get (with_block m c f) c)
    here = at (slice_get m c) refl

-- a block that is no allocator's may be anything of its kind
pub keeps_no_heap : (m : List MemoryBlock) (c : ℕ) (f : MemoryBlock → MemoryBlock)
    → is_heap_in (slice_get m c) ≡ false
    → ((u : MemoryBlock) → (f u).kind ≡ u.kind) → Keeps m (with_block m c f)
keeps_no_heap m c f none kind = keeps_changed m c f (λ u e. record {
  heap = ap (λ (k : Kind). same_kind k Kind.Allocator) (kind u);
  stack = ap (λ (k : Kind). same_kind k Kind.Stack) (kind u);
  kept = λ h k. absurd (false≢true (sym none ∙ ap is_heap_in e ∙ h));
  gone = λ h k. absurd (false≢true (sym none ∙ ap is_heap_in e ∙ h));
})

pub started_kind : (u : MemoryBlock) → (started u).kind ≡ u.kind
started_kind u = on (is_killed u.life)
  where
    on : (b : Bool) → (if b then u else record u {
      life = Life.Live;
      bytes
          = replicate u.size Byte.Undefined;
    }).kind ≡ u.kind
    on true = refl
    on false = refl

pub ended_kind : (u : MemoryBlock) → (ended u).kind ≡ u.kind
ended_kind u = on (is_killed u.life)
  where
    on : (b : Bool) → (if b then u else record u { life = Life.Ended }).kind ≡ u.kind
    on true = refl
    on false = refl

-- ---- slots

pub no_heap_on : (m k : List MemoryBlock) (b : ℕ) → Keeps m k → IsNoHeap m b → IsNoHeap k b
no_heap_on m k b keeps x = record {
  known = below b (length m) (length k) x.known keeps.longer;
  is = (keeps.each b x.known).heap ∙ x.is;
}
  where
    below : (b a c : ℕ) → b < a → a ≤ c → b < c
    below b a c lt le = omega arith

pub slots_on : (m k : List MemoryBlock) → Keeps m k → (slots : List Slot)
    → Each (λ (slot : Slot). IsNoHeap m slot.block) slots → Each (λ (slot : Slot). IsNoHeap k slot.block) slots
slots_on m k keeps [] x = tt
slots_on m k keeps (slot ∷ slots) x = (no_heap_on m k slot.block keeps x.0, slots_on m k keeps slots x.1)

-- they die
pub keeps_dead : (m : List MemoryBlock) (slots : List Slot) → Each (λ (slot : Slot). IsNoHeap m slot.block) slots
    → Keeps m (without_slots m slots)
keeps_dead m [] x = keeps_same m
keeps_dead m (slot ∷ slots) x =
    let one = keeps_no_heap m slot.block killed_block x.0.is (λ u. refl) in
    keeps_then m (killed m slot.block) (without_slots (killed m slot.block) slots) one
    (keeps_dead (killed m slot.block) slots (slots_on m (killed m slot.block) one slots x.1))
