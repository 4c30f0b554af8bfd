-- Instances that are kept, while memory and one of them change.
use Rattle.std.proofs.Common.{◌≡◌, ◌≢◌, ℕ, zero, suc, ◌<◌, ◌≤◌, ◌⊎◌, inl, inr, true, false, List, [], ◌∷◌, ◌++◌, length, Some, refl, sym, ap, ◌∙◌, subst, ⊎_elim, arith}
use Rattle.std.specs.Prelude.{slice_get, slice_set}
use Rattle.std.proofs.lemmas.Bool.{cases_eq, cases_lt, false≢true}
use Rattle.pass_proofs.proofs.flow_solver.Lists.{set_cases}
use Rattle.pass_split_proof.proofs.held.Memory.{Keeps, slots_on}
use Rattle.pass_split_proof.proofs.states.Judged.{get_new}
use Rattle.pass_split_proof.specs.held.Kept.{AreKept, HaveSlots, IsNoHeap, is_heap_in, is_kept_in, is_killed_in}
use Rattle.run_access_worked.proofs.Begun.{get_more}
use Rattle.pass_proofs.proofs.run_laws.memory.Written.{same_some}
use Rattle.pass_proofs.specs.run_laws.changed.Changed.{Each}
use Rattle.pass_proofs.specs.run_memory.declared.block.MemoryBlock.{MemoryBlock}
use Rattle.pass_proofs.specs.run_source.State.{is_suspended}
use Rattle.pass_proofs.specs.run_source.declared.state.Activation.{Activation}
use Rattle.pass_proofs.specs.run_source.declared.state.Instance.{Instance}
use Rattle.pass_proofs.specs.run_step.declared.world.Slot.{Slot}

-- ---- memory changes

pub kept_on : (xs : List Instance) (m k : List MemoryBlock) → Keeps m k → AreKept xs m → AreKept xs k
kept_on xs m k keeps a = record {
  known = λ i x e. below x.block (length m) (length k) (a.known i x e) keeps.longer;
  kept = λ i x e unfreed start heap. let p = keeps.each x.block (a.known i x e) in let h = sym p.heap ∙ heap in
      p.kept h (a.kept i x e unfreed start h);
  gone = λ i x e freed heap. let p = keeps.each x.block (a.known i x e) in let h = sym p.heap ∙ heap in
      p.gone h (a.gone i x e freed h);
  apart = λ i j x y e f ne unfreed unfreed' start start' same heap. a.apart i j x y e f ne unfreed unfreed' start
      start'
      same (sym (keeps.each x.block (a.known i x e)).heap ∙ heap);
  unfreed = a.unfreed;
  slots = λ i x e. slots_on m k keeps x.slots (a.slots i x e);
}
  where
    below : (b a c : ℕ) → b < a → a ≤ c → b < c
    below b a c lt le = omega arith

pub have_slots_on : (m k : List MemoryBlock) → Keeps m k → (all : List Activation) → HaveSlots m all → HaveSlots k all
have_slots_on m k keeps [] x = tt
have_slots_on m k keeps (a ∷ all) x = (slots_on m k keeps a.slots x.0, have_slots_on m k keeps all x.1)

-- ---- an instance changes, and lies where it lay

module _ (xs : List Instance) (m : List MemoryBlock) (i : ℕ) (x now : Instance) (e : slice_get xs i ≡ Some x)
    (block : now.block ≡ x.block) (start : now.start ≡ x.start) (freed : now.freed ≡ x.freed)
    (awake : is_suspended now.status ≡ true → now.freed ≡ false)
    (slots : Each (λ (slot : Slot). IsNoHeap m slot.block) now.slots) (a : AreKept xs m) where
  abbrev ys : List Instance
  ys = slice_set xs i now

  -- what it was before
  record Was (j : ℕ) (z : Instance) : Type 0 where
    old : Instance
    there : slice_get xs j ≡ Some old
    block_is : z.block ≡ old.block
    start_is : z.start ≡ old.start
    freed_is : z.freed ≡ old.freed
    sleeps : is_suspended z.status ≡ true → z.freed ≡ false
    own : Each (λ (slot : Slot). IsNoHeap m slot.block) z.slots

  was : (j : ℕ) (z : Instance) → slice_get ys j ≡ Some z → Was j z
  was j z f = ⊎_elim
      (λ h. subst (Was j) (sym h.1) (record {
        old = x;
        there = ap (slice_get xs) h.0 ∙ e;
        block_is = block;
        start_is = start;
        freed_is = freed;
        sleeps = awake;
        own = slots;
      }))
      (λ h. record {
        old = z;
        there = h.0;
        block_is = refl;
        start_is = refl;
        freed_is = refl;
        sleeps = a.unfreed j z h.0;
        own = a.slots j z h.0;
      })
      (set_cases xs i j now z f)

  pub changed_kept : AreKept ys m
  changed_kept = record {
    known = λ j z f. let w = was j z f in
        subst (λ (b : ℕ). b < length m) (sym w.block_is) (a.known j w.old w.there);
    kept = λ j z f unfreed at_start heap. let w = was j z f in
        ap (λ (b : ℕ). is_kept_in (slice_get m b)) w.block_is
        ∙ a.kept j w.old w.there (sym w.freed_is ∙ unfreed) (sym w.start_is ∙ at_start)
        (ap (λ (b : ℕ). is_heap_in (slice_get m b)) (sym w.block_is) ∙ heap);
    gone = λ j z f freed' heap. let w = was j z f in
        ap (λ (b : ℕ). is_killed_in (slice_get m b)) w.block_is
        ∙ a.gone j w.old w.there (sym w.freed_is ∙ freed')
        (ap (λ (b : ℕ). is_heap_in (slice_get m b)) (sym w.block_is) ∙ heap);
    apart = λ j k z u f f' ne unfreed unfreed' at_start at_start' same heap. let w = was j z f in let v
        = was k u f' in
        a.apart j k w.old v.old w.there v.there ne (sym w.freed_is ∙ unfreed) (sym v.freed_is ∙ unfreed')
        (sym w.start_is ∙ at_start)
        (sym v.start_is ∙ at_start') (sym w.block_is ∙ same ∙ v.block_is)
        (ap (λ (b : ℕ). is_heap_in (slice_get m b)) (sym w.block_is) ∙ heap);
    unfreed = λ j z f. (was j z f).sleeps;
    slots = λ j z f. (was j z f).own;
  }

-- ---- an instance more

module _ (xs : List Instance) (x : Instance) (m : List MemoryBlock) (known : x.block < length m)
    (runs : is_suspended x.status ≡ false) (fresh : x.freed
    ≡ false) (slots : Each (λ (slot : Slot). IsNoHeap m slot.block) x.slots)
    (kept : x.start ≡ 0 → is_heap_in (slice_get m x.block) ≡ true → is_kept_in (slice_get m x.block) ≡ true)
    (alone : (i : ℕ) (y : Instance) → slice_get xs i ≡ Some y → y.freed ≡ false → x.start ≡ 0 → y.start ≡ 0
    → y.block ≡ x.block → is_heap_in (slice_get m x.block) ≡ true → ⊥) (a : AreKept xs m) where
  abbrev more : List Instance
  more = xs ++ x ∷ []

  -- one of the old ones, or the new one
  parted : (i : ℕ) (z : Instance) → slice_get more i ≡ Some z
      → (slice_get xs i ≡ Some z) ⊎ ((i ≡ length xs) × (z ≡ x))
  parted i z e = on (cases_lt i (length xs))
    where
      past : (ys : List Instance) (i : ℕ) → slice_get (ys ++ x ∷ []) i ≡ Some z → length ys < i → ⊥
      past [] zero e lt = omega arith
      past [] (suc i) e lt = cc
      past (y ∷ ys) zero e lt = omega arith
      past (y ∷ ys) (suc i) e lt = past ys i e (omega arith)

      above : (i k : ℕ) → k ≤ i → (i ≡ k → ⊥) → k < i
      above i k ge ne = ⊎_elim (λ lt. lt) (λ le. absurd (ne (omega arith))) (cases_lt k i)

      on : (i < length xs) ⊎ (length xs ≤ i) → (slice_get xs i ≡ Some z) ⊎ ((i ≡ length xs) × (z ≡ x))
      on (inl lt) = inl (sym (get_more xs x i lt) ∙ e)
      on (inr ge) = ⊎_elim
          (λ is. inr (is, same_some z x (sym e ∙ ap (slice_get more) is ∙ get_new xs x)))
          (λ ne. absurd (past xs i e (above i (length xs) ge ne)))
          (cases_eq i (length xs))

  pub more_kept : AreKept more m
  more_kept = record {
    known = λ i z e. ⊎_elim (λ f. a.known i z f)
        (λ f. subst (λ (w : Instance). w.block < length m) (sym f.1) known) (parted i z e);
    kept = λ i z e unfreed start heap. ⊎_elim (λ f. a.kept i z f unfreed start heap)
        (λ f. ap (λ (w : Instance). is_kept_in (slice_get m w.block)) f.1
        ∙ kept (sym (ap (λ (w : Instance). w.start) f.1) ∙ start)
        (sym (ap (λ (w : Instance). is_heap_in (slice_get m w.block)) f.1) ∙ heap)) (parted i z e);
    apart = λ i j z w e f ne unfreed unfreed' start start' same heap. by_both i j z w ne unfreed unfreed' start start'
        same heap (parted i z e) (parted j w f);
    gone = λ i z e freed heap. ⊎_elim (λ f. a.gone i z f freed heap)
        (λ f. absurd (false≢true (sym fresh ∙ sym (ap (λ (w : Instance). w.freed) f.1) ∙ freed))) (parted i z e);
    unfreed = λ i z e sleeps. ⊎_elim (λ f. a.unfreed i z f sleeps)
        (λ f. absurd (false≢true (sym runs ∙ sym (ap (λ (w : Instance). is_suspended w.status) f.1) ∙ sleeps)))
        (parted i z e);
    slots = λ i z e. ⊎_elim (λ f. a.slots i z f)
        (λ f. subst (λ (w : Instance). Each (λ (slot : Slot). IsNoHeap m slot.block) w.slots) (sym f.1) slots)
        (parted i z e);
  }
    where
      by_both : (i j : ℕ) (z w : Instance) → i ≢ j → z.freed ≡ false → w.freed ≡ false → z.start ≡ 0 → w.start ≡ 0
          → z.block ≡ w.block → is_heap_in (slice_get m z.block) ≡ true
          → (slice_get xs i ≡ Some z) ⊎ ((i ≡ length xs) × (z ≡ x))
          → (slice_get xs j ≡ Some w) ⊎ ((j ≡ length xs) × (w ≡ x)) → ⊥
      by_both i j z w ne unfreed unfreed' start start' same heap (inl e) (inl f)
          = a.apart i j z w e f ne unfreed unfreed' start start' same heap
      by_both i j z w ne unfreed unfreed' start start' same heap (inl e) (inr f)
          = alone i z e unfreed (sym (ap (λ (y : Instance). y.start) f.1) ∙ start') start
          (same ∙ ap (λ (y : Instance). y.block) f.1)
          (ap (λ (b : ℕ). is_heap_in (slice_get m b)) (sym (same ∙ ap (λ (y : Instance). y.block) f.1)) ∙ heap)
      by_both i j z w ne unfreed unfreed' start start' same heap (inr e) (inl f)
          = alone j w f unfreed' (sym (ap (λ (y : Instance). y.start) e.1) ∙ start) start'
          (sym same ∙ ap (λ (y : Instance). y.block) e.1)
          (ap (λ (b : ℕ). is_heap_in (slice_get m b)) (sym (ap (λ (y : Instance). y.block) e.1)) ∙ heap)
      by_both i j z w ne unfreed unfreed' start start' same heap (inr e) (inr f) = ne (e.0 ∙ sym f.0)
