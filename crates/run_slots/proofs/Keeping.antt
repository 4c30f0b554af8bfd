-- What of slots and frames stays where memories, instances and lists of slots change.
use Rattle.std.proofs.Common.{◌≡◌, ◌+◌, ◌≤◌, ◌⊎◌, inl, inr, ℕ, zero, suc, Bool, true, false, List, [], ◌∷◌, ◌++◌, length}
use Rattle.std.proofs.Common.{Some, None, refl, sym, ap, ◌∙◌, subst, arith}
use Rattle.std.specs.Prelude.{is_some, slice_get, slice_set, ◌==◌, ◌||◌}
use Rattle.run_hooks.proofs.alive.Parts.{Here, IsSet, Other, get_set}
use Rattle.run_hooks.specs.run_memory.Memory.{is_killed, killed, killed_block, same_kind, with_block}
use Rattle.run_hooks.specs.run_memory.declared.block.Kind.{Kind}
use Rattle.run_hooks.specs.run_memory.declared.block.MemoryBlock.{MemoryBlock}
use Rattle.run_slots.proofs.Blocks.{AreAlike, alloca_alike}
use Rattle.run_slots.proofs.Times.{Dies, IsLeft, Stays, equal_is, itself, more_back, more_last, more_there, not_equal}
use Rattle.run_slots.proofs.Times.{same_there, there_at, there_below, times_more, times_one, times_set}
use Rattle.run_slots.proofs.Times.{with_other, with_there, without_at, without_back}
use Rattle.run_slots.specs.Slots.{AreSlotted, IsFrameBlock, IsSlotBlock, is_alloca_block, is_killed_at, is_killed_in}
use Rattle.run_slots.specs.Slots.{once_if, times, times_in}
use Rattle.run_hooks.specs.run_source.Source.{is_over}
use Rattle.run_hooks.specs.run_source.declared.state.Instance.{Instance}
use Rattle.run_hooks.specs.run_step.Step.{without_slots}
use Rattle.run_hooks.specs.run_step.declared.world.Slot.{Slot}

killed_is : (m : List MemoryBlock) (n : ℕ) (z : MemoryBlock) → slice_get m n ≡ Some z
    → is_killed_at m n ≡ is_killed z.life
killed_is m n z e = ap is_killed_in e

-- allocas don't make the blocks of allocators
heap_made : (z : MemoryBlock) → z.kind ≡ Kind.Allocator → is_alloca_block z ≡ false
heap_made z e = ap (λ (k : Kind). same_kind k Kind.Slot || same_kind k Kind.Stack) e

no_heap : (z : MemoryBlock) → z.kind ≡ Kind.Allocator → is_alloca_block z ≡ true → ⊥
no_heap z e made = let k = heap_made z e in cc

-- the same numbers of slots
pub counted_slotted : (m : List MemoryBlock) (own new : ℕ → ℕ) (xs : List Instance) → ((n : ℕ) → own n ≡ new n)
    → AreSlotted m own xs → AreSlotted m new xs
counted_slotted m own new xs same h = subst (λ (f : ℕ → ℕ). AreSlotted m f xs) (λ i n. same n i) h

-- none more
pub none_more : (k : ℕ) → k ≡ 0 + k
none_more k = omega arith

abbrev pub with_slot : Instance → Slot → Instance
with_slot x slot = record x { slots = slot ∷ x.slots }

module _ (m : List MemoryBlock) (own : ℕ → ℕ) (xs : List Instance) (h : AreSlotted m own xs) where
  -- a slot of an instance
  pub in_instance : (i : ℕ) (x : Instance) → slice_get xs i ≡ Some x → (n : ℕ) → 1 ≤ times n x.slots
      → 1 ≤ own n + times_in n xs
  in_instance i x e n c = let k = times_one n xs i x e in omega (arith, k, c)

  -- a slot has no frame's block
  pub frame_apart : (i : ℕ) (x : Instance) → slice_get xs i ≡ Some x → (n : ℕ) → 1 ≤ own n + times_in n xs → x.block ≡ n
      → ⊥
  frame_apart i x e n c same =
      let f = h.frames i x e in
      let s = h.there n c in
      let k : f.block ≡ s.block = same_there (slice_get m n) f.block s.block
      (subst (λ (b : ℕ). slice_get m b ≡ Some f.block) same f.there) s.there in
      no_heap f.block f.heap (subst (λ (z : MemoryBlock). is_alloca_block z ≡ true) (sym k) s.made)

  -- ---- the memory

  pub alike_slotted : (k : List MemoryBlock) → AreAlike m k → AreSlotted k own xs
  alike_slotted k a = record {
    there = there;
    once = h.once;
    fresh = λ n c. let s = h.there n (let o = c in omega (arith, o)) in same_killed n s.block s.there ∙ h.fresh n c;
    listed = listed;
    over = λ i x e o n c.
        let s = h.there n (in_instance i x e n c) in same_killed n s.block s.there ∙ h.over i x e o n c;
    frames = frames;
    apart = h.apart;
  }
    where
      same_killed : (n : ℕ) (z : MemoryBlock) → slice_get m n ≡ Some z → is_killed_at k n ≡ is_killed_at m n
      same_killed n z e =
          let r = a.each n z e in
          killed_is k n r.block r.there ∙ r.alike.killed ∙ sym (killed_is m n z e)

      there : (n : ℕ) → 1 ≤ own n + times_in n xs → IsSlotBlock k n
      there n c =
          let s = h.there n c in
          let r = a.each n s.block s.there in
          record {
            block = r.block;
            there = r.there;
            made = alloca_alike s.block r.block r.alike ∙ s.made;
            free = r.alike.owned ∙ s.free;
          }

      listed : (n : ℕ) (w : MemoryBlock) → slice_get k n ≡ Some w → is_alloca_block w ≡ true
          → is_killed w.life ≡ false → 1 ≤ own n + times_in n xs
      listed n w e made lives =
          let z = there_at m n (a.new n w e made) in
          let r = a.each n z.0 z.1 in
          let same : r.block ≡ w = same_there (slice_get k n) r.block w r.there e in
          h.listed n z.0 z.1
          (sym (alloca_alike z.0 r.block r.alike)
          ∙ subst (λ (y : MemoryBlock). is_alloca_block y ≡ true) (sym same) made)
          (sym r.alike.killed ∙ subst (λ (y : MemoryBlock). is_killed y.life ≡ false) (sym same) lives)

      frames : (i : ℕ) (x : Instance) → slice_get xs i ≡ Some x → IsFrameBlock k x
      frames i x e =
          let f = h.frames i x e in
          let r = a.each x.block f.block f.there in
          record {
            block = r.block;
            there = r.there;
            heap = r.alike.kind ∙ f.heap;
            start = f.start;
            unkilled = λ u. r.alike.killed ∙ f.unkilled u;
            owned = λ u. ap is_some r.alike.owned ∙ f.owned u;
            gone = λ u. r.alike.killed ∙ f.gone u;
          }

  -- ---- one more slot of an activation

  unused : own (length m) + times_in (length m) xs ≡ 0
  unused = on (own (length m) + times_in (length m) xs) refl
    where
      on : (c : ℕ) → own (length m) + times_in (length m) xs ≡ c → c ≡ 0
      on zero e = refl
      on (suc c) e =
          let s = h.there (length m) (omega (arith, e)) in
          let k = there_below m (length m) s.block s.there in
          absurd (omega (arith, k))

  pub added_slotted : (z : MemoryBlock) → is_alloca_block z ≡ true → z.owned ≡ None → is_killed z.life ≡ false
      → AreSlotted (m ++ z ∷ []) (λ n. once_if (length m == n) + own n) xs
  added_slotted z made free lives = record {
    there = λ n c. there n c (length m == n) refl;
    once = λ n. once n (length m == n) refl;
    fresh = λ n c. fresh n c (length m == n) refl;
    listed = λ n w e own_kind live. listed n w own_kind live (more_back m z n w e);
    over = λ i x e o n c.
        let s = h.there n (in_instance i x e n c) in
        still n s.block s.there ∙ h.over i x e o n c;
    frames = frames;
    apart = h.apart;
  }
    where
      still : (n : ℕ) (y : MemoryBlock) → slice_get m n ≡ Some y → is_killed_at (m ++ z ∷ []) n ≡ is_killed_at m n
      still n y e = killed_is (m ++ z ∷ []) n y (more_there m z n y e) ∙ sym (killed_is m n y e)

      old : (n : ℕ) → (length m == n) ≡ false → 1 ≤ once_if (length m == n) + own n + times_in n xs
          → 1 ≤ own n + times_in n xs
      old n d c = let k : once_if (length m == n) ≡ 0 = ap once_if d in omega (arith, k, c)

      there : (n : ℕ) → 1 ≤ once_if (length m == n) + own n + times_in n xs → (t : Bool) → (length m == n) ≡ t
          → IsSlotBlock (m ++ z ∷ []) n
      there n c true d =
          let k : length m ≡ n = equal_is (length m) n d in
          record {
            block = z;
            there = subst (λ (b : ℕ). slice_get (m ++ z ∷ []) b ≡ Some z) k (more_last m z);
            made = made;
            free = free;
          }
      there n c false d =
          let s = h.there n (old n d c) in
          record { block = s.block; there = more_there m z n s.block s.there; made = s.made; free = s.free }

      once : (n : ℕ) (t : Bool) → (length m == n) ≡ t → once_if (length m == n) + own n + times_in n xs ≤ 1
      once n true d =
          let k : once_if (length m == n) ≡ 1 = ap once_if d in
          let same : length m ≡ n = equal_is (length m) n d in
          let none : own n + times_in n xs ≡ 0 = subst (λ (b : ℕ). own b + times_in b xs ≡ 0) same unused in
          omega (arith, k, none)
      once n false d =
          let k : once_if (length m == n) ≡ 0 = ap once_if d in
          let o = h.once n in omega (arith, k, o)

      fresh : (n : ℕ) → 1 ≤ once_if (length m == n) + own n → (t : Bool) → (length m == n) ≡ t
          → is_killed_at (m ++ z ∷ []) n ≡ false
      fresh n c true d =
          let k : length m ≡ n = equal_is (length m) n d in
          killed_is (m ++ z ∷ []) n z (subst (λ (b : ℕ). slice_get (m ++ z ∷ []) b ≡ Some z) k (more_last m z)) ∙ lives
      fresh n c false d =
          let k : once_if (length m == n) ≡ 0 = ap once_if d in
          let o : 1 ≤ own n = omega (arith, k, c) in
          let s = h.there n (omega (arith, o)) in
          still n s.block s.there ∙ h.fresh n o

      listed : (n : ℕ) (w : MemoryBlock) → is_alloca_block w ≡ true → is_killed w.life ≡ false
          → (slice_get m n ≡ Some w) ⊎ ((n ≡ length m) × (z ≡ w)) → 1 ≤ once_if (length m == n) + own n + times_in n xs
      listed n w own_kind live (inl e) = let k = h.listed n w e own_kind live in omega (arith, k)
      listed n w own_kind live (inr e) =
          let k : once_if (length m == n) ≡ 1 =
          ap once_if (subst (λ (b : ℕ). (length m == b) ≡ true) (sym e.0) (itself (length m))) in
          omega (arith, k)

      frames : (i : ℕ) (x : Instance) → slice_get xs i ≡ Some x → IsFrameBlock (m ++ z ∷ []) x
      frames i x e =
          let f = h.frames i x e in
          record {
            block = f.block;
            there = more_there m z x.block f.block f.there;
            heap = f.heap;
            start = f.start;
            unkilled = f.unkilled;
            owned = f.owned;
            gone = f.gone;
          }

  -- ---- an instance that changes, and slots that come to it

  module _ (new : ℕ → ℕ) (i : ℕ) (x y : Instance) (e : slice_get xs i ≡ Some x) (block : y.block ≡ x.block)
      (counts : (n : ℕ) → new n + times n y.slots ≡ own n + times n x.slots) where
    total : (n : ℕ) → new n + times_in n (slice_set xs i y) ≡ own n + times_in n xs
    total n =
        let k = times_set n xs i x y e in
        let c = counts n in
        let o = times_one n xs i x e in
        omega (arith, k, c, o)

    pub set_slotted : ((n : ℕ) → 1 ≤ new n → is_killed_at m n ≡ false)
        → (is_over y ≡ true → (n : ℕ) → 1 ≤ times n y.slots → is_killed_at m n ≡ true) → IsFrameBlock m y
        → AreSlotted m new (slice_set xs i y)
    set_slotted fresh over frame = record {
      there = λ n c. h.there n (subst (λ (k : ℕ). 1 ≤ k) (total n) c);
      once = λ n. subst (λ (k : ℕ). k ≤ 1) (sym (total n)) (h.once n);
      fresh = fresh;
      listed = λ n z there made lives. subst (λ (k : ℕ). 1 ≤ k) (sym (total n)) (h.listed n z there made lives);
      over = λ j z g. overs j z (get_set xs i y j z g);
      frames = λ j z g. framed j z (get_set xs i y j z g);
      apart = λ j k z w g d. aparts j k z w (get_set xs i y j z g) (get_set xs i y k w d);
    }
      where
        overs : (j : ℕ) (z : Instance) → IsSet xs i y j z → is_over z ≡ true → (n : ℕ) → 1 ≤ times n z.slots
            → is_killed_at m n ≡ true
        overs j z (Here a b) o n c =
            over (subst (λ (w : Instance). is_over w ≡ true) b o) n
            (subst (λ (w : Instance). 1 ≤ times n w.slots) b c)
        overs j z (Other a b) o n c = h.over j z b o n c

        framed : (j : ℕ) (z : Instance) → IsSet xs i y j z → IsFrameBlock m z
        framed j z (Here a b) = subst (IsFrameBlock m) (sym b) frame
        framed j z (Other a b) = h.frames j z b

        aparts : (j k : ℕ) (z w : Instance) → IsSet xs i y j z → IsSet xs i y k w → z.block ≡ w.block → j ≡ k
        aparts j k z w (Here a b) (Here c d) same = a ∙ sym c
        aparts j k z w (Here a b) (Other c d) same =
            a ∙ h.apart i k x w e d (sym block ∙ sym (ap (λ (v : Instance). v.block) b) ∙ same)
        aparts j k z w (Other a b) (Here c d) same =
            h.apart j i z x b e (same ∙ ap (λ (v : Instance). v.block) d ∙ block) ∙ sym c
        aparts j k z w (Other a b) (Other c d) same = h.apart j k z w b d same

  -- its status or marks change, and not its slots
  pub marked_slotted : (i : ℕ) (x y : Instance) → slice_get xs i ≡ Some x → y.block ≡ x.block → y.start ≡ x.start
      → y.freed ≡ x.freed → y.slots ≡ x.slots → (is_over y ≡ true → is_over x ≡ true)
      → AreSlotted m own (slice_set xs i y)
  marked_slotted i x y e block start freed slots over =
      set_slotted own i x y e block (λ n. ap (λ (ss : List Slot). own n + times n ss) slots) h.fresh
      (λ o n c. h.over i x e (over o) n (subst (λ (ss : List Slot). 1 ≤ times n ss) slots c))
      (record {
        block = f.block;
        there = ap (slice_get m) block ∙ f.there;
        heap = f.heap;
        start = start ∙ f.start;
        unkilled = λ u. f.unkilled (sym freed ∙ u);
        owned = λ u. f.owned (sym freed ∙ u);
        gone = λ u. f.gone (sym freed ∙ u);
      })
    where
      f : IsFrameBlock m x
      f = h.frames i x e

  -- a dead slot that nobody has comes to an instance
  pub taken_slotted : (i : ℕ) (x : Instance) (slot : Slot) → slice_get xs i ≡ Some x → IsSlotBlock m slot.block
      → is_killed_at m slot.block ≡ true → own slot.block + times_in slot.block xs ≡ 0
      → AreSlotted m own (slice_set xs i (record x { slots = slot ∷ x.slots }))
  taken_slotted i x slot e made dead none = record {
    there = λ n c. there n c (slot.block == n) refl;
    once = λ n. once n (slot.block == n) refl;
    fresh = h.fresh;
    listed = λ n z g own_kind lives.
        let k = h.listed n z g own_kind lives in
        let a = total n in
        omega (arith, k, a);
    over = λ j z g. overs j z (get_set xs i (with_slot x slot) j z g);
    frames = λ j z g. framed j z (get_set xs i (with_slot x slot) j z g);
    apart = λ j k z w g d. aparts j k z w (get_set xs i (with_slot x slot) j z g) (get_set xs i (with_slot x slot) k w d);
  }
    where
      total : (n : ℕ) → times_in n (slice_set xs i (with_slot x slot)) ≡ times_in n xs + once_if (slot.block == n)
      total n = let a = times_set n xs i x (with_slot x slot) e in omega (arith, a)

      there : (n : ℕ) → 1 ≤ own n + times_in n (slice_set xs i (with_slot x slot)) → (t : Bool) → (slot.block == n) ≡ t
          → IsSlotBlock m n
      there n c true d = subst (IsSlotBlock m) (equal_is slot.block n d) made
      there n c false d =
          let a = total n in
          let b : once_if (slot.block == n) ≡ 0 = ap once_if d in
          h.there n (omega (arith, a, b, c))

      once : (n : ℕ) (t : Bool) → (slot.block == n) ≡ t → own n + times_in n (slice_set xs i (with_slot x slot)) ≤ 1
      once n true d =
          let a = total n in
          let b : once_if (slot.block == n) ≡ 1 = ap once_if d in
          let o : own n + times_in n xs ≡ 0 =
          subst (λ (k : ℕ). own k + times_in k xs ≡ 0) (equal_is slot.block n d) none in
          omega (arith, a, b, o)
      once n false d =
          let a = total n in
          let b : once_if (slot.block == n) ≡ 0 = ap once_if d in
          let o = h.once n in
          omega (arith, a, b, o)

      own_dead : (n : ℕ) → is_over x ≡ true → 1 ≤ times n (slot ∷ x.slots) → (t : Bool) → (slot.block == n) ≡ t
          → is_killed_at m n ≡ true
      own_dead n o c true d = subst (λ (k : ℕ). is_killed_at m k ≡ true) (equal_is slot.block n d) dead
      own_dead n o c false d =
          let b : once_if (slot.block == n) ≡ 0 = ap once_if d in h.over i x e o n (omega (arith, b, c))

      overs : (j : ℕ) (z : Instance) → IsSet xs i (with_slot x slot) j z → is_over z ≡ true → (n : ℕ) → 1 ≤ times n z.slots
          → is_killed_at m n ≡ true
      overs j z (Here a b) o n c =
          own_dead n (subst (λ (w : Instance). is_over w ≡ true) b o)
          (subst (λ (w : Instance). 1 ≤ times n w.slots) b c) (slot.block == n) refl
      overs j z (Other a b) o n c = h.over j z b o n c

      same_frame : IsFrameBlock m x → IsFrameBlock m (with_slot x slot)
      same_frame f = record {
        block = f.block;
        there = f.there;
        heap = f.heap;
        start = f.start;
        unkilled = f.unkilled;
        owned = f.owned;
        gone = f.gone;
      }

      framed : (j : ℕ) (z : Instance) → IsSet xs i (with_slot x slot) j z → IsFrameBlock m z
      framed j z (Here a b) = subst (IsFrameBlock m) (sym b) (same_frame (h.frames i x e))
      framed j z (Other a b) = h.frames j z b

      aparts : (j k : ℕ) (z w : Instance) → IsSet xs i (with_slot x slot) j z → IsSet xs i (with_slot x slot) k w → z.block ≡ w.block → j ≡ k
      aparts j k z w (Here a b) (Here c d) same = a ∙ sym c
      aparts j k z w (Here a b) (Other c d) same =
          a ∙ h.apart i k x w e d (sym (ap (λ (v : Instance). v.block) b) ∙ same)
      aparts j k z w (Other a b) (Here c d) same =
          h.apart j i z x b e (same ∙ ap (λ (v : Instance). v.block) d) ∙ sym c
      aparts j k z w (Other a b) (Other c d) same = h.apart j k z w b d same

  -- ---- slots of an activation die

  pub dead_slotted : (new : ℕ → ℕ) (ss : List Slot) → ((n : ℕ) → own n ≡ times n ss + new n)
      → AreSlotted (without_slots m ss) new xs
  dead_slotted new ss counts = record {
    there = there;
    once = λ n. let k = counts n in let o = h.once n in omega (arith, k, o);
    fresh = λ n c.
        let k = counts n in
        let s = h.there n (omega (arith, k, c)) in
        kept n c s.block s.there ∙ h.fresh n (omega (arith, k, c));
    listed = listed;
    over = λ i x e o n c.
        let k = in_instance i x e n c in
        let s = h.there n k in
        dies n s.block s.there (without_at m ss n s.block s.there) (h.over i x e o n c);
    frames = frames;
    apart = h.apart;
  }
    where
      none : (n : ℕ) → 1 ≤ new n + times_in n xs → times n ss ≡ 0
      none n c = let k = counts n in let o = h.once n in omega (arith, k, o, c)

      stays : (n : ℕ) (z : MemoryBlock) → times n ss ≡ 0 → IsLeft ss n z (slice_get (without_slots m ss) n)
          → slice_get (without_slots m ss) n ≡ Some z
      stays n z zero_times (Stays a b) = b
      stays n z zero_times (Dies a b) = absurd (omega (arith, a, zero_times))

      kept : (n : ℕ) → 1 ≤ new n → (z : MemoryBlock) → slice_get m n ≡ Some z
          → is_killed_at (without_slots m ss) n ≡ is_killed_at m n
      kept n c z e =
          killed_is (without_slots m ss) n z (stays n z (none n (omega (arith, c))) (without_at m ss n z e))
          ∙ sym (killed_is m n z e)

      dies : (n : ℕ) (z : MemoryBlock) → slice_get m n ≡ Some z → IsLeft ss n z (slice_get (without_slots m ss) n)
          → is_killed_at m n ≡ true → is_killed_at (without_slots m ss) n ≡ true
      dies n z e (Stays a b) k = killed_is (without_slots m ss) n z b ∙ sym (killed_is m n z e) ∙ k
      dies n z e (Dies a b) k = killed_is (without_slots m ss) n (killed_block z) b

      there : (n : ℕ) → 1 ≤ new n + times_in n xs → IsSlotBlock (without_slots m ss) n
      there n c =
          let k = counts n in
          let s = h.there n (omega (arith, k, c)) in
          record {
            block = s.block;
            there = stays n s.block (none n c) (without_at m ss n s.block s.there);
            made = s.made;
            free = s.free;
          }

      listed : (n : ℕ) (w : MemoryBlock) → slice_get (without_slots m ss) n ≡ Some w → is_alloca_block w ≡ true
          → is_killed w.life ≡ false → 1 ≤ new n + times_in n xs
      listed n w e made lives =
          let z = without_back m ss n w e in on z.0 z.1 (without_at m ss n z.0 z.1)
        where
          on : (z : MemoryBlock) → slice_get m n ≡ Some z → IsLeft ss n z (slice_get (without_slots m ss) n)
              → 1 ≤ new n + times_in n xs
          on z d (Stays a b) =
              let same : z ≡ w = same_there (slice_get (without_slots m ss) n) z w b e in
              let k = h.listed n z d (subst (λ (y : MemoryBlock). is_alloca_block y ≡ true) (sym same) made)
              (subst (λ (y : MemoryBlock). is_killed y.life ≡ false) (sym same) lives) in
              let c = counts n in
              omega (arith, k, c, a)
          on z d (Dies a b) =
              let same : killed_block z ≡ w = same_there (slice_get (without_slots m ss) n) (killed_block z) w b e in
              let k : true ≡ false = subst (λ (y : MemoryBlock). is_killed y.life ≡ false) (sym same) lives in
              absurd (cc)

      frames : (i : ℕ) (x : Instance) → slice_get xs i ≡ Some x → IsFrameBlock (without_slots m ss) x
      frames i x e =
          let f = h.frames i x e in
          record {
            block = f.block;
            there = on f.block f.there (without_at m ss x.block f.block f.there);
            heap = f.heap;
            start = f.start;
            unkilled = f.unkilled;
            owned = f.owned;
            gone = f.gone;
          }
        where
          on : (z : MemoryBlock) → slice_get m x.block ≡ Some z
              → IsLeft ss x.block z (slice_get (without_slots m ss) x.block)
              → slice_get (without_slots m ss) x.block ≡ Some z
          on z d (Stays a b) = b
          on z d (Dies a b) =
              let c = counts x.block in
              absurd (frame_apart i x e x.block (omega (arith, a, c)) refl)

  -- ---- an instance is over

  -- in the memory k its slots were killed, its frame's block is as told, and each other block is as it was
  pub over_slotted : (k : List MemoryBlock) (i : ℕ) (x y : Instance) → slice_get xs i ≡ Some x
      → y.block ≡ x.block → y.slots ≡ x.slots → IsFrameBlock k y
      → ((n : ℕ) (z : MemoryBlock) → (n ≡ x.block → ⊥) → slice_get m n ≡ Some z → IsLeft x.slots n z (slice_get k n))
      → ((n : ℕ) (w : MemoryBlock) → slice_get k n ≡ Some w → (z : MemoryBlock) × (slice_get m n ≡ Some z))
      → AreSlotted k own (slice_set xs i y)
  over_slotted k i x y e block slots frame at back = record {
    there = there;
    once = λ n. subst (λ (c : ℕ). c ≤ 1) (sym (total n)) (h.once n);
    fresh = fresh;
    listed = listed;
    over = λ j z g. overs j z (get_set xs i y j z g);
    frames = λ j z g. framed j z (get_set xs i y j z g);
    apart = λ j l z w g d. aparts j l z w (get_set xs i y j z g) (get_set xs i y l w d);
  }
    where
      total : (n : ℕ) → own n + times_in n (slice_set xs i y) ≡ own n + times_in n xs
      total n =
          let a = times_set n xs i x y e in
          let b : times n y.slots ≡ times n x.slots = ap (times n) slots in
          omega (arith, a, b)

      apart_from : (n : ℕ) → 1 ≤ own n + times_in n xs → n ≡ x.block → ⊥
      apart_from n c same = frame_apart i x e n c (sym same)

      there : (n : ℕ) → 1 ≤ own n + times_in n (slice_set xs i y) → IsSlotBlock k n
      there n c = on s.block s.there s.made s.free (at n s.block (apart_from n old) s.there)
        where
          old : 1 ≤ own n + times_in n xs
          old = subst (λ (b : ℕ). 1 ≤ b) (total n) c

          s : IsSlotBlock m n
          s = h.there n old

          on : (z : MemoryBlock) → slice_get m n ≡ Some z → is_alloca_block z ≡ true → z.owned ≡ None
              → IsLeft x.slots n z (slice_get k n) → IsSlotBlock k n
          on z d made free (Stays a b) = record { block = z; there = b; made = made; free = free }
          on z d made free (Dies a b) = record { block = killed_block z; there = b; made = made; free = refl }

      fresh : (n : ℕ) → 1 ≤ own n → is_killed_at k n ≡ false
      fresh n c = on s.block s.there (at n s.block (apart_from n (omega (arith, c))) s.there)
        where
          s : IsSlotBlock m n
          s = h.there n (omega (arith, c))

          on : (z : MemoryBlock) → slice_get m n ≡ Some z → IsLeft x.slots n z (slice_get k n)
              → is_killed_at k n ≡ false
          on z d (Stays a b) = killed_is k n z b ∙ sym (killed_is m n z d) ∙ h.fresh n c
          on z d (Dies a b) =
              let o = h.once n in let t = times_one n xs i x e in absurd (omega (arith, a, o, t, c))

      listed : (n : ℕ) (w : MemoryBlock) → slice_get k n ≡ Some w → is_alloca_block w ≡ true
          → is_killed w.life ≡ false → 1 ≤ own n + times_in n (slice_set xs i y)
      listed n w g made lives =
          let z = back n w g in on z.0 z.1 (at n z.0 away z.1)
        where
          away : n ≡ x.block → ⊥
          away same =
              let f : frame.block ≡ w = same_there (slice_get k n) frame.block w
              (subst (λ (b : ℕ). slice_get k b ≡ Some frame.block) (block ∙ sym same) frame.there) g in
              no_heap frame.block frame.heap
              (subst (λ (v : MemoryBlock). is_alloca_block v ≡ true) (sym f) made)

          on : (z : MemoryBlock) → slice_get m n ≡ Some z → IsLeft x.slots n z (slice_get k n)
              → 1 ≤ own n + times_in n (slice_set xs i y)
          on z d (Stays a b) =
              let same : z ≡ w = same_there (slice_get k n) z w b g in
              subst (λ (c : ℕ). 1 ≤ c) (sym (total n))
              (h.listed n z d (subst (λ (v : MemoryBlock). is_alloca_block v ≡ true) (sym same) made)
              (subst (λ (v : MemoryBlock). is_killed v.life ≡ false) (sym same) lives))
          on z d (Dies a b) =
              let same : killed_block z ≡ w = same_there (slice_get k n) (killed_block z) w b g in
              let no : true ≡ false = subst (λ (v : MemoryBlock). is_killed v.life ≡ false) (sym same) lives in
              absurd (cc)

      -- whatever was killed stays so, and its slots were killed
      dead : (n : ℕ) → 1 ≤ own n + times_in n xs → is_killed_at m n ≡ true → is_killed_at k n ≡ true
      dead n c d = on s.block s.there (at n s.block (apart_from n c) s.there)
        where
          s : IsSlotBlock m n
          s = h.there n c

          on : (z : MemoryBlock) → slice_get m n ≡ Some z → IsLeft x.slots n z (slice_get k n)
              → is_killed_at k n ≡ true
          on z g (Stays a b) = killed_is k n z b ∙ sym (killed_is m n z g) ∙ d
          on z g (Dies a b) = killed_is k n (killed_block z) b

      own_dead : (n : ℕ) → 1 ≤ times n x.slots → is_killed_at k n ≡ true
      own_dead n c = on s.block (at n s.block (apart_from n (in_instance i x e n c)) s.there)
        where
          s : IsSlotBlock m n
          s = h.there n (in_instance i x e n c)

          on : (z : MemoryBlock) → IsLeft x.slots n z (slice_get k n) → is_killed_at k n ≡ true
          on z (Stays a b) = absurd (omega (arith, a, c))
          on z (Dies a b) = killed_is k n (killed_block z) b

      overs : (j : ℕ) (z : Instance) → IsSet xs i y j z → is_over z ≡ true → (n : ℕ) → 1 ≤ times n z.slots
          → is_killed_at k n ≡ true
      overs j z (Here a b) o n c =
          own_dead n (subst (λ (ss : List Slot). 1 ≤ times n ss) (ap (λ (w : Instance). w.slots) b ∙ slots) c)
      overs j z (Other a b) o n c = dead n (in_instance j z b n c) (h.over j z b o n c)

      framed : (j : ℕ) (z : Instance) → IsSet xs i y j z → IsFrameBlock k z
      framed j z (Here a b) = subst (IsFrameBlock k) (sym b) frame
      framed j z (Other a b) =
          let f = h.frames j z b in
          record {
            block = f.block;
            there = on f.block f.there (at z.block f.block (λ same. a (h.apart j i z x b e same)) f.there);
            heap = f.heap;
            start = f.start;
            unkilled = f.unkilled;
            owned = f.owned;
            gone = f.gone;
          }
        where
          on : (w : MemoryBlock) → slice_get m z.block ≡ Some w → IsLeft x.slots z.block w (slice_get k z.block)
              → slice_get k z.block ≡ Some w
          on w d (Stays c g) = g
          on w d (Dies c g) = absurd (frame_apart j z b z.block (in_instance i x e z.block c) refl)

      aparts : (j l : ℕ) (z w : Instance) → IsSet xs i y j z → IsSet xs i y l w → z.block ≡ w.block → j ≡ l
      aparts j l z w (Here a b) (Here c d) same = a ∙ sym c
      aparts j l z w (Here a b) (Other c d) same =
          a ∙ h.apart i l x w e d (sym block ∙ sym (ap (λ (v : Instance). v.block) b) ∙ same)
      aparts j l z w (Other a b) (Here c d) same =
          h.apart j i z x b e (same ∙ ap (λ (v : Instance). v.block) d ∙ block) ∙ sym c
      aparts j l z w (Other a b) (Other c d) same = h.apart j l z w b d same

  -- ---- a block of an allocator that is no frame goes, or becomes a frame

  module _ (b : ℕ) (z : MemoryBlock) (e : slice_get m b ≡ Some z) (heap : z.kind ≡ Kind.Allocator)
      (lives : is_killed z.life ≡ false) (free : is_some z.owned ≡ false) where
    no_slot : (n : ℕ) → 1 ≤ own n + times_in n xs → n ≡ b → ⊥
    no_slot n c same =
        let s = h.there n c in
        let k : s.block ≡ z = same_there (slice_get m n) s.block z s.there
        (subst (λ (a : ℕ). slice_get m a ≡ Some z) (sym same) e) in
        no_heap z heap (subst (λ (y : MemoryBlock). is_alloca_block y ≡ true) k s.made)

    -- one that isn't freed owns its block, and another one's was killed
    pub no_frame : (i : ℕ) (x : Instance) → slice_get xs i ≡ Some x → x.block ≡ b → ⊥
    no_frame i x g same = on x.freed refl
      where
        f : IsFrameBlock m x
        f = h.frames i x g

        k : f.block ≡ z
        k = same_there (slice_get m b) f.block z (subst (λ (a : ℕ). slice_get m a ≡ Some f.block) same f.there) e

        on : (t : Bool) → x.freed ≡ t → ⊥
        on true d =
            let no : is_killed z.life ≡ true =
            subst (λ (y : MemoryBlock). is_killed y.life ≡ true) k (f.gone d) in cc
        on false d =
            let no : is_some z.owned ≡ true = subst (λ (y : MemoryBlock). is_some y.owned ≡ true) k (f.owned d) in cc

    module _ (f : MemoryBlock → MemoryBlock) (kind : (f z).kind ≡ Kind.Allocator) where
      abbrev k : List MemoryBlock
      k = with_block m b f

      same_at : (n : ℕ) → (n ≡ b → ⊥) → slice_get (with_block m b f) n ≡ slice_get m n
      same_at n away = with_other m b f n away

      killed_same : (n : ℕ) → (n ≡ b → ⊥) → is_killed_at (with_block m b f) n ≡ is_killed_at m n
      killed_same n away = ap is_killed_in (same_at n away)

      pub heap_slotted : AreSlotted (with_block m b f) own xs
      heap_slotted = record {
        there = λ n c.
            let s = h.there n c in
            record { block = s.block; there = same_at n (no_slot n c) ∙ s.there; made = s.made; free = s.free };
        once = h.once;
        fresh = λ n c. killed_same n (no_slot n (omega (arith, c))) ∙ h.fresh n c;
        listed = listed;
        over = λ i x g o n c. killed_same n (no_slot n (in_instance i x g n c)) ∙ h.over i x g o n c;
        frames = λ i x g.
            let r = h.frames i x g in
            record {
              block = r.block;
              there = same_at x.block (no_frame i x g) ∙ r.there;
              heap = r.heap;
              start = r.start;
              unkilled = r.unkilled;
              owned = r.owned;
              gone = r.gone;
            };
        apart = h.apart;
      }
        where
          listed : (n : ℕ) (w : MemoryBlock) → slice_get (with_block m b f) n ≡ Some w → is_alloca_block w ≡ true
              → is_killed w.life ≡ false → 1 ≤ own n + times_in n xs
          listed n w g made live = on (n == b) refl
            where
              on : (t : Bool) → (n == b) ≡ t → 1 ≤ own n + times_in n xs
              on true d =
                  let same : n ≡ b = equal_is n b d in
                  let is : f z ≡ w = same_there (slice_get (with_block m b f) n) (f z) w
                  (subst (λ (a : ℕ). slice_get (with_block m b f) a ≡ Some (f z)) (sym same) (with_there m b f z e)) g in
                  absurd (no_heap (f z) kind (subst (λ (y : MemoryBlock). is_alloca_block y ≡ true) (sym is) made))
              on false d = h.listed n w (sym (same_at n (not_equal n b d)) ∙ g) made live

      -- a new instance begins there, which has no slots yet
      pub begun_slotted : (y : Instance) → y.block ≡ b → y.slots ≡ [] → y.freed ≡ false → y.start ≡ 0
          → is_killed (f z).life ≡ false → is_some (f z).owned ≡ true
          → AreSlotted (with_block m b f) own (xs ++ y ∷ [])
      begun_slotted y block slots unfreed start live owned = record {
        there = λ n c. heap_slotted.there n (subst (λ (a : ℕ). 1 ≤ own n + a) (same n) c);
        once = λ n. subst (λ (a : ℕ). own n + a ≤ 1) (sym (same n)) (heap_slotted.once n);
        fresh = heap_slotted.fresh;
        listed = λ n w g made lives. subst (λ (a : ℕ). 1 ≤ own n + a) (sym (same n))
            (heap_slotted.listed n w g made lives);
        over = λ i x g. overs i x (more_back xs y i x g);
        frames = λ i x g. framed i x (more_back xs y i x g);
        apart = λ i j x w g d. aparts i j x w (more_back xs y i x g) (more_back xs y j w d);
      }
        where
          same : (n : ℕ) → times_in n (xs ++ y ∷ []) ≡ times_in n xs
          same n =
              let a = times_more n xs y in
              let c : times n y.slots ≡ 0 = ap (times n) slots in
              omega (arith, a, c)

          overs : (i : ℕ) (x : Instance) → (slice_get xs i ≡ Some x) ⊎ ((i ≡ length xs) × (y ≡ x))
              → is_over x ≡ true → (n : ℕ) → 1 ≤ times n x.slots → is_killed_at (with_block m b f) n ≡ true
          overs i x (inl g) o n c = heap_slotted.over i x g o n c
          overs i x (inr g) o n c =
              let a : times n x.slots ≡ 0 = ap (λ (w : Instance). times n w.slots) (sym g.1) ∙ ap (times n) slots in
              absurd (omega (arith, a, c))

          framed : (i : ℕ) (x : Instance) → (slice_get xs i ≡ Some x) ⊎ ((i ≡ length xs) × (y ≡ x))
              → IsFrameBlock (with_block m b f) x
          framed i x (inl g) = heap_slotted.frames i x g
          framed i x (inr g) = subst (IsFrameBlock (with_block m b f)) g.1 (record {
            block = f z;
            there = ap (slice_get (with_block m b f)) block ∙ with_there m b f z e;
            heap = kind;
            start = start;
            unkilled = λ u. live;
            owned = λ u. owned;
            gone = λ u. absurd (cc);
          })

          aparts : (i j : ℕ) (x w : Instance) → (slice_get xs i ≡ Some x) ⊎ ((i ≡ length xs) × (y ≡ x))
              → (slice_get xs j ≡ Some w) ⊎ ((j ≡ length xs) × (y ≡ w)) → x.block ≡ w.block → i ≡ j
          aparts i j x w (inl g) (inl d) k = h.apart i j x w g d k
          aparts i j x w (inl g) (inr d) k =
              absurd (no_frame i x g (k ∙ sym (ap (λ (v : Instance). v.block) d.1) ∙ block))
          aparts i j x w (inr g) (inl d) k =
              absurd (no_frame j w d (sym k ∙ sym (ap (λ (v : Instance). v.block) g.1) ∙ block))
          aparts i j x w (inr g) (inr d) k = g.0 ∙ sym d.0
