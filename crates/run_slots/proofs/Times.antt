-- How many slots have a block, and where blocks stand in memories that change.
use Rattle.std.proofs.Common.{◌≡◌, ◌+◌, ◌<◌, ◌≤◌, ◌⊎◌, inl, inr, ℕ, zero, suc, Bool, true, false, List, [], ◌∷◌, ◌++◌, length}
use Rattle.std.proofs.Common.{Option, Some, refl, sym, ap, ◌∙◌, subst, arith}
use Rattle.std.specs.Prelude.{if◌then◌else◌, filter, not, slice_get, slice_set, ◌==◌}
use Rattle.run_hooks.specs.run_memory.Memory.{killed, killed_block, with_block}
use Rattle.run_hooks.specs.run_memory.declared.block.MemoryBlock.{MemoryBlock}
use Rattle.run_slots.specs.Slots.{once_if, times, times_in}
use Rattle.run_hooks.specs.run_source.declared.state.Instance.{Instance}
use Rattle.run_hooks.specs.run_step.Step.{without_slots}
use Rattle.run_hooks.specs.run_step.declared.world.Slot.{Slot}

-- ---- numbers

pub equal_is : (a b : ℕ) → (a == b) ≡ true → a ≡ b
equal_is a b e = grind arith

pub not_equal : (a b : ℕ) → (a == b) ≡ false → a ≡ b → ⊥
not_equal a b e h = grind arith

pub itself : (a : ℕ) → (a == a) ≡ true
itself a = grind arith

-- ---- slots

pub times_joined : (n : ℕ) (a b : List Slot) → times n (a ++ b) ≡ times n a + times n b
times_joined n [] b = omega arith
times_joined n (s ∷ a) b = let k = times_joined n a b in omega (arith, k)

pub times_split : (n : ℕ) (p : Slot → Bool) (ss : List Slot)
    → times n (filter p ss) + times n (filter (λ s. not (p s)) ss) ≡ times n ss
times_split n p [] = omega arith
times_split n p (s ∷ ss) = on (p s) (times_split n p ss)
  where
    on : (b : Bool) → times n (filter p ss) + times n (filter (λ s. not (p s)) ss) ≡ times n ss
        → times n (if b then s ∷ filter p ss else filter p ss)
        + times n (if not b then s ∷ filter (λ s. not (p s)) ss else filter (λ s. not (p s)) ss)
        ≡ once_if (s.block == n) + times n ss
    on true k = omega (arith, k)
    on false k = omega (arith, k)

-- ---- instances

pub times_set : (n : ℕ) (xs : List Instance) (i : ℕ) (x y : Instance) → slice_get xs i ≡ Some x
    → times_in n (slice_set xs i y) + times n x.slots ≡ times_in n xs + times n y.slots
times_set n [] i x y e = absurd (cc)
times_set n (z ∷ xs) zero x y e =
    let k : z ≡ x = cc in
    let l : times n z.slots ≡ times n x.slots = ap (λ (w : Instance). times n w.slots) k in
    omega (arith, l)
times_set n (z ∷ xs) (suc i) x y e = let k = times_set n xs i x y e in omega (arith, k)

pub times_more : (n : ℕ) (xs : List Instance) (y : Instance) → times_in n (xs ++ y ∷ []) ≡ times_in n xs + times n y.slots
times_more n [] y = omega arith
times_more n (x ∷ xs) y = let k = times_more n xs y in omega (arith, k)

pub times_one : (n : ℕ) (xs : List Instance) (i : ℕ) (x : Instance) → slice_get xs i ≡ Some x
    → times n x.slots ≤ times_in n xs
times_one n [] i x e = absurd (cc)
times_one n (z ∷ xs) zero x e =
    let k : z ≡ x = cc in
    let l : times n z.slots ≡ times n x.slots = ap (λ (w : Instance). times n w.slots) k in
    omega (arith, l)
times_one n (z ∷ xs) (suc i) x e = let k = times_one n xs i x e in omega (arith, k)

-- ---- lists

pub there_below : {A : Type 0} (xs : List A) (n : ℕ) (x : A) → slice_get xs n ≡ Some x → n < length xs
there_below [] n x e = absurd (cc)
there_below (y ∷ xs) zero x e = omega arith
there_below (y ∷ xs) (suc n) x e = let k = there_below xs n x e in omega (arith, k)

pub there_at : {A : Type 0} (xs : List A) (n : ℕ) → n < length xs → (x : A) × (slice_get xs n ≡ Some x)
there_at [] n lt = absurd (omega (arith, lt))
there_at (y ∷ xs) zero lt = (y, refl)
there_at (y ∷ xs) (suc n) lt = there_at xs n (omega (arith, lt))

pub same_there : {A : Type 0} (o : Option A) (x y : A) → o ≡ Some x → o ≡ Some y → x ≡ y
same_there o x y a b = let k : Some x ≡ Some y = sym a ∙ b in cc

pub more_there : {A : Type 0} (xs : List A) (z : A) (n : ℕ) (x : A) → slice_get xs n ≡ Some x
    → slice_get (xs ++ z ∷ []) n ≡ Some x
more_there [] z n x e = absurd (cc)
more_there (y ∷ xs) z zero x e = e
more_there (y ∷ xs) z (suc n) x e = more_there xs z n x e

pub more_last : {A : Type 0} (xs : List A) (z : A) → slice_get (xs ++ z ∷ []) (length xs) ≡ Some z
more_last [] z = refl
more_last (y ∷ xs) z = more_last xs z

pub more_back : {A : Type 0} (xs : List A) (z : A) (n : ℕ) (w : A) → slice_get (xs ++ z ∷ []) n ≡ Some w
    → (slice_get xs n ≡ Some w) ⊎ ((n ≡ length xs) × (z ≡ w))
more_back [] z zero w e = let k : z ≡ w = cc in inr (refl, k)
more_back [] z (suc n) w e = absurd (cc)
more_back (y ∷ xs) z zero w e = inl e
more_back (y ∷ xs) z (suc n) w e = on (more_back xs z n w e)
  where
    on : (slice_get xs n ≡ Some w) ⊎ ((n ≡ length xs) × (z ≡ w))
        → (slice_get xs n ≡ Some w) ⊎ ((suc n ≡ suc (length xs)) × (z ≡ w))
    on (inl h) = inl h
    on (inr h) = inr (ap suc h.0, h.1)

-- ---- one block that changes

pub with_there : (m : List MemoryBlock) (b : ℕ) (f : MemoryBlock → MemoryBlock) (z : MemoryBlock)
    → slice_get m b ≡ Some z → slice_get (with_block m b f) b ≡ Some (f z)
with_there [] b f z e = absurd (cc)
with_there (x ∷ m) zero f z e = let k : x ≡ z = cc in ap (λ (w : MemoryBlock). Some (f w)) k
with_there (x ∷ m) (suc b) f z e = with_there m b f z e

pub with_other : (m : List MemoryBlock) (b : ℕ) (f : MemoryBlock → MemoryBlock) (n : ℕ) → (n ≡ b → ⊥)
    → slice_get (with_block m b f) n ≡ slice_get m n
with_other [] b f n h = refl
with_other (x ∷ m) zero f zero h = absurd (h refl)
with_other (x ∷ m) zero f (suc n) h = refl
with_other (x ∷ m) (suc b) f zero h = refl
with_other (x ∷ m) (suc b) f (suc n) h = with_other m b f n (λ e. h (ap suc e))

pub with_back : (m : List MemoryBlock) (b : ℕ) (f : MemoryBlock → MemoryBlock) (n : ℕ) (w : MemoryBlock)
    → slice_get (with_block m b f) n ≡ Some w → (z : MemoryBlock) × (slice_get m n ≡ Some z)
with_back [] b f n w e = absurd (cc)
with_back (x ∷ m) zero f zero w e = (x, refl)
with_back (x ∷ m) zero f (suc n) w e = (w, e)
with_back (x ∷ m) (suc b) f zero w e = (x, refl)
with_back (x ∷ m) (suc b) f (suc n) w e = with_back m b f n w e

-- ---- slots that die

-- a block stays as it is, or it was killed
pub data IsLeft (ss : List Slot) (n : ℕ) (z : MemoryBlock) (o : Option MemoryBlock) : Type 0 where
  Stays : times n ss ≡ 0 → o ≡ Some z → IsLeft ss n z o
  Dies : 1 ≤ times n ss → o ≡ Some (killed_block z) → IsLeft ss n z o

pub without_at : (m : List MemoryBlock) (ss : List Slot) (n : ℕ) (z : MemoryBlock) → slice_get m n ≡ Some z
    → IsLeft ss n z (slice_get (without_slots m ss) n)
without_at m [] n z e = Stays refl e
without_at m (s ∷ ss) n z e = on (s.block == n) refl (λ k y d. without_at k ss n y d)
  where
    now : (s.block == n) ≡ true → slice_get (killed m s.block) n ≡ Some (killed_block z)
    now d =
        let k : s.block ≡ n = equal_is s.block n d in
        subst (λ (b : ℕ). slice_get (killed m b) n ≡ Some (killed_block z)) (sym k)
        (with_there m n killed_block z e)

    dead : (t : Bool) → (s.block == n) ≡ t → t ≡ true
        → IsLeft ss n (killed_block z) (slice_get (without_slots (killed m s.block) ss) n)
        → IsLeft (s ∷ ss) n z (slice_get (without_slots (killed m s.block) ss) n)
    dead t d k (Stays h g) = Dies (let c : once_if (s.block == n) ≡ 1 = ap once_if (d ∙ k) in omega (arith, c)) g
    dead t d k (Dies h g) = Dies (omega (arith, h)) g

    other : (s.block == n) ≡ false → IsLeft ss n z (slice_get (without_slots (killed m s.block) ss) n)
        → IsLeft (s ∷ ss) n z (slice_get (without_slots (killed m s.block) ss) n)
    other d (Stays h g) = Stays (let c : once_if (s.block == n) ≡ 0 = ap once_if d in omega (arith, c, h)) g
    other d (Dies h g) = Dies (omega (arith, h)) g

    on : (t : Bool) → (s.block == n) ≡ t
        → ((k : List MemoryBlock) (y : MemoryBlock) → slice_get k n ≡ Some y
        → IsLeft ss n y (slice_get (without_slots k ss) n))
        → IsLeft (s ∷ ss) n z (slice_get (without_slots (killed m s.block) ss) n)
    on true d rest = dead true d refl (rest (killed m s.block) (killed_block z) (now d))
    on false d rest = other d (rest (killed m s.block) z
        (with_other m s.block killed_block n (λ k. not_equal s.block n d (sym k)) ∙ e))

pub without_back : (m : List MemoryBlock) (ss : List Slot) (n : ℕ) (w : MemoryBlock)
    → slice_get (without_slots m ss) n ≡ Some w → (z : MemoryBlock) × (slice_get m n ≡ Some z)
without_back m [] n w e = (w, e)
without_back m (s ∷ ss) n w e =
    let k = without_back (killed m s.block) ss n w e in with_back m s.block killed_block n k.0 k.1
