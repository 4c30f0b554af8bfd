-- What writes leave as it is, and pointers that are moved by a distance.
use Rattle.std.proofs.Common.{◌≡◌, ℕ, zero, suc, ◌+◌, ◌%◌, ◌^◌, ◌<◌, ◌≤◌, Bool, true, false, not, List, [], ◌∷◌, Option, Some, None, Result, Ok, Err, refl, sym, ap, ◌∙◌, subst, arith, if◌then◌else◌, ◌&&◌, ◌||◌, ◌==◌, nat_le}
use Rattle.std.specs.Prelude.{slice_get}
use Rattle.std.proofs.Math.Nat.{mod-add-mod}
use Rattle.std.proofs.lemmas.Bool.{le-leb, leb-true}
use Rattle.run_memory.specs.Memory.{Rights, access_bytes, both, bytes_at, copied, copy, encode, is_constant, is_live, is_within, may_compare_at, on_ok, overlaps, range, rank, store, unless_constant, with_block, with_bytes, write}
use Rattle.run_memory.specs.Pointers.{moved}
use Rattle.run_memory.specs.declared.block.Byte.{Byte}
use Rattle.run_memory.specs.declared.block.MemoryBlock.{MemoryBlock}
use Rattle.run_memory.specs.declared.pointer.Access.{Access}
use Rattle.run_memory.specs.declared.pointer.Offset.{Offset}
use Rattle.run_memory.specs.declared.pointer.Pointer.{Pointer}
use Rattle.run_memory.specs.declared.pointer.Spot.{Spot}
use Rattle.run_memory.specs.declared.pointer.Value.{Value}
use Rattle.ir_base.specs.declared.cause.Cause.{Cause}
use Rattle.run_laws.specs.memory.Pointers.{Home, IsValue, home_of, moved_pointer}
use Rattle.run_laws.specs.memory.Standing.{AreBoundsKept, AreByteRights, AreNullsKept}
use Rattle.run_step.specs.Values.{element, is_in_bounds, moved_by}
use Rattle.run_laws.specs.embedded.Refilled.{AreRefilled, IsRefilled}

-- ---- memories that differ in what bytes hold

refilled_itself : (o : Option MemoryBlock) → IsRefilled o o
refilled_itself None = tt
refilled_itself (Some x) = refl

refilled_block : (m : List MemoryBlock) (k b o : ℕ) (xs : List Byte) → IsRefilled (slice_get m b) (slice_get (with_block m k (with_bytes o xs)) b)
refilled_block [] k b o xs = tt
refilled_block (x ∷ m) zero zero o xs = refl
refilled_block (x ∷ m) zero (suc b) o xs = refilled_itself (slice_get m b)
refilled_block (x ∷ m) (suc k) zero o xs = refl
refilled_block (x ∷ m) (suc k) (suc b) o xs = refilled_block m k b o xs

written_refills : (m : List MemoryBlock) (s : Spot) (xs : List Byte) → AreRefilled m (write m s xs)
written_refills m s xs = record { each = λ b. refilled_block m s.block b s.offset xs }

pub same_refills : (m : List MemoryBlock) → AreRefilled m m
same_refills m = record { each = λ b. refilled_itself (slice_get m b) }

if_refills : (m k n : List MemoryBlock) (c : Bool) → AreRefilled m k → (if c then Err Cause.Constant else Ok k) ≡ Ok n → AreRefilled m n
if_refills m k n true h e = absurd (cc)
if_refills m k n false h e = let same : k ≡ n = cc in subst (AreRefilled m) same h

store_on : (m n : List MemoryBlock) (len : ℕ) (v : Value) (r : Result Spot Cause) → on_ok (λ s. unless_constant m s (write m s (encode len v))) r ≡ Ok n → AreRefilled m n
store_on m n len v (Err c) e = absurd (cc)
store_on m n len v (Ok s) e = if_refills m (write m s (encode len v)) n (is_constant (slice_get m s.block)) (written_refills m s (encode len v)) e

pub store_refills : (rights : Rights) (m n : List MemoryBlock) (p v : Value) (what : Access) (align : ℕ) → store rights m p v what align ≡ Ok n → AreRefilled m n
store_refills rights m n p v what align e = store_on m n (access_bytes what) v (range rights m p (access_bytes what) align) e

copied_refills : (m n : List MemoryBlock) (a b : Spot) (len : ℕ) (c o : Bool) → (if c then Err Cause.Constant else if o then Err Cause.Overlap else Ok (write m a (bytes_at m b len))) ≡ Ok n → AreRefilled m n
copied_refills m n a b len true o e = absurd (cc)
copied_refills m n a b len false true e = absurd (cc)
copied_refills m n a b len false false e = let same : write m a (bytes_at m b len) ≡ n = cc in subst (AreRefilled m) same (written_refills m a (bytes_at m b len))

both_fails : (m n : List MemoryBlock) (len : ℕ) (c d : Cause) (t : Bool) → on_ok (λ (x, y). copied m x y len) (if t then Err c else Err d) ≡ Ok n → ⊥
both_fails m n len c d true e = cc
both_fails m n len c d false e = cc

copy_on : (m n : List MemoryBlock) (len : ℕ) (r s : Result Spot Cause) → on_ok (λ (x, y). copied m x y len) (both r s) ≡ Ok n → AreRefilled m n
copy_on m n len (Err c) (Err d) e = absurd (both_fails m n len c d (nat_le (rank c) (rank d)) e)
copy_on m n len (Err c) (Ok b) e = absurd (cc)
copy_on m n len (Ok a) (Err d) e = absurd (cc)
copy_on m n len (Ok a) (Ok b) e = copied_refills m n a b len (is_constant (slice_get m a.block)) (overlaps a b len) e

pub copy_refills : (rights : Rights) (m n : List MemoryBlock) (to from : Value) (len : ℕ) → copy rights m to from len ≡ Ok n → AreRefilled m n
copy_refills rights m n to from zero e = let same : m ≡ n = cc in subst (AreRefilled m) same (same_refills m)
copy_refills rights m n to from (suc len) e = copy_on m n (suc len) (range rights m to (suc len) 1) (range rights m from (suc len) 1) e

-- ---- comparisons with null, and bounds

compared_alike : (rights : Rights) → AreByteRights rights → (b : ℕ) (o o' : Option MemoryBlock) (p : Offset) → IsRefilled o o' → may_compare_at rights b o' p ≡ may_compare_at rights b o p
compared_alike rights law b None None p h = refl
compared_alike rights law b None (Some y) p h = absurd h
compared_alike rights law b (Some x) None p h = absurd h
compared_alike rights law b (Some x) (Some y) p h =
    ap (λ (z : MemoryBlock). may_compare_at rights b (Some z) p) h ∙ ap (λ (t : Bool). not (is_live x.life) || t) (law.comparable b x y.bytes p.bits)

pub nulls_kept : (rights target : Rights) (homes : List Home) (m n m' n' : List MemoryBlock) → AreByteRights rights → AreByteRights target → AreRefilled m m' → AreRefilled n n' → AreNullsKept rights target homes m n → AreNullsKept rights target homes m' n'
nulls_kept rights target homes m n m' n' law law' rm rn nulls = record {
  each = λ b o seen e.
      compared_alike target law' (home_of homes b).block (slice_get n (home_of homes b).block) (slice_get n' (home_of homes b).block) (moved o (home_of homes b).offset) (rn.each (home_of homes b).block)
      ∙ nulls.each b o seen (sym (compared_alike rights law b (slice_get m b) (slice_get m' b) o (rm.each b)) ∙ e);
}

record Old (o : Option MemoryBlock) (x : MemoryBlock) : Type 0 where
  old : MemoryBlock
  was : o ≡ Some old
  size : old.size ≡ x.size

old_of : (o o' : Option MemoryBlock) (x : MemoryBlock) → IsRefilled o o' → o' ≡ Some x → Old o x
old_of None None x h e = absurd (cc)
old_of None (Some y) x h e = absurd h
old_of (Some z) None x h e = absurd h
old_of (Some z) (Some y) x h e =
    let same : y ≡ x = cc in
    record { old = z; was = refl; size = sym (ap (λ (u : MemoryBlock). u.size) h) ∙ ap (λ (u : MemoryBlock). u.size) same }

new_of : (o o' : Option MemoryBlock) (x : MemoryBlock) → IsRefilled o o' → o ≡ Some x → Old o' x
new_of None o' x h e = absurd (cc)
new_of (Some z) None x h e = absurd h
new_of (Some z) (Some y) x h e =
    let same : z ≡ x = cc in
    record { old = y; was = refl; size = ap (λ (u : MemoryBlock). u.size) h ∙ ap (λ (u : MemoryBlock). u.size) same }

pub bounds_kept : (homes : List Home) (m n m' n' : List MemoryBlock) → AreRefilled m m' → AreRefilled n n' → AreBoundsKept homes m n → AreBoundsKept homes m' n'
bounds_kept homes m n m' n' rm rn bounds = record {
  each = λ b x seen is.
      let z = old_of (slice_get m b) (slice_get m' b) x (rm.each b) is in
      let h = bounds.each b z.old seen z.was in
      let y = new_of (slice_get n (home_of homes b).block) (slice_get n' (home_of homes b).block) h.block (rn.each (home_of homes b).block) h.there in
      record {
        block = y.old;
        there = y.was;
        fits = subst (λ (k : ℕ). (home_of homes b).offset + x.size ≤ k) (sym y.size) (subst (λ (k : ℕ). (home_of homes b).offset + k ≤ h.block.size) z.size h.fits);
        small = subst (λ (k : ℕ). k < 2 ^ 64) (sym y.size) h.small;
      };
}

-- ---- getelementptr

-- it doesn't matter which of two distances comes first
swapped : (o d e : ℕ) → ((o + d) % 2 ^ 64 + e) % 2 ^ 64 ≡ ((o + e) % 2 ^ 64 + d) % 2 ^ 64
swapped o d e =
    let s : o + d + e ≡ o + e + d = omega arith in
    mod-add-mod (o + d) (2 ^ 64) e ∙ ap (λ (n : ℕ). n % 2 ^ 64) s ∙ sym (mod-add-mod (o + e) (2 ^ 64) d)

module _ (homes : List Home) (m n : List MemoryBlock) (bounds : AreBoundsKept homes m n) where
  moved_alike : (b : ℕ) (o : Offset) (d : ℕ) → moved (moved o (home_of homes b).offset) d ≡ moved (moved o d) (home_of homes b).offset
  moved_alike b o d = ap (λ (k : ℕ). record { bits = k }) (swapped o.bits (home_of homes b).offset d)

  small_sum : (o h s : ℕ) → o ≤ s → h + s < 2 ^ 64 → (o + h) % 2 ^ 64 ≡ o + h
  small_sum o h s le lt = omega arith

  in_bounds : (b : ℕ) (o : Offset) (d : ℕ) → (home_of homes b).is_seen ≡ true → is_in_bounds (slice_get m b) (moved o d) ≡ true → is_in_bounds (slice_get n (home_of homes b).block) (moved (moved o (home_of homes b).offset) d) ≡ true
  in_bounds b o d seen e = on (slice_get m b) refl e
    where
      on : (x : Option MemoryBlock) → slice_get m b ≡ x → is_in_bounds x (moved o d) ≡ true → is_in_bounds (slice_get n (home_of homes b).block) (moved (moved o (home_of homes b).offset) d) ≡ true
      on None is e = absurd (cc)
      on (Some x) is e =
          let h = bounds.each b x seen is in
          let fits = h.fits in let small = h.small in
          let le : (o.bits + d) % 2 ^ 64 ≤ x.size = leb-true _ _ e in
          let s : ((o.bits + d) % 2 ^ 64 + (home_of homes b).offset) % 2 ^ 64 ≡ (o.bits + d) % 2 ^ 64 + (home_of homes b).offset = small_sum ((o.bits + d) % 2 ^ 64) (home_of homes b).offset x.size le (omega arith) in
          ap (λ (u : Option MemoryBlock). is_in_bounds u (moved (moved o (home_of homes b).offset) d)) h.there
          ∙ ap (λ (u : Offset). is_within h.block u) (moved_alike b o d ∙ ap (λ (k : ℕ). record { bits = k }) s)
          ∙ le-leb _ _ (add_le ((o.bits + d) % 2 ^ 64) (home_of homes b).offset x.size h.block.size le fits)
        where
          add_le : (a h s z : ℕ) → a ≤ s → h + s ≤ z → a + h ≤ z
          add_le a h s z p q = omega arith

  not_true : (b : Bool) → not b ≡ false → b ≡ true
  not_true true e = refl
  not_true false e = absurd (cc)

  test_kept : (inbounds : Bool) (b : ℕ) (o : Offset) (d : ℕ) → (home_of homes b).is_seen ≡ true → (inbounds && not (is_in_bounds (slice_get m b) (moved o d))) ≡ false → (inbounds && not (is_in_bounds (slice_get n (home_of homes b).block) (moved (moved o (home_of homes b).offset) d))) ≡ false
  test_kept false b o d seen e = refl
  test_kept true b o d seen e = ap not (in_bounds b o d seen (not_true _ e))

  null_kept : (t : Bool) → IsValue homes (if t then Value.Ptr Pointer.Null else Value.Poison) (if t then Value.Ptr Pointer.Null else Value.Poison)
  null_kept true = (tt, refl)
  null_kept false = tt

  moved_kept : (inbounds : Bool) (p q : Value) (d : ℕ) → IsValue homes p q → IsValue homes (moved_by m inbounds p d) (moved_by n inbounds q d)
  moved_kept inbounds (Value.Ptr Pointer.Null) q d h = subst (λ (u : Value). IsValue homes (moved_by m inbounds (Value.Ptr Pointer.Null) d) (moved_by n inbounds u d)) (sym h.1) (null_kept (d == 0))
  moved_kept inbounds (Value.Ptr (Pointer.Func g)) q d h = tt
  moved_kept inbounds Value.Poison q d h = tt
  moved_kept inbounds (Value.Int x) q d h = tt
  moved_kept inbounds (Value.Ptr (Pointer.At b o)) q d h =
      subst (λ (u : Value). IsValue homes (moved_by m inbounds (Value.Ptr (Pointer.At b o)) d) (moved_by n inbounds u d)) (sym h.1)
      (on (inbounds && not (is_in_bounds (slice_get m b) (moved o d))) refl)
    where
      on : (t : Bool) → (inbounds && not (is_in_bounds (slice_get m b) (moved o d))) ≡ t → IsValue homes (if t then Value.Poison else Value.Ptr (Pointer.At b (moved o d))) (moved_by n inbounds (Value.Ptr (moved_pointer homes (Pointer.At b o))) d)
      on true e = tt
      on false e = (
        h.0,
        ap (λ (t : Bool). if t then Value.Poison else Value.Ptr (Pointer.At (home_of homes b).block (moved (moved o (home_of homes b).offset) d))) (test_kept inbounds b o d h.0 e)
            ∙ ap (λ (u : Offset). Value.Ptr (Pointer.At (home_of homes b).block u)) (moved_alike b o d),
      )

  pub element_kept : (inbounds : Bool) (p q : Value) (d : Option ℕ) → IsValue homes p q → IsValue homes (element m inbounds p d) (element n inbounds q d)
  element_kept inbounds p q None h = tt
  element_kept inbounds p q (Some d) h = moved_kept inbounds p q d h
