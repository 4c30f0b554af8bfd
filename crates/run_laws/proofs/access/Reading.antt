-- A step does the same where bytes of blocks differ that it doesn't access.
use Rattle.std.proofs.Common.{◌≡◌, ℕ, zero, suc, Bool, true, false, not, List, [], ◌∷◌, ◌++◌, length, take, drop, Option, Some, None, Result, Ok, Err, refl, sym, ap, ◌∙◌, subst, ⊎_elim, if◌then◌else◌, ◌&&◌, ◌||◌, ◌==◌, nat_le}
use Rattle.std.specs.Prelude.{slice_get, option_map}
use Rattle.run_memory.proofs.Found.{found}
use Rattle.run_memory.specs.Memory.{Rights, access_bytes, both, bytes_at, bytes_in, check, compare, copied, copy, decode, encode, fresh, is_compared, is_constant, is_inside, is_live, is_within, load, may_compare_at, on_ok, overlaps, range, range_at, rank, store, unless_constant, with_block, write}
use Rattle.run_memory.specs.Pointers.{same_pointer, moved}
use Rattle.run_memory.specs.declared.block.Byte.{Byte}
use Rattle.run_memory.specs.declared.block.Kind.{Kind}
use Rattle.run_memory.specs.declared.block.MemoryBlock.{MemoryBlock}
use Rattle.run_memory.specs.declared.pointer.Access.{Access}
use Rattle.run_memory.specs.declared.pointer.Offset.{Offset}
use Rattle.run_memory.specs.declared.pointer.Pointer.{Pointer}
use Rattle.run_memory.specs.declared.pointer.Spot.{Spot}
use Rattle.run_memory.specs.declared.pointer.Value.{Value}
use Rattle.ir_base.specs.declared.cause.Cause.{Cause}
use Rattle.std.proofs.lemmas.Bool.{cases_eq}
use Rattle.run_laws.proofs.memory.Written.{changed_elsewhere}
use Rattle.run_laws.specs.memory.Standing.{AreByteRights}
use Rattle.run_step.specs.Values.{element, is_in_bounds, moved_by}
use Rattle.run_laws.specs.access.Accessed.{by_copy, led_into}
use Rattle.run_laws.specs.access.Reading.{AreSame}
use Rattle.run_laws.specs.embedded.Refilled.{AreRefilled, IsRefilled}

-- ---- what is asked of a block's size, life and rights

module _ (rights : Rights) (law : AreByteRights rights) (m k : List MemoryBlock) (refilled : AreRefilled m k) where
  may_same : (b : ℕ) (o o' : Option MemoryBlock) (p : Offset) → IsRefilled o o' → may_compare_at rights b o' p ≡ may_compare_at rights b o p
  may_same b None None p h = refl
  may_same b None (Some y) p h = absurd h
  may_same b (Some x) None p h = absurd h
  may_same b (Some x) (Some y) p h = ap (λ (z : MemoryBlock). may_compare_at rights b (Some z) p) h ∙ ap (λ (t : Bool). not (is_live x.life) || t) (law.comparable b x y.bytes p.bits)

  compared_same : (b c : ℕ) (o p : Offset) (x x' y y' : Option MemoryBlock) → IsRefilled x x' → IsRefilled y y' → is_compared rights b o c p x' y' ≡ is_compared rights b o c p x y
  compared_same b c o p None None y y' h g = refl
  compared_same b c o p None (Some z) y y' h g = absurd h
  compared_same b c o p (Some z) None y y' h g = absurd h
  compared_same b c o p (Some z) (Some z') None None h g = refl
  compared_same b c o p (Some z) (Some z') None (Some u) h g = absurd g
  compared_same b c o p (Some z) (Some z') (Some u) None h g = absurd g
  compared_same b c o p (Some z) (Some z') (Some u) (Some u') h g =
      ap (λ (q : MemoryBlock × MemoryBlock). is_compared rights b o c p (Some q.0) (Some q.1)) (λ i. (h i, g i))
      ∙ (λ i. is_live z.life && is_live u.life && (not (is_live z.life) || law.comparable b z z'.bytes o.bits i) && (not (is_live u.life) || law.comparable c u u'.bytes p.bits i) && (if b == c then is_within z o && is_within u p else is_inside z o && is_inside u p))

  pub compare_same : (v w : Value) → compare rights k v w ≡ compare rights m v w
  compare_same (Value.Ptr Pointer.Null) (Value.Ptr Pointer.Null) = refl
  compare_same (Value.Ptr Pointer.Null) (Value.Ptr (Pointer.Func g)) = refl
  compare_same (Value.Ptr (Pointer.Func f)) (Value.Ptr Pointer.Null) = refl
  compare_same (Value.Ptr Pointer.Null) (Value.Ptr (Pointer.At c p)) = ap (λ (t : Bool). check t Cause.Compare (Ok false)) (may_same c (slice_get m c) (slice_get k c) p (refilled.each c))
  compare_same (Value.Ptr (Pointer.At b o)) (Value.Ptr Pointer.Null) = ap (λ (t : Bool). check t Cause.Compare (Ok false)) (may_same b (slice_get m b) (slice_get k b) o (refilled.each b))
  compare_same (Value.Ptr (Pointer.At b o)) (Value.Ptr (Pointer.At c p)) =
      ap (λ (t : Bool). check t Cause.Compare (Ok (same_pointer (Pointer.At b o) (Pointer.At c p)))) (compared_same b c o p (slice_get m b) (slice_get k b) (slice_get m c) (slice_get k c) (refilled.each b) (refilled.each c))
  compare_same _ _ = refl

  -- ---- getelementptr

  in_bounds_same : (p : Offset) (o o' : Option MemoryBlock) → IsRefilled o o' → is_in_bounds o' p ≡ is_in_bounds o p
  in_bounds_same p None None h = refl
  in_bounds_same p None (Some y) h = absurd h
  in_bounds_same p (Some x) None h = absurd h
  in_bounds_same p (Some x) (Some y) h = ap (λ (z : MemoryBlock). is_within z p) h

  moved_same : (inbounds : Bool) (v : Value) (d : ℕ) → moved_by k inbounds v d ≡ moved_by m inbounds v d
  moved_same inbounds (Value.Ptr Pointer.Null) d = refl
  moved_same inbounds (Value.Ptr (Pointer.At b o)) d = ap (λ (t : Bool). if inbounds && not t then Value.Poison else Value.Ptr (Pointer.At b (moved o d))) (in_bounds_same (moved o d) (slice_get m b) (slice_get k b) (refilled.each b))
  moved_same inbounds (Value.Ptr (Pointer.Func f)) d = refl
  moved_same inbounds Value.Poison d = refl
  moved_same inbounds (Value.Int x) d = refl

  pub element_same : (inbounds : Bool) (v : Value) (d : Option ℕ) → element k inbounds v d ≡ element m inbounds v d
  element_same inbounds v None = refl
  element_same inbounds v (Some d) = moved_same inbounds v d

-- ---- as many blocks

pub as_many : (m k : List MemoryBlock) → AreRefilled m k → length k ≡ length m
as_many [] [] h = refl
as_many [] (y ∷ k) h = absurd (h.each 0)
as_many (x ∷ m) [] h = absurd (h.each 0)
as_many (x ∷ m) (y ∷ k) h = ap suc (as_many m k (record { each = λ b. h.each (suc b) }))

-- ---- blocks that are the same

changed_same : (m k : List MemoryBlock) (b : ℕ) (f : MemoryBlock → MemoryBlock) → slice_get k b ≡ slice_get m b → slice_get (with_block k b f) b ≡ slice_get (with_block m b f) b
changed_same m k b f e = at k b ∙ ap (option_map f) e ∙ sym (at m b)
  where
    at : (n : List MemoryBlock) (b : ℕ) → slice_get (with_block n b f) b ≡ option_map f (slice_get n b)
    at [] b = refl
    at (x ∷ n) zero = refl
    at (x ∷ n) (suc b) = at n b

-- whatever is done to one block of both
pub same_after : (blocks : List ℕ) (m k : List MemoryBlock) (a : ℕ) (f : MemoryBlock → MemoryBlock) → AreSame blocks m k → AreSame blocks (with_block m a f) (with_block k a f)
same_after [] m k a f h = tt
same_after (b ∷ blocks) m k a f h = (
  ⊎_elim
      (λ e. ap (slice_get (with_block k a f)) e ∙ changed_same m k a f (ap (slice_get k) (sym e) ∙ h.0 ∙ ap (slice_get m) e) ∙ ap (slice_get (with_block m a f)) (sym e))
      (λ ne. changed_elsewhere k a b f ne ∙ h.0 ∙ sym (changed_elsewhere m a b f ne))
      (cases_eq b a),
  same_after blocks m k a f h.1,
)

new_there : (m : List MemoryBlock) (y : MemoryBlock) → slice_get (m ++ y ∷ []) (length m) ≡ Some y
new_there [] y = refl
new_there (x ∷ m) y = new_there m y

pub same_new : (m k : List MemoryBlock) (size align : ℕ) (kind : Kind) → length k ≡ length m → AreSame (length m ∷ []) (fresh m size align kind) (fresh k size align kind)
same_new m k size align kind e = (ap (slice_get (fresh k size align kind)) (sym e) ∙ new_there k _ ∙ sym (new_there m _), tt)

-- the first of two lists of blocks
same_first : (xs ys : List ℕ) (m k : List MemoryBlock) → AreSame (xs ++ ys) m k → AreSame xs m k
same_first [] ys m k h = tt
same_first (a ∷ xs) ys m k h = (h.0, same_first xs ys m k h.1)

same_second : (xs ys : List ℕ) (m k : List MemoryBlock) → AreSame (xs ++ ys) m k → AreSame ys m k
same_second [] ys m k h = h
same_second (a ∷ xs) ys m k h = same_second xs ys m k h.1

-- what an operation gives, over both
abbrev pub GivesSame : List ℕ → Result (List MemoryBlock) Cause → Result (List MemoryBlock) Cause → Type 0
GivesSame blocks (Err cause) r = r ≡ Err cause
GivesSame blocks (Ok n) r = (l : List MemoryBlock) × ((r ≡ Ok l) × AreSame blocks n l)

module _ (rights : Rights) (m k : List MemoryBlock) where
  range_same : (p : Value) (len align : ℕ) → AreSame (led_into p) m k → range rights k p len align ≡ range rights m p len align
  range_same (Value.Ptr (Pointer.At b o)) len align h = ap (λ (x : Option MemoryBlock). range_at rights b x o.bits len align) h.0
  range_same (Value.Ptr Pointer.Null) len align h = refl
  range_same (Value.Ptr (Pointer.Func f)) len align h = refl
  range_same Value.Poison len align h = refl
  range_same (Value.Int x) len align h = refl

  spot_same : (p : Value) (len align : ℕ) (s : Spot) → range rights m p len align ≡ Ok s → AreSame (led_into p) m k → slice_get k s.block ≡ slice_get m s.block
  spot_same p len align s e h = (subst (λ (v : Value). AreSame (led_into v) m k) (found rights m p len align s e).leads h).0

  bytes_same : (s : Spot) (len : ℕ) → slice_get k s.block ≡ slice_get m s.block → bytes_at k s len ≡ bytes_at m s len
  bytes_same s len e = ap (λ (x : Option MemoryBlock). take len (drop s.offset (bytes_in x))) e

  pub load_same : (p : Value) (what : Access) (align : ℕ) → AreSame (led_into p) m k → load rights k p what align ≡ load rights m p what align
  load_same p what align h = ap (on_ok (λ s. Ok (decode what (bytes_at k s (access_bytes what))))) (range_same p (access_bytes what) align h) ∙ on (range rights m p (access_bytes what) align) refl
    where
      on : (r : Result Spot Cause) → range rights m p (access_bytes what) align ≡ r → on_ok (λ s. Ok (decode what (bytes_at k s (access_bytes what)))) r ≡ on_ok (λ s. Ok (decode what (bytes_at m s (access_bytes what)))) r
      on (Err cause) e = refl
      on (Ok s) e = ap (λ (bs : List Byte). Ok (decode what bs)) (bytes_same s (access_bytes what) (spot_same p (access_bytes what) align s e h))

  write_same : (blocks : List ℕ) (s : Spot) (new : List Byte) (t : Bool) → AreSame blocks m k → GivesSame blocks (if t then Err Cause.Constant else Ok (write m s new)) (if t then Err Cause.Constant else Ok (write k s new))
  write_same blocks s new true h = refl
  write_same blocks s new false h = (write k s new, (refl, same_after blocks m k s.block _ h))

  pub store_same : (p v : Value) (what : Access) (align : ℕ) → AreSame (led_into p) m k → GivesSame (led_into p) (store rights m p v what align) (store rights k p v what align)
  store_same p v what align h = subst (λ (r : Result Spot Cause). GivesSame (led_into p) (store rights m p v what align) (on_ok (λ s. unless_constant k s (write k s (encode (access_bytes what) v))) r)) (sym (range_same p (access_bytes what) align h)) (on (range rights m p (access_bytes what) align) refl)
    where
      on : (r : Result Spot Cause) → range rights m p (access_bytes what) align ≡ r → GivesSame (led_into p) (on_ok (λ s. unless_constant m s (write m s (encode (access_bytes what) v))) r) (on_ok (λ s. unless_constant k s (write k s (encode (access_bytes what) v))) r)
      on (Err cause) e = refl
      on (Ok s) e =
          subst (λ (x : Option MemoryBlock). GivesSame (led_into p) (unless_constant m s (write m s (encode (access_bytes what) v))) (if is_constant x then Err Cause.Constant else Ok (write k s (encode (access_bytes what) v)))) (sym (spot_same p (access_bytes what) align s e h))
          (write_same (led_into p) s (encode (access_bytes what) v) (is_constant (slice_get m s.block)) h)

  copy_write : (blocks : List ℕ) (a b : Spot) (len : ℕ) (new : List Byte) (t u : Bool) → AreSame blocks m k → GivesSame blocks (if t then Err Cause.Constant else if u then Err Cause.Overlap else Ok (write m a new)) (if t then Err Cause.Constant else if u then Err Cause.Overlap else Ok (write k a new))
  copy_write blocks a b len new true u h = refl
  copy_write blocks a b len new false true h = refl
  copy_write blocks a b len new false false h = (write k a new, (refl, same_after blocks m k a.block _ h))

  err_same : (blocks : List ℕ) (len : ℕ) (c d : Cause) (t : Bool) → GivesSame blocks (on_ok (λ (x, y). copied m x y len) (if t then Err c else Err d)) (on_ok (λ (x, y). copied k x y len) (if t then Err c else Err d))
  err_same blocks len c d true = refl
  err_same blocks len c d false = refl

  pub copy_same : (to from : Value) (len : ℕ) → AreSame (by_copy to from len) m k → GivesSame (by_copy to from len) (copy rights m to from len) (copy rights k to from len)
  copy_same to from zero h = (k, (refl, tt))
  copy_same to from (suc n) h =
      let ht = same_first (led_into to) (led_into from) m k h in
      let hf = same_second (led_into to) (led_into from) m k h in
      subst (λ (q : Result Spot Cause × Result Spot Cause). GivesSame (by_copy to from (suc n)) (copy rights m to from (suc n)) (on_ok (λ (x, y). copied k x y (suc n)) (both q.0 q.1))) (λ i. (sym (range_same to (suc n) 1 ht) i, sym (range_same from (suc n) 1 hf) i))
      (on (range rights m to (suc n) 1) (range rights m from (suc n) 1) refl refl ht hf)
    where
      on : (r s : Result Spot Cause) → range rights m to (suc n) 1 ≡ r → range rights m from (suc n) 1 ≡ s → AreSame (led_into to) m k → AreSame (led_into from) m k → GivesSame (by_copy to from (suc n)) (on_ok (λ (x, y). copied m x y (suc n)) (both r s)) (on_ok (λ (x, y). copied k x y (suc n)) (both r s))
      on (Err c) (Err d) e g ht hf = err_same (by_copy to from (suc n)) (suc n) c d (nat_le (rank c) (rank d))
      on (Err c) (Ok b) e g ht hf = refl
      on (Ok a) (Err d) e g ht hf = refl
      on (Ok a) (Ok b) e g ht hf =
          subst (λ (q : Option MemoryBlock × List Byte). GivesSame (by_copy to from (suc n)) (copied m a b (suc n)) (if is_constant q.0 then Err Cause.Constant else if overlaps a b (suc n) then Err Cause.Overlap else Ok (write k a q.1)))
          (λ i. (sym (spot_same to (suc n) 1 a e ht) i, sym (bytes_same b (suc n) (spot_same from (suc n) 1 b g hf)) i))
          (copy_write (by_copy to from (suc n)) a b (suc n) (bytes_at m b (suc n)) (is_constant (slice_get m a.block)) (overlaps a b (suc n)) h)
