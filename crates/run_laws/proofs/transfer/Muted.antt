-- The operations of the memory do the same where blocks have ended into which their pointers don't lead.
use Rattle.std.proofs.Common.{◌≡◌, ℕ, zero, suc, Bool, true, false, List, [], ◌∷◌, ◌++◌, length, Option, Some, None, Result, Ok, Err, refl, sym, ap, ◌∙◌, if◌then◌else◌}
use Rattle.std.specs.Prelude.{drop, nat_le, nat_lt, not, slice_get, take, ◌+◌, ◌&&◌}
use Rattle.run_memory.specs.Memory.{Rights, access_bytes, both, bytes_at, bytes_in, check, compare, copied, copy, decode, encode, end, fresh, is_compared, is_constant, is_live, load, may_compare_at, on_ok, overlaps, range, range_at, rank, start, store, unless_constant, with_block, with_bytes, write}
use Rattle.run_memory.specs.Pointers.{moved, same_pointer}
use Rattle.run_memory.specs.declared.block.Byte.{Byte}
use Rattle.run_memory.specs.declared.block.Kind.{Kind}
use Rattle.run_memory.specs.declared.block.MemoryBlock.{MemoryBlock}
use Rattle.run_memory.specs.declared.pointer.Access.{Access}
use Rattle.run_memory.specs.declared.pointer.Offset.{Offset}
use Rattle.run_memory.specs.declared.pointer.Pointer.{Pointer}
use Rattle.run_memory.specs.declared.pointer.Spot.{Spot}
use Rattle.run_memory.specs.declared.pointer.Value.{Value}
use Rattle.ir_base.specs.declared.cause.Cause.{Cause}
use Rattle.run_step.specs.Step.{block_of, on_block}
use Rattle.run_step.specs.Values.{address, element, is_in_bounds, moved_by}
use Rattle.run_laws.specs.transfer.Muted.{IsShown, ended_if, muted}

-- ---- blocks

pub muted_get : (hides : ℕ → Bool) (m : List MemoryBlock) (b : ℕ) → hides b ≡ false
    → slice_get (muted hides m) b ≡ slice_get m b
muted_get hides [] b h = refl
muted_get hides (x ∷ m) zero h = ap (λ t. Some (ended_if t x)) h
muted_get hides (x ∷ m) (suc b) h = muted_get (λ i. hides (suc i)) m b h

pub muted_length : (hides : ℕ → Bool) (m : List MemoryBlock) → length (muted hides m) ≡ length m
muted_length hides [] = refl
muted_length hides (x ∷ m) = ap suc (muted_length (λ i. hides (suc i)) m)

pub muted_change : (hides : ℕ → Bool) (m : List MemoryBlock) (b : ℕ) (f : MemoryBlock → MemoryBlock) → hides b ≡ false
    → with_block (muted hides m) b f ≡ muted hides (with_block m b f)
muted_change hides [] b f h = refl
muted_change hides (x ∷ m) zero f h = ap (λ t. f (ended_if t x) ∷ muted (λ i. hides (suc i)) m) h ∙ ap
    (λ t. ended_if t (f x) ∷ muted (λ i. hides (suc i)) m) (sym h)
muted_change hides (x ∷ m) (suc b) f h = ap (λ n. ended_if (hides 0) x ∷ n) (muted_change (λ i. hides (suc i)) m b f h)

pub muted_append : (hides : ℕ → Bool) (m : List MemoryBlock) (x : MemoryBlock) → hides (length m) ≡ false
    → muted hides m ++ x ∷ [] ≡ muted hides (m ++ x ∷ [])
muted_append hides [] x h = ap (λ t. ended_if t x ∷ []) (sym h)
muted_append hides (y ∷ m) x h = ap (λ n. ended_if (hides 0) y ∷ n) (muted_append (λ i. hides (suc i)) m x h)

pub muted_fresh : (hides : ℕ → Bool) (m : List MemoryBlock) (size align : ℕ) (kind : Kind) → hides (length m) ≡ false
    → fresh (muted hides m) size align kind ≡ muted hides (fresh m size align kind)
muted_fresh hides m size align kind h = muted_append hides m _ h

pub muted_started : (hides : ℕ → Bool) (m : List MemoryBlock) (v : Value) → IsShown hides v
    → on_block start (muted hides m) (block_of v) ≡ muted hides (on_block start m (block_of v))
muted_started hides m (Value.Ptr (Pointer.At b o)) h = muted_change hides m b _ h
muted_started hides m (Value.Ptr Pointer.Null) h = refl
muted_started hides m (Value.Ptr (Pointer.Func f)) h = refl
muted_started hides m Value.Poison h = refl
muted_started hides m (Value.Int x) h = refl

pub muted_ended : (hides : ℕ → Bool) (m : List MemoryBlock) (v : Value) → IsShown hides v
    → on_block end (muted hides m) (block_of v) ≡ muted hides (on_block end m (block_of v))
muted_ended hides m (Value.Ptr (Pointer.At b o)) h = muted_change hides m b _ h
muted_ended hides m (Value.Ptr Pointer.Null) h = refl
muted_ended hides m (Value.Ptr (Pointer.Func f)) h = refl
muted_ended hides m Value.Poison h = refl
muted_ended hides m (Value.Int x) h = refl

pub shown_address : (hides : ℕ → Bool) (v : Value) → IsShown hides v → IsShown hides (address v)
shown_address hides (Value.Ptr (Pointer.At b o)) h = h
shown_address hides (Value.Ptr Pointer.Null) h = tt
shown_address hides (Value.Ptr (Pointer.Func f)) h = tt
shown_address hides Value.Poison h = tt
shown_address hides (Value.Int x) h = tt

-- ---- ranges

abbrev AreShown : (ℕ → Bool) → Result Spot Cause → Type 0
AreShown hides (Err cause) = Unit {0}
AreShown hides (Ok spot) = hides spot.block ≡ false

if_shown : (hides : ℕ → Bool) (t : Bool) (r r' : Result Spot Cause) → AreShown hides r → AreShown hides r'
    → AreShown hides (if t then r else r')
if_shown hides true r r' h k = h
if_shown hides false r r' h k = k

range_at_shown : (hides : ℕ → Bool) (rights : Rights) (b : ℕ) (x : Option MemoryBlock) (o len align : ℕ)
    → hides b ≡ false → AreShown hides (range_at rights b x o len align)
range_at_shown hides rights b None o len align h = tt
range_at_shown hides rights b (Some x) o len align h =
    if_shown hides (nat_lt x.size (o + len)) (Err Cause.Bounds) _ tt
    (if_shown hides (not (is_live x.life)) (Err Cause.Dead) _ tt
    (if_shown hides (rights.is_closed b x o len) (Err Cause.Owned) _ tt
    (if_shown hides (rights.is_aligned b x o align) (Ok (record { block = b; offset = o })) (Err Cause.Align) h tt)))

range_shown : (hides : ℕ → Bool) (rights : Rights) (m : List MemoryBlock) (p : Value) (len align : ℕ)
    → IsShown hides p → AreShown hides (range rights m p len align)
range_shown hides rights m (Value.Ptr (Pointer.At b o)) len align h = range_at_shown hides rights b
    (slice_get m b) o.bits len align h
range_shown hides rights m (Value.Ptr Pointer.Null) len align h = tt
range_shown hides rights m (Value.Ptr (Pointer.Func f)) len align h = tt
range_shown hides rights m Value.Poison len align h = tt
range_shown hides rights m (Value.Int x) len align h = tt

range_muted : (hides : ℕ → Bool) (rights : Rights) (m : List MemoryBlock) (p : Value) (len align : ℕ)
    → IsShown hides p → range rights (muted hides m) p len align ≡ range rights m p len align
range_muted hides rights m (Value.Ptr (Pointer.At b o)) len align h = ap (λ x. range_at rights b x o.bits len align)
    (muted_get hides m b h)
range_muted hides rights m (Value.Ptr Pointer.Null) len align h = refl
range_muted hides rights m (Value.Ptr (Pointer.Func f)) len align h = refl
range_muted hides rights m Value.Poison len align h = refl
range_muted hides rights m (Value.Int x) len align h = refl

-- ---- accesses

bytes_muted : (hides : ℕ → Bool) (m : List MemoryBlock) (spot : Spot) (len : ℕ) → hides spot.block ≡ false
    → bytes_at (muted hides m) spot len ≡ bytes_at m spot len
bytes_muted hides m spot len h = ap (λ (x : Option MemoryBlock). take len (drop spot.offset (bytes_in x)))
    (muted_get hides m spot.block h)

pub load_muted : (hides : ℕ → Bool) (rights : Rights) (m : List MemoryBlock) (p : Value) (what : Access) (align : ℕ)
    → IsShown hides p → load rights (muted hides m) p what align ≡ load rights m p what align
load_muted hides rights m p what align h =
    ap (on_ok (λ spot. Ok (decode what (bytes_at (muted hides m) spot (access_bytes what)))))
    (range_muted hides rights m p (access_bytes what) align h)
    ∙ on (range rights m p (access_bytes what) align) (range_shown hides rights m p (access_bytes what) align h)
  where
    on : (r : Result Spot Cause) → AreShown hides r
        → on_ok {B = Value} (λ spot. Ok (decode what (bytes_at (muted hides m) spot (access_bytes what)))) r ≡ on_ok
        (λ spot. Ok (decode what (bytes_at m spot (access_bytes what)))) r
    on (Err cause) k = refl
    on (Ok spot) k = ap (λ bytes. Ok (decode what bytes)) (bytes_muted hides m spot (access_bytes what) k)

-- a memory that an operation gives, with these blocks ended
abbrev pub muted_result : (ℕ → Bool) → Result (List MemoryBlock) Cause → Result (List MemoryBlock) Cause
muted_result hides (Err cause) = Err cause
muted_result hides (Ok m) = Ok (muted hides m)

if_result : (hides : ℕ → Bool) (t : Bool) (r r' s s' : Result (List MemoryBlock) Cause) → s ≡ muted_result hides r
    → s' ≡ muted_result hides r' → (if t then s else s') ≡ muted_result hides (if t then r else r')
if_result hides true r r' s s' h k = h
if_result hides false r r' s s' h k = k

unless_muted : (hides : ℕ → Bool) (m : List MemoryBlock) (spot : Spot) (new : List Byte) → hides spot.block ≡ false
    → unless_constant (muted hides m) spot (write (muted hides m) spot new) ≡ muted_result hides
    (unless_constant m spot (write m spot new))
unless_muted hides m spot new h =
    ap (λ x. if is_constant x then Err Cause.Constant else Ok (write (muted hides m) spot new))
    (muted_get hides m spot.block h)
    ∙ if_result hides (is_constant (slice_get m spot.block)) (Err Cause.Constant) (Ok (write m spot new))
    (Err Cause.Constant) (Ok (write (muted hides m) spot new)) refl (ap Ok (muted_change hides m spot.block
    (with_bytes spot.offset new) h))

pub store_muted : (hides : ℕ
    → Bool) (rights : Rights) (m : List MemoryBlock) (p v : Value) (what : Access) (align : ℕ) → IsShown hides p
    → store rights (muted hides m) p v what align ≡ muted_result hides (store rights m p v what align)
store_muted hides rights m p v what align h =
    ap (on_ok (λ spot. unless_constant (muted hides m) spot (write (muted hides m) spot
    (encode (access_bytes what) v)))) (range_muted hides rights m p (access_bytes what) align h)
    ∙ on (range rights m p (access_bytes what) align) (range_shown hides rights m p (access_bytes what) align h)
  where
    on : (r : Result Spot Cause) → AreShown hides r
        → on_ok {B = List MemoryBlock} (λ spot. unless_constant (muted hides m) spot (write (muted hides m) spot
        (encode (access_bytes what) v))) r ≡ muted_result hides (on_ok (λ spot. unless_constant m spot
        (write m spot (encode (access_bytes what) v))) r)
    on (Err cause) k = refl
    on (Ok spot) k = unless_muted hides m spot (encode (access_bytes what) v) k

copied_muted : (hides : ℕ → Bool) (m : List MemoryBlock) (to from : Spot) (len : ℕ) → hides to.block ≡ false
    → hides from.block ≡ false → copied (muted hides m) to from len ≡ muted_result hides (copied m to from len)
copied_muted hides m to from len h k =
    ap (λ x. if is_constant x then Err Cause.Constant else if overlaps to from len then Err Cause.Overlap else Ok
    (write (muted hides m) to (bytes_at (muted hides m) from len))) (muted_get hides m to.block h)
    ∙ ap (λ bytes. if is_constant
    (slice_get m to.block) then Err Cause.Constant else if overlaps to from len then Err Cause.Overlap else Ok
    (write (muted hides m) to bytes)) (bytes_muted hides m from len k)
    ∙ if_result hides (is_constant (slice_get m to.block)) (Err Cause.Constant) _ (Err Cause.Constant) _ refl
    (if_result hides (overlaps to from len) (Err Cause.Overlap) (Ok (write m to (bytes_at m from len)))
    (Err Cause.Overlap) (Ok (write (muted hides m) to (bytes_at m from len))) refl
    (ap Ok (muted_change hides m to.block (with_bytes to.offset (bytes_at m from len)) h)))

pub copy_muted : (hides : ℕ → Bool) (rights : Rights) (m : List MemoryBlock) (to from : Value) (len : ℕ)
    → IsShown hides to → IsShown hides from
    → copy rights (muted hides m) to from len ≡ muted_result hides (copy rights m to from len)
copy_muted hides rights m to from zero h k = refl
copy_muted hides rights m to from (suc n) h k =
    ap (λ r. on_ok {B = List MemoryBlock} (λ (a, b). copied (muted hides m) a b (suc n))
    (both r (range rights (muted hides m) from (suc n) 1))) (range_muted hides rights m to (suc n) 1 h)
    ∙ ap (λ r. on_ok {B = List MemoryBlock} (λ (a, b). copied (muted hides m) a b (suc n))
    (both (range rights m to (suc n) 1) r)) (range_muted hides rights m from (suc n) 1 k)
    ∙ on (range rights m to (suc n) 1) (range rights m from (suc n) 1) (range_shown hides rights m to (suc n) 1 h)
    (range_shown hides rights m from (suc n) 1 k)
  where
    refused : (t : Bool) (c d : Cause)
        → on_ok {B = List MemoryBlock} (λ (a, b). copied (muted hides m) a b (suc n))
        (if t then Err c else Err d) ≡ muted_result hides (on_ok (λ (a, b). copied m a b (suc n))
        (if t then Err c else Err d))
    refused true c d = refl
    refused false c d = refl

    on : (r s : Result Spot Cause) → AreShown hides r → AreShown hides s
        → on_ok {B = List MemoryBlock} (λ (a, b). copied (muted hides m) a b (suc n)) (both r s) ≡ muted_result hides
        (on_ok (λ (a, b). copied m a b (suc n)) (both r s))
    on (Err c) (Err d) h k = refused (nat_le (rank c) (rank d)) c d
    on (Err c) (Ok b) h k = refl
    on (Ok a) (Err d) h k = refl
    on (Ok a) (Ok b) h k = copied_muted hides m a b (suc n) h k

-- ---- comparisons and distances

null_muted : (hides : ℕ → Bool) (rights : Rights) (m : List MemoryBlock) (b : ℕ) (o : Offset) → hides b ≡ false
    → check (may_compare_at rights b (slice_get (muted hides m) b) o) Cause.Compare (Ok false) ≡ check
    (may_compare_at rights b (slice_get m b) o) Cause.Compare (Ok false)
null_muted hides rights m b o h = ap (λ x. check (may_compare_at rights b x o) Cause.Compare (Ok false))
    (muted_get hides m b h)

pub compare_muted : (hides : ℕ → Bool) (rights : Rights) (m : List MemoryBlock) (v w : Value) → IsShown hides v
    → IsShown hides w → compare rights (muted hides m) v w ≡ compare rights m v w
compare_muted hides rights m (Value.Ptr (Pointer.At b o)) (Value.Ptr (Pointer.At c p)) h k =
    ap (λ x. check (is_compared rights b o c p x (slice_get (muted hides m) c)) Cause.Compare
    (Ok (same_pointer (Pointer.At b o) (Pointer.At c p)))) (muted_get hides m b h)
    ∙ ap (λ x. check (is_compared rights b o c p (slice_get m b) x) Cause.Compare
    (Ok (same_pointer (Pointer.At b o) (Pointer.At c p)))) (muted_get hides m c k)
compare_muted hides rights m (Value.Ptr (Pointer.At b o))
    (Value.Ptr Pointer.Null) h k = null_muted hides rights m b o h
compare_muted hides rights m (Value.Ptr Pointer.Null)
    (Value.Ptr (Pointer.At c p)) h k = null_muted hides rights m c p k
compare_muted hides rights m (Value.Ptr Pointer.Null) (Value.Ptr Pointer.Null) h k = refl
compare_muted hides rights m (Value.Ptr Pointer.Null) (Value.Ptr (Pointer.Func g)) h k = refl
compare_muted hides rights m (Value.Ptr (Pointer.Func f)) (Value.Ptr Pointer.Null) h k = refl
compare_muted hides rights m (Value.Ptr (Pointer.Func f)) (Value.Ptr (Pointer.Func g)) h k = refl
compare_muted hides rights m (Value.Ptr (Pointer.Func f)) (Value.Ptr (Pointer.At c p)) h k = refl
compare_muted hides rights m (Value.Ptr (Pointer.At b o)) (Value.Ptr (Pointer.Func g)) h k = refl
compare_muted hides rights m (Value.Ptr Pointer.Null) Value.Poison h k = refl
compare_muted hides rights m (Value.Ptr Pointer.Null) (Value.Int y) h k = refl
compare_muted hides rights m (Value.Ptr (Pointer.Func f)) Value.Poison h k = refl
compare_muted hides rights m (Value.Ptr (Pointer.Func f)) (Value.Int y) h k = refl
compare_muted hides rights m (Value.Ptr (Pointer.At b o)) Value.Poison h k = refl
compare_muted hides rights m (Value.Ptr (Pointer.At b o)) (Value.Int y) h k = refl
compare_muted hides rights m Value.Poison w h k = refl
compare_muted hides rights m (Value.Int x) w h k = refl

moved_muted : (hides : ℕ → Bool) (m : List MemoryBlock) (inbounds : Bool) (p : Value) (d : ℕ) → IsShown hides p
    → moved_by (muted hides m) inbounds p d ≡ moved_by m inbounds p d
moved_muted hides m inbounds (Value.Ptr (Pointer.At b o)) d h = ap (λ x. if inbounds && not
    (is_in_bounds x (moved o d)) then Value.Poison else Value.Ptr (Pointer.At b (moved o d))) (muted_get hides m b h)
moved_muted hides m inbounds (Value.Ptr Pointer.Null) d h = refl
moved_muted hides m inbounds (Value.Ptr (Pointer.Func f)) d h = refl
moved_muted hides m inbounds Value.Poison d h = refl
moved_muted hides m inbounds (Value.Int x) d h = refl

pub element_muted : (hides : ℕ → Bool) (m : List MemoryBlock) (inbounds : Bool) (p : Value) (d : Option ℕ)
    → IsShown hides p → element (muted hides m) inbounds p d ≡ element m inbounds p d
element_muted hides m inbounds p None h = refl
element_muted hides m inbounds p (Some d) h = moved_muted hides m inbounds p d h
