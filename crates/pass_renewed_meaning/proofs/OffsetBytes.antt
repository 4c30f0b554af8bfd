-- Pointers of values and bytes at offsets of 64 bits, and what operations on memory leave of them.
use Rattle.std.proofs.Common.{◌≡◌, ◌<◌, ℕ, zero, suc, ◌+◌, ◌/◌, ◌^◌, Bool, true, false, not, List, [], ◌∷◌, ◌++◌, length}
use Rattle.std.proofs.Common.{map, Option, Some, None, Result, Ok, Err, refl, sym, ap, ◌∙◌, subst, arith, replicate, ◌&&◌, ◌==◌}
use Rattle.std.specs.List.{AllByRecursion}
use Rattle.std.specs.Prelude.{drop, if◌then◌else◌, nat_lt, slice_get, take}
use Rattle.run_types.specs.ir_base.declared.cause.Cause.{Cause}
use Rattle.run_types.proofs.run_hooks.alive.Parts.{all_append, all_where}
use Rattle.run_types.specs.run_memory.Memory.{Rights, access_bytes, are_parts, both, bytes_at, bytes_in, check, copied, copy, decode}
use Rattle.run_types.specs.run_memory.Memory.{digits, disowned, encode, ended, fresh, integer_from, is_constant, is_killed, is_owned}
use Rattle.run_types.specs.run_memory.Memory.{is_unkilled, kill, killed, killed_block, load, may_be_owned, number_of, on_ok, overlaps}
use Rattle.run_types.specs.run_memory.Memory.{own, owned_to, parts, pointer_from, range, started, store, unless_constant, with_block}
use Rattle.run_types.specs.run_memory.Memory.{with_bytes, write, written}
use Rattle.run_types.specs.run_memory.declared.block.Byte.{Byte}
use Rattle.run_types.specs.run_memory.declared.block.Kind.{Kind}
use Rattle.run_types.specs.run_memory.declared.block.Life.{Life}
use Rattle.run_types.specs.run_memory.declared.block.MemoryBlock.{MemoryBlock}
use Rattle.run_types.specs.run_memory.declared.pointer.Access.{Access}
use Rattle.run_types.specs.run_memory.declared.pointer.Pointer.{Pointer}
use Rattle.run_types.specs.run_memory.declared.pointer.Spot.{Spot}
use Rattle.run_types.specs.run_memory.declared.pointer.Value.{Value}
use Rattle.run_types.specs.run_step.Step.{deallocated, without_slots}
use Rattle.run_types.specs.run_step.declared.world.Slot.{Slot}
use Rattle.run_types.specs.pass_renewed_proof.Small.{HasSmallOffset}

-- ---- bytes

abbrev pub IsSmallByte : Byte → Type 0
IsSmallByte (Byte.Part (Pointer.At b o) k) = o.bits < 2 ^ 64
IsSmallByte b = Unit {0}

abbrev pub AreSmallBytes : List Byte → Type 0
AreSmallBytes bytes = AllByRecursion IsSmallByte bytes

abbrev pub HaveSmall : List MemoryBlock → Type 0
HaveSmall memory = AllByRecursion (λ x. AreSmallBytes x.bytes) memory

repeated : (n : ℕ) → AreSmallBytes (replicate n Byte.Undefined)
repeated zero = tt
repeated (suc n) = (tt, repeated n)

digits_are : (k n : ℕ) → AreSmallBytes (digits k n)
digits_are zero n = tt
digits_are (suc k) n = (tt, digits_are k (n / 256))

part_is : (p : Pointer) (k : ℕ) → HasSmallOffset (Value.Ptr p) → IsSmallByte (Byte.Part p k)
part_is Pointer.Null k h = tt
part_is (Pointer.At b o) k h = h
part_is (Pointer.Func f) k h = tt

pointer_is : (p : Pointer) (k : ℕ) → IsSmallByte (Byte.Part p k) → HasSmallOffset (Value.Ptr p)
pointer_is Pointer.Null k h = tt
pointer_is (Pointer.At b o) k h = h
pointer_is (Pointer.Func f) k h = tt

parts_are : (p : Pointer) (k n : ℕ) → HasSmallOffset (Value.Ptr p) → AreSmallBytes (parts p k n)
parts_are p k zero h = tt
parts_are p k (suc n) h = (part_is p k h, parts_are p (suc k) n h)

pub encoded : (n : ℕ) (v : Value) → HasSmallOffset v → AreSmallBytes (encode n v)
encoded n Value.Poison h = repeated n
encoded n (Value.Int w) h = digits_are n w.bits
encoded n (Value.Ptr p) h = parts_are p 0 n h

taken : (n : ℕ) (bytes : List Byte) → AreSmallBytes bytes → AreSmallBytes (take n bytes)
taken zero bytes h = tt
taken (suc n) [] h = tt
taken (suc n) (b ∷ bytes) h = (h.0, taken n bytes h.1)

dropped : (n : ℕ) (bytes : List Byte) → AreSmallBytes bytes → AreSmallBytes (drop n bytes)
dropped zero bytes h = h
dropped (suc n) [] h = tt
dropped (suc n) (b ∷ bytes) h = dropped n bytes h.1

written_are : (bytes : List Byte) (offset : ℕ) (new : List Byte) → AreSmallBytes bytes → AreSmallBytes new
    → AreSmallBytes (written bytes offset new)
written_are bytes offset new h k =
    all_append IsSmallByte (take offset bytes ++ new) (drop (offset + length new) bytes)
    (all_append IsSmallByte (take offset bytes) new (taken offset bytes h) k) (dropped (offset + length new) bytes h)

-- ---- blocks

block_set : (m : List MemoryBlock) (b : ℕ) (f : MemoryBlock → MemoryBlock)
    → ((x : MemoryBlock) → AreSmallBytes x.bytes → AreSmallBytes (f x).bytes) → HaveSmall m → HaveSmall (with_block m b f)
block_set [] b f h k = tt
block_set (x ∷ m) zero f h k = (h x k.0, k.1)
block_set (x ∷ m) (suc b) f h k = (k.0, block_set m b f h k.1)

pub fresh_has : (m : List MemoryBlock) (size align : ℕ) (kind : Kind) → HaveSmall m
    → HaveSmall (fresh m size align kind)
fresh_has m size align kind h = all_append (λ (x : MemoryBlock). AreSmallBytes x.bytes) m _ h (repeated size, tt)

pub killed_has : (m : List MemoryBlock) (b : ℕ) → HaveSmall m → HaveSmall (killed m b)
killed_has m b h = block_set m b killed_block (λ x k. tt) h

pub started_has : (m : List MemoryBlock) (b : ℕ) → HaveSmall m → HaveSmall (with_block m b started)
started_has m b h = block_set m b started (λ x k. on x k (is_killed x.life)) h
  where
    on : (x : MemoryBlock) → AreSmallBytes x.bytes → (t : Bool) → AreSmallBytes (if t then x else record x {
      life = Life.Live;
      bytes = replicate x.size Byte.Undefined;
    }).bytes
    on x k true = k
    on x k false = repeated x.size

pub ended_has : (m : List MemoryBlock) (b : ℕ) → HaveSmall m → HaveSmall (with_block m b ended)
ended_has m b h = block_set m b ended (λ x k. on x k (is_killed x.life)) h
  where
    on : (x : MemoryBlock) → AreSmallBytes x.bytes → (t : Bool) → AreSmallBytes (if t then x else record x {
      life = Life.Ended;
    }).bytes
    on x k true = k
    on x k false = k

pub disowned_has : (m : List MemoryBlock) (b : ℕ) → HaveSmall m → HaveSmall (with_block m b disowned)
disowned_has m b h = block_set m b disowned (λ x k. k) h

pub without_has : (m : List MemoryBlock) (slots : List Slot) → HaveSmall m → HaveSmall (without_slots m slots)
without_has m [] h = h
without_has m (s ∷ slots) h = without_has (killed m s.block) slots (killed_has m s.block h)

-- ---- operations

abbrev pub GivesSmall : Result (List MemoryBlock) Cause → Type 0
GivesSmall (Ok m) = HaveSmall m
GivesSmall r = Unit {0}

pub own_has : (m : List MemoryBlock) (v : Value) (n : ℕ) (kind : Kind) → HaveSmall m → GivesSmall (own m v n kind)
own_has m (Value.Ptr (Pointer.At b o)) n kind h = on ((o.bits == 0) && may_be_owned kind n (slice_get m b))
  where
    on : (t : Bool) → GivesSmall (check t Cause.Begin (Ok (with_block m b (owned_to n))))
    on true = block_set m b (owned_to n) (λ x k. k) h
    on false = tt
own_has m (Value.Ptr Pointer.Null) n kind h = tt
own_has m (Value.Ptr (Pointer.Func f)) n kind h = tt
own_has m Value.Poison n kind h = tt
own_has m (Value.Int w) n kind h = tt

kill_has : (m : List MemoryBlock) (v : Value) (kind : Kind) → HaveSmall m → GivesSmall (kill m v kind)
kill_has m (Value.Ptr (Pointer.At b o)) kind h =
    on (not ((o.bits == 0) && is_unkilled kind (slice_get m b))) (is_owned (slice_get m b))
  where
    on : (t u : Bool) → GivesSmall (if t then Err Cause.Free else if u then Err Cause.Owned else Ok (killed m b))
    on true u = tt
    on false true = tt
    on false false = killed_has m b h
kill_has m (Value.Ptr Pointer.Null) kind h = tt
kill_has m (Value.Ptr (Pointer.Func f)) kind h = tt
kill_has m Value.Poison kind h = tt
kill_has m (Value.Int w) kind h = tt

pub deallocated_has : (m : List MemoryBlock) (v : Value) → HaveSmall m → GivesSmall (deallocated m v)
deallocated_has m (Value.Ptr Pointer.Null) h = h
deallocated_has m (Value.Ptr (Pointer.At b o)) h = kill_has m (Value.Ptr (Pointer.At b o)) Kind.Allocator h
deallocated_has m (Value.Ptr (Pointer.Func f)) h = tt
deallocated_has m Value.Poison h = tt
deallocated_has m (Value.Int w) h = tt

write_has : (m : List MemoryBlock) (spot : Spot) (new : List Byte) → AreSmallBytes new → HaveSmall m
    → HaveSmall (write m spot new)
write_has m spot new k h = block_set m spot.block (with_bytes spot.offset new)
    (λ x b. written_are x.bytes spot.offset new b k) h

pub store_has : (rights : Rights) (m : List MemoryBlock) (p v : Value) (what : Access) (align : ℕ) → HaveSmall m
    → HasSmallOffset v → GivesSmall (store rights m p v what align)
store_has rights m p v what align h small = on (range rights m p (access_bytes what) align)
  where
    unless : (spot : Spot) (t : Bool) → GivesSmall (if t then Err Cause.Constant
        else Ok (write m spot (encode (access_bytes what) v)))
    unless spot true = tt
    unless spot false = write_has m spot (encode (access_bytes what) v) (encoded (access_bytes what) v small) h

    on : (r : Result Spot Cause)
        → GivesSmall (on_ok (λ spot. unless_constant m spot (write m spot (encode (access_bytes what) v))) r)
    on (Err cause) = tt
    on (Ok spot) = unless spot (is_constant (slice_get m spot.block))

bytes_there : (m : List MemoryBlock) (spot : Spot) (len : ℕ) → HaveSmall m → AreSmallBytes (bytes_at m spot len)
bytes_there m spot len h = taken len (drop spot.offset (bytes_in (slice_get m spot.block)))
    (dropped spot.offset (bytes_in (slice_get m spot.block)) (on (slice_get m spot.block) refl))
  where
    on : (o : Option MemoryBlock) → slice_get m spot.block ≡ o → AreSmallBytes (bytes_in o)
    on None e = tt
    on (Some x) e = all_where (λ (x : MemoryBlock). AreSmallBytes x.bytes) m h spot.block x e

pub copy_has : (rights : Rights) (m : List MemoryBlock) (to from : Value) (n : ℕ) → HaveSmall m
    → GivesSmall (copy rights m to from n)
copy_has rights m to from zero h = h
copy_has rights m to from (suc n) h = on (both (range rights m to (suc n) 1) (range rights m from (suc n) 1))
  where
    one : (a b : Spot) (t u : Bool) → GivesSmall (if t then Err Cause.Constant else if u then Err Cause.Overlap
        else Ok (write m a (bytes_at m b (suc n))))
    one a b true u = tt
    one a b false true = tt
    one a b false false = write_has m a (bytes_at m b (suc n)) (bytes_there m b (suc n) h) h

    on : (r : Result (Spot × Spot) Cause) → GivesSmall (on_ok (λ (a, b). copied m a b (suc n)) r)
    on (Err cause) = tt
    on (Ok p) = one p.0 p.1 (is_constant (slice_get m p.0.block)) (overlaps p.0 p.1 (suc n))

-- ---- loads

decoded : (what : Access) (bytes : List Byte) → AreSmallBytes bytes → HasSmallOffset (decode what bytes)
decoded (Access.Int w) bytes h = on (number_of bytes)
  where
    by : (n : ℕ) (t : Bool) → HasSmallOffset (if t then Value.Poison else Value.Int (record { width = w; bits = n }))
    by n true = tt
    by n false = tt

    on : (o : Option ℕ) → HasSmallOffset (integer_from w o)
    on None = tt
    on (Some n) = by n ((w == 1) && nat_lt 1 n)
decoded Access.Ptr [] h = tt
decoded Access.Ptr (Byte.Undefined ∷ bytes) h = tt
decoded Access.Ptr (Byte.Number n ∷ bytes) h = tt
decoded Access.Ptr (Byte.Part p k ∷ bytes) h = on (are_parts p 0 (Byte.Part p k ∷ bytes))
  where
    on : (t : Bool) → HasSmallOffset (if t then Value.Ptr p else Value.Poison)
    on true = pointer_is p k h.0
    on false = tt

pub loaded : (rights : Rights) (m : List MemoryBlock) (p : Value) (what : Access) (align : ℕ) → HaveSmall m → (v : Value)
    → load rights m p what align ≡ Ok v → HasSmallOffset v
loaded rights m p what align h v e = on (range rights m p (access_bytes what) align) e
  where
    on : (r : Result Spot Cause) → on_ok (λ spot. Ok (decode what (bytes_at m spot (access_bytes what)))) r ≡ Ok v
        → HasSmallOffset v
    on (Err cause) k = let z : ◌≡◌ {A = Result Value Cause} (Err cause) (Ok v) = k in absurd (cc)
    on (Ok spot) k = subst HasSmallOffset (same k) (decoded what (bytes_at m spot (access_bytes what)) (bytes_there m spot
        (access_bytes what) h))
      where
        same : {a b : Value} → ◌≡◌ {A = Result Value Cause} (Ok a) (Ok b) → a ≡ b
        same q = cc
