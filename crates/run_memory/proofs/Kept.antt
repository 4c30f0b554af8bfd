-- The operations keep every block whole.
use Rattle.std.proofs.Common.{◌≡◌, ℕ, zero, suc, ◌+◌, ◌-◌, ◌≤◌, Bool, true, false, nat_le, List, [], ◌∷◌, ◌++◌, length, take, drop, replicate, min, Option, Some, None, Ok, Err, Result, refl, ap, ◌∙◌, subst, arith, length-append, length-take, length-drop, if◌then◌else◌}
use Rattle.std.specs.Prelude.{slice_get}
use Rattle.std.proofs.lemmas.List.{length-replicate}
use Rattle.std.proofs.lemmas.List.Elements.{All-nil, All-cons, All-head, All-tail, All-push}
use Rattle.run_memory.specs.declared.block.Byte.{Byte}
use Rattle.run_memory.specs.declared.block.Kind.{Kind}
use Rattle.run_memory.specs.declared.block.Life.{Life}
use Rattle.run_memory.specs.declared.block.MemoryBlock.{MemoryBlock}
use Rattle.run_memory.specs.declared.pointer.Access.{Access}
use Rattle.run_memory.specs.declared.pointer.Spot.{Spot}
use Rattle.run_memory.specs.declared.pointer.Value.{Value}
use Rattle.run_memory.specs.Memory.{Rights, access_bytes, bytes_at, bytes_in, with_block, with_bytes, write, written, encode, fresh, killed, killed_block, start, started, end, ended, disown, disowned, owned_to, seal, sealed, is_killed, same_kind, range, store, is_constant, copied, both, overlaps, on_ok, unless_constant, rank, copy}
use Rattle.run_memory.specs.Whole.{IsWhole, AreWhole, IsWithin, kept_size}
use Rattle.run_memory.proofs.Digits.{length-encode}
use Rattle.run_memory.proofs.Found.{within_bytes}
use Rattle.run_memory.proofs.Blocks.{within_along}
use Rattle.run_ints.specs.ir_base.declared.cause.Cause.{Cause}

-- a block changed to a whole one
pub with_block-whole : (m : List MemoryBlock) (b : ℕ) (f : MemoryBlock → MemoryBlock) → AreWhole m → ((x : MemoryBlock) → slice_get m b ≡ Some x → IsWhole x → IsWhole (f x)) → AreWhole (with_block m b f)
with_block-whole [] b f h g = All-nil IsWhole
with_block-whole (x ∷ m) zero f h g = All-cons IsWhole (f x) m (g x refl (All-head IsWhole x m h)) (All-tail IsWhole x m h)
with_block-whole (x ∷ m) (suc b) f h g = All-cons IsWhole x (with_block m b f) (All-head IsWhole x m h) (with_block-whole m b f (All-tail IsWhole x m h) g)

pub fresh-whole : (m : List MemoryBlock) (size align : ℕ) (kind : Kind) → AreWhole m → AreWhole (fresh m size align kind)
fresh-whole m size align kind h = All-push IsWhole m _ h (record { full = length-replicate size Byte.Undefined })

pub killed-whole : (m : List MemoryBlock) (b : ℕ) → AreWhole m → AreWhole (killed m b)
killed-whole m b h = with_block-whole m b killed_block h (λ x e w. record { full = refl })

kept_alive : (l : Life) (n : ℕ) → is_killed l ≡ false → kept_size l n ≡ n
kept_alive Life.Live n e = refl
kept_alive Life.Ended n e = refl
kept_alive Life.Killed n e = absurd (cc)

started-whole : (x : MemoryBlock) (t : Bool) → is_killed x.life ≡ t → IsWhole x → IsWhole (if t then x else record x { life = Life.Live; bytes = replicate x.size Byte.Undefined })
started-whole x true e w = w
started-whole x false e w = record { full = length-replicate x.size Byte.Undefined }

pub start-whole : (m : List MemoryBlock) (b : ℕ) → AreWhole m → AreWhole (start m b)
start-whole m b h = with_block-whole m b started h (λ x e w. started-whole x (is_killed x.life) refl w)

ended-whole : (x : MemoryBlock) (t : Bool) → is_killed x.life ≡ t → IsWhole x → IsWhole (if t then x else record x { life = Life.Ended })
ended-whole x true e w = w
ended-whole x false e w = record { full = w.full ∙ kept_alive x.life x.size e }

pub end-whole : (m : List MemoryBlock) (b : ℕ) → AreWhole m → AreWhole (end m b)
end-whole m b h = with_block-whole m b ended h (λ x e w. ended-whole x (is_killed x.life) refl w)

pub own-whole : (m : List MemoryBlock) (b n : ℕ) → AreWhole m → AreWhole (with_block m b (owned_to n))
own-whole m b n h = with_block-whole m b (owned_to n) h (λ x e w. record { full = w.full })

pub disown-whole : (m : List MemoryBlock) (b : ℕ) → AreWhole m → AreWhole (disown m b)
disown-whole m b h = with_block-whole m b disowned h (λ x e w. record { full = w.full })

sealed-whole : (x : MemoryBlock) (t : Bool) → IsWhole x → IsWhole (if t then record x { kind = Kind.Constant } else x)
sealed-whole x true w = record { full = w.full }
sealed-whole x false w = w

pub seal-whole : (m : List MemoryBlock) (b : ℕ) → AreWhole m → AreWhole (seal m b)
seal-whole m b h = with_block-whole m b sealed h (λ x e w. sealed-whole x (same_kind x.kind Kind.Global) w)

-- bytes written within a list keep its length
pub length-written : (bytes : List Byte) (offset : ℕ) (new : List Byte) → offset + length new ≤ length bytes → length (written bytes offset new) ≡ length bytes
length-written bytes offset new le =
    let a : length (take offset bytes) ≡ min offset (length bytes) = length-take offset bytes in
    let b : length (drop (offset + length new) bytes) ≡ length bytes - (offset + length new) = length-drop (offset + length new) bytes in
    let c : length (take offset bytes ++ new) ≡ length (take offset bytes) + length new = length-append (take offset bytes) new in
    let d : length (take offset bytes ++ new ++ drop (offset + length new) bytes) ≡ length (take offset bytes ++ new) + length (drop (offset + length new) bytes) = length-append (take offset bytes ++ new) (drop (offset + length new) bytes) in
    omega arith

pub write-whole : (m : List MemoryBlock) (spot : Spot) (new : List Byte) → AreWhole m → IsWithin (slice_get m spot.block) spot.offset (length new) → AreWhole (write m spot new)
write-whole m spot new h within =
    with_block-whole m spot.block (with_bytes spot.offset new) h
    (λ x e w. record { full = length-written x.bytes spot.offset new (subst (λ (o : Option MemoryBlock). IsWithin o spot.offset (length new)) e within) ∙ w.full })

unless_whole : (m : List MemoryBlock) (spot : Spot) (m' n : List MemoryBlock) (t : Bool) → AreWhole m' → (if t then Err Cause.Constant else Ok m') ≡ Ok n → AreWhole n
unless_whole m spot m' n true h e = absurd (cc)
unless_whole m spot m' n false h e = let same : m' ≡ n = cc in subst AreWhole same h

store_case : (rights : Rights) (m : List MemoryBlock) (p v : Value) (what : Access) (align : ℕ) (n : List MemoryBlock) (r : Result Spot Cause) → AreWhole m → range rights m p (access_bytes what) align ≡ r → on_ok (λ spot. unless_constant m spot (write m spot (encode (access_bytes what) v))) r ≡ Ok n → AreWhole n
store_case rights m p v what align n (Err c) h e s = absurd (cc)
store_case rights m p v what align n (Ok spot) h e s =
    let within : IsWithin (slice_get m spot.block) spot.offset (access_bytes what) = within_bytes rights m p (access_bytes what) align spot h e in
    let written : AreWhole (write m spot (encode (access_bytes what) v)) = write-whole m spot (encode (access_bytes what) v) h (within_along (slice_get m spot.block) spot.offset (access_bytes what) _ (length-encode (access_bytes what) v) within) in
    unless_whole m spot (write m spot (encode (access_bytes what) v)) n (is_constant (slice_get m spot.block)) written s

pub store-whole : (rights : Rights) (m : List MemoryBlock) (p v : Value) (what : Access) (align : ℕ) (n : List MemoryBlock) → AreWhole m → store rights m p v what align ≡ Ok n → AreWhole n
store-whole rights m p v what align n h e = store_case rights m p v what align n (range rights m p (access_bytes what) align) h refl e

copied_case : (m : List MemoryBlock) (to from : Spot) (len : ℕ) (n : List MemoryBlock) (t u : Bool) → AreWhole (write m to (bytes_at m from len)) → (if t then Err Cause.Constant else if u then Err Cause.Overlap else Ok (write m to (bytes_at m from len))) ≡ Ok n → AreWhole n
copied_case m to from len n true u h e = absurd (cc)
copied_case m to from len n false true h e = absurd (cc)
copied_case m to from len n false false h e = let same : write m to (bytes_at m from len) ≡ n = cc in subst AreWhole same h

-- as many bytes as a range within a block asks for
pub length-bytes_at : (m : List MemoryBlock) (spot : Spot) (len : ℕ) (x : Option MemoryBlock) → slice_get m spot.block ≡ x → IsWithin x spot.offset len → length (bytes_at m spot len) ≡ len
length-bytes_at m spot len None e within = absurd within
length-bytes_at m spot len (Some x) e within =
    let a : length (take len (drop spot.offset x.bytes)) ≡ min len (length (drop spot.offset x.bytes)) = length-take len (drop spot.offset x.bytes) in
    let b : length (drop spot.offset x.bytes) ≡ length x.bytes - spot.offset = length-drop spot.offset x.bytes in
    ap (λ (o : Option MemoryBlock). length (take len (drop spot.offset (bytes_in o)))) e ∙ omega arith

abbrev CopiedFrom : List MemoryBlock → ℕ → Result (Spot × Spot) Cause → Result (List MemoryBlock) Cause
CopiedFrom m len r = on_ok (λ (a, b). copied m a b len) r

both_err : (m : List MemoryBlock) (len : ℕ) (n : List MemoryBlock) (c d : Cause) (t : Bool) → CopiedFrom m len (if t then Err c else Err d) ≡ Ok n → AreWhole n
both_err m len n c d true e = absurd (cc)
both_err m len n c d false e = absurd (cc)

copy_case : (rights : Rights) (m : List MemoryBlock) (to from : Value) (len : ℕ) (n : List MemoryBlock) (r s : Result Spot Cause) → AreWhole m → range rights m to len 1 ≡ r → range rights m from len 1 ≡ s → CopiedFrom m len (both r s) ≡ Ok n → AreWhole n
copy_case rights m to from len n (Err c) (Err d) h e f g = both_err m len n c d (nat_le (rank c) (rank d)) g
copy_case rights m to from len n (Err c) (Ok b) h e f g = absurd (cc)
copy_case rights m to from len n (Ok a) (Err d) h e f g = absurd (cc)
copy_case rights m to from len n (Ok a) (Ok b) h e f g =
    let to_within : IsWithin (slice_get m a.block) a.offset len = within_bytes rights m to len 1 a h e in
    let from_within : IsWithin (slice_get m b.block) b.offset len = within_bytes rights m from len 1 b h f in
    let long : length (bytes_at m b len) ≡ len = length-bytes_at m b len (slice_get m b.block) refl from_within in
    copied_case m a b len n (is_constant (slice_get m a.block)) (overlaps a b len)
    (write-whole m a (bytes_at m b len) h (within_along (slice_get m a.block) a.offset len _ long to_within))
    g

pub copy-whole : (rights : Rights) (m : List MemoryBlock) (to from : Value) (len : ℕ) (n : List MemoryBlock) → AreWhole m → copy rights m to from len ≡ Ok n → AreWhole n
copy-whole rights m to from zero n h e = let same : m ≡ n = cc in subst AreWhole same h
copy-whole rights m to from (suc k) n h e = copy_case rights m to from (suc k) n (range rights m to (suc k) 1) (range rights m from (suc k) 1) h refl refl e
