-- What operations on memory leave of bytes, and what a load gives.
use Rattle.std.proofs.Common.{◌≡◌, ◌<◌, ◌≤◌, ◌⊎◌, inl, inr, ℕ, zero, suc, ◌+◌, ◌*◌, ◌/◌, ◌%◌, ◌^◌, Bool, true, false}
use Rattle.std.proofs.Common.{List, [], ◌∷◌, ◌++◌, length}
use Rattle.std.proofs.Common.{Option, Some, None, Result, Ok, Err, refl, sym, ap, ◌∙◌, subst, arith, replicate, ◌&&◌}
use Rattle.std.proofs.Common.{◌==◌}
use Rattle.std.proofs.Math.Nat.{mod-lt}
use Rattle.std.proofs.Math.Pow.{pow_mono}
use Rattle.std.proofs.lemmas.Bool.{eq-eqb, eqb-true, ltb-false}
use Rattle.std.proofs.lemmas.Nat.{pow-add}
use Rattle.std.specs.Prelude.{drop, if◌then◌else◌, nat_lt, not, slice_get, take, ◌||◌}
use Rattle.run_hooks.specs.ir_base.declared.cause.Cause.{Cause}
use Rattle.ir_laws.specs.facts.counted.Widths.{is_width}
use Rattle.run_hooks.proofs.alive.Parts.{all_append, all_where}
use Rattle.run_hooks.specs.run_memory.Memory.{Rights, access_bytes, both, bytes_at, bytes_in, check, copied, copy, decode, digits}
use Rattle.run_hooks.specs.run_memory.Memory.{disowned, encode, ended}
use Rattle.run_hooks.specs.run_memory.Memory.{fresh, integer_from, is_constant, is_owned, is_killed, is_unkilled, kill, killed}
use Rattle.run_hooks.specs.run_memory.Memory.{killed_block, load, may_be_owned, number_of, on_ok}
use Rattle.run_hooks.specs.run_memory.Memory.{onto, overlaps, own, owned_to, parts, range, started, store, unless_constant}
use Rattle.run_hooks.specs.run_memory.Memory.{width_bytes, with_block, with_bytes, write, written}
use Rattle.run_hooks.specs.run_memory.declared.block.Byte.{Byte}
use Rattle.run_hooks.specs.run_memory.declared.block.Kind.{Kind}
use Rattle.run_hooks.specs.run_memory.declared.block.Life.{Life}
use Rattle.run_hooks.specs.run_memory.declared.block.MemoryBlock.{MemoryBlock}
use Rattle.run_hooks.specs.run_memory.declared.pointer.Access.{Access}
use Rattle.run_hooks.specs.run_memory.declared.pointer.Pointer.{Pointer}
use Rattle.run_hooks.specs.run_memory.declared.pointer.Spot.{Spot}
use Rattle.run_hooks.specs.run_memory.declared.pointer.Value.{Value}
use Rattle.run_hooks.specs.run_step.Step.{deallocated, without_slots}
use Rattle.run_hooks.specs.run_step.declared.world.Slot.{Slot}
use Rattle.run_types.specs.Fitting.{AreBytes, HaveBytes, IsByte, IsInteger}

-- ---- lists of bytes

repeated : (n : ℕ) → AreBytes (replicate n Byte.Undefined)
repeated zero = tt
repeated (suc n) = (tt, repeated n)

digit_is : (n : ℕ) → n % 256 < 256
digit_is n = let p : 0 < 256 = omega arith in mod-lt n p

digits_are : (k n : ℕ) → AreBytes (digits k n)
digits_are zero n = tt
digits_are (suc k) n = (digit_is n, digits_are k (n / 256))

parts_are : (p : Pointer) (k n : ℕ) → AreBytes (parts p k n)
parts_are p k zero = tt
parts_are p k (suc n) = (tt, parts_are p (suc k) n)

pub encoded : (n : ℕ) (v : Value) → AreBytes (encode n v)
encoded n Value.Poison = repeated n
encoded n (Value.Int w) = digits_are n w.bits
encoded n (Value.Ptr p) = parts_are p 0 n

taken : (n : ℕ) (bytes : List Byte) → AreBytes bytes → AreBytes (take n bytes)
taken zero bytes h = tt
taken (suc n) [] h = tt
taken (suc n) (b ∷ bytes) h = (h.0, taken n bytes h.1)

dropped : (n : ℕ) (bytes : List Byte) → AreBytes bytes → AreBytes (drop n bytes)
dropped zero bytes h = h
dropped (suc n) [] h = tt
dropped (suc n) (b ∷ bytes) h = dropped n bytes h.1

written_are : (bytes : List Byte) (offset : ℕ) (new : List Byte) → AreBytes bytes → AreBytes new
    → AreBytes (written bytes offset new)
written_are bytes offset new h k =
    all_append IsByte (take offset bytes ++ new) (drop (offset + length new) bytes)
    (all_append IsByte (take offset bytes) new (taken offset bytes h) k) (dropped (offset + length new) bytes h)

-- ---- blocks

pub block_set : (m : List MemoryBlock) (b : ℕ) (f : MemoryBlock → MemoryBlock)
    → ((x : MemoryBlock) → AreBytes x.bytes → AreBytes (f x).bytes) → HaveBytes m → HaveBytes (with_block m b f)
block_set [] b f h k = tt
block_set (x ∷ m) zero f h k = (h x k.0, k.1)
block_set (x ∷ m) (suc b) f h k = (k.0, block_set m b f h k.1)

pub fresh_has : (m : List MemoryBlock) (size align : ℕ) (kind : Kind) → HaveBytes m
    → HaveBytes (fresh m size align kind)
fresh_has m size align kind h = all_append (λ (x : MemoryBlock). AreBytes x.bytes) m _ h (repeated size, tt)

pub killed_has : (m : List MemoryBlock) (b : ℕ) → HaveBytes m → HaveBytes (killed m b)
killed_has m b h = block_set m b killed_block (λ x k. tt) h

pub started_has : (m : List MemoryBlock) (b : ℕ) → HaveBytes m → HaveBytes (with_block m b started)
started_has m b h = block_set m b started (λ x k. on x k (is_killed x.life)) h
  where
    on : (x : MemoryBlock) → AreBytes x.bytes → (t : Bool)
        → AreBytes (if t then x else record x {
          life = Life.Live;
          bytes = replicate x.size Byte.Undefined;
        }).bytes
    on x k true = k
    on x k false = repeated x.size

pub ended_has : (m : List MemoryBlock) (b : ℕ) → HaveBytes m → HaveBytes (with_block m b ended)
ended_has m b h = block_set m b ended (λ x k. on x k (is_killed x.life)) h
  where
    on : (x : MemoryBlock) → AreBytes x.bytes → (t : Bool)
        → AreBytes (if t then x else record x { life = Life.Ended }).bytes
    on x k true = k
    on x k false = k

pub disowned_has : (m : List MemoryBlock) (b : ℕ) → HaveBytes m → HaveBytes (with_block m b disowned)
disowned_has m b h = block_set m b disowned (λ x k. k) h

pub without_has : (m : List MemoryBlock) (slots : List Slot) → HaveBytes m → HaveBytes (without_slots m slots)
without_has m [] h = h
without_has m (s ∷ slots) h = without_has (killed m s.block) slots (killed_has m s.block h)

-- ---- operations

-- the memory that an operation gives has bytes
abbrev pub GivesBytes : Result (List MemoryBlock) Cause → Type 0
GivesBytes (Ok m) = HaveBytes m
GivesBytes r = Unit {0}

pub own_has : (m : List MemoryBlock) (v : Value) (n : ℕ) (kind : Kind) → HaveBytes m → GivesBytes (own m v n kind)
own_has m (Value.Ptr (Pointer.At b o)) n kind h = on ((o.bits == 0) && may_be_owned kind n (slice_get m b))
  where
    on : (t : Bool) → GivesBytes (check t Cause.Begin (Ok (with_block m b (owned_to n))))
    on true = block_set m b (owned_to n) (λ x k. k) h
    on false = tt
own_has m (Value.Ptr Pointer.Null) n kind h = tt
own_has m (Value.Ptr (Pointer.Func f)) n kind h = tt
own_has m Value.Poison n kind h = tt
own_has m (Value.Int w) n kind h = tt

kill_has : (m : List MemoryBlock) (v : Value) (kind : Kind) → HaveBytes m → GivesBytes (kill m v kind)
kill_has m (Value.Ptr (Pointer.At b o)) kind h =
    on (not ((o.bits == 0) && is_unkilled kind (slice_get m b))) (is_owned (slice_get m b))
  where
    on : (t u : Bool) → GivesBytes (if t then Err Cause.Free else if u then Err Cause.Owned else Ok (killed m b))
    on true u = tt
    on false true = tt
    on false false = killed_has m b h
kill_has m (Value.Ptr Pointer.Null) kind h = tt
kill_has m (Value.Ptr (Pointer.Func f)) kind h = tt
kill_has m Value.Poison kind h = tt
kill_has m (Value.Int w) kind h = tt

pub deallocated_has : (m : List MemoryBlock) (v : Value) → HaveBytes m → GivesBytes (deallocated m v)
deallocated_has m (Value.Ptr Pointer.Null) h = h
deallocated_has m (Value.Ptr (Pointer.At b o)) h = kill_has m (Value.Ptr (Pointer.At b o)) Kind.Allocator h
deallocated_has m (Value.Ptr (Pointer.Func f)) h = tt
deallocated_has m Value.Poison h = tt
deallocated_has m (Value.Int w) h = tt

write_has : (m : List MemoryBlock) (spot : Spot) (new : List Byte) → AreBytes new → HaveBytes m
    → HaveBytes (write m spot new)
write_has m spot new k h = block_set m spot.block (with_bytes spot.offset new)
    (λ x b. written_are x.bytes spot.offset new b k) h

pub store_has : (rights : Rights) (m : List MemoryBlock) (p v : Value) (what : Access) (align : ℕ) → HaveBytes m
    → GivesBytes (store rights m p v what align)
store_has rights m p v what align h = on (range rights m p (access_bytes what) align)
  where
    unless : (spot : Spot) (t : Bool) → GivesBytes (if t then Err Cause.Constant
        else Ok (write m spot (encode (access_bytes what) v)))
    unless spot true = tt
    unless spot false = write_has m spot (encode (access_bytes what) v) (encoded (access_bytes what) v) h

    on : (r : Result Spot Cause)
        → GivesBytes (on_ok (λ spot. unless_constant m spot (write m spot (encode (access_bytes what) v))) r)
    on (Err cause) = tt
    on (Ok spot) = unless spot (is_constant (slice_get m spot.block))

pub bytes_there : (m : List MemoryBlock) (spot : Spot) (len : ℕ) → HaveBytes m → AreBytes (bytes_at m spot len)
bytes_there m spot len h = taken len (drop spot.offset (bytes_in (slice_get m spot.block)))
    (dropped spot.offset (bytes_in (slice_get m spot.block)) (on (slice_get m spot.block) refl))
  where
    on : (o : Option MemoryBlock) → slice_get m spot.block ≡ o → AreBytes (bytes_in o)
    on None e = tt
    on (Some x) e = all_where (λ (x : MemoryBlock). AreBytes x.bytes) m h spot.block x e

pub copy_has : (rights : Rights) (m : List MemoryBlock) (to from : Value) (n : ℕ) → HaveBytes m
    → GivesBytes (copy rights m to from n)
copy_has rights m to from zero h = h
copy_has rights m to from (suc n) h = on (both (range rights m to (suc n) 1) (range rights m from (suc n) 1))
  where
    one : (a b : Spot) (t u : Bool) → GivesBytes (if t then Err Cause.Constant else if u then Err Cause.Overlap
        else Ok (write m a (bytes_at m b (suc n))))
    one a b true u = tt
    one a b false true = tt
    one a b false false = write_has m a (bytes_at m b (suc n)) (bytes_there m b (suc n) h) h

    on : (r : Result (Spot × Spot) Cause) → GivesBytes (on_ok (λ (a, b). copied m a b (suc n)) r)
    on (Err cause) = tt
    on (Ok p) = one p.0 p.1 (is_constant (slice_get m p.0.block)) (overlaps p.0 p.1 (suc n))

-- ---- loads

number_below : (bytes : List Byte) → AreBytes bytes → (n : ℕ) → number_of bytes ≡ Some n → n < 2 ^ (8 * length bytes)
number_below [] h n e = let z : 0 ≡ n = cc in omega (arith, z)
number_below (Byte.Undefined ∷ bytes) h n e = absurd (cc)
number_below (Byte.Part p k ∷ bytes) h n e = absurd (cc)
number_below (Byte.Number k ∷ bytes) h n e = on (number_of bytes) refl e (number_below bytes h.1)
  where
    bound : (m : ℕ) → m < 2 ^ (8 * length bytes) → k < 256 → k + 256 * m ≡ n → n < 2 ^ (8 * suc (length bytes))
    bound m lt small is =
        let e : 8 * suc (length bytes) ≡ 8 * length bytes + 8 = omega arith in
        let p : 2 ^ (8 * suc (length bytes)) ≡ 2 ^ (8 * length bytes) * 2 ^ 8 =
        ap (λ (j : ℕ). 2 ^ j) e ∙ pow-add 2 (8 * length bytes) 8 in
        subst (λ (j : ℕ). n < j) (sym p) (less (2 ^ (8 * length bytes)) m lt small is)
      where
        less : (top m : ℕ) → m < top → k < 256 → k + 256 * m ≡ n → n < top * 2 ^ 8
        less top m lt small is = omega arith

    on : (o : Option ℕ) → number_of bytes ≡ o → onto k o ≡ Some n
        → ((m : ℕ) → number_of bytes ≡ Some m → m < 2 ^ (8 * length bytes))
        → n < 2 ^ (8 * suc (length bytes))
    on None eo k' rest = absurd (cc)
    on (Some m) eo k' rest = let is : k + 256 * m ≡ n = cc in bound m (rest m eo) h.0 is

take_at_most : (n : ℕ) (bytes : List Byte) → length (take n bytes) ≤ n
take_at_most zero bytes = omega arith
take_at_most (suc n) [] = omega arith
take_at_most (suc n) (b ∷ bytes) = let h = take_at_most n bytes in omega (arith, h)

-- a width of whole bytes, or an i1
whole : (w : ℕ) → is_width w ≡ true → (w ≡ 1) ⊎ (8 * width_bytes w ≡ w)
whole w e = on (w == 1) refl
  where
    more : (a b c d : Bool) → (a || (b || (c || d))) ≡ true → (w == 8) ≡ a → (w == 16) ≡ b → (w == 32) ≡ c → (w == 64)
        ≡ d
        → 8 * width_bytes w ≡ w
    more true b c d h ea eb ec ed = let is : w ≡ 8 = eqb-true w 8 ea in subst (λ (n : ℕ). 8 * width_bytes n ≡ n)
        (sym is) refl
    more false true c d h ea eb ec ed = let is : w ≡ 16 = eqb-true w 16 eb
        in subst (λ (n : ℕ). 8 * width_bytes n ≡ n) (sym is) refl
    more false false true d h ea eb ec ed = let is : w ≡ 32 = eqb-true w 32 ec
        in subst (λ (n : ℕ). 8 * width_bytes n ≡ n) (sym is) refl
    more false false false true h ea eb ec ed = let is : w ≡ 64 = eqb-true w 64 ed
        in subst (λ (n : ℕ). 8 * width_bytes n ≡ n) (sym is) refl
    more false false false false h ea eb ec ed = absurd (cc)

    on : (t : Bool) → (w == 1) ≡ t → (w ≡ 1) ⊎ (8 * width_bytes w ≡ w)
    on true et = inl (eqb-true w 1 et)
    on false et = inr (more (w == 8) (w == 16) (w == 32) (w == 64) (sym
        (ap (λ (t : Bool). t || ((w == 8) || ((w == 16) || ((w == 32) || (w == 64))))) et) ∙ e) refl refl refl refl)

-- a number that is loaded fits its width
loaded_number : (w : ℕ) → is_width w ≡ true → (bytes : List Byte) → AreBytes bytes → length bytes ≤ width_bytes w
    → IsInteger w (integer_from w (number_of bytes))
loaded_number w ok bytes h few = on (number_of bytes) refl
  where
    word : (n : ℕ) → n < 2 ^ w → IsInteger w (Value.Int (record { width = w; bits = n }))
    word n lt = record { width = refl; below = lt }

    wide : (n : ℕ) → n < 2 ^ (8 * length bytes) → 8 * width_bytes w ≡ w → n < 2 ^ w
    wide n lt e =
        let le : 8 * length bytes ≤ w = omega (arith, few, e) in
        let m = pow_mono le in
        omega (arith, lt, m)

    one : (n : ℕ) → w ≡ 1 → (t : Bool) → nat_lt 1 n ≡ t
        → (n < 2 ^ w) ⊎ (((w == 1) && nat_lt 1 n) ≡ true)
    one n e true et = inr (λ j. is_one e j && et j)
      where
        is_one : w ≡ 1 → (w == 1) ≡ true
        is_one e = eq-eqb w 1 e
    one n e false et = inl (subst (λ (v : ℕ). n < 2 ^ v) (sym e) (let k : n ≤ 1 = ltb-false 1 n et in omega (arith, k)))

    by : (n : ℕ) → number_of bytes ≡ Some n → (t : Bool) → ((w == 1) && nat_lt 1 n) ≡ t
        → IsInteger w (if t then Value.Poison else Value.Int (record { width = w; bits = n }))
    by n en true et = tt
    by n en false et = word n (below (whole w ok))
      where
        below : (w ≡ 1) ⊎ (8 * width_bytes w ≡ w) → n < 2 ^ w
        below (inr e) = wide n (number_below bytes h n en) e
        below (inl e) = last (one n e (nat_lt 1 n) refl)
          where
            last : (n < 2 ^ w) ⊎ (((w == 1) && nat_lt 1 n) ≡ true) → n < 2 ^ w
            last (inl lt) = lt
            last (inr big) = let wrong : true ≡ false = sym big ∙ et in absurd (cc)

    on : (o : Option ℕ) → number_of bytes ≡ o → IsInteger w (integer_from w o)
    on None e = tt
    on (Some n) e = by n e ((w == 1) && nat_lt 1 n) refl

pub loaded : (rights : Rights) (m : List MemoryBlock) (p : Value) (w align : ℕ) → is_width w ≡ true → HaveBytes m
    → (v : Value) → load rights m p (Access.Int w) align ≡ Ok v → IsInteger w v
loaded rights m p w align ok h v e = on (range rights m p (width_bytes w) align) e
  where
    on : (r : Result Spot Cause)
        → on_ok (λ spot. Ok (decode (Access.Int w) (bytes_at m spot (width_bytes w)))) r ≡ Ok v → IsInteger w v
    on (Err cause) k = absurd (cc)
    on (Ok spot) k =
        let is : integer_from w (number_of (bytes_at m spot (width_bytes w))) ≡ v = cc in
        subst (IsInteger w) is (loaded_number w ok (bytes_at m spot (width_bytes w))
        (bytes_there m spot (width_bytes w) h)
        (take_at_most (width_bytes w) _))
