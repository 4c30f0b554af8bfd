-- What the operations of the memory leave has no pointer into some blocks, where what is stored has none.
use Rattle.std.proofs.Common.{◌≡◌, ℕ, zero, suc, ◌⊎◌, inl, inr, Bool, true, false, List, [], ◌∷◌, ◌++◌, length, take, drop, replicate, Option, Some, None, Result, Ok, Err, refl, subst, if◌then◌else◌, ◌+◌, ◌/◌}
use Rattle.std.specs.Prelude.{slice_get, slice_set}
use Rattle.pass_kept_proof.specs.run_memory.Memory.{Rights, access_bytes, are_parts, both, bytes_at, bytes_in, copied, copy, decode, digits, encode, end, ended, fresh, integer_from, is_constant, is_killed, load, number_of, on_ok, overlaps, parts, pointer_from, range, start, started, store, unless_constant, with_block, with_bytes, write}
use Rattle.pass_kept_proof.specs.run_memory.declared.block.Byte.{Byte}
use Rattle.pass_kept_proof.specs.run_memory.declared.block.Kind.{Kind}
use Rattle.pass_kept_proof.specs.run_memory.declared.block.Life.{Life}
use Rattle.pass_kept_proof.specs.run_memory.declared.block.MemoryBlock.{MemoryBlock}
use Rattle.pass_kept_proof.specs.run_memory.declared.pointer.Access.{Access}
use Rattle.pass_kept_proof.specs.run_memory.declared.pointer.Pointer.{Pointer}
use Rattle.pass_kept_proof.specs.run_memory.declared.pointer.Spot.{Spot}
use Rattle.pass_kept_proof.specs.run_memory.declared.pointer.Value.{Value}
use Rattle.pass_kept_proof.specs.ir_base.declared.cause.Cause.{Cause}
use Rattle.pass_kept_proof.specs.run_ints.declared.num.Num.{Num}
use Rattle.pass_kept_proof.specs.run_step.Step.{on_block}
use Rattle.pass_kept_proof.specs.run_step.Values.{Env, element, number_of_width, stored, value_of, value_or_poison, with_result, with_value}
use Rattle.pass_kept_proof.specs.run_memory.Pointers.{moved}
use Rattle.pass_renewed_proof.proofs.Muted.{shown_address}
use Rattle.pass_renewed_proof.specs.Muted.{IsShown}
use Rattle.pass_renewed_proof.specs.Shown.{AreShownBlocks, AreShownBytes, IsShownByte, KeepsShown}
use Rattle.run_laws.specs.changed.Changed.{Each}

-- ---- lists

pub each_append : {A : Type 0} (P : A → Type 0) (xs ys : List A) → Each P xs → Each P ys → Each P (xs ++ ys)
each_append P [] ys h k = k
each_append P (x ∷ xs) ys h k = (h.0, each_append P xs ys h.1 k)

each_take : {A : Type 0} (P : A → Type 0) (n : ℕ) (xs : List A) → Each P xs → Each P (take n xs)
each_take P zero xs h = tt
each_take P (suc n) [] h = tt
each_take P (suc n) (x ∷ xs) h = (h.0, each_take P n xs h.1)

each_drop : {A : Type 0} (P : A → Type 0) (n : ℕ) (xs : List A) → Each P xs → Each P (drop n xs)
each_drop P zero xs h = h
each_drop P (suc n) [] h = tt
each_drop P (suc n) (x ∷ xs) h = each_drop P n xs h.1

module _ (hides : ℕ → Bool) where
  -- ---- bytes

  pub undefined_shown : (n : ℕ) → AreShownBytes hides (replicate n Byte.Undefined)
  undefined_shown zero = tt
  undefined_shown (suc n) = (tt, undefined_shown n)

  digits_shown : (n k : ℕ) → AreShownBytes hides (digits n k)
  digits_shown zero k = tt
  digits_shown (suc n) k = (tt, digits_shown n (k / 256))

  parts_shown : (p : Pointer) (k n : ℕ) → IsShown hides (Value.Ptr p) → AreShownBytes hides (parts p k n)
  parts_shown p k zero h = tt
  parts_shown p k (suc n) h = (h, parts_shown p (suc k) n h)

  pub encode_shown : (n : ℕ) (v : Value) → IsShown hides v → AreShownBytes hides (encode n v)
  encode_shown n Value.Poison h = undefined_shown n
  encode_shown n (Value.Int x) h = digits_shown n x.bits
  encode_shown n (Value.Ptr p) h = parts_shown p 0 n h

  number_shown : (w : ℕ) (o : Option ℕ) → IsShown hides (integer_from w o)
  number_shown w None = tt
  number_shown w (Some n) = on _
    where
      on : (t : Bool) → IsShown hides (if t then Value.Poison else Value.Int (record { width = w; bits = n }))
      on true = tt
      on false = tt

  pointer_shown : (bytes : List Byte) → AreShownBytes hides bytes → IsShown hides (pointer_from bytes)
  pointer_shown [] h = tt
  pointer_shown (Byte.Undefined ∷ bytes) h = tt
  pointer_shown (Byte.Number n ∷ bytes) h = tt
  pointer_shown (Byte.Part p k ∷ bytes) h = on (are_parts p 0 (Byte.Part p k ∷ bytes))
    where
      on : (t : Bool) → IsShown hides (if t then Value.Ptr p else Value.Poison)
      on true = h.0
      on false = tt

  decode_shown : (what : Access) (bytes : List Byte) → AreShownBytes hides bytes → IsShown hides (decode what bytes)
  decode_shown (Access.Int w) bytes h = number_shown w (number_of bytes)
  decode_shown Access.Ptr bytes h = pointer_shown bytes h

  pub value_shown : (n : Num) → IsShown hides (value_of n)
  value_shown Num.Poison = tt
  value_shown (Num.Is x) = tt

  pub stored_shown : (what : Access) (v : Value) → IsShown hides v → IsShown hides (stored what v)
  stored_shown (Access.Int w) v h = value_shown (number_of_width w v)
  stored_shown Access.Ptr v h = shown_address hides v h

  -- ---- blocks

  block_shown : (m : List MemoryBlock) (b : ℕ) → AreShownBlocks hides m → AreShownBytes hides (bytes_in (slice_get m b))
  block_shown [] b h = tt
  block_shown (x ∷ m) zero h = h.0
  block_shown (x ∷ m) (suc b) h = block_shown m b h.1

  bytes_shown : (m : List MemoryBlock) (spot : Spot) (len : ℕ) → AreShownBlocks hides m → AreShownBytes hides (bytes_at m spot len)
  bytes_shown m spot len h = each_take (IsShownByte hides) len _ (each_drop (IsShownByte hides) spot.offset _ (block_shown m spot.block h))

  pub change_shown : (m : List MemoryBlock) (b : ℕ) (f : MemoryBlock → MemoryBlock) → ((x : MemoryBlock) → AreShownBytes hides x.bytes → AreShownBytes hides (f x).bytes) → AreShownBlocks hides m → AreShownBlocks hides (with_block m b f)
  change_shown [] b f keeps h = tt
  change_shown (x ∷ m) zero f keeps h = (keeps x h.0, h.1)
  change_shown (x ∷ m) (suc b) f keeps h = (h.0, change_shown m b f keeps h.1)

  write_shown : (m : List MemoryBlock) (spot : Spot) (new : List Byte) → AreShownBytes hides new → AreShownBlocks hides m → AreShownBlocks hides (write m spot new)
  write_shown m spot new k h =
      change_shown m spot.block (with_bytes spot.offset new)
      (λ x hx. each_append (IsShownByte hides) (take spot.offset x.bytes ++ new) (drop (spot.offset + length new) x.bytes) (each_append (IsShownByte hides) (take spot.offset x.bytes) new (each_take (IsShownByte hides) spot.offset x.bytes hx) k) (each_drop (IsShownByte hides) (spot.offset + length new) x.bytes hx))
      h

  pub fresh_shown : (m : List MemoryBlock) (size align : ℕ) (kind : Kind) → AreShownBlocks hides m → AreShownBlocks hides (fresh m size align kind)
  fresh_shown m size align kind h = each_append (λ (x : MemoryBlock). AreShownBytes hides x.bytes) m _ h (undefined_shown size, tt)

  pub started_shown : (m : List MemoryBlock) (o : Option ℕ) → AreShownBlocks hides m → AreShownBlocks hides (on_block start m o)
  started_shown m None h = h
  started_shown m (Some b) h = change_shown m b started (λ x k. on x (is_killed x.life) k) h
    where
      on : (x : MemoryBlock) (t : Bool) → AreShownBytes hides x.bytes → AreShownBytes hides (if t then x else record x { life = Life.Live; bytes = replicate x.size Byte.Undefined }).bytes
      on x true k = k
      on x false k = undefined_shown x.size

  pub ended_shown : (m : List MemoryBlock) (o : Option ℕ) → AreShownBlocks hides m → AreShownBlocks hides (on_block end m o)
  ended_shown m None h = h
  ended_shown m (Some b) h = change_shown m b ended (λ x k. on x (is_killed x.life) k) h
    where
      on : (x : MemoryBlock) (t : Bool) → AreShownBytes hides x.bytes → AreShownBytes hides (if t then x else record x { life = Life.Ended }).bytes
      on x true k = k
      on x false k = k

  -- ---- accesses

  pub load_shown : (rights : Rights) (m : List MemoryBlock) (p : Value) (what : Access) (align : ℕ) (v : Value) → AreShownBlocks hides m → load rights m p what align ≡ Ok v → IsShown hides v
  load_shown rights m p what align v h e = on (range rights m p (access_bytes what) align) e
    where
      on : (r : Result Spot Cause) → on_ok (λ spot. Ok (decode what (bytes_at m spot (access_bytes what)))) r ≡ Ok v → IsShown hides v
      on (Err cause) k = absurd (cc)
      on (Ok spot) k =
          let is : decode what (bytes_at m spot (access_bytes what)) ≡ v = cc in
          subst (IsShown hides) is (decode_shown what _ (bytes_shown m spot (access_bytes what) h))

  abbrev pub IsShownResult : Result (List MemoryBlock) Cause → Type 0
  IsShownResult (Err cause) = Unit {0}
  IsShownResult (Ok m) = AreShownBlocks hides m

  if_result : (t : Bool) (r r' : Result (List MemoryBlock) Cause) → IsShownResult r → IsShownResult r' → IsShownResult (if t then r else r')
  if_result true r r' h k = h
  if_result false r r' h k = k

  pub store_shown : (rights : Rights) (m : List MemoryBlock) (p v : Value) (what : Access) (align : ℕ) → IsShown hides v → AreShownBlocks hides m → IsShownResult (store rights m p v what align)
  store_shown rights m p v what align hv h = on (range rights m p (access_bytes what) align)
    where
      on : (r : Result Spot Cause) → IsShownResult (on_ok (λ spot. unless_constant m spot (write m spot (encode (access_bytes what) v))) r)
      on (Err cause) = tt
      on (Ok spot) = if_result (is_constant (slice_get m spot.block)) (Err Cause.Constant) (Ok (write m spot (encode (access_bytes what) v))) tt (write_shown m spot _ (encode_shown (access_bytes what) v hv) h)

  pub copy_shown : (rights : Rights) (m : List MemoryBlock) (to from : Value) (len : ℕ) → AreShownBlocks hides m → IsShownResult (copy rights m to from len)
  copy_shown rights m to from zero h = h
  copy_shown rights m to from (suc n) h = on (both (range rights m to (suc n) 1) (range rights m from (suc n) 1))
    where
      on : (r : Result (Spot × Spot) Cause) → IsShownResult (on_ok (λ (a, b). copied m a b (suc n)) r)
      on (Err cause) = tt
      on (Ok p) =
          if_result (is_constant (slice_get m p.0.block)) (Err Cause.Constant) _ tt
          (if_result (overlaps p.0 p.1 (suc n)) (Err Cause.Overlap) (Ok (write m p.0 (bytes_at m p.1 (suc n)))) tt (write_shown m p.0 _ (bytes_shown m p.1 (suc n) h) h))

  -- ---- values

  pub element_shown : (m : List MemoryBlock) (inbounds : Bool) (p : Value) (d : Option ℕ) → IsShown hides p → IsShown hides (element m inbounds p d)
  element_shown m inbounds p None h = tt
  element_shown m inbounds (Value.Ptr (Pointer.At b o)) (Some d) h = on _
    where
      on : (t : Bool) → IsShown hides (if t then Value.Poison else Value.Ptr (Pointer.At b (moved o d)))
      on true = tt
      on false = h
  element_shown m inbounds (Value.Ptr Pointer.Null) (Some d) h = on _
    where
      on : (t : Bool) → IsShown hides (if t then Value.Ptr Pointer.Null else Value.Poison)
      on true = tt
      on false = tt
  element_shown m inbounds (Value.Ptr (Pointer.Func f)) (Some d) h = tt
  element_shown m inbounds Value.Poison (Some d) h = tt
  element_shown m inbounds (Value.Int x) (Some d) h = tt

  pub keeps_itself : (env : Env) → KeepsShown hides env env
  keeps_itself env name = inl refl

  set_at : (env : Env) (name at : ℕ) (v : Value) → IsShown hides v → (value_or_poison (slice_get (slice_set env name (Some v)) at) ≡ value_or_poison (slice_get env at)) ⊎ IsShown hides (value_or_poison (slice_get (slice_set env name (Some v)) at))
  set_at [] name at v h = inl refl
  set_at (x ∷ env) zero zero v h = inr h
  set_at (x ∷ env) zero (suc at) v h = inl refl
  set_at (x ∷ env) (suc name) zero v h = inl refl
  set_at (x ∷ env) (suc name) (suc at) v h = set_at env name at v h

  pub set_shown : (env : Env) (name : ℕ) (v : Value) → IsShown hides v → KeepsShown hides env (with_value env name v)
  set_shown env name v h at = set_at env name at v h

  pub result_shown : (env : Env) (name : Option ℕ) (v : Value) → IsShown hides v → KeepsShown hides env (with_result env name v)
  result_shown env None v h = keeps_itself env
  result_shown env (Some name) v h = set_shown env name v h
