-- Comparisons at offsets of 64 bits alone: an instruction whose pointers have such offsets does the same by either
-- rights.
use Rattle.std.proofs.Common.{◌≡◌, ℕ, zero, suc, ◌+◌, ◌^◌, ◌<◌, ◌≤◌, ◌||◌, Bool, true, false, not, List, Option}
use Rattle.std.proofs.Common.{Some, None, refl}
use Rattle.std.proofs.Common.{ap, ◌∙◌, if◌then◌else◌, ◌&&◌, ◌==◌, Result, Ok, arith}
use Rattle.std.specs.Prelude.{nat_lt, slice_get}
use Rattle.pass_kept_proof.specs.ir_base.declared.cause.Cause.{Cause}
use Rattle.pass_kept_proof.specs.ir_base.declared.ops.Pred.{Pred}
use Rattle.pass_kept_proof.specs.ir_model.Ty.{Ty, array, int, named, ptr, structure, token}
use Rattle.pass_kept_proof.specs.ir_model.declared.instr.Instr.{Instr}
use Rattle.pass_kept_proof.specs.ir_model.declared.operand.Arg.{Arg}
use Rattle.pass_kept_proof.specs.ir_model.declared.operand.Callee.{Callee}
use Rattle.pass_kept_proof.specs.ir_model.declared.operand.Intrinsic.{Intrinsic}
use Rattle.run_laws.proofs.memory.Itself.{owner_rights_fit}
use Rattle.run_laws.specs.memory.Pointers.{Home, home_of}
use Rattle.run_laws.specs.memory.Standing.{AreByteRights, Embeds}
use Rattle.pass_kept_proof.specs.run_memory.Memory.{access_bytes, both, check, compare, copied, copy, decode, encode, is_compared}
use Rattle.pass_kept_proof.specs.run_memory.Memory.{is_inside, is_live, is_within, bytes_at, load, may_compare, may_compare_at, on_ok}
use Rattle.pass_kept_proof.specs.run_memory.Memory.{owner_rights, range, range_at, store, unless_constant, write}
use Rattle.pass_kept_proof.specs.run_memory.Pointers.{same_pointer}
use Rattle.pass_kept_proof.specs.run_memory.declared.block.MemoryBlock.{MemoryBlock}
use Rattle.pass_kept_proof.specs.run_memory.declared.pointer.Access.{Access}
use Rattle.pass_kept_proof.specs.run_memory.declared.pointer.Offset.{Offset}
use Rattle.pass_kept_proof.specs.run_memory.declared.pointer.Pointer.{Pointer}
use Rattle.pass_kept_proof.specs.run_memory.declared.pointer.Spot.{Spot}
use Rattle.pass_kept_proof.specs.run_memory.declared.pointer.Value.{Value}
use Rattle.pass_kept_proof.specs.run_step.Step.{AtInstr, AtTerm, Context, Fetched, Nowhere, Work, action_of, compared}
use Rattle.pass_kept_proof.specs.run_step.Step.{copied_bytes}
use Rattle.pass_kept_proof.specs.run_step.Step.{done, if_alignment, set_memory, set_value, by_pred, value_at, with_length}
use Rattle.pass_kept_proof.specs.run_step.Values.{access_of, address, arg_value, arg_values, nth, stored, truth_value}
use Rattle.pass_renewed_proof.specs.Small.{ComparesSmall, HasSmallOffset, small_rights}

-- ---- memories

pub small_rights_fit : AreByteRights small_rights
small_rights_fit = record {
  bytes = owner_rights_fit.bytes;
  closed = owner_rights_fit.closed;
  aligned = owner_rights_fit.aligned;
  comparable = λ b x bytes o. refl;
}

below : (n k : ℕ) → n < k → nat_lt n k ≡ true
below n k lt = grind arith

pub and_second : (a b : Bool) → (a && b) ≡ true → b ≡ true
and_second true b e = e
and_second false b e = absurd (cc)

both_true : (a b : Bool) → a ≡ true → b ≡ true → (a && b) ≡ true
both_true a b p q = ap (λ t. t && b) p ∙ q

-- what stands by the one rights stands by the other ones, as a block has less than 2^64 bytes
pub small_embeds : (homes : List Home) (m n : List MemoryBlock) → Embeds owner_rights owner_rights homes m n
    → Embeds small_rights owner_rights homes m n
small_embeds homes m n em = record {
  each = λ b x is live. let s = em.each b x is live in record {
    known = s.known;
    block = s.block;
    there = s.there;
    live = s.live;
    full = s.full;
    whole = s.whole;
    fits = s.fits;
    small = s.small;
    writable = s.writable;
    allowed = record {
      opens = s.allowed.opens;
      aligned = s.allowed.aligned;
      comparable = λ o le e. s.allowed.comparable o le (and_second (nat_lt o (2 ^ 64)) _ e);
    };
    bytes = s.bytes;
  };
  apart = λ b c x y ne at_b at_c live_x live_y same. let a = em.apart b c x y ne at_b at_c live_x live_y same in record {
    bytes = a.bytes;
    places = λ i j li lj p q. a.places i j li lj (and_second (nat_lt i (2 ^ 64)) _ p) (and_second (nat_lt j (2 ^
        64)) _ q);
  };
}

pub owner_embeds : (homes : List Home) (m n : List MemoryBlock) → Embeds small_rights owner_rights homes m n
    → Embeds owner_rights owner_rights homes m n
owner_embeds homes m n em = record {
  each = λ b x is live. let s = em.each b x is live in record {
    known = s.known;
    block = s.block;
    there = s.there;
    live = s.live;
    full = s.full;
    whole = s.whole;
    fits = s.fits;
    small = s.small;
    writable = s.writable;
    allowed = record {
      opens = s.allowed.opens;
      aligned = s.allowed.aligned;
      comparable = λ o le e. s.allowed.comparable o le (both_true (nat_lt o (2 ^ 64)) _ (below o (2 ^ 64) (within b x
          is live o le)) e);
    };
    bytes = s.bytes;
  };
  apart = λ b c x y ne at_b at_c live_x live_y same. let a = em.apart b c x y ne at_b at_c live_x live_y same in record {
    bytes = a.bytes;
    places = λ i j li lj p q. a.places i j li lj (both_true (nat_lt i (2 ^ 64)) _ (below i (2 ^ 64) (within b x at_b
        live_x i (omega arith))) p) (both_true (nat_lt j (2 ^ 64)) _ (below j (2 ^ 64) (within c y at_c live_y j (omega
        arith))) q);
  };
}
  where
    less : (o h k n : ℕ) (p : ℕ) → o ≤ k → h + k ≤ n → n < p → o < p
    less o h k n p le fits small = omega arith

    within : (b : ℕ) (x : MemoryBlock) → slice_get m b ≡ Some x → is_live x.life ≡ true → (o : ℕ) → o ≤ x.size
        → o < 2 ^ 64
    within b x is live o le =
        let s = em.each b x is live in
        less o (home_of homes b).offset x.size s.block.size (2 ^ 64) le s.fits s.small

-- ---- accesses

range_same : (m : List MemoryBlock) (p : Value) (len align : ℕ) → range small_rights m p len align ≡ range owner_rights
    m p len align
range_same m Value.Poison len align = refl
range_same m (Value.Int w) len align = refl
range_same m (Value.Ptr Pointer.Null) len align = refl
range_same m (Value.Ptr (Pointer.Func f)) len align = refl
range_same m (Value.Ptr (Pointer.At b o)) len align = on (slice_get m b)
  where
    on : (z : Option MemoryBlock) → range_at small_rights b z o.bits len align ≡ range_at owner_rights b z o.bits len
        align
    on None = refl
    on (Some x) = refl

load_same : (m : List MemoryBlock) (p : Value) (what : Access) (align : ℕ) → load small_rights m p what align ≡ load
    owner_rights m p what align
load_same m p what align = ap (on_ok (λ spot. Ok (decode what (bytes_at m spot (access_bytes what))))) (range_same m p
    (access_bytes what) align)

store_same : (m : List MemoryBlock) (p v : Value) (what : Access) (align : ℕ) → store small_rights m p v what align ≡
    store owner_rights m p v what align
store_same m p v what align = ap (on_ok (λ spot. unless_constant m spot (write m spot (encode (access_bytes what) v))))
    (range_same m p (access_bytes what) align)

copy_same : (m : List MemoryBlock) (to from : Value) (len : ℕ) → copy small_rights m to from len ≡ copy owner_rights m
    to from len
copy_same m to from zero = refl
copy_same m to from (suc n) = ap (λ (p : Result Spot Cause × Result Spot Cause). on_ok {B = List MemoryBlock} (λ (a, b).
    copied m a b (suc n)) (both p.0 p.1)) (λ i. (range_same m to (suc n) 1 i, range_same m from (suc n) 1 i))

-- ---- comparisons

may_same : (b : ℕ) (x : MemoryBlock) (o : Offset) → o.bits < 2 ^ 64 → may_compare small_rights b x o ≡ may_compare
    owner_rights b x o
may_same b x o lt = ap (λ t. not (is_live x.life) || (t && owner_rights.is_comparable b x o.bits)) (below o.bits (2 ^
    64) lt)

may_same_at : (b : ℕ) (z : Option MemoryBlock) (o : Offset) → o.bits < 2 ^ 64 → may_compare_at small_rights b z o ≡
    may_compare_at owner_rights b z o
may_same_at b None o lt = refl
may_same_at b (Some x) o lt = may_same b x o lt

compared_same : (b c : ℕ) (o p : Offset) → o.bits < 2 ^ 64 → p.bits < 2 ^ 64 → (y z : Option MemoryBlock)
    → is_compared small_rights b o c p y z ≡ is_compared owner_rights b o c p y z
compared_same b c o p lo lp None z = refl
compared_same b c o p lo lp (Some x) None = refl
compared_same b c o p lo lp (Some x) (Some y) = ap (λ (t : Bool × Bool). is_live x.life && is_live y.life && t.0 && t.1
    && (if b == c then is_within x o && is_within y p else is_inside x o && is_inside y p)) (λ i. (
      may_same b x o lo i,
      may_same c y p lp i,
    ))

compare_same : (m : List MemoryBlock) (v w : Value) → HasSmallOffset v → HasSmallOffset w → compare small_rights m v w ≡
    compare owner_rights m v w
compare_same m (Value.Ptr Pointer.Null) (Value.Ptr Pointer.Null) h k = refl
compare_same m (Value.Ptr Pointer.Null) (Value.Ptr (Pointer.Func g)) h k = refl
compare_same m (Value.Ptr (Pointer.Func f)) (Value.Ptr Pointer.Null) h k = refl
compare_same m (Value.Ptr Pointer.Null) (Value.Ptr (Pointer.At c p)) h k = ap (λ t. check t Cause.Compare (Ok false))
    (may_same_at c (slice_get m c) p k)
compare_same m (Value.Ptr (Pointer.At b o)) (Value.Ptr Pointer.Null) h k = ap (λ t. check t Cause.Compare (Ok false))
    (may_same_at b (slice_get m b) o h)
compare_same m (Value.Ptr (Pointer.At b o)) (Value.Ptr (Pointer.At c p)) h k = ap (λ t. check t Cause.Compare (Ok
    (same_pointer (Pointer.At b o) (Pointer.At c p)))) (compared_same b c o p h k (slice_get m b) (slice_get m c))
compare_same m (Value.Ptr (Pointer.At b o)) (Value.Ptr (Pointer.Func g)) h k = refl
compare_same m (Value.Ptr (Pointer.Func f)) (Value.Ptr (Pointer.At c p)) h k = refl
compare_same m (Value.Ptr (Pointer.Func f)) (Value.Ptr (Pointer.Func g)) h k = refl
compare_same m (Value.Ptr Pointer.Null) Value.Poison h k = refl
compare_same m (Value.Ptr (Pointer.Func f)) Value.Poison h k = refl
compare_same m (Value.Ptr (Pointer.At b o)) Value.Poison h k = refl
compare_same m (Value.Ptr Pointer.Null) (Value.Int n) h k = refl
compare_same m (Value.Ptr (Pointer.Func f)) (Value.Int n) h k = refl
compare_same m (Value.Ptr (Pointer.At b o)) (Value.Int n) h k = refl
compare_same m Value.Poison w h k = refl
compare_same m (Value.Int n) w h k = refl

small_address : (v : Value) → HasSmallOffset v → HasSmallOffset (address v)
small_address Value.Poison h = tt
small_address (Value.Int n) h = tt
small_address (Value.Ptr p) h = h

-- ---- an instruction

module _ (c : Context) (w : Work) where
  abbrev small : Context
  small = record c { rights = small_rights }

  abbrev owner : Context
  owner = record c { rights = owner_rights }

  icmp_same : (name : ℕ) (pred : Pred) (ty : Ty) (a b : Value) → HasSmallOffset a → HasSmallOffset b
      → compared small w name pred ty a b ≡ compared owner w name pred ty a b
  icmp_same name pred (int n) a b h k = refl
  icmp_same name pred ptr a b h k = pointers
    where
      pointers : compared small w name pred ptr a b ≡ compared owner w name pred ptr a b
      pointers = ap (done (λ same. set_value w name (truth_value (by_pred pred same)))) (compare_same w.world.memory
          (address a) (address b) (small_address a h) (small_address b k))
  icmp_same name pred token a b h k = ap (done (λ same. set_value w name (truth_value (by_pred pred same))))
      (compare_same w.world.memory (address a) (address b) (small_address a h) (small_address b k))
  icmp_same name pred (array n t) a b h k = ap (done (λ same. set_value w name (truth_value (by_pred pred same))))
      (compare_same w.world.memory (address a) (address b) (small_address a h) (small_address b k))
  icmp_same name pred (structure ts) a b h k = ap (done (λ same. set_value w name (truth_value (by_pred pred same))))
      (compare_same w.world.memory (address a) (address b) (small_address a h) (small_address b k))
  icmp_same name pred (named n) a b h k = ap (done (λ same. set_value w name (truth_value (by_pred pred same))))
      (compare_same w.world.memory (address a) (address b) (small_address a h) (small_address b k))

  copied_same : (vs : List Value) → copied_bytes small w vs ≡ copied_bytes owner w vs
  copied_same vs =
      let p : (λ n. copy small_rights w.world.memory (address (nth vs 0)) (address (nth vs 1)) n) ≡ (λ n. copy
      owner_rights w.world.memory (address (nth vs 0)) (address (nth vs 1)) n) = λ j n. copy_same w.world.memory
      (address (nth vs 0)) (address (nth vs 1)) n j in
      ap (λ (g : ℕ → Result (List MemoryBlock) Cause). with_length (nth vs 2) (λ n. done (set_memory w) (g n))) p

  call_same : (i : Intrinsic) (r : Option ℕ) (must_tail : Bool) (ty : Option Ty) (args : List Arg)
      → action_of small w (AtInstr (Instr.Call r must_tail ty (Callee.Intrinsic i) args)) ≡ action_of owner w (AtInstr
      (Instr.Call r must_tail ty (Callee.Intrinsic i) args))
  call_same Intrinsic.MemcpyI64 r must_tail ty args = copied_same (arg_values c.code w.values args)
  call_same Intrinsic.MemcpyI32 r must_tail ty args = copied_same (arg_values c.code w.values args)
  call_same Intrinsic.LifetimeStart r must_tail ty args = refl
  call_same Intrinsic.LifetimeEnd r must_tail ty args = refl
  call_same _ r must_tail ty args = refl

  instr_same : (i : Instr) → ComparesSmall c.code w.values (AtInstr i) → action_of small w (AtInstr i) ≡ action_of
      owner w (AtInstr i)
  instr_same (Instr.Icmp name pred ty a b) h = icmp_same name pred ty _ _ h.0 h.1
  instr_same (Instr.Load name ty p align) h = ap (λ r. if_alignment align (done (set_value w name) r)) (load_same
      w.world.memory (address (value_at c w ptr p)) (access_of ty) align)
  instr_same (Instr.Store arg p align) h = ap (λ r. if_alignment align (done (set_memory w) r)) (store_same
      w.world.memory (address (value_at c w ptr p)) (stored (access_of arg.ty) (arg_value c.code w.values arg))
      (access_of arg.ty) align)
  instr_same (Instr.Call r must_tail ty (Callee.Intrinsic i) args) h = call_same i r must_tail ty args
  instr_same (Instr.Call r must_tail ty (Callee.Named n) args) h = refl
  instr_same (Instr.Call r must_tail ty (Callee.Allocator a) args) h = refl
  instr_same (Instr.Call r must_tail ty (Callee.Local v) args) h = refl
  instr_same (Instr.Binary name op fl ty a b) h = refl
  instr_same (Instr.Select name x a b) h = refl
  instr_same (Instr.Cast name op nneg x to) h = refl
  instr_same (Instr.Alloca name ty align) h = refl
  instr_same (Instr.Gep name inb ty base ixs) h = refl

  -- it does the same by either rights
  pub same_action : (here : Fetched) → ComparesSmall c.code w.values here → action_of (record c {
    rights = small_rights;
  }) w here ≡ action_of (record c { rights = owner_rights }) w here
  same_action Nowhere h = refl
  same_action (AtInstr i) h = instr_same i h
  same_action (AtTerm t) h = refl
