-- What an access that isn't refused finds.
use Rattle.std.proofs.Common.{◌≡◌, ℕ, ◌+◌, ◌≤◌, Bool, true, false, List, length, Option, Some, None, Result, Ok, Err, refl, sym, ap, ◌∙◌, subst, arith, if◌then◌else◌}
use Rattle.std.specs.Prelude.{slice_get}
use Rattle.std.proofs.lemmas.Bool.{ltb-false, not-false}
use Rattle.std.proofs.lemmas.Option.{slice_get_within, get_or_from_slice_get}
use Rattle.run_memory.specs.declared.pointer.Offset.{Offset}
use Rattle.run_memory.specs.declared.pointer.Pointer.{Pointer}
use Rattle.run_memory.specs.declared.pointer.Spot.{Spot}
use Rattle.run_memory.specs.declared.pointer.Value.{Value}
use Rattle.run_memory.specs.declared.block.Life.{Life}
use Rattle.run_memory.specs.declared.block.MemoryBlock.{MemoryBlock}
use Rattle.run_memory.specs.Memory.{Rights, is_live, range, range_at}
use Rattle.run_memory.specs.Whole.{IsWhole, AreWhole, IsWithin, kept_size}
use Rattle.run_memory.proofs.Blocks.{whole_at}
use Rattle.run_ints.specs.ir_base.declared.cause.Cause.{Cause}

-- the range that an access found
pub record Found (rights : Rights) (m : List MemoryBlock) (v : Value) (len align : ℕ) (spot : Spot) : Type 0 where
  pub block : MemoryBlock
  pub offset : Offset
  pub leads : v ≡ Value.Ptr (Pointer.At spot.block offset)
  pub at : offset.bits ≡ spot.offset
  pub stands : slice_get m spot.block ≡ Some block
  pub within : spot.offset + len ≤ block.size
  pub live : is_live block.life ≡ true
  pub unclosed : rights.is_closed spot.block block spot.offset len ≡ false
  pub aligned : rights.is_aligned spot.block block spot.offset align ≡ true

record IsSecond {A : Type 0} (t : Bool) (r : Result A Cause) (p : A) : Type 0 where
  test : t ≡ false
  rest : r ≡ Ok p

if_err : {A : Type 0} (t : Bool) (c : Cause) (r : Result A Cause) (p : A) → (if t then Err c else r) ≡ Ok p → IsSecond t r p
if_err true c r p e = absurd (cc)
if_err false c r p e = record { test = refl; rest = e }

record IsFirst {A : Type 0} (t : Bool) (q p : A) : Type 0 where
  test : t ≡ true
  same : q ≡ p

if_ok : {A : Type 0} (t : Bool) (c : Cause) (q p : A) → (if t then Ok q else Err c) ≡ Ok p → IsFirst t q p
if_ok true c q p e = record { test = refl; same = cc }
if_ok false c q p e = absurd (cc)

found_at : (rights : Rights) (m : List MemoryBlock) (b : ℕ) (o : Offset) (len align : ℕ) (spot : Spot) (x : Option MemoryBlock) → slice_get m b ≡ x → range_at rights b x o.bits len align ≡ Ok spot → Found rights m (Value.Ptr (Pointer.At b o)) len align spot
found_at rights m b o len align spot None is e = absurd (cc)
found_at rights m b o len align spot (Some x) is e =
    let within = if_err _ _ _ spot e in
    let live = if_err _ _ _ spot within.rest in
    let unclosed = if_err _ _ _ spot live.rest in
    let aligned = if_ok _ _ _ spot unclosed.rest in
    let at_b : b ≡ spot.block = ap (λ (q : Spot). q.block) aligned.same in
    let at_o : o.bits ≡ spot.offset = ap (λ (q : Spot). q.offset) aligned.same in
    let fits : o.bits + len ≤ x.size = ltb-false _ _ within.test in
    record {
      block = x;
      offset = o;
      leads = cc;
      at = at_o;
      stands = subst (λ (c : ℕ). slice_get m c ≡ Some x) at_b is;
      within = omega arith;
      live = not-false _ live.test;
      unclosed = subst (λ (q : Spot). rights.is_closed q.block x q.offset len ≡ false) aligned.same unclosed.test;
      aligned = subst (λ (q : Spot). rights.is_aligned q.block x q.offset align ≡ true) aligned.same aligned.test;
    }

pub found : (rights : Rights) (m : List MemoryBlock) (v : Value) (len align : ℕ) (spot : Spot) → range rights m v len align ≡ Ok spot → Found rights m v len align spot
found rights m Value.Poison len align spot e = absurd (cc)
found rights m (Value.Int w) len align spot e = absurd (cc)
found rights m (Value.Ptr Pointer.Null) len align spot e = absurd (cc)
found rights m (Value.Ptr (Pointer.Func f)) len align spot e = absurd (cc)
found rights m (Value.Ptr (Pointer.At b o)) len align spot e = found_at rights m b o len align spot (slice_get m b) refl e

live_full : (x : MemoryBlock) (l : Life) → x.life ≡ l → is_live l ≡ true → IsWhole x → length x.bytes ≡ x.size
live_full x Life.Live e t h = h.full ∙ ap (λ (k : Life). kept_size k x.size) e
live_full x Life.Ended e t h = absurd (cc)
live_full x Life.Killed e t h = absurd (cc)

pub whole_found : (m : List MemoryBlock) (b : ℕ) (x : MemoryBlock) → AreWhole m → slice_get m b ≡ Some x → IsWhole x
whole_found m b x h e =
    whole_at m b x h (slice_get_within m b x e) (sym (get_or_from_slice_get m b x x e))

-- an access that isn't refused stays within the bytes
pub within_bytes : (rights : Rights) (m : List MemoryBlock) (v : Value) (len align : ℕ) (spot : Spot) → AreWhole m → range rights m v len align ≡ Ok spot → IsWithin (slice_get m spot.block) spot.offset len
within_bytes rights m v len align spot h e =
    let f : Found rights m v len align spot = found rights m v len align spot e in
    let full : length f.block.bytes ≡ f.block.size = live_full f.block f.block.life refl f.live (whole_found m spot.block f.block h f.stands) in
    let within : spot.offset + len ≤ length f.block.bytes = omega (arith, f.within) in
    subst (λ (x : Option MemoryBlock). IsWithin x spot.offset len) (sym f.stands) within
