-- Ranges that come about: of new blocks, and of homes; and what they keep where blocks and rights change.
use Rattle.std.proofs.Common.{◌≡◌, ℕ, zero, suc, ◌+◌, ◌<◌, ◌≤◌, true, false, List, [], ◌∷◌, ◌++◌, get_or, length, take, drop, replicate, Some, refl, sym, ap, ◌∙◌, subst, arith}
use Rattle.std.specs.Prelude.{slice_get}
use Rattle.std.proofs.lemmas.List.{length-drop, length-replicate, length-take, take_all}
use Rattle.run_memory.specs.Memory.{Rights, fresh, is_live, same_kind}
use Rattle.run_memory.specs.declared.block.Byte.{Byte}
use Rattle.run_memory.specs.declared.block.Kind.{Kind}
use Rattle.run_memory.specs.declared.block.MemoryBlock.{MemoryBlock}
use Rattle.run_laws.proofs.memory.Matching.{cut_stands}
use Rattle.run_laws.specs.memory.Pointers.{AreBytes, Home, IsByte, home_of}
use Rattle.run_laws.specs.memory.Standing.{AreByteRights, IsAlignment, Stands, blank_block}
use Rattle.run_laws.proofs.access.Turned.{now}
use Rattle.run_laws.specs.access.Changed.{ChangesOnly, IsNoneOf, home_block}
use Rattle.run_laws.specs.access.Lines.{Holds, StandsAs}
use Rattle.run_laws.specs.access.Rights.{AreReowned}

-- the same block in another memory
pub same_held : (rights : Rights) (m k : List MemoryBlock) (b o most : ℕ) (bytes : List Byte) → slice_get k b ≡ slice_get m b → Holds rights m b o most bytes → Holds rights k b o most bytes
same_held rights m k b o most bytes same h = record {
  block = h.block;
  there = same ∙ h.there;
  live = h.live;
  writable = h.writable;
  whole = h.whole;
  within = h.within;
  holds = h.holds;
  unclosed = h.unclosed;
  aligned = h.aligned;
}

pub others_held : (rights : Rights) (blocks : List ℕ) (m k : List MemoryBlock) (b o most : ℕ) (bytes : List Byte) → ChangesOnly blocks m k → IsNoneOf b blocks → Holds rights m b o most bytes → Holds rights k b o most bytes
others_held rights blocks m k b o most bytes only none h = same_held rights m k b o most bytes (only.others b none) h

-- other rights, and other owners
pub turned_held : (rights later : Rights) (n l : List MemoryBlock) (b o most : ℕ) (bytes : List Byte) → AreReowned n l → ((y : MemoryBlock) → slice_get l b ≡ Some y → later.is_closed b y o (length bytes) ≡ false) → ((y : MemoryBlock) (align : ℕ) → slice_get l b ≡ Some y → IsAlignment align → align ≤ most → later.is_aligned b y o align ≡ true) → Holds rights n b o most bytes → Holds later l b o most bytes
turned_held rights later n l b o most bytes owners opens aligned h =
    let z = now (slice_get n b) (slice_get l b) h.block (owners.each b) h.there in
    let size : z.block.size ≡ h.block.size = ap (λ (u : MemoryBlock). u.size) z.same in
    let bytes' : z.block.bytes ≡ h.block.bytes = ap (λ (u : MemoryBlock). u.bytes) z.same in
    record {
      block = z.block;
      there = z.there;
      live = ap (λ (u : MemoryBlock). is_live u.life) z.same ∙ h.live;
      writable = ap (λ (u : MemoryBlock). same_kind u.kind Kind.Constant) z.same ∙ h.writable;
      whole = ap length bytes' ∙ h.whole ∙ sym size;
      within = subst (λ (s : ℕ). o + length bytes ≤ s) (sym size) h.within;
      holds = ap (λ (bs : List Byte). take (length bytes) (drop o bs)) bytes' ∙ h.holds;
      unclosed = opens z.block z.there;
      aligned = λ align is le. aligned z.block align z.there is le;
    }

-- ---- new blocks

get_grown : (m k : List MemoryBlock) (b : ℕ) (y : MemoryBlock) → slice_get m b ≡ Some y → slice_get (m ++ k) b ≡ Some y
get_grown [] k b y e = absurd (cc)
get_grown (z ∷ m) k zero y e = e
get_grown (z ∷ m) k (suc b) y e = get_grown m k b y e

pub grown_held : (rights : Rights) (m k : List MemoryBlock) (b o most : ℕ) (bytes : List Byte) → Holds rights m b o most bytes → Holds rights (m ++ k) b o most bytes
grown_held rights m k b o most bytes h = record {
  block = h.block;
  there = get_grown m k b h.block h.there;
  live = h.live;
  writable = h.writable;
  whole = h.whole;
  within = h.within;
  holds = h.holds;
  unclosed = h.unclosed;
  aligned = h.aligned;
}

get_new : (m : List MemoryBlock) (y : MemoryBlock) → slice_get (m ++ y ∷ []) (length m) ≡ Some y
get_new [] y = refl
get_new (z ∷ m) y = get_new m y

pub fresh_held : (rights : Rights) (m : List MemoryBlock) (size align most : ℕ) (kind : Kind) → same_kind kind Kind.Constant ≡ false → rights.is_closed (length m) (blank_block size align kind) 0 size ≡ false → ((a : ℕ) → IsAlignment a → a ≤ most → rights.is_aligned (length m) (blank_block size align kind) 0 a ≡ true) → Holds rights (fresh m size align kind) (length m) 0 most (replicate size Byte.Undefined)
fresh_held rights m size align most kind writable opens aligned =
    let long : length (replicate size Byte.Undefined) ≡ size = length-replicate size Byte.Undefined in
    record {
      block = blank_block size align kind;
      there = get_new m (blank_block size align kind);
      live = refl;
      writable = writable;
      whole = long;
      within = omega arith;
      holds = take_all (length (replicate size Byte.Undefined)) (replicate size Byte.Undefined) (omega arith);
      unclosed = ap (rights.is_closed (length m) (blank_block size align kind) 0) long ∙ opens;
      aligned = aligned;
    }

-- ---- homes

pub home_held : (rights target : Rights) (homes : List Home) (n : List MemoryBlock) (b most : ℕ) (x : MemoryBlock) → AreByteRights rights → Stands rights target homes n b x → same_kind x.kind Kind.Constant ≡ false → 0 < x.size → rights.is_closed b x 0 x.size ≡ false → ((align : ℕ) → IsAlignment align → align ≤ most → rights.is_aligned b x 0 align ≡ true) → StandsAs target homes n (home_block homes b) (home_of homes b).offset most x.bytes
home_held rights target homes n b most x law s writable pos opens aligned = record {
  bytes = take x.size (drop (home_of homes b).offset s.block.bytes);
  held = record {
    block = s.block;
    there = s.there;
    live = s.live;
    writable = s.writable writable;
    whole = s.whole;
    within = subst (λ (k : ℕ). (home_of homes b).offset + k ≤ s.block.size) (sym long) s.fits;
    holds = ap (λ (k : ℕ). take k (drop (home_of homes b).offset s.block.bytes)) long;
    unclosed = ap (target.is_closed (home_block homes b) s.block (home_of homes b).offset) long ∙ ap (λ (o : ℕ). target.is_closed (home_block homes b) s.block o x.size) (sym at_start) ∙ s.allowed.opens 0 x.size (omega arith) opens;
    aligned = λ align is le. ap (λ (o : ℕ). target.is_aligned (home_block homes b) s.block o align) (sym at_start) ∙ s.allowed.aligned 0 x.size align pos (omega arith) opens is (aligned align is le);
  };
  stand = subst (λ (bs : List Byte). AreBytes homes bs (take x.size (drop (home_of homes b).offset s.block.bytes))) (take_all x.size x.bytes (full_below x.bytes x.size s.full))
      (cut_stands homes x.bytes s.block.bytes 0 (home_of homes b).offset x.size (full_above x.bytes x.size s.full) (room s.block.bytes s.block.size s.fits s.whole) (λ i lt. subst (λ (k : ℕ). IsByte homes (get_or x.bytes k Byte.Undefined) (get_or s.block.bytes ((home_of homes b).offset + i) Byte.Undefined)) (from_zero i) (s.bytes i lt (law.bytes b x 0 x.size i opens (omega arith) (omega arith)))));
}
  where
    at_start : (home_of homes b).offset + 0 ≡ (home_of homes b).offset
    at_start = omega arith

    from_zero : (i : ℕ) → i ≡ 0 + i
    from_zero i = omega arith

    room : (bytes : List Byte) (size : ℕ) → (home_of homes b).offset + x.size ≤ size → length bytes ≡ size → (home_of homes b).offset + x.size ≤ length bytes
    room bytes size le e = omega arith

    full_below : (bs : List Byte) (k : ℕ) → length bs ≡ k → length bs ≤ k
    full_below bs k e = omega arith

    full_above : (bs : List Byte) (k : ℕ) → length bs ≡ k → 0 + k ≤ length bs
    full_above bs k e = omega arith

    cut_long : (bs : List Byte) (o k size : ℕ) → length bs ≡ size → o + k ≤ size → length (take k (drop o bs)) ≡ k
    cut_long bs o k size e le = let a = length-take k (drop o bs) in let c = length-drop o bs in omega arith

    long : length (take x.size (drop (home_of homes b).offset s.block.bytes)) ≡ x.size
    long = cut_long s.block.bytes (home_of homes b).offset x.size s.block.size s.whole s.fits
