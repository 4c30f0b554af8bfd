-- Ranges of bytes: what is loaded from one, what a store and a copy leave of it and of others.
use Rattle.std.proofs.Common.{◌≡◌, ◌≢◌, ℕ, zero, suc, ◌+◌, ◌-◌, ◌<◌, ◌≤◌, ◌⊎◌, inl, inr, min, Bool, false, List, get_or, length, take, drop, Option, Some, Result, Ok, Err, refl, sym, ap, ◌∙◌, subst, ⊎_elim, arith, length-take, length-drop, get_or-drop, get_or-take, if◌then◌else◌}
use Rattle.std.specs.Prelude.{slice_get}
use Rattle.std.proofs.lemmas.Bool.{and_left, and_right, cases_eq, le-ltb, ne_eqb}
use Rattle.std.proofs.lemmas.List.{ext_get_or}
use Rattle.run_memory.proofs.Kept.{length-written}
use Rattle.run_memory.specs.Memory.{Rights, access_bytes, both, bytes_at, bytes_in, copied, copy, decode, encode, is_constant, load, on_ok, overlaps, range, store, unless_constant, with_bytes, write, written}
use Rattle.run_memory.specs.declared.block.Byte.{Byte}
use Rattle.run_memory.specs.declared.block.MemoryBlock.{MemoryBlock}
use Rattle.run_memory.specs.declared.pointer.Access.{Access}
use Rattle.run_memory.specs.declared.pointer.Spot.{Spot}
use Rattle.run_memory.specs.declared.pointer.Value.{Value}
use Rattle.ir_base.specs.declared.cause.Cause.{Cause}
use Rattle.run_laws.proofs.memory.Loads.{range_ok}
use Rattle.run_laws.proofs.memory.Written.{changed_elsewhere, changed_here, written_before, written_behind, written_inside}
use Rattle.run_laws.specs.memory.Standing.{AreByteRights, IsAlignment}
use Rattle.run_laws.specs.access.Lines.{AreDisjoint, Holds, pointer_at}

-- ---- bytes of a list

cut_get : (xs : List Byte) (o len i : ℕ) → i < len → get_or (take len (drop o xs)) i Byte.Undefined ≡ get_or xs (o + i) Byte.Undefined
cut_get xs o len i lt = get_or-take len (drop o xs) i Byte.Undefined lt ∙ get_or-drop o xs i Byte.Undefined

length_cut : (xs : List Byte) (o len : ℕ) → length (take len (drop o xs)) ≡ min len (length xs - o)
length_cut xs o len = length-take len (drop o xs) ∙ ap (min len) (length-drop o xs)

below_min : (i a b : ℕ) → i < min a b → i < a
below_min i a b lt = omega arith

pub cut_same : (xs ys : List Byte) (o len : ℕ) → length xs ≡ length ys → ((i : ℕ) → i < len → get_or xs (o + i) Byte.Undefined ≡ get_or ys (o + i) Byte.Undefined) → take len (drop o xs) ≡ take len (drop o ys)
cut_same xs ys o len long same = ext_get_or Byte.Undefined _ _
    (length_cut xs o len ∙ ap (λ (n : ℕ). min len (n - o)) long ∙ sym (length_cut ys o len))
    (λ i lt.
    let low : i < len = below_min i len (length xs - o) (subst (λ (n : ℕ). i < n) (length_cut xs o len) lt) in
    cut_get xs o len i low ∙ same i low ∙ sym (cut_get ys o len i low))

pub cut_written : (bytes new : List Byte) (o len : ℕ) → length new ≡ len → o + len ≤ length bytes → take len (drop o (written bytes o new)) ≡ new
cut_written bytes new o len is within = ext_get_or Byte.Undefined _ _ long
    (λ i lt.
    let low : i < length new = subst (λ (n : ℕ). i < n) long lt in
    cut_get (written bytes o new) o len i (omega arith) ∙ written_inside bytes o new i (omega arith) low)
  where
    long : length (take len (drop o (written bytes o new))) ≡ length new
    long =
        let a = length_cut (written bytes o new) o len in
        let b = length-written bytes o new (omega arith) in
        omega arith

pub cut_away : (bytes new : List Byte) (o p len : ℕ) → o + length new ≤ length bytes → (p + len ≤ o) ⊎ (o + length new ≤ p) → take len (drop p (written bytes o new)) ≡ take len (drop p bytes)
cut_away bytes new o p len within apart = cut_same (written bytes o new) bytes p len (length-written bytes o new within) (on apart)
  where
    on : (p + len ≤ o) ⊎ (o + length new ≤ p) → (i : ℕ) → i < len → get_or (written bytes o new) (p + i) Byte.Undefined ≡ get_or bytes (p + i) Byte.Undefined
    on (inl le) i lt = written_before bytes o new (p + i) (omega arith) (omega arith)
    on (inr le) i lt = written_behind bytes o new (p + i) within (omega arith)

-- ---- accesses to a range

module _ (rights : Rights) (m : List MemoryBlock) (b o most : ℕ) (bytes : List Byte) (h : Holds rights m b o most bytes) where
  abbrev spot : Spot
  spot = record { block = b; offset = o }

  pub range_held : (align : ℕ) → IsAlignment align → align ≤ most → range rights m (pointer_at b o) (length bytes) align ≡ Ok spot
  range_held align is le = range_ok rights m h.block b o (length bytes) align h.there h.within h.live h.unclosed (h.aligned align is le)

  pub bytes_held : bytes_at m spot (length bytes) ≡ bytes
  bytes_held = ap (λ (x : Option MemoryBlock). take (length bytes) (drop o (bytes_in x))) h.there ∙ h.holds

  not_constant : is_constant (slice_get m b) ≡ false
  not_constant = ap is_constant h.there ∙ h.writable

  pub load_held : (what : Access) (align : ℕ) → length bytes ≡ access_bytes what → IsAlignment align → align ≤ most → load rights m (pointer_at b o) what align ≡ Ok (decode what bytes)
  load_held what align long is le =
      ap (λ (n : ℕ). on_ok (λ s. Ok (decode what (bytes_at m s n))) (range rights m (pointer_at b o) n align)) (sym long)
      ∙ ap (on_ok (λ s. Ok (decode what (bytes_at m s (length bytes))))) (range_held align is le)
      ∙ ap (λ (bs : List Byte). Ok (decode what bs)) bytes_held

  pub store_held : (v : Value) (what : Access) (align : ℕ) → length bytes ≡ access_bytes what → IsAlignment align → align ≤ most → store rights m (pointer_at b o) v what align ≡ Ok (write m spot (encode (access_bytes what) v))
  store_held v what align long is le =
      ap (λ (n : ℕ). on_ok (λ s. unless_constant m s (write m s (encode (access_bytes what) v))) (range rights m (pointer_at b o) n align)) (sym long)
      ∙ ap (on_ok (λ s. unless_constant m s (write m s (encode (access_bytes what) v)))) (range_held align is le)
      ∙ ap (λ (t : Bool). if t then Err Cause.Constant else Ok (write m spot (encode (access_bytes what) v))) not_constant

  -- ---- what a write leaves

  module _ (law : AreByteRights rights) where
    -- the range holds what is written into it
    pub write_held : (new : List Byte) → length new ≡ length bytes → Holds rights (write m spot new) b o most new
    write_held new long =
        let whole = h.whole in
        let within = h.within in
        let kept : length (written h.block.bytes o new) ≡ length h.block.bytes = length-written h.block.bytes o new (omega arith) in
        record {
          block = with_bytes o new h.block;
          there = changed_here m b (with_bytes o new) h.block h.there;
          live = h.live;
          writable = h.writable;
          whole = kept ∙ whole;
          within = omega arith;
          holds = cut_written h.block.bytes new o (length new) refl (omega arith);
          unclosed = law.closed b h.block (written h.block.bytes o new) o (length new) ∙ ap (rights.is_closed b h.block o) long ∙ h.unclosed;
          aligned = λ align is le. law.aligned b h.block (written h.block.bytes o new) o align ∙ h.aligned align is le;
        }

    -- the range holds what it held where another one is written
    pub write_leaves : (c p : ℕ) (new : List Byte) → AreDisjoint c p (length new) b o (length bytes) → ((y : MemoryBlock) → slice_get m c ≡ Some y → p + length new ≤ length y.bytes) → Holds rights (write m (record { block = c; offset = p }) new) b o most bytes
    write_leaves c p new apart room = ⊎_elim here elsewhere (cases_eq b c)
      where
        elsewhere : b ≢ c → Holds rights (write m (record { block = c; offset = p }) new) b o most bytes
        elsewhere ne = record {
          block = h.block;
          there = changed_elsewhere m c b (with_bytes p new) ne ∙ h.there;
          live = h.live;
          writable = h.writable;
          whole = h.whole;
          within = h.within;
          holds = h.holds;
          unclosed = h.unclosed;
          aligned = h.aligned;
        }

        here : b ≡ c → Holds rights (write m (record { block = c; offset = p }) new) b o most bytes
        here same =
            let there : slice_get m c ≡ Some h.block = ap (slice_get m) (sym same) ∙ h.there in
            let within = room h.block there in
            let whole = h.whole in
            let kept : length (written h.block.bytes p new) ≡ length h.block.bytes = length-written h.block.bytes p new within in
            record {
              block = with_bytes p new h.block;
              there = ap (slice_get (write m (record { block = c; offset = p }) new)) same ∙ changed_here m c (with_bytes p new) h.block there;
              live = h.live;
              writable = h.writable;
              whole = kept ∙ whole;
              within = h.within;
              holds = cut_away h.block.bytes new p o (length bytes) within (⊎_elim (λ ne. absurd (ne same)) (λ a. a) apart) ∙ h.holds;
              unclosed = law.closed b h.block (written h.block.bytes p new) o (length bytes) ∙ h.unclosed;
              aligned = λ align is le. law.aligned b h.block (written h.block.bytes p new) o align ∙ h.aligned align is le;
            }

-- ---- copies

disjoint_spots : (b o a p len : ℕ) → AreDisjoint b o len a p len → overlaps (record { block = b; offset = o }) (record { block = a; offset = p }) len ≡ false
disjoint_spots b o a p len (inl ne) = and_left _ _ (and_left _ _ (and_left _ _ (ne_eqb b a (λ e. ne (sym e)))))
disjoint_spots b o a p len (inr (inl le)) = and_left _ _ (and_right _ _ (le-ltb o (p + len) le))
disjoint_spots b o a p len (inr (inr le)) = and_right _ _ (le-ltb p (o + len) le)

copied_held : (rights : Rights) (m : List MemoryBlock) (b o most a p much k : ℕ) (old bytes : List Byte) → Holds rights m b o most old → Holds rights m a p much bytes → length old ≡ suc k → length bytes ≡ suc k → 1 ≤ most → 1 ≤ much → AreDisjoint b o (suc k) a p (suc k) → copy rights m (pointer_at b o) (pointer_at a p) (suc k) ≡ Ok (write m (record { block = b; offset = o }) bytes)
copied_held rights m b o most a p much k old bytes h g is_old is_new le le' apart =
    ap (λ (r : Result Spot Cause). on_ok (λ (x, y). copied m x y (suc k)) (both r (range rights m (pointer_at a p) (suc k) 1))) to
    ∙ ap (λ (r : Result Spot Cause). on_ok (λ (x, y). copied m x y (suc k)) (both (Ok (spot rights m b o most old h)) r)) from
    ∙ ap (λ (t : Bool). if t then Err Cause.Constant else if overlaps (spot rights m b o most old h) (spot rights m a p much bytes g) (suc k) then Err Cause.Overlap else Ok (write m (spot rights m b o most old h) (bytes_at m (spot rights m a p much bytes g) (suc k)))) (not_constant rights m b o most old h)
    ∙ ap (λ (t : Bool). if t then Err Cause.Overlap else Ok (write m (spot rights m b o most old h) (bytes_at m (spot rights m a p much bytes g) (suc k)))) (disjoint_spots b o a p (suc k) apart)
    ∙ ap (λ (bs : List Byte). Ok (write m (spot rights m b o most old h) bs)) (ap (bytes_at m (spot rights m a p much bytes g)) (sym is_new) ∙ bytes_held rights m a p much bytes g)
  where
    to : range rights m (pointer_at b o) (suc k) 1 ≡ Ok (spot rights m b o most old h)
    to = ap (λ (n : ℕ). range rights m (pointer_at b o) n 1) (sym is_old) ∙ range_held rights m b o most old h 1 (inl refl) le

    from : range rights m (pointer_at a p) (suc k) 1 ≡ Ok (spot rights m a p much bytes g)
    from = ap (λ (n : ℕ). range rights m (pointer_at a p) n 1) (sym is_new) ∙ range_held rights m a p much bytes g 1 (inl refl) le'

pub copy_held : (rights : Rights) (m : List MemoryBlock) (b o most a p much len : ℕ) (old bytes : List Byte) → Holds rights m b o most old → Holds rights m a p much bytes → length old ≡ len → length bytes ≡ len → 0 < len → 1 ≤ most → 1 ≤ much → AreDisjoint b o len a p len → copy rights m (pointer_at b o) (pointer_at a p) len ≡ Ok (write m (record { block = b; offset = o }) bytes)
copy_held rights m b o most a p much zero old bytes h g is_old is_new pos le le' apart = absurd (omega arith)
copy_held rights m b o most a p much (suc k) old bytes h g is_old is_new pos le le' apart = copied_held rights m b o most a p much k old bytes h g is_old is_new le le' apart
