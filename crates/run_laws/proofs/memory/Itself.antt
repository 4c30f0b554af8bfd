-- A whole memory stands in itself.
use Rattle.std.proofs.Common.{◌≡◌, ◌≢◌, ℕ, zero, suc, ◌+◌, ◌%◌, ◌^◌, ◌<◌, ◌≤◌, true, false, List, length, Option, Some, None, refl, sym, ap, ◌∙◌, subst, arith}
use Rattle.std.specs.Prelude.{slice_get}
use Rattle.std.proofs.lemmas.Bool.{le-ltb, ltb-false}
use Rattle.std.proofs.lemmas.List.Elements.{All-get_or}
use Rattle.std.proofs.lemmas.Option.{get_or_from_slice_get, slice_get_within}
use Rattle.run_memory.specs.Memory.{is_below, is_live, owner_rights}
use Rattle.run_memory.specs.Whole.{AreWhole, IsWhole, kept_size}
use Rattle.run_memory.specs.declared.block.Byte.{Byte}
use Rattle.run_memory.specs.declared.block.Life.{Life}
use Rattle.run_memory.specs.declared.block.MemoryBlock.{MemoryBlock}
use Rattle.run_memory.specs.declared.pointer.Offset.{Offset}
use Rattle.run_memory.specs.declared.pointer.Pointer.{Pointer}
use Rattle.run_laws.specs.memory.Pointers.{Home, IsByte, home_of, moved_pointer}
use Rattle.run_laws.specs.memory.Standing.{AreByteRights, AreOffsets, Embeds, HasRights, Stands, byte_of, own_homes}

-- ---- the rights of owners

below_later : (owned : Option ℕ) (o i : ℕ) → is_below o owned ≡ false → o ≤ i → is_below i owned ≡ false
below_later None o i e le = refl
below_later (Some n) o i e le = le-ltb i n (omega (arith, ltb-false o n e))

pub owner_rights_fit : AreByteRights owner_rights
owner_rights_fit = record {
  bytes = λ b x o len i e lo hi. below_later x.owned o i e lo;
  closed = λ b x bytes o len. refl;
  aligned = λ b x bytes o align. refl;
  comparable = λ b x bytes o. refl;
}

-- ---- each block at home

own_home : (k n b : ℕ) → b < n → home_of (own_homes k n) b ≡ record { block = k + b; offset = 0; is_seen = true }
own_home k zero b lt = absurd (omega arith)
own_home k (suc n) zero lt = let e : k ≡ k + 0 = omega arith in ap (λ (i : ℕ). record { block = i; offset = 0; is_seen = true }) e
own_home k (suc n) (suc b) lt =
    let e : suc k + b ≡ k + suc b = omega arith in
    own_home (suc k) n b (omega arith) ∙ ap (λ (i : ℕ). record { block = i; offset = 0; is_seen = true }) e

length-own_homes : (k n : ℕ) → length (own_homes k n) ≡ n
length-own_homes k zero = refl
length-own_homes k (suc n) = ap suc (length-own_homes (suc k) n)

module _ (m : List MemoryBlock) (whole : AreWhole m) (small : (b : ℕ) (x : MemoryBlock) → slice_get m b ≡ Some x → x.size < 2 ^ 64) (known : (b i : ℕ) (x : MemoryBlock) → slice_get m b ≡ Some x → AreOffsets (length m) (byte_of x i)) where
  abbrev homes : List Home
  homes = own_homes 0 (length m)

  at_home : (b : ℕ) → b < length m → home_of homes b ≡ record { block = b; offset = 0; is_seen = true }
  at_home b lt = let e : 0 + b ≡ b = omega arith in own_home 0 (length m) b lt ∙ ap (λ (i : ℕ). record { block = i; offset = 0; is_seen = true }) e

  moved_itself : (b : ℕ) (o : Offset) → b < length m → o.bits < 2 ^ 64 → moved_pointer homes (Pointer.At b o) ≡ Pointer.At b o
  moved_itself b o lt le =
      let e : (o.bits + 0) % 2 ^ 64 ≡ o.bits = omega arith in
      ap (λ (q : Home). Pointer.At q.block (record { bits = (o.bits + q.offset) % 2 ^ 64 })) (at_home b lt) ∙ ap (λ (n : ℕ). Pointer.At b (record { bits = n })) e

  byte_itself : (c : Byte) → AreOffsets (length m) c → IsByte homes c c
  byte_itself Byte.Undefined h = tt
  byte_itself (Byte.Number k) h = refl
  byte_itself (Byte.Part Pointer.Null k) h = (tt, refl)
  byte_itself (Byte.Part (Pointer.Func g) k) h = (tt, refl)
  byte_itself (Byte.Part (Pointer.At b o) k) h =
      (ap (λ (q : Home). q.is_seen) (at_home b h.0), ap (λ (p : Pointer). Byte.Part p k) (sym (moved_itself b o h.0 h.1)))

  full_live : (l : Life) (n k : ℕ) → is_live l ≡ true → n ≡ kept_size l k → n ≡ k
  full_live Life.Live n k live e = e
  full_live Life.Ended n k live e = absurd (cc)
  full_live Life.Killed n k live e = absurd (cc)

  stands_itself : (b : ℕ) (x : MemoryBlock) → slice_get m b ≡ Some x → is_live x.life ≡ true → Stands owner_rights owner_rights homes m b x
  stands_itself b x is live =
      let lt : b < length m = slice_get_within m b x is in
      let h = at_home b lt in
      let w : IsWhole x = subst IsWhole (get_or_from_slice_get m b x x is) (All-get_or IsWhole m b x lt whole) in
      let full : length x.bytes ≡ x.size = full_live x.life (length x.bytes) x.size live w.full in
      record {
        known = omega (arith, length-own_homes 0 (length m));
        block = x;
        there = subst (λ (q : Home). slice_get m q.block ≡ Some x) (sym h) is;
        live = live;
        full = full;
        whole = full;
        fits = subst (λ (q : Home). q.offset + x.size ≤ x.size) (sym h) (omega arith);
        small = small b x is;
        writable = λ e. e;
        allowed = subst (λ (q : Home). HasRights owner_rights owner_rights q b x x) (sym h) (record {
          opens = λ o len le e. at_zero o (λ i. is_below i x.owned ≡ false) e;
          aligned = λ o len align pos within free ok e. at_zero o (λ i. owner_rights.is_aligned b x i align ≡ true) e;
          comparable = λ o le e. at_zero o (λ i. owner_rights.is_comparable b x i ≡ true) e;
        });
        bytes = λ i lo o. subst (λ (q : Home). IsByte homes (byte_of x i) (byte_of x (q.offset + i))) (sym h) (at_zero i (λ j. IsByte homes (byte_of x i) (byte_of x j)) (byte_itself (byte_of x i) (known b i x is)));
      }
    where
      at_zero : (o : ℕ) (P : ℕ → Type 0) → P o → P (0 + o)
      at_zero o P h = let e : o ≡ 0 + o = omega arith in subst P e h

  other_homes : (b c : ℕ) → b ≢ c → b < length m → c < length m → (home_of homes b).block ≡ (home_of homes c).block → ⊥
  other_homes b c ne lt lt' e = ne (sym (ap (λ (q : Home). q.block) (at_home b lt)) ∙ e ∙ ap (λ (q : Home). q.block) (at_home c lt'))

  pub embeds_itself : Embeds owner_rights owner_rights homes m m
  embeds_itself = record {
    each = stands_itself;
    apart = λ b c x y ne at_b at_c live_x live_y shared. absurd (other_homes b c ne (slice_get_within m b x at_b) (slice_get_within m c y at_c) shared);
  }

pub stands_in_itself : (m : List MemoryBlock) → AreWhole m → ((b : ℕ) (x : MemoryBlock) → slice_get m b ≡ Some x → x.size < 2 ^ 64) → ((b i : ℕ) (x : MemoryBlock) → slice_get m b ≡ Some x → AreOffsets (length m) (byte_of x i)) → Embeds owner_rights owner_rights (own_homes 0 (length m)) m m
stands_in_itself m whole small known = embeds_itself m whole small known
