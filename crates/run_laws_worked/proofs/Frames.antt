-- What the rights of frames allow, in a frame and where there is none.
use Rattle.std.proofs.Common.{◌≡◌, ◌≢◌, ℕ, zero, suc, ◌+◌, ◌%◌, ◌^◌, ◌<◌, ◌≤◌, Bool, true, false, not, List, [], ◌∷◌, get_or, replicate, Option, Some, None, refl, sym, ap, ◌∙◌, subst, ⊎_elim, arith, if◌then◌else◌, ◌&&◌, ◌||◌, ◌==◌}
use Rattle.std.specs.Prelude.{nat_lt, slice_get, option_and_then}
use Rattle.std.proofs.lemmas.Bool.{and_left, and_parts, and_right, cases_eq, cases_lt, le-ltb, ltb-false, ne_eqb}
use Rattle.std.proofs.lemmas.List.{get_or-replicate, length-replicate}
use Rattle.run_laws.specs.run_memory.Memory.{is_live, meets, owner_rights}
use Rattle.run_laws.specs.run_memory.declared.block.Byte.{Byte}
use Rattle.run_laws.specs.run_memory.declared.block.Kind.{Kind}
use Rattle.run_laws.specs.run_memory.declared.block.MemoryBlock.{MemoryBlock}
use Rattle.run_source.specs.State.{last_from, numbered, or_else}
use Rattle.run_source.specs.declared.state.Instance.{Instance}
use Rattle.run_laws_worked.specs.Worked.{owned_block}
use Rattle.run_framed.specs.Framed.{FramedGiven, covers, frame_rights, is_open, is_open_byte, judge_of, layout_of, meets_in}
use Rattle.run_laws.specs.memory.Pointers.{Home, IsByte, home_of}
use Rattle.run_laws.specs.memory.Standing.{AreApart, AreByteRights, Embeds, HasFreshRights, Stands, blank_block, byte_of}
use Rattle.run_laws.specs.embedded.Making.{AreNewRights, whole_home}
use Rattle.run_laws.specs.changed.Changed.{Each}

pub from_start : (o : ℕ) → 0 + o ≡ o
from_start o = omega arith

pub or_true : (a : Bool) → (a || true) ≡ true
or_true true = refl
or_true false = refl

-- ---- no frame has the byte

no_last : (test : Instance → Bool) (i : ℕ) (xs : List Instance) → Each (λ (x : Instance). test x ≡ false) xs → last_from test i xs ≡ None
no_last test i [] h = refl
no_last test i (x ∷ xs) h = λ j. or_else (no_last test (suc i) xs h.1 j) (if h.0 j then Some i else None)

none_covers : (g : FramedGiven) (b k : ℕ) (xs : List Instance) → Each (λ (x : Instance). x.block ≢ b) xs → Each (λ (x : Instance). covers g b k x ≡ false) xs
none_covers g b k [] h = tt
none_covers g b k (x ∷ xs) h = (and_left _ _ (and_left _ _ (ne_eqb x.block b h.0)), none_covers g b k xs h.1)

pub no_judge : (g : FramedGiven) (xs : List Instance) (b k : ℕ) → Each (λ (x : Instance). x.block ≢ b) xs → judge_of g xs b k ≡ None
no_judge g xs b k h = ap (option_and_then (numbered xs)) (no_last (covers g b k) 0 xs (none_covers g b k xs h))

open_outside : (g : FramedGiven) (xs : List Instance) (b k len : ℕ) → Each (λ (x : Instance). x.block ≢ b) xs → is_open g xs b k len ≡ true
open_outside g xs b k zero h = refl
open_outside g xs b k (suc len) h = λ i. is_open_byte g k (no_judge g xs b k h i) && open_outside g xs b (k + 1) len h i

-- ---- rights of bytes

-- each byte of a range that may be touched
open_byte : (g : FramedGiven) (xs : List Instance) (b o len i : ℕ) → is_open g xs b o len ≡ true → o ≤ i → i < o + len → is_open g xs b i 1 ≡ true
open_byte g xs b o zero i e le lt = absurd (omega arith)
open_byte g xs b o (suc len) i e le lt =
    let h = and_parts _ _ e in
    ⊎_elim
    (λ is. subst (λ k. is_open g xs b k 1 ≡ true) is (ap (λ t. t && true) h.0))
    (λ ne. open_byte g xs b (o + 1) len i h.1 (later o i ne le) (omega arith))
    (cases_eq o i)
  where
    later : (a c : ℕ) → a ≢ c → a ≤ c → a + 1 ≤ c
    later a c ne le = ⊎_elim (λ l. omega arith) (λ ge. absurd (ne (omega arith))) (cases_lt a c)

pub frame_rights_fit : (g : FramedGiven) (instances : List Instance) → AreByteRights (frame_rights g instances)
frame_rights_fit g instances = record {
  bytes = λ b x o len i e lo hi. ap not (open_byte g instances b o len i (unclosed _ e) lo hi);
  closed = λ b x bytes o len. refl;
  aligned = λ b x bytes o align. same x bytes o align (judge_of g instances b o);
  comparable = λ b x bytes o. refl;
}
  where
    unclosed : (t : Bool) → not t ≡ false → t ≡ true
    unclosed true e = refl
    unclosed false e = absurd (cc)

    same : (x : MemoryBlock) (bytes : List Byte) (o align : ℕ) (j : Option (ℕ × Instance)) → meets_in g (record x { bytes = bytes }) o align j ≡ meets_in g x o align j
    same x bytes o align None = refl
    same x bytes o align (Some p) = refl

-- ---- new blocks

module _ (g : FramedGiven) (xs : List Instance) where
  as_owners : (b : ℕ) (y : MemoryBlock) (o align : ℕ) → Each (λ (x : Instance). x.block ≢ b) xs → meets_in g y o align (judge_of g xs b o) ≡ meets y o align
  as_owners b y o align h = ap (meets_in g y o align) (no_judge g xs b o h)

  pub serve_target : (b c : ℕ) (kind other : Kind) → Each (λ (x : Instance). x.block ≢ c) xs → AreNewRights owner_rights (frame_rights g xs) b c kind other
  serve_target b c kind other h = record {
    allowed = λ size align. record {
      opens = λ o len le e. ap not (open_outside g xs c (0 + o) len h);
      aligned = λ o len n pos within free is e. as_owners c (blank_block size align other) (0 + o) n h ∙ ap (λ (k : ℕ). meets (blank_block size align other) k n) (from_start o) ∙ e;
      comparable = λ o le e. refl;
    };
    nulls = λ size align o e. refl;
  }

  pub serve_source : (b c : ℕ) (kind other : Kind) → Each (λ (x : Instance). x.block ≢ b) xs → AreNewRights (frame_rights g xs) owner_rights b c kind other
  serve_source b c kind other h = record {
    allowed = λ size align. record {
      opens = λ o len le e. refl;
      aligned = λ o len n pos within free is e. ap (λ (k : ℕ). meets (blank_block size align other) k n) (from_start o) ∙ sym (as_owners b (blank_block size align kind) o n h) ∙ e;
      comparable = λ o le e. or_true (0 + o == 0);
    };
    nulls = λ size align o e. or_true ((o.bits + 0) % 2 ^ 64 == 0);
  }

  pub serve_fresh : (b c : ℕ) → Each (λ (x : Instance). x.block ≢ c) xs → HasFreshRights owner_rights (frame_rights g xs) b c
  serve_fresh b c h = record { each = λ size align kind. (serve_target b c kind kind h).allowed size align }

  pub serve_both : (k : FramedGiven) (ys : List Instance) (b c : ℕ) (kind other : Kind) → Each (λ (x : Instance). x.block ≢ b) xs → Each (λ (x : Instance). x.block ≢ c) ys → AreNewRights (frame_rights g xs) (frame_rights k ys) b c kind other
  serve_both k ys b c kind other h h' = record {
    allowed = λ size align. record {
      opens = λ o len le e. ap not (open_outside k ys c (0 + o) len h');
      aligned = λ o len n pos within free is e.
          ap (meets_in k (blank_block size align other) (0 + o) n) (no_judge k ys c (0 + o) h')
          ∙ ap (λ (i : ℕ). meets (blank_block size align other) i n) (from_start o) ∙ sym (as_owners b (blank_block size align kind) o n h) ∙ e;
      comparable = λ o le e. refl;
    };
    nulls = λ size align o e. refl;
  }

-- ---- an owned block, in which a frame lies at the start

pub blank_byte : (homes : List Home) (x : MemoryBlock) (size i : ℕ) (c : Byte) → x.bytes ≡ replicate size Byte.Undefined → i < size → IsByte homes (byte_of x i) c
blank_byte homes x size i c e lt = subst (λ (d : Byte). IsByte homes d c) (sym (ap (λ (bs : List Byte). get_or bs i Byte.Undefined) e ∙ get_or-replicate size i Byte.Undefined Byte.Undefined lt)) tt

module _ (g : FramedGiven) (x : Instance) (size n : ℕ) (start : x.start ≡ 0) (is : (layout_of g.layouts x.coroutine).size ≡ n) where
  behind_covers : (k : ℕ) → n ≤ k → covers g 0 k x ≡ false
  behind_covers k le = and_right _ _ (ap (λ (p : ℕ × ℕ). nat_lt k (p.0 + p.1)) (λ i. (start i, is i)) ∙ le-ltb k (0 + n) (omega arith))

  behind_judge : (k : ℕ) → n ≤ k → judge_of g (x ∷ []) 0 k ≡ None
  behind_judge k le = ap (option_and_then (numbered (x ∷ []))) (no_last (covers g 0 k) 0 (x ∷ []) (behind_covers k le, tt))

  behind_opens : (k len : ℕ) → n ≤ k → is_open g (x ∷ []) 0 k len ≡ true
  behind_opens k zero le = refl
  behind_opens k (suc len) le = λ i. is_open_byte g k (behind_judge k le i) && behind_opens (k + 1) len (omega arith) i

  pub owned_stands : (homes : List Home) (ns : List MemoryBlock) → n ≤ size → size < 2 ^ 64 → Stands owner_rights (frame_rights g (x ∷ [])) (whole_home 0 ∷ homes) (owned_block size 16 n ∷ ns) 0 (owned_block size 16 n)
  owned_stands homes ns le small = record {
    known = omega arith;
    block = owned_block size 16 n;
    there = refl;
    live = refl;
    full = length-replicate size Byte.Undefined;
    whole = length-replicate size Byte.Undefined;
    fits = omega arith;
    small = small;
    writable = λ e. e;
    allowed = record {
      opens = λ o len within e. let lt = ltb-false o n e in ap not (behind_opens (0 + o) len (omega arith));
      aligned = λ o len align pos within free ok e.
          let lt = ltb-false o n free in
          ap (meets_in g (owned_block size 16 n) (0 + o) align) (behind_judge (0 + o) (omega arith)) ∙ ap (λ (k : ℕ). meets (owned_block size 16 n) k align) (from_start o) ∙ e;
      comparable = λ o within e. refl;
    };
    bytes = λ i lt op. blank_byte (whole_home 0 ∷ homes) (owned_block size 16 n) size i _ refl lt;
  }

pub owned_block_stands : (g : FramedGiven) (x : Instance) (size n : ℕ) → x.start ≡ 0 → (layout_of g.layouts x.coroutine).size ≡ n → n ≤ size → size < 2 ^ 64 → Embeds owner_rights (frame_rights g (x ∷ [])) (whole_home 0 ∷ []) (owned_block size 16 n ∷ []) (owned_block size 16 n ∷ [])
owned_block_stands g x size n start is le small = record { each = each; apart = apart }
  where
    each : (b : ℕ) (y : MemoryBlock) → slice_get (owned_block size 16 n ∷ []) b ≡ Some y → is_live y.life ≡ true → Stands owner_rights (frame_rights g (x ∷ [])) (whole_home 0 ∷ []) (owned_block size 16 n ∷ []) b y
    each zero y at live = let same : owned_block size 16 n ≡ y = cc in subst (λ (z : MemoryBlock). Stands owner_rights (frame_rights g (x ∷ [])) (whole_home 0 ∷ []) (owned_block size 16 n ∷ []) 0 z) same (owned_stands g x size n start is [] [] le small)
    each (suc b) y at live = absurd (cc)

    apart : (b c : ℕ) (y z : MemoryBlock) → b ≢ c → slice_get (owned_block size 16 n ∷ []) b ≡ Some y → slice_get (owned_block size 16 n ∷ []) c ≡ Some z → is_live y.life ≡ true → is_live z.life ≡ true → (home_of (whole_home 0 ∷ []) b).block ≡ (home_of (whole_home 0 ∷ []) c).block → AreApart owner_rights (home_of (whole_home 0 ∷ []) b) (home_of (whole_home 0 ∷ []) c) b c y z
    apart zero zero y z ne at_b at_c live live' shared = absurd (ne refl)
    apart zero (suc c) y z ne at_b at_c live live' shared = absurd (cc)
    apart (suc b) c y z ne at_b at_c live live' shared = absurd (cc)
