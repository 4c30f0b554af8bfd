-- Ranges of bytes that may be read and written, and lists of slots that are used before begin.
use Rattle.std.proofs.Common.{◌≡◌, ◌≢◌, ◌+◌, ◌-◌, ◌<◌, ◌≤◌, ◌==◌, ◌%◌, ◌&&◌, ◌∷◌, ◌∙◌, [], List, Some, ap, arith, drop, false, get_or, get_or-drop, get_or-take, inl, inr, length, map, refl, subst, sym, take, true, ℕ, ⊎_elim}
use Rattle.std.proofs.lemmas.Bool.{cases_lt, le-leb}
use Rattle.std.proofs.lemmas.List.{length-drop, length-take-le}
use Rattle.std.specs.Prelude.{nat_le, slice_get}
use Rattle.pass_frames_steps.specs.flow_solver.Paths.{IsListed}
use Rattle.pass_frames_steps.specs.ir_laws.paths.woven_rules.Pairs.{AreDifferent}
use Rattle.pass_frames_steps.specs.pass_copies.declared.slot.EarlySlot.{EarlySlot}
use Rattle.pass_frames_steps.specs.Slotted.{AreRangesApart}
use Rattle.pass_frames_steps.specs.run_laws.access.Lines.{AreDisjoint, Holds}
use Rattle.pass_frames_steps.specs.run_laws.changed.Changed.{Each}
use Rattle.pass_frames_steps.specs.run_laws.memory.Standing.{HasRights, IsAlignment, blank_block, byte_of}
use Rattle.pass_frames_steps.specs.run_memory.Memory.{Rights, is_live, owner_rights, same_kind}
use Rattle.pass_frames_steps.specs.run_memory.declared.block.Byte.{Byte}
use Rattle.pass_frames_steps.specs.run_memory.declared.block.Kind.{Kind}
use Rattle.pass_frames_steps.specs.run_memory.declared.block.MemoryBlock.{MemoryBlock}

-- ---- lists

pub each_in : {A : Type 0} (P : A → Type 0) (xs : List A) → Each P xs → (x : A) → IsListed x xs → P x
each_in P [] h x l = absurd l
each_in P (y ∷ ys) h x (inl e) = subst P (sym e) h.0
each_in P (y ∷ ys) h x (inr l) = each_in P ys h.1 x l

slot_in : (es : List EarlySlot) (e : EarlySlot) → IsListed e es → IsListed e.slot (map (λ (z : EarlySlot). z.slot) es)
slot_in [] e l = absurd l
slot_in (z ∷ es) e (inl q) = inl (ap (λ (y : EarlySlot). y.slot) q)
slot_in (z ∷ es) e (inr l) = inr (slot_in es e l)

-- slots with different names are told by them
pub same_early : (es : List EarlySlot) → AreDifferent (map (λ (z : EarlySlot). z.slot) es) → (e f : EarlySlot)
    → IsListed e es → IsListed f es → e.slot ≡ f.slot → e ≡ f
same_early [] d e f l k q = absurd l
same_early (z ∷ es) d e f (inl a) (inl c) q = a ∙ sym c
same_early (z ∷ es) d e f (inl a) (inr k) q =
    absurd (d.0 (subst (λ (n : ℕ). IsListed n (map (λ (y : EarlySlot). y.slot) es))
    (sym q ∙ ap (λ (y : EarlySlot). y.slot) a) (slot_in es f k)))
same_early (z ∷ es) d e f (inr l) (inl c) q =
    absurd (d.0 (subst (λ (n : ℕ). IsListed n (map (λ (y : EarlySlot). y.slot) es))
    (q ∙ ap (λ (y : EarlySlot). y.slot) c) (slot_in es e l)))
same_early (z ∷ es) d e f (inr l) (inr k) q = same_early es d.1 e f l k q

pub first_apart : (z : EarlySlot) (es : List EarlySlot) → AreDifferent (map (λ (y : EarlySlot). y.slot) (z ∷ es))
    → (e : EarlySlot) → IsListed e es → z.slot ≢ e.slot
first_apart z es d e l q =
    d.0 (subst (λ (n : ℕ). IsListed n (map (λ (y : EarlySlot). y.slot) es)) (sym q) (slot_in es e l))

-- ---- ranges

-- one lies behind the other
pub apart_disjoint : (b o m p n : ℕ) → 0 < m → 0 < n → AreRangesApart o m p n → AreDisjoint b o m b p n
apart_disjoint b o m p n some more apart =
    ⊎_elim
    (λ (lt : o < p). inr (inr (⊎_elim (λ (inside : p < o + m). absurd (first lt inside)) (λ le. le)
    (cases_lt p (o + m)))))
    (λ (le : p ≤ o). inr (inl (⊎_elim (λ (inside : o < p + n). absurd (second le inside)) (λ at. at)
    (cases_lt o (p + n)))))
    (cases_lt o p)
  where
    first : o < p → p < o + m → ⊥
    first lt inside = apart (p - o) 0 (omega (arith, lt, inside)) more (omega (arith, lt))

    second : p ≤ o → o < p + n → ⊥
    second le inside = apart 0 (o - p) some (omega (arith, le, inside)) (omega (arith, le))

-- ---- bytes

-- where as much may be done as with a slot of its own, a range may be read and written, byte for byte
module _ (target : Rights) (n : List MemoryBlock) (b o size align : ℕ) (y : MemoryBlock)
    (there : slice_get n b ≡ Some y) (live : is_live y.life ≡ true)
    (writable : same_kind y.kind Kind.Constant ≡ false) (whole : length y.bytes ≡ y.size) (fits : o + size ≤ y.size)
    (some : 0 < size) (even : 1 ≤ align)
    (rights : HasRights owner_rights target (record { block = b; offset = o; is_seen = true }) 0
    (blank_block size align Kind.Slot) y) where
  abbrev pub bytes : List Byte
  bytes = take size (drop o y.bytes)

  pub many : length bytes ≡ size
  many =
      length-take-le size (drop o y.bytes)
      (let rest : length (drop o y.bytes) ≡ length y.bytes - o = length-drop o y.bytes in
      omega (arith, rest, whole, fits))

  at_start : o + 0 ≡ o
  at_start = omega arith

  alone : (a : ℕ) → IsAlignment a → a ≤ 1 → a ≡ 1
  alone a (inl e) le = e
  alone a (inr (inl e)) le = omega (arith, e, le)
  alone a (inr (inr (inl e))) le = omega (arith, e, le)
  alone a (inr (inr (inr (inl e)))) le = omega (arith, e, le)
  alone a (inr (inr (inr (inr e)))) le = omega (arith, e, le)

  met : (a : ℕ) → a ≡ 1 → ((0 % a == 0) && nat_le a align) ≡ true
  met a e = subst (λ (q : ℕ). ((0 % q == 0) && nat_le q align) ≡ true) (sym e) (le-leb 1 align even)

  pub range_held : Holds target n b o 1 bytes
  range_held = record {
    block = y;
    there = there;
    live = live;
    writable = writable;
    whole = whole;
    within = let e = many in omega (arith, fits, e);
    holds = ap (λ (q : ℕ). take q (drop o y.bytes)) many;
    unclosed = (λ j. target.is_closed b y (sym at_start j) (many j)) ∙ rights.opens 0 size (omega arith) refl;
    aligned = λ a is le.
        ap (λ (q : ℕ). target.is_aligned b y q a) (sym at_start)
        ∙ rights.aligned 0 size a some (omega arith) refl is (met a (alone a is le));
  }

-- the bytes of a range are those of its block
pub held_byte : (rights : Rights) (m : List MemoryBlock) (b o most : ℕ) (bytes : List Byte)
    (h : Holds rights m b o most bytes) (i : ℕ) → i < length bytes
    → byte_of h.block (o + i) ≡ get_or bytes i Byte.Undefined
held_byte rights m b o most bytes h i lt =
    sym
    (ap (λ (xs : List Byte). get_or xs i Byte.Undefined) (sym h.holds)
    ∙ get_or-take (length bytes) (drop o h.block.bytes) i Byte.Undefined lt
    ∙ get_or-drop o h.block.bytes i Byte.Undefined)
