-- The frame slots that conflict, without their pairs.
use Rattle.std.proofs.Common.{◌≡◌, ℕ, zero, suc, ◌+◌, ◌-◌, ◌*◌, ◌/◌, ◌%◌, ◌<◌, ◌≤◌, ◌⊎◌, Bool, true, false, List, [], ◌∷◌, ◌++◌, refl, sym, ap, ◌∙◌, subst, ⊎_elim, inl, inr, arith, append-nil}
use Rattle.std.specs.Prelude.{◌↔◌, IsTrue, min, not, ◌==◌}
use Rattle.std.specs.Int.{bit_at}
use Rattle.std.proofs.lemmas.Bool.{cases_Bool, cases_lt, eqb-true, false≢true}
use Rattle.std.proofs.lemmas.Nat.Bits.{bit_at-zero}
use Rattle.flow_solver.proofs.Lists.{listed_cases, listed_front, listed_last}
use Rattle.flow_solver.specs.Paths.{IsListed}
use Rattle.ir_model.specs.declared.module.Function.{Function}
use Rattle.frame_conflicts.proofs.Deciding.{IsPart, part_of}
use Rattle.frame_conflicts.proofs.Order.{none_in_row, rows_so_far}
use Rattle.frame_conflicts.proofs.Places.{same_chunk}
use Rattle.frame_conflicts.specs.Conflicts.{Conflict, ConflictAt, IsFrameSlotAt}
use Rattle.frame_conflicts.specs.Conflicts.Conflict.{Unmarked, Early, Together}
use Rattle.frame_conflicts.specs.Known.{IsFrameAt, IsKnown, is_loose_at, loose_at}
use Rattle.frame_conflicts.specs.Pairs.{AreUpTo}
use Rattle.frame_conflicts.specs.Parts.{AreBelow, AreJust, IsWide, IsWideAt, NarrowAt, number_if}
use Rattle.frame_conflicts.specs.declared.facts.Known.{Known}

-- ---- numbers of which a fact holds

module _ (Holds : ℕ → Type 0) where
  pub none_below : AreBelow Holds 0 []
  none_below i = (λ h. absurd h, λ p. let lt = p.1 in absurd (omega (arith, lt)))

  pub more_below : (b : Bool) (n : ℕ) (all next : List ℕ) → (b ≡ true → Holds n) → (Holds n → b ≡ true) → next ≡ all ++ number_if b n → AreBelow Holds n all → AreBelow Holds (n + 1) next
  more_below b n all next forth back is h i = (λ l. to b refl (subst (IsListed i) is l), λ p. subst (IsListed i) (sym is) (from b refl p.0 p.1))
    where
      to : (t : Bool) → b ≡ t → IsListed i (all ++ number_if t n) → Holds i × (i < n + 1)
      to true e l = ⊎_elim
          (λ old. let two = (h i).0 old in let lt = two.1 in (two.0, omega (arith, lt)))
          (λ same. (subst Holds (sym same) (forth e), omega (arith, same)))
          (listed_cases i n all l)
      to false e l = let two = (h i).0 (subst (IsListed i) (append-nil all) l) in let lt = two.1 in (two.0, omega (arith, lt))

      from : (t : Bool) → b ≡ t → Holds i → i < n + 1 → IsListed i (all ++ number_if t n)
      from t e holds lt = ⊎_elim
          (λ (less : i < n). listed_front i all (number_if t n) ((h i).1 (holds, less)))
          (λ (ge : n ≤ i). let same : i ≡ n = omega (arith, lt, ge) in last t (sym e ∙ back (subst Holds same holds)) same)
          (cases_lt i n)
        where
          last : (u : Bool) → u ≡ true → i ≡ n → IsListed i (all ++ number_if u n)
          last true f same = subst (λ (x : ℕ). IsListed x (all ++ n ∷ [])) (sym same) (listed_last n all)
          last false f same = absurd (false≢true f)

  pub all_below : (n : ℕ) (all : List ℕ) → ((i : ℕ) → Holds i → i < n) → AreBelow Holds n all → AreJust Holds all
  all_below n all within h i = (λ l. ((h i).0 l).0, λ p. (h i).1 (p, within i p))

-- ---- wide slots and others

module _ (f : Function) (known : Known) (is : IsKnown f known) where
  is_narrow_slot : (i slot : ℕ) → IsFrameSlotAt f i slot → is_loose_at known.chunks i ≡ true → IsWide f slot → ⊥
  is_narrow_slot i slot at e wide = let p : IsPart f is.looked known.chunks i slot = part_of f known is i slot at in ⊎_elim (λ h. (p.loose e).0 h) (λ h. (p.loose e).1 h) wide

  is_wide_slot : (i slot : ℕ) → IsFrameSlotAt f i slot → is_loose_at known.chunks i ≡ false → IsWide f slot
  is_wide_slot i slot at e = let p : IsPart f is.looked known.chunks i slot = part_of f known is i slot at in p.tight e

  pub wide_told : (i : ℕ) (b : Bool) → IsFrameAt f i → b ≡ is_loose_at known.chunks i → IsTrue (not b) ↔ IsWideAt f i
  wide_told i true x e = (λ h. absurd (false≢true h), λ (w : IsWideAt f i). absurd (is_narrow_slot i w.slot w.is_slot (sym e) w.is_wide))
  wide_told i false x e = (λ h. record { slot = x.slot; is_slot = x.is_slot; is_wide = is_wide_slot i x.slot x.is_slot (sym e) }, λ w. refl)

  pub narrow_told : (i k : ℕ) (b : Bool) → is_loose_at known.chunks i ≡ true → is_loose_at known.chunks k ≡ true → (IsTrue b ↔ ConflictAt f i k) → IsTrue b ↔ NarrowAt f i k
  narrow_told i k b li lk told = (λ h. to (told.0 h), λ (n : NarrowAt f i k). told.1 (record { one = n.one; other = n.other; is_one = n.is_one; is_other = n.is_other; is_lower = n.is_lower; conflict = Together n.together }))
    where
      by : (c : ConflictAt f i k) → Conflict f c.one c.other → NarrowAt f i k
      by c (Unmarked none) = absurd (⊎_elim (λ e. is_narrow_slot i c.one c.is_one li (inl e)) (λ e. is_narrow_slot k c.other c.is_other lk (inl e)) none)
      by c (Early used) = absurd (⊎_elim (λ u. is_narrow_slot i c.one c.is_one li (inr u)) (λ u. is_narrow_slot k c.other c.is_other lk (inr u)) used)
      by c (Together t) = record {
        one = c.one;
        other = c.other;
        is_one = c.is_one;
        is_other = c.is_other;
        is_lower = c.is_lower;
        one_is_narrow = is_narrow_slot i c.one c.is_one li;
        other_is_narrow = is_narrow_slot k c.other c.is_other lk;
        together = t;
      }

      to : ConflictAt f i k → NarrowAt f i k
      to c = by c c.conflict

  pub not_narrow : (i k : ℕ) → is_loose_at known.chunks k ≡ false → IsTrue false ↔ NarrowAt f i k
  not_narrow i k e = (λ h. absurd (false≢true h), λ (n : NarrowAt f i k). absurd (n.other_is_narrow (is_wide_slot k n.other n.is_other e)))

  pub first_loose : (i k : ℕ) → NarrowAt f i k → is_loose_at known.chunks i ≡ true
  first_loose i k n = ⊎_elim (λ e. e) (λ e. absurd (n.one_is_narrow (is_wide_slot i n.one n.is_one e))) (cases_Bool (is_loose_at known.chunks i))

-- ---- rows in which no pair is

rows_without : (Holds : ℕ → ℕ → Type 0) (m d : ℕ) (pairs : List (ℕ × ℕ)) → ((i k : ℕ) → m ≤ i → i < m + d → Holds i k → ⊥) → AreUpTo Holds m 0 pairs → AreUpTo Holds (m + d) 0 pairs
rows_without Holds m zero pairs never u = rows_so_far Holds m (m + 0) pairs (omega arith) u
rows_without Holds m (suc d) pairs never u =
    rows_so_far Holds ((m + d) + 1) (m + suc d) pairs (omega arith)
    (none_in_row Holds (m + d) pairs (λ k h. never (m + d) k (omega arith) (omega arith) h) (rows_without Holds m d pairs (λ i k le lt h. never i k le (omega (arith, lt)) h) u))

not_in_none : (word i : ℕ) → word ≡ 0 → (bit_at word i == 1) ≡ true → ⊥
not_in_none word i none e = let one = eqb-true (bit_at word i) 1 e in let z = ap (λ (w : ℕ). bit_at w i) none ∙ bit_at-zero i in omega (arith, one, z)

-- a chunk of wide slots has no pairs
pub wide_chunk : (f : Function) (known : Known) → IsKnown f known → (chunk n : ℕ) (pairs : List (ℕ × ℕ)) → loose_at known.chunks chunk ≡ 0 → chunk * 64 < n → AreUpTo (NarrowAt f) (chunk * 64) 0 pairs → AreUpTo (NarrowAt f) (min (chunk * 64 + 64) n) 0 pairs
wide_chunk f known is chunk n pairs none lt u =
    rows_so_far (NarrowAt f) (chunk * 64 + (min (chunk * 64 + 64) n - chunk * 64)) (min (chunk * 64 + 64) n) pairs (omega (arith, lt))
    (rows_without (NarrowAt f) (chunk * 64) (min (chunk * 64 + 64) n - chunk * 64) pairs
    (λ i k le less h. never i le (omega (arith, lt, less)) (first_loose f known is i k h)) u)
  where
    never : (i : ℕ) → chunk * 64 ≤ i → i < chunk * 64 + 64 → is_loose_at known.chunks i ≡ true → ⊥
    never i le less e = not_in_none (loose_at known.chunks (i / 64)) (i % 64) (ap (loose_at known.chunks) (same_chunk chunk i le less) ∙ none) e
