-- The pairs that parts of frame slots stand for.
use Rattle.std.proofs.Common.{◌≡◌, ℕ, zero, suc, ◌+◌, ◌<◌, ◌⊎◌, Bool, true, false, ◌||◌, List, [], ◌∷◌, ◌++◌, length, refl, sym, ap, ◌∙◌, subst, ⊎_elim, inl, inr, arith}
use Rattle.std.specs.Prelude.{◌&&◌, nat_eq, nat_lt}
use Rattle.std.specs.List.{list_any}
use Rattle.std.proofs.lemmas.Bool.{and_from, and_parts, cases_Bool, eq-eqb, eqb-true, false≢true, lt-ltb, ltb-true, or_cases, or_left, or_right}
use Rattle.std.proofs.lemmas.Option.{slice_get_within}
use Rattle.flow_solver.specs.Paths.{IsListed}
use Rattle.ir_model.specs.declared.module.Function.{Function}
use Rattle.ir_paths.specs.Slots.{allocas_of}
use Rattle.frame_conflicts.proofs.Order.{all_pairs, by_test, next_row, no_pairs}
use Rattle.frame_conflicts.specs.Conflicts.{AreAliveTogether, AreConflicts, Conflict, ConflictAt, IsFrameSlotAt}
use Rattle.frame_conflicts.specs.Conflicts.Conflict.{Unmarked, Early, Together}
use Rattle.frame_conflicts.specs.Known.{IsFrameAt}
use Rattle.frame_conflicts.specs.Pairs.{AreUpTo, pair_if}
use Rattle.frame_conflicts.specs.Parts.{AreParted, ArePartsOf, IsWide, IsWideAt, NarrowAt}
use Rattle.frame_conflicts.specs.declared.parts.SlotParts.{SlotParts}

-- ---- tests of lists

abbrev has_number : List ℕ → ℕ → Bool
has_number xs i = list_any (λ (x : ℕ). nat_eq i x) xs

number_told : (xs : List ℕ) (i : ℕ) → has_number xs i ≡ true → IsListed i xs
number_told [] i e = absurd (cc)
number_told (x ∷ xs) i e = ⊎_elim (λ here. inl (eqb-true i x here)) (λ later. inr (number_told xs i later)) (or_cases (nat_eq i x) (has_number xs i) e)

number_at : (xs : List ℕ) (i : ℕ) → IsListed i xs → has_number xs i ≡ true
number_at [] i l = absurd l
number_at (x ∷ xs) i l = ⊎_elim (λ same. or_left (nat_eq i x) (has_number xs i) (eq-eqb i x same)) (λ later. or_right (nat_eq i x) (has_number xs i) (number_at xs i later)) l

abbrev has_two : List (ℕ × ℕ) → ℕ → ℕ → Bool
has_two ps i k = list_any (λ (p : ℕ × ℕ). nat_eq i p.0 && nat_eq k p.1) ps

same_pair : (p : ℕ × ℕ) (i k : ℕ) → i ≡ p.0 → k ≡ p.1 → ◌≡◌ {A = ℕ × ℕ} (i, k) p
same_pair (a, b) i k e f = ap (λ (x : ℕ). (x, k)) e ∙ ap (λ (x : ℕ). (a, x)) f

two_told : (ps : List (ℕ × ℕ)) (i k : ℕ) → has_two ps i k ≡ true → IsListed (i, k) ps
two_told [] i k e = absurd (cc)
two_told (p ∷ ps) i k e = ⊎_elim
    (λ here. let two = and_parts (nat_eq i p.0) (nat_eq k p.1) here in inl (same_pair p i k (eqb-true i p.0 two.0) (eqb-true k p.1 two.1)))
    (λ later. inr (two_told ps i k later))
    (or_cases (nat_eq i p.0 && nat_eq k p.1) (has_two ps i k) e)

two_at : (ps : List (ℕ × ℕ)) (i k : ℕ) → IsListed (i, k) ps → has_two ps i k ≡ true
two_at [] i k l = absurd l
two_at (p ∷ ps) i k l = ⊎_elim
    (λ same. or_left (nat_eq i p.0 && nat_eq k p.1) (has_two ps i k)
    (and_from (nat_eq i p.0) (nat_eq k p.1) (eq-eqb i p.0 (ap (λ (q : ℕ × ℕ). q.0) same)) (eq-eqb k p.1 (ap (λ (q : ℕ × ℕ). q.1) same))))
    (λ later. or_right (nat_eq i p.0 && nat_eq k p.1) (has_two ps i k) (two_at ps i k later))
    l

both_told : (xs ys : List ℕ) (i k : ℕ) → (has_number xs i && has_number ys k) ≡ true → IsListed i xs × IsListed k ys
both_told xs ys i k e = let two = and_parts (has_number xs i) (has_number ys k) e in (number_told xs i two.0, number_told ys k two.1)

both_at : (xs ys : List ℕ) (i k : ℕ) → IsListed i xs → IsListed k ys → (has_number xs i && has_number ys k) ≡ true
both_at xs ys i k l m = and_from (has_number xs i) (has_number ys k) (number_at xs i l) (number_at ys k m)

abbrev parted : SlotParts → ℕ → ℕ → Bool
parted parts i k = (has_number parts.wide i && has_number parts.frame k) || ((has_number parts.wide k && has_number parts.frame i) || has_two parts.narrow i k)

parted_told : (parts : SlotParts) (i k : ℕ) → parted parts i k ≡ true → AreParted parts i k
parted_told parts i k e = ⊎_elim
    (λ a. inl (both_told parts.wide parts.frame i k a))
    (λ b. ⊎_elim
    (λ c. inr (inl (both_told parts.wide parts.frame k i c)))
    (λ d. inr (inr (two_told parts.narrow i k d)))
    (or_cases (has_number parts.wide k && has_number parts.frame i) (has_two parts.narrow i k) b))
    (or_cases (has_number parts.wide i && has_number parts.frame k) ((has_number parts.wide k && has_number parts.frame i) || has_two parts.narrow i k) e)

parted_at : (parts : SlotParts) (i k : ℕ) → AreParted parts i k → parted parts i k ≡ true
parted_at parts i k h = ⊎_elim
    (λ a. or_left (has_number parts.wide i && has_number parts.frame k) ((has_number parts.wide k && has_number parts.frame i) || has_two parts.narrow i k) (both_at parts.wide parts.frame i k a.0 a.1))
    (λ b. or_right (has_number parts.wide i && has_number parts.frame k) ((has_number parts.wide k && has_number parts.frame i) || has_two parts.narrow i k)
    (⊎_elim
    (λ c. or_left (has_number parts.wide k && has_number parts.frame i) (has_two parts.narrow i k) (both_at parts.wide parts.frame k i c.0 c.1))
    (λ d. or_right (has_number parts.wide k && has_number parts.frame i) (has_two parts.narrow i k) (two_at parts.narrow i k d))
    b))
    h

-- ---- conflicts by parts

module _ (f : Function) (parts : SlotParts) (are : ArePartsOf f parts) where
  frame_listed : (i slot : ℕ) → IsFrameSlotAt f i slot → IsListed i parts.frame
  frame_listed i slot at = (are.frame_are i).1 (record { slot = slot; is_slot = at })

  wide_listed : (i slot : ℕ) → IsFrameSlotAt f i slot → IsWide f slot → IsListed i parts.wide
  wide_listed i slot at wide = (are.wide_are i).1 (record { slot = slot; is_slot = at; is_wide = wide })

  never_wide : (i slot : ℕ) → IsFrameSlotAt f i slot → has_number parts.wide i ≡ false → IsWide f slot → ⊥
  never_wide i slot at e wide = false≢true (sym e ∙ number_at parts.wide i (wide_listed i slot at wide))

  first_wide : (i k : ℕ) (c : ConflictAt f i k) → IsWide f c.one → AreParted parts i k
  first_wide i k c wide = inl (wide_listed i c.one c.is_one wide, frame_listed k c.other c.is_other)

  second_wide : (i k : ℕ) (c : ConflictAt f i k) → IsWide f c.other → AreParted parts i k
  second_wide i k c wide = inr (inl (wide_listed k c.other c.is_other wide, frame_listed i c.one c.is_one))

  together_parted : (i k : ℕ) (c : ConflictAt f i k) → AreAliveTogether f c.one c.other → (a b : Bool) → has_number parts.wide i ≡ a → has_number parts.wide k ≡ b → AreParted parts i k
  together_parted i k c t true b e g = inl (number_told parts.wide i e, frame_listed k c.other c.is_other)
  together_parted i k c t false true e g = inr (inl (number_told parts.wide k g, frame_listed i c.one c.is_one))
  together_parted i k c t false false e g = inr (inr ((are.narrow_are.each i k).1 (record {
    one = c.one;
    other = c.other;
    is_one = c.is_one;
    is_other = c.is_other;
    is_lower = c.is_lower;
    one_is_narrow = never_wide i c.one c.is_one e;
    other_is_narrow = never_wide k c.other c.is_other g;
    together = t;
  })))

  by_conflict : (i k : ℕ) (c : ConflictAt f i k) → Conflict f c.one c.other → AreParted parts i k
  by_conflict i k c (Unmarked none) = ⊎_elim (λ e. first_wide i k c (inl e)) (λ e. second_wide i k c (inl e)) none
  by_conflict i k c (Early used) = ⊎_elim (λ u. first_wide i k c (inr u)) (λ u. second_wide i k c (inr u)) used
  by_conflict i k c (Together t) = together_parted i k c t (has_number parts.wide i) (has_number parts.wide k) refl refl

  pub conflict_parted : (i k : ℕ) → ConflictAt f i k → AreParted parts i k
  conflict_parted i k c = by_conflict i k c c.conflict

  pub parted_conflict : (i k : ℕ) → i < k → AreParted parts i k → ConflictAt f i k
  parted_conflict i k lt h = ⊎_elim
      (λ a. let w : IsWideAt f i = (are.wide_are i).0 a.0 in let x : IsFrameAt f k = (are.frame_are k).0 a.1 in
      record { one = w.slot; other = x.slot; is_one = w.is_slot; is_other = x.is_slot; is_lower = lt; conflict = ⊎_elim (λ e. Unmarked (inl e)) (λ u. Early (inl u)) w.is_wide })
      (λ b. ⊎_elim
      (λ a. let w : IsWideAt f k = (are.wide_are k).0 a.0 in let x : IsFrameAt f i = (are.frame_are i).0 a.1 in
      record { one = x.slot; other = w.slot; is_one = x.is_slot; is_other = w.is_slot; is_lower = lt; conflict = ⊎_elim (λ e. Unmarked (inr e)) (λ u. Early (inr u)) w.is_wide })
      (λ n. let x : NarrowAt f i k = (are.narrow_are.each i k).0 n in record { one = x.one; other = x.other; is_one = x.is_one; is_other = x.is_other; is_lower = lt; conflict = Together x.together })
      b)
      h

  -- ---- the pairs in order

  test_forth : (i k : ℕ) → (nat_lt i k && parted parts i k) ≡ true → ConflictAt f i k
  test_forth i k e = let two = and_parts (nat_lt i k) (parted parts i k) e in parted_conflict i k (ltb-true i k two.0) (parted_told parts i k two.1)

  test_back : (i k : ℕ) → ConflictAt f i k → (nat_lt i k && parted parts i k) ≡ true
  test_back i k c = and_from (nat_lt i k) (parted parts i k) (lt-ltb i k c.is_lower) (parted_at parts i k (conflict_parted i k c))

  row_to : (i n : ℕ) (pairs : List (ℕ × ℕ)) → AreUpTo (ConflictAt f) i 0 pairs → (next : List (ℕ × ℕ)) × AreUpTo (ConflictAt f) i n next
  row_to i zero pairs u = (pairs, u)
  row_to i (suc n) pairs u =
      let r = row_to i n pairs u in
      let step : n + 1 ≡ suc n = omega arith in (
        r.0 ++ pair_if (nat_lt i n && parted parts i n) i n,
        subst (λ (x : ℕ). AreUpTo (ConflictAt f) i x (r.0 ++ pair_if (nat_lt i n && parted parts i n) i n)) step
            (by_test (ConflictAt f) (nat_lt i n && parted parts i n) i n r.0 (r.0 ++ pair_if (nat_lt i n && parted parts i n) i n) (test_forth i n) (test_back i n) refl r.1),
      )

  rows_to : (m : ℕ) → (pairs : List (ℕ × ℕ)) × AreUpTo (ConflictAt f) m 0 pairs
  rows_to zero = ([], no_pairs (ConflictAt f))
  rows_to (suc m) =
      let before = rows_to m in
      let row = row_to m (length (allocas_of f)) before.0 before.1 in
      let step : m + 1 ≡ suc m = omega arith in (
        row.0,
        subst (λ (x : ℕ). AreUpTo (ConflictAt f) x 0 row.0) step
            (next_row (ConflictAt f) m (length (allocas_of f)) row.0 (λ k h. slice_get_within (allocas_of f) k h.other h.is_other.stands) row.1),
      )

  pub conflicts_named : (pairs : List (ℕ × ℕ)) × AreConflicts f pairs
  conflicts_named =
      let all = rows_to (length (allocas_of f)) in
      (all.0, all_pairs (ConflictAt f) (length (allocas_of f)) all.0 (λ a b h. slice_get_within (allocas_of f) a h.one h.is_one.stands) all.1)
