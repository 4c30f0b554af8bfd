-- Who is alive with whom, position after position.
use Rattle.std.proofs.Common.{◌≡◌, ◌≢◌, ℕ, zero, suc, ◌+◌, ◌<◌, ◌≤◌, ◌⊎◌, Bool, true, false, ◌&&◌, ◌||◌, List, [], ◌∷◌, ◌++◌, length, replicate, Some, Option, refl, sym, ap, ◌∙◌, subst, ⊎_elim, inl, inr, arith, eq-eqb}
use Rattle.std.specs.Prelude.{bit_or, slice_get, slice_set, unwrap_or, ◌==◌}
use Rattle.std.specs.Int.{bit_at}
use Rattle.std.proofs.lemmas.Bool.{cases_eq, cases_lt, eqb-true, false≢true}
use Rattle.std.proofs.lemmas.List.{length-replicate, length-set}
use Rattle.std.proofs.lemmas.Option.{slice_get_past}
use Rattle.flow_bits.specs.Bits.{HasBit}
use Rattle.frame_classes.specs.flow_blocks.Words.{word_at}
use Rattle.flow_solver.proofs.Lists.{set_here, set_other}
use Rattle.ir_paths.proofs.Search.{both, either}
use Rattle.frame_classes.proofs.flow_reach.Bits.{left_bit, no_bit, one_bit, right_bit}
use Rattle.frame_conflicts.proofs.Places.{bit_within}
use Rattle.frame_conflicts.specs.Meeting.{AreCovered, AreMeetings, AreMeetingsBefore, HaveMet, Meet, MeetBefore, are_of}

-- ---- a word in a list

word_here : (words : List ℕ) (n v : ℕ) → n < length words → word_at (slice_set words n v) n ≡ v
word_here words n v lt = ap (λ (o : Option ℕ). unwrap_or o 0) (set_here words n v lt)

word_other : (words : List ℕ) (n k v : ℕ) → k ≢ n → word_at (slice_set words n v) k ≡ word_at words k
word_other words n k v ne = ap (λ (o : Option ℕ). unwrap_or o 0) (set_other words n k v ne)

-- ---- each bit of one word meets those of the other

abbrev pub is_bit : ℕ → ℕ → Bool
is_bit word c = bit_at word c == 1

module _ (x y : ℕ) (old : List ℕ) where
  pub none_met : HaveMet x y 0 old old
  none_met = record { is_long = refl; each = λ c d lt. (λ h. inl h, λ h. ⊎_elim (λ k. k) (λ k. let never = k.0 in absurd (omega (arith, never))) h) }

  pub bit_met : (n : ℕ) (words next : List ℕ) → n < 64 → length old ≡ 64 → HasBit x n → next ≡ slice_set words n (bit_or (word_at words n) y) → HaveMet x y n old words → HaveMet x y (n + 1) old next
  bit_met n words next lt long has is m = subst (HaveMet x y (n + 1) old) (sym is) (record {
    is_long = length-set words n (bit_or (word_at words n) y) ∙ m.is_long;
    each = λ c d small. (to c d small, from c d small);
  })
    where
      inside : n < length words
      inside = let len = m.is_long in omega (arith, lt, long, len)

      to : (c d : ℕ) → c < 64 → HasBit (word_at (slice_set words n (bit_or (word_at words n) y)) c) d → HasBit (word_at old c) d ⊎ ((c < n + 1) × HasBit x c × HasBit y d)
      to c d small h = ⊎_elim
          (λ same.
          ⊎_elim
          (λ before. ⊎_elim (λ k. inl k) (λ k. let less = k.0 in inr (omega (arith, less), k.1, k.2)) ((m.each c d small).0 (subst (λ (k : ℕ). HasBit (word_at words k) d) (sym same) before)))
          (λ new. inr (omega (arith, same), subst (HasBit x) (sym same) has, new))
          (one_bit (word_at words n) y d (subst (λ (w : ℕ). HasBit w d) (ap (word_at (slice_set words n (bit_or (word_at words n) y))) same ∙ word_here words n (bit_or (word_at words n) y) inside) h)))
          (λ other. ⊎_elim
          (λ k. inl k)
          (λ k. let less = k.0 in inr (omega (arith, less), k.1, k.2))
          ((m.each c d small).0 (subst (λ (w : ℕ). HasBit w d) (word_other words n c (bit_or (word_at words n) y) other) h)))
          (cases_eq c n)

      from : (c d : ℕ) → c < 64 → HasBit (word_at old c) d ⊎ ((c < n + 1) × HasBit x c × HasBit y d) → HasBit (word_at (slice_set words n (bit_or (word_at words n) y)) c) d
      from c d small h = ⊎_elim
          (λ same. subst (λ (w : ℕ). HasBit w d) (sym (ap (word_at (slice_set words n (bit_or (word_at words n) y))) same ∙ word_here words n (bit_or (word_at words n) y) inside))
          (⊎_elim
          (λ k. left_bit (word_at words n) y d (subst (λ (i : ℕ). HasBit (word_at words i) d) same ((m.each c d small).1 (inl k))))
          (λ k. right_bit (word_at words n) y d k.2)
          h))
          (λ other. subst (λ (w : ℕ). HasBit w d) (sym (word_other words n c (bit_or (word_at words n) y) other))
          ((m.each c d small).1 (⊎_elim (λ k. inl k) (λ k. let less = k.0 in inr (omega (arith, less, other), k.1, k.2)) h)))
          (cases_eq c n)

  pub bit_passed : (n : ℕ) (words : List ℕ) → (HasBit x n → ⊥) → HaveMet x y n old words → HaveMet x y (n + 1) old words
  bit_passed n words never m = record {
    is_long = m.is_long;
    each = λ c d small. (
      λ h. ⊎_elim (λ k. inl k) (λ k. let less = k.0 in inr (omega (arith, less), k.1, k.2)) ((m.each c d small).0 h),
      λ h. (m.each c d small).1 (⊎_elim
          (λ k. inl k)
          (λ k. ⊎_elim
          (λ less. inr (less, k.1, k.2))
          (λ more. let lt = k.0 in let same : c ≡ n = omega (arith, lt, more) in absurd (never (subst (HasBit x) same k.1)))
          (cases_lt c n))
          h),
    );
  }

-- ---- position after position

module _ (one other : List ℕ) where
  no_word : (n d : ℕ) → HasBit (word_at (replicate n 0) 0) d → ⊥
  no_word zero d h = no_bit d h
  no_word (suc n) d h = no_bit d h

  no_words : (n c d : ℕ) → HasBit (word_at (replicate n 0) c) d → ⊥
  no_words zero c d h = no_bit d h
  no_words (suc n) zero d h = no_bit d h
  no_words (suc n) (suc c) d h = no_words n c d h

  pub nothing_met : (words : List ℕ) → words ≡ replicate 64 0 → AreMeetingsBefore one other 0 words
  nothing_met words is = subst (AreMeetingsBefore one other 0) (sym is) (record {
    is_long = length-replicate {A = ℕ} 64 0;
    each = λ c d small. (λ h. absurd (no_words 64 c d h), λ k. let lt = k.is_before in absurd (omega (arith, lt)));
  })

  pub nothing_covered : (words : List ℕ) → AreCovered 0 0 words
  nothing_covered words = record { each = λ c d small h k. absurd (no_bit c h) }

  pub all_met : (words next : List ℕ) (n x y : ℕ) → x ≡ word_at one n → y ≡ word_at other n → HaveMet x y 64 words next → AreMeetingsBefore one other n words → AreMeetingsBefore one other (n + 1) next
  all_met words next n x y x_is y_is met m = record {
    is_long = met.is_long ∙ m.is_long;
    each = λ c d small. (to c d small, from c d small);
  }
    where
      to : (c d : ℕ) → c < 64 → HasBit (word_at next c) d → MeetBefore one other (n + 1) c d
      to c d small h = ⊎_elim
          (λ k. let b = (m.each c d small).0 k in let lt = b.is_before in record { at = b.at; is_before = omega (arith, lt); has_one = b.has_one; has_other = b.has_other })
          (λ k. record { at = n; is_before = omega arith; has_one = subst (λ (w : ℕ). HasBit w c) x_is k.1; has_other = subst (λ (w : ℕ). HasBit w d) y_is k.2 })
          ((met.each c d small).0 h)

      from : (c d : ℕ) → c < 64 → MeetBefore one other (n + 1) c d → HasBit (word_at next c) d
      from c d small b = (met.each c d small).1 (⊎_elim
          (λ less. inl ((m.each c d small).1 (record { at = b.at; is_before = less; has_one = b.has_one; has_other = b.has_other })))
          (λ more.
          let lt = b.is_before in
          let same : b.at ≡ n = omega (arith, lt, more) in
          inr (small, subst (λ (w : ℕ). HasBit w c) (ap (word_at one) same ∙ sym x_is) b.has_one, subst (λ (w : ℕ). HasBit w d) (ap (word_at other) same ∙ sym y_is) b.has_other))
          (cases_lt b.at n))

  pub met_covered : (words next : List ℕ) (x y : ℕ) → HaveMet x y 64 words next → AreCovered x y next
  met_covered words next x y met = record { each = λ c d small h k. (met.each c d small).1 (inr (small, h, k)) }

  of_those : (x y lx ly c d : ℕ) → are_of x y lx ly ≡ true → HasBit x c → HasBit y d → HasBit lx c × HasBit ly d
  of_those x y lx ly c d e h k = ⊎_elim
      (λ none. absurd (no_bit c (subst (λ (w : ℕ). HasBit w c) (eqb-true x 0 none) h)))
      (λ rest. ⊎_elim
      (λ none. absurd (no_bit d (subst (λ (w : ℕ). HasBit w d) (eqb-true y 0 none) k)))
      (λ same. let two = both (x == lx) (y == ly) same in (subst (λ (w : ℕ). HasBit w c) (eqb-true x lx two.0) h, subst (λ (w : ℕ). HasBit w d) (eqb-true y ly two.1) k))
      (either (y == 0) ((x == lx) && (y == ly)) rest))
      (either (x == 0) ((y == 0) || ((x == lx) && (y == ly))) e)

  pub none_new : (words : List ℕ) (n x y lx ly : ℕ) → x ≡ word_at one n → y ≡ word_at other n → are_of x y lx ly ≡ true → AreCovered lx ly words → AreMeetingsBefore one other n words → AreMeetingsBefore one other (n + 1) words
  none_new words n x y lx ly x_is y_is e covered m = record {
    is_long = m.is_long;
    each = λ c d small. (
      λ h. let b = (m.each c d small).0 h in let lt = b.is_before in record { at = b.at; is_before = omega (arith, lt); has_one = b.has_one; has_other = b.has_other },
      from c d small,
    );
  }
    where
      from : (c d : ℕ) → c < 64 → MeetBefore one other (n + 1) c d → HasBit (word_at words c) d
      from c d small b = ⊎_elim
          (λ less. (m.each c d small).1 (record { at = b.at; is_before = less; has_one = b.has_one; has_other = b.has_other }))
          (λ more.
          let lt = b.is_before in
          let same : b.at ≡ n = omega (arith, lt, more) in
          let two = of_those x y lx ly c d e (subst (λ (w : ℕ). HasBit w c) (ap (word_at one) same ∙ sym x_is) b.has_one) (subst (λ (w : ℕ). HasBit w d) (ap (word_at other) same ∙ sym y_is) b.has_other) in
          covered.each c d small two.0 two.1)
          (cases_lt b.at n)

  pub are_meetings : (words : List ℕ) (n : ℕ) → length one ≤ n → AreMeetingsBefore one other n words → AreMeetings one other words
  are_meetings words n le m = record {
    each = λ c d small. (
      λ h. let b = (m.each c d small).0 h in record { at = b.at; has_one = b.has_one; has_other = b.has_other },
      λ b. let lt = bit_within one b.at c b.has_one in (m.each c d small).1 (record { at = b.at; is_before = omega (arith, lt, le); has_one = b.has_one; has_other = b.has_other }),
    );
  }

  pub step_met : (words next after : List ℕ) (n x y lx ly : ℕ) → after ≡ next → lx ≡ x → ly ≡ y → x ≡ word_at one n → y ≡ word_at other n → HaveMet x y 64 words next → AreMeetingsBefore one other n words → AreMeetingsBefore one other (n + 1) after × AreCovered lx ly after
  step_met words next after n x y lx ly is x_last y_last x_is y_is met m = (
    subst (AreMeetingsBefore one other (n + 1)) (sym is) (all_met words next n x y x_is y_is met m),
    subst (AreCovered lx ly) (sym is) (subst (λ (k : ℕ). AreCovered k ly next) (sym x_last) (subst (λ (k : ℕ). AreCovered x k next) (sym y_last) (met_covered words next x y met))),
  )

  pub step_none : (words after : List ℕ) (n x y lx ly lx2 ly2 : ℕ) → after ≡ words → lx2 ≡ lx → ly2 ≡ ly → x ≡ word_at one n → y ≡ word_at other n → are_of x y lx ly ≡ true → AreMeetingsBefore one other n words × AreCovered lx ly words → AreMeetingsBefore one other (n + 1) after × AreCovered lx2 ly2 after
  step_none words after n x y lx ly lx2 ly2 is x_last y_last x_is y_is e m = (
    subst (AreMeetingsBefore one other (n + 1)) (sym is) (none_new words n x y lx ly x_is y_is e m.1 m.0),
    subst (AreCovered lx2 ly2) (sym is) (subst (λ (k : ℕ). AreCovered k ly2 words) (sym x_last) (subst (λ (k : ℕ). AreCovered lx k words) (sym y_last) m.1)),
  )
