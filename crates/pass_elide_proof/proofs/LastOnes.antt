-- The last instance that passes a test.
use Rattle.std.proofs.Common.{◌≡◌, ◌<◌, ◌+◌, ◌∙◌, ◌∷◌, [], ap, arith, Bool, false, List, Option, refl, subst, suc, sym, true, zero, ℕ, if◌then◌else◌}
use Rattle.std.specs.Prelude.{None, Some, option_and_then, option_map, slice_get}
use Rattle.pass_proofs.specs.run_source.State.{last_from, last_where, numbered, or_else}
use Rattle.pass_proofs.specs.run_source.declared.state.Instance.{Instance}

-- it passes, and no later one does
pub record IsLast (test : Instance → Bool) (xs : List Instance) (i : ℕ) : Type 0 where
  pub instance : Instance
  pub there : slice_get xs i ≡ Some instance
  pub passes : test instance ≡ true
  pub later : (j : ℕ) (y : Instance) → i < j → slice_get xs j ≡ Some y → test y ≡ false

module _ (test : Instance → Bool) where
  none_last : (k : ℕ) (xs : List Instance) → ((j : ℕ) (y : Instance) → slice_get xs j ≡ Some y → test y ≡ false)
      → last_from test k xs ≡ None
  none_last k [] h = refl
  none_last k (x ∷ xs) h =
      λ i. or_else (none_last (suc k) xs (λ j y at. h (suc j) y at) i) (if h 0 x refl i then Some k else None)

  pub last_is : (k i : ℕ) (xs : List Instance) → IsLast test xs i → last_from test k xs ≡ Some (k + i)
  last_is k i [] h = let no = h.there in absurd (cc)
  last_is k zero (x ∷ xs) h =
      let same : h.instance ≡ x = let is = h.there in cc in
      let passes : test x ≡ true = ap test (sym same) ∙ h.passes in
      let here : k ≡ k + 0 = omega arith in
      (λ i. or_else (none_last (suc k) xs (λ j y at. h.later (suc j) y (omega arith) at) i)
      (if passes i then Some k else None))
      ∙ ap (λ (n : ℕ). Some n) here
  last_is k (suc i) (x ∷ xs) h =
      let rest = last_is (suc k) i xs (record {
        instance = h.instance;
        there = h.there;
        passes = h.passes;
        later = λ j y lt at. h.later (suc j) y (omega (arith, lt)) at;
      }) in
      let far : suc k + i ≡ k + suc i = omega arith in
      ap (λ (o : Option ℕ). or_else o (if test x then Some k else None)) rest ∙ ap (λ (n : ℕ). Some n) far

  last_none : (k : ℕ) (xs : List Instance) → last_from test k xs ≡ None → (j : ℕ) (y : Instance)
      → slice_get xs j ≡ Some y → test y ≡ false
  last_none k [] e j y at = absurd (cc)
  last_none k (x ∷ xs) e j y at = on (last_from test (suc k) xs) (test x) refl e (last_none (suc k) xs) j at
    where
      on : (o : Option ℕ) (b : Bool) → test x ≡ b → or_else o (if b then Some k else None) ≡ None
          → (o ≡ None → (j : ℕ) (y : Instance) → slice_get xs j ≡ Some y → test y ≡ false) → (j : ℕ)
          → slice_get (x ∷ xs) j ≡ Some y → test y ≡ false
      on (Some a) b is e again j at = absurd (cc)
      on None true is e again j at = absurd (cc)
      on None false is e again zero at = let same : x ≡ y = cc in ap test (sym same) ∙ is
      on None false is e again (suc j) at = again refl j y at

  pub is_last : (k n : ℕ) (xs : List Instance) → last_from test k xs ≡ Some n
      → (i : ℕ) × ((n ≡ k + i) × IsLast test xs i)
  is_last k n [] e = absurd (cc)
  is_last k n (x ∷ xs) e =
      on (last_from test (suc k) xs) (test x) refl e (λ a is. is_last (suc k) a xs is) (last_none (suc k) xs)
    where
      on : (o : Option ℕ) (b : Bool) → test x ≡ b → or_else o (if b then Some k else None) ≡ Some n
          → ((a : ℕ) → o ≡ Some a → (i : ℕ) × ((a ≡ suc k + i) × IsLast test xs i))
          → (o ≡ None → (j : ℕ) (y : Instance) → slice_get xs j ≡ Some y → test y ≡ false)
          → (i : ℕ) × ((n ≡ k + i) × IsLast test (x ∷ xs) i)
      on (Some a) b is e again fails =
          let same : a ≡ n = cc in
          let r = again a refl in
          let at = r.1.0 in (
            suc r.0,
            (
              omega (arith, same, at),
              record {
                instance = r.1.1.instance;
                there = r.1.1.there;
                passes = r.1.1.passes;
                later = behind r.0 r.1.1;
              },
            ),
          )
        where
          behind : (i : ℕ) → IsLast test xs i → (j : ℕ) (y : Instance) → suc i < j → slice_get (x ∷ xs) j ≡ Some y
              → test y ≡ false
          behind i h zero y lt at = absurd (omega (arith, lt))
          behind i h (suc j) y lt at = h.later j y (omega (arith, lt)) at
      on None true is e again fails =
          let same : k ≡ n = cc in (
            0,
            (omega (arith, same), record { instance = x; there = refl; passes = is; later = behind }),
          )
        where
          behind : (j : ℕ) (y : Instance) → 0 < j → slice_get (x ∷ xs) j ≡ Some y → test y ≡ false
          behind zero y lt at = absurd (omega (arith, lt))
          behind (suc j) y lt at = fails refl j y at
      on None false is e again fails = absurd (cc)

  -- with its number
  pub found_is : (i : ℕ) (xs : List Instance) (h : IsLast test xs i) → last_where test xs ≡ Some (i, h.instance)
  found_is i xs h =
      let at : last_from test 0 xs ≡ Some (0 + i) = last_is 0 i xs h in
      let here : 0 + i ≡ i = omega arith in
      ap (option_and_then (numbered xs)) (at ∙ ap (λ (n : ℕ). Some n) here)
      ∙ ap (option_map {U = ℕ × Instance} (λ (x : Instance). (i, x))) h.there

  pub is_found : (i : ℕ) (x : Instance) (xs : List Instance) → last_where test xs ≡ Some (i, x)
      → (slice_get xs i ≡ Some x) × IsLast test xs i
  is_found i x xs e = on (last_from test 0 xs) refl e
    where
      at_number : (n : ℕ) (o : Option Instance) → option_map {U = ℕ × Instance} (λ (y : Instance). (n, y)) o ≡ Some
          (i, x)
          → (n ≡ i) × (o ≡ Some x)
      at_number n None e = absurd (cc)
      at_number n (Some y) e =
          let pair : ◌≡◌ {A = ℕ × Instance} (n, y) (i, x) = cc in
          (ap (λ (p : ℕ × Instance). p.0) pair, ap (λ (p : ℕ × Instance). Some p.1) pair)

      on : (o : Option ℕ) → last_from test 0 xs ≡ o → option_and_then (numbered xs) o ≡ Some (i, x)
          → (slice_get xs i ≡ Some x) × IsLast test xs i
      on None is e = absurd (cc)
      on (Some n) is e =
          let there = at_number n (slice_get xs n) e in
          let last = is_last 0 n xs is in
          let from : last.0 ≡ i = let far = last.1.0 in let same = there.0 in omega (arith, far, same) in (
            ap (slice_get xs) (sym there.0) ∙ there.1,
            subst (λ (j : ℕ). IsLast test xs j) from last.1.1,
          )
