-- Pairs that are put together in order.
use Rattle.std.proofs.Common.{◌≡◌, ℕ, zero, suc, ◌+◌, ◌*◌, ◌<◌, ◌≤◌, ◌⊎◌, Bool, true, false, List, [], ◌∷◌, ◌++◌, refl, sym, ap, ◌∙◌, subst, ⊎_elim, inl, inr, arith, append-nil}
use Rattle.std.specs.Prelude.{min}
use Rattle.std.proofs.lemmas.Bool.{cases_lt, false≢true}
use Rattle.flow_solver.proofs.Lists.{listed_cases, listed_front, listed_last}
use Rattle.flow_solver.specs.Paths.{IsListed}
use Rattle.frame_conflicts.specs.Pairs.{AreInOrder, AreThePairs, AreUpTo, IsBefore, IsBeforeAll, pair_if}

before_all : (x y : ℕ × ℕ) (xs : List (ℕ × ℕ)) → IsBeforeAll x xs → IsBefore x y → IsBeforeAll x (xs ++ y ∷ [])
before_all x y [] h before = (before, tt)
before_all x y (z ∷ xs) h before = (h.0, before_all x y xs h.1 before)

in_order_on : (xs : List (ℕ × ℕ)) (y : ℕ × ℕ) → AreInOrder xs → ((a b : ℕ) → IsListed (a, b) xs → IsBefore (a, b) y) → AreInOrder (xs ++ y ∷ [])
in_order_on [] y h before = (tt, tt)
in_order_on (x ∷ xs) y h before = (before_all x y xs h.0 (before x.0 x.1 (inl refl)), in_order_on xs y h.1 (λ a b k. before a b (inr k)))

pair_is : (a b i k : ℕ) → a ≡ i → b ≡ k → ◌≡◌ {A = ℕ × ℕ} (a, b) (i, k)
pair_is a b i k e g = ap (λ (x : ℕ). (x, b)) e ∙ ap (λ (x : ℕ). (i, x)) g

further : (a b i k : ℕ) → IsBefore (a, b) (i, k) → IsBefore (a, b) (i, k + 1)
further a b i k h = ⊎_elim (λ lt. inl lt) (λ e. let lt = e.1 in inr (e.0, omega (arith, lt))) h

nearer : (a b i k : ℕ) → IsBefore (a, b) (i, k + 1) → IsBefore (a, b) (i, k) ⊎ ((a ≡ i) × (b ≡ k))
nearer a b i k h = ⊎_elim
    (λ lt. inl (inl lt))
    (λ e. let lt = e.1 in ⊎_elim (λ less. inl (inr (e.0, less))) (λ more. inr (e.0, omega (arith, lt, more))) (cases_lt b k))
    h

module _ (Holds : ℕ → ℕ → Type 0) where
  pub no_pairs : AreUpTo Holds 0 0 []
  no_pairs = record {
    in_order = tt;
    each = λ a b. (λ h. absurd h, λ h. ⊎_elim (λ lt. absurd (omega (arith, lt))) (λ e. let lt = e.1 in absurd (omega (arith, lt))) h.1);
  }

  one_more : (i k : ℕ) (pairs : List (ℕ × ℕ)) → Holds i k → AreUpTo Holds i k pairs → AreUpTo Holds i (k + 1) (pairs ++ (i, k) ∷ [])
  one_more i k pairs holds u = record {
    in_order = in_order_on pairs (i, k) u.in_order (λ a b h. ((u.each a b).0 h).1);
    each = λ a b. (to a b, from a b);
  }
    where
      to : (a b : ℕ) → IsListed (a, b) (pairs ++ (i, k) ∷ []) → Holds a b × IsBefore (a, b) (i, k + 1)
      to a b h = ⊎_elim
          (λ old. let two = (u.each a b).0 old in (two.0, further a b i k two.1))
          (λ same.
          let first : a ≡ i = ap (λ (p : ℕ × ℕ). p.0) same in
          let second : b ≡ k = ap (λ (p : ℕ × ℕ). p.1) same in
          (subst (λ (x : ℕ). Holds x b) (sym first) (subst (Holds i) (sym second) holds), inr (first, omega (arith, second))))
          (listed_cases (a, b) (i, k) pairs h)

      from : (a b : ℕ) → Holds a b × IsBefore (a, b) (i, k + 1) → IsListed (a, b) (pairs ++ (i, k) ∷ [])
      from a b h = ⊎_elim
          (λ old. listed_front (a, b) pairs ((i, k) ∷ []) ((u.each a b).1 (h.0, old)))
          (λ same. subst (λ (p : ℕ × ℕ). IsListed p (pairs ++ (i, k) ∷ [])) (sym (pair_is a b i k same.0 same.1)) (listed_last (i, k) pairs))
          (nearer a b i k h.1)

  no_more : (i k : ℕ) (pairs : List (ℕ × ℕ)) → (Holds i k → ⊥) → AreUpTo Holds i k pairs → AreUpTo Holds i (k + 1) pairs
  no_more i k pairs never u = record {
    in_order = u.in_order;
    each = λ a b. (λ h. let two = (u.each a b).0 h in (two.0, further a b i k two.1), from a b);
  }
    where
      from : (a b : ℕ) → Holds a b × IsBefore (a, b) (i, k + 1) → IsListed (a, b) pairs
      from a b h = ⊎_elim
          (λ old. (u.each a b).1 (h.0, old))
          (λ same. absurd (never (subst (λ (x : ℕ). Holds x k) same.0 (subst (Holds a) same.1 h.0))))
          (nearer a b i k h.1)

  -- one pair is looked at
  pub by_test : (b : Bool) (i k : ℕ) (pairs next : List (ℕ × ℕ)) → (b ≡ true → Holds i k) → (Holds i k → b ≡ true) → next ≡ pairs ++ pair_if b i k → AreUpTo Holds i k pairs → AreUpTo Holds i (k + 1) next
  by_test true i k pairs next forth back is u = subst (AreUpTo Holds i (k + 1)) (sym is) (one_more i k pairs (forth refl) u)
  by_test false i k pairs next forth back is u = subst (AreUpTo Holds i (k + 1)) (sym (is ∙ append-nil pairs)) (no_more i k pairs (λ h. false≢true (back h)) u)

  -- the next row
  pub next_row : (i n : ℕ) (pairs : List (ℕ × ℕ)) → ((k : ℕ) → Holds i k → k < n) → AreUpTo Holds i n pairs → AreUpTo Holds (i + 1) 0 pairs
  next_row i n pairs within u = record { in_order = u.in_order; each = λ a b. (to a b, from a b) }
    where
      to : (a b : ℕ) → IsListed (a, b) pairs → Holds a b × IsBefore (a, b) (i + 1, 0)
      to a b h =
          let two = (u.each a b).0 h in
          (two.0, inl (⊎_elim (λ lt. omega (arith, lt)) (λ e. let same = e.0 in omega (arith, same)) two.1))

      from : (a b : ℕ) → Holds a b × IsBefore (a, b) (i + 1, 0) → IsListed (a, b) pairs
      from a b h = (u.each a b).1 (
        h.0,
        ⊎_elim
            (λ lt. ⊎_elim (λ less. inl less) (λ more. let same : a ≡ i = omega (arith, lt, more) in inr (same, within b (subst (λ (x : ℕ). Holds x b) same h.0))) (cases_lt a i))
            (λ e. let lt = e.1 in absurd (omega (arith, lt)))
            h.1,
      )

  -- where nothing holds in front of a column
  pub from_column : (i n : ℕ) (pairs : List (ℕ × ℕ)) → ((k : ℕ) → Holds i k → n ≤ k) → AreUpTo Holds i 0 pairs → AreUpTo Holds i n pairs
  from_column i n pairs above u = record { in_order = u.in_order; each = λ a b. (to a b, from a b) }
    where
      to : (a b : ℕ) → IsListed (a, b) pairs → Holds a b × IsBefore (a, b) (i, n)
      to a b h = let two = (u.each a b).0 h in (two.0, ⊎_elim (λ lt. inl lt) (λ e. let lt = e.1 in absurd (omega (arith, lt))) two.1)

      from : (a b : ℕ) → Holds a b × IsBefore (a, b) (i, n) → IsListed (a, b) pairs
      from a b h = (u.each a b).1 (
        h.0,
        ⊎_elim
            (λ lt. inl lt)
            (λ e. let lt = e.1 in let le = above b (subst (λ (x : ℕ). Holds x b) e.0 h.0) in absurd (omega (arith, lt, le)))
            h.1,
      )

  pub none_in_row : (i : ℕ) (pairs : List (ℕ × ℕ)) → ((k : ℕ) → Holds i k → ⊥) → AreUpTo Holds i 0 pairs → AreUpTo Holds (i + 1) 0 pairs
  none_in_row i pairs never u = next_row i 0 pairs (λ k h. absurd (never k h)) u

  pub all_pairs : (n : ℕ) (pairs : List (ℕ × ℕ)) → ((a b : ℕ) → Holds a b → a < n) → AreUpTo Holds n 0 pairs → AreThePairs Holds pairs
  all_pairs n pairs within u = record {
    in_order = u.in_order;
    each = λ a b. (λ h. ((u.each a b).0 h).0, λ h. (u.each a b).1 (h, inl (within a b h)));
  }

  -- rows of 64
  pub rows_so_far : (m n : ℕ) (pairs : List (ℕ × ℕ)) → m ≡ n → AreUpTo Holds m 0 pairs → AreUpTo Holds n 0 pairs
  rows_so_far m n pairs e u = subst (λ (x : ℕ). AreUpTo Holds x 0 pairs) e u
