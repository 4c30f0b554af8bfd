-- Lists in a strict order that hold the same are one.
use Rattle.std.proofs.Common.{◌≡◌, ℕ, zero, suc, ◌<◌, List, [], ◌∷◌, Some, refl, sym, subst, ⊎_elim, arith}
use Rattle.std.proofs.lemmas.List.Kept.{AllPairs-from_increasing}
use Rattle.std.proofs.lemmas.Option.{get_or_from_slice_get, none-some, same_Some, slice_get_within}
use Rattle.std.specs.List.Sorted.{IsStrictlyIncreasing}
use Rattle.std.specs.Prelude.{slice_get}
use Rattle.compiler.proofs.flow_solver.Lists.{listed_at, place_of}
use Rattle.compiler.specs.flow_solver.Paths.{IsListed}
use Rattle.compiler.specs.frame_conflicts.Pairs.{AreInOrder, AreThePairs, IsBefore, IsBeforeAll}

-- it stands somewhere in the list
abbrev pub Stands : {A : Type 0} → List A → A → Type 0
Stands xs x = (at : ℕ) × (slice_get xs at ≡ Some x)

-- the earlier of two elements comes before the later one
abbrev pub Rises : {A : Type 0} → (A → A → Type 0) → List A → Type 0
Rises {A} Before xs = (a b : ℕ) (x y : A) → a < b → slice_get xs a ≡ Some x → slice_get xs b ≡ Some y → Before x y

module _ {A : Type 0} (Before : A → A → Type 0) (never : (x y : A) → Before x y → Before y x → ⊥) where
  first_one : (x y : A) (xs ys : List A) → Rises Before (x ∷ xs) → Rises Before (y ∷ ys)
      → (i : ℕ) → slice_get (y ∷ ys) i ≡ Some x → (k : ℕ) → slice_get (x ∷ xs) k ≡ Some y → x ≡ y
  first_one x y xs ys p q zero e k d = sym (same_Some y x e)
  first_one x y xs ys p q (suc i) e zero d = same_Some x y d
  first_one x y xs ys p q (suc i) e (suc k) d =
      absurd (never x y (p 0 (suc k) x y (omega arith) refl d) (q 0 (suc i) y x (omega arith) refl e))

  -- what stands behind the first of the one stands behind the first of the other
  behind : (x y : A) (xs ys : List A) → x ≡ y → Rises Before (x ∷ xs) → (z : A) (i : ℕ) → slice_get xs i ≡ Some z
      → (k : ℕ) → slice_get (y ∷ ys) k ≡ Some z → Stands ys z
  behind x y xs ys same p z i e zero d =
      let here : y ≡ z = same_Some y z d in
      let before : Before x z = p 0 (suc i) x z (omega arith) refl e in
      let itself : Before z z = subst (λ (w : A). Before w z) here (subst (λ (w : A). Before w z) same before) in
      absurd (never z z itself itself)
  behind x y xs ys same p z i e (suc k) d = (k, d)

  rest_rises : (x : A) (xs : List A) → Rises Before (x ∷ xs) → Rises Before xs
  rest_rises x xs p a b u v lt e d = p (suc a) (suc b) u v (omega (arith, lt)) e d

  pub one_order : (xs ys : List A) → Rises Before xs → Rises Before ys → ((z : A) → Stands xs z → Stands ys z)
      → ((z : A) → Stands ys z → Stands xs z) → xs ≡ ys
  one_order [] [] p q forth back = refl
  one_order [] (y ∷ ys) p q forth back = absurd (none-some y (back y (0, refl)).1)
  one_order (x ∷ xs) [] p q forth back = absurd (none-some x (forth x (0, refl)).1)
  one_order (x ∷ xs) (y ∷ ys) p q forth back =
      let there : Stands (y ∷ ys) x = forth x (0, refl) in
      let here : Stands (x ∷ xs) y = back y (0, refl) in
      let same : x ≡ y = first_one x y xs ys p q there.0 there.1 here.0 here.1 in
      let rest : xs ≡ ys = one_order xs ys (rest_rises x xs p) (rest_rises y ys q)
      (λ z h. let d = forth z (suc h.0, h.1) in behind x y xs ys same p z h.0 h.1 d.0 d.1)
      (λ z h. let d = back z (suc h.0, h.1) in behind y x ys xs (sym same) q z h.0 h.1 d.0 d.1) in
      λ i. same i ∷ rest i

-- ---- numbers

abbrev Less : ℕ → ℕ → Type 0
Less a b = a < b

rising : (xs : List ℕ) → IsStrictlyIncreasing xs → Rises Less xs
rising xs p a b x y lt e d =
    let less = AllPairs-from_increasing xs p a b 0 lt (slice_get_within xs b y d) in
    let one = get_or_from_slice_get xs a x 0 e in
    let other = get_or_from_slice_get xs b y 0 d in
    omega (arith, less, one, other)

pub numbers_one : (xs ys : List ℕ) → IsStrictlyIncreasing xs → IsStrictlyIncreasing ys
    → ((n : ℕ) → IsListed n xs → IsListed n ys) → ((n : ℕ) → IsListed n ys → IsListed n xs) → xs ≡ ys
numbers_one xs ys p q forth back =
    one_order Less (λ a b lt gt. omega (arith, lt, gt)) xs ys (rising xs p) (rising ys q)
    (λ n h. place_of ys n (forth n (listed_at xs h.0 n h.1)))
    (λ n h. place_of xs n (back n (listed_at ys h.0 n h.1)))

-- ---- pairs

never_by : (a b c d : ℕ) → IsBefore (a, b) (c, d) → IsBefore (c, d) (a, b) → ⊥
never_by a b c d p q = ⊎_elim
    (λ lt. ⊎_elim (λ gt. omega (arith, lt, gt)) (λ e. let same = e.0 in omega (arith, lt, same)) q)
    (λ e. let same = e.0 in
    let lt = e.1 in
    ⊎_elim (λ gt. omega (arith, gt, same)) (λ z. let gt = z.1 in omega (arith, lt, gt)) q)
    p

never_both : (x y : ℕ × ℕ) → IsBefore x y → IsBefore y x → ⊥
never_both x y p q = never_by x.0 x.1 y.0 y.1 p q

before_at : (x : ℕ × ℕ) (xs : List (ℕ × ℕ)) → IsBeforeAll x xs → (k : ℕ) (y : ℕ × ℕ) → slice_get xs k ≡ Some y
    → IsBefore x y
before_at x [] h k y e = absurd (none-some y e)
before_at x (z ∷ xs) h zero y e = subst (IsBefore x) (same_Some z y e) h.0
before_at x (z ∷ xs) h (suc k) y e = before_at x xs h.1 k y e

ordered : (xs : List (ℕ × ℕ)) → AreInOrder xs → Rises IsBefore xs
ordered [] h a b x y lt e d = absurd (none-some x e)
ordered (z ∷ xs) h zero zero x y lt e d = absurd (omega (arith, lt))
ordered (z ∷ xs) h zero (suc b) x y lt e d =
    subst (λ (w : ℕ × ℕ). IsBefore w y) (same_Some z x e) (before_at z xs h.0 b y d)
ordered (z ∷ xs) h (suc a) zero x y lt e d = absurd (omega (arith, lt))
ordered (z ∷ xs) h (suc a) (suc b) x y lt e d = ordered xs h.1 a b x y (omega (arith, lt)) e d

pub pairs_one : (Holds : ℕ → ℕ → Type 0) (xs ys : List (ℕ × ℕ)) → AreThePairs Holds xs → AreThePairs Holds ys
    → xs ≡ ys
pairs_one Holds xs ys p q =
    one_order IsBefore never_both xs ys (ordered xs p.in_order) (ordered ys q.in_order)
    (λ z h. place_of ys z ((q.each z.0 z.1).1 ((p.each z.0 z.1).0 (listed_at xs h.0 z h.1))))
    (λ z h. place_of xs z ((p.each z.0 z.1).1 ((q.each z.0 z.1).0 (listed_at ys h.0 z h.1))))
