-- What alignments and positions give.
use Rattle.std.proofs.Common.{◌≡◌, ◌⊎◌, inl, inr, ⊎_elim, ℕ, ◌%◌, ◌<◌, ◌≤◌, Bool, true, false, List, length, max, None, Some, refl, sym, ap, ◌∙◌, subst, arith, get_or, cond}
use Rattle.std.specs.Prelude.{◌||◌, ◌==◌, nat_lt, slice_get, position}
use Rattle.std.specs.List.{position_or_len}
use Rattle.std.proofs.lemmas.Bool.{cases_Bool, eqb-true, lt-ltb}
use Rattle.std.proofs.lemmas.List.Sums.{position_or_len_is}
use Rattle.std.proofs.lemmas.Option.{get_or_from_slice_get, slice_get-get_or, slice_get_within}
use Rattle.frame_good.specs.Good.{is_alignment}

-- ---- alignments

-- an alignment divides 16, and one below 16 is at most 8
pub record IsFine (a : ℕ) : Type 0 where
  pub divides : 16 % max a 1 ≡ 0
  pub low : a < 16 → a ≤ 8
  pub most : a ≤ 16

or_either : (x y : Bool) → (x || y) ≡ true → (x ≡ true) ⊎ (y ≡ true)
or_either true y e = inl refl
or_either false y e = inr e

at_number : (a n : ℕ) → IsFine n → (a == n) ≡ true → IsFine a
at_number a n h e = subst IsFine (sym (eqb-true a n e)) h

pub fine : (a : ℕ) → is_alignment a ≡ true → IsFine a
fine a e = ⊎_elim (at_number a 0 (record { divides = refl; low = λ l. omega arith; most = omega arith }))
    (λ e. ⊎_elim (at_number a 1 (record { divides = refl; low = λ l. omega arith; most = omega arith }))
    (λ e. ⊎_elim (at_number a 2 (record { divides = refl; low = λ l. omega arith; most = omega arith }))
    (λ e. ⊎_elim (at_number a 4 (record { divides = refl; low = λ l. omega arith; most = omega arith }))
    (λ e. ⊎_elim (at_number a 8 (record { divides = refl; low = λ l. omega arith; most = omega arith }))
    (λ e. at_number a 16 (record { divides = refl; low = λ l. absurd (omega (arith, l)); most = omega arith }) e)
    (or_either (a == 8) (a == 16) e))
    (or_either (a == 4) _ e))
    (or_either (a == 2) _ e))
    (or_either (a == 1) _ e))
    (or_either (a == 0) _ e)

-- ---- positions

-- where one element alone passes, it is found
pub found_at : {A : Type 0} (test : A → Bool) (xs : List A) (k : ℕ) (x : A) → slice_get xs k ≡ Some x → test x ≡ true
    → ((j : ℕ) (y : A) → slice_get xs j ≡ Some y → test y ≡ true → j ≡ k) → position test xs ≡ Some k
found_at test xs k x there passes only =
    let low : k < length xs = slice_get_within xs k x there in
    let at : position_or_len test xs ≡ k = position_or_len_is test xs k x (omega (arith, low)) fails
    (λ l. ap test (get_or_from_slice_get xs k x x there) ∙ passes) in
    ap (λ (n : ℕ). cond (nat_lt n (length xs)) (Some n) None) at
    ∙ ap (λ (b : Bool). cond b (Some k) None) (lt-ltb k (length xs) low)
  where
    fails : (j : ℕ) → j < k → test (get_or xs j x) ≡ false
    fails j l =
        let low : k < length xs = slice_get_within xs k x there in
        ⊎_elim
        (λ (e : test (get_or xs j x) ≡ true). let same : j ≡ k = only j (get_or xs j x)
        (slice_get-get_or xs j x (omega (arith, l, low))) e in absurd (omega (arith, same, l)))
        (λ (e : test (get_or xs j x) ≡ false). e)
        (cases_Bool (test (get_or xs j x)))
