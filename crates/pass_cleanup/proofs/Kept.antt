-- Lists from which some elements are taken out: where the others are then.
use Rattle.std.proofs.Common.{◌≡◌, ℕ, zero, suc, Bool, true, false, List, [], ◌∷◌, length, refl, sym, ap, ◌∙◌}
use Rattle.std.proofs.Math.Dec.{eqb-suc-suc, eqb-zero-suc}
use Rattle.std.specs.Prelude.{Some, None, Option, option_map, cond, filter, map, slice_get, if◌then◌else◌, ◌==◌, ◌||◌}
use Rattle.std.specs.List.{list_any}
pub use Rattle.pass_cleanup.specs.Cleaned.{kept_before}
use Rattle.ir_model.specs.Names.{first_where}

module _ {A : Type 0} (keep : A → Bool) where
  -- what stands there, if anything does, is kept
  abbrev pub IsKept : List A → ℕ → Type 0
  IsKept xs n = (x : A) → slice_get xs n ≡ Some x → keep x ≡ true

  get_on : (b : Bool) (x : A) (xs ys : List A) (k n : ℕ) → slice_get ys k ≡ slice_get xs n → slice_get (cond b (x ∷ ys) ys) (cond b (suc k) k) ≡ slice_get xs n
  get_on true x xs ys k n h = h
  get_on false x xs ys k n h = h

  get_first : (b : Bool) (x : A) (ys : List A) → b ≡ true → slice_get (cond b (x ∷ ys) ys) 0 ≡ Some x
  get_first b x ys e = ap (λ (c : Bool). slice_get (cond c (x ∷ ys) ys) 0) e

  pub get_kept : (xs : List A) (n : ℕ) → IsKept xs n
      → slice_get (filter keep xs) (kept_before keep xs n) ≡ slice_get xs n
  get_kept [] zero h = refl
  get_kept [] (suc n) h = refl
  get_kept (x ∷ xs) zero h = get_first (keep x) x (filter keep xs) (h x refl)
  get_kept (x ∷ xs) (suc n) h = get_on (keep x) x xs (filter keep xs) (kept_before keep xs n) n (get_kept xs n h)

  end_on : (b : Bool) (x : A) (ys : List A) (k n m : ℕ) → (k == length ys) ≡ (n == m) → (cond b (suc k) k == length (cond b (x ∷ ys) ys)) ≡ (suc n == suc m)
  end_on true x ys k n m h = eqb-suc-suc k (length ys) ∙ h ∙ sym (eqb-suc-suc n m)
  end_on false x ys k n m h = h ∙ sym (eqb-suc-suc n m)

  end_first : (b : Bool) (x : A) (ys : List A) (m : ℕ) → b ≡ true → (0 == length (cond b (x ∷ ys) ys)) ≡ (0 == suc m)
  end_first b x ys m e = ap (λ (c : Bool). 0 == length (cond c (x ∷ ys) ys)) e ∙ eqb-zero-suc (length ys) ∙ sym (eqb-zero-suc m)

  pub end_kept : (xs : List A) (n : ℕ) → IsKept xs n
      → (kept_before keep xs n == length (filter keep xs)) ≡ (n == length xs)
  end_kept [] zero h = refl
  end_kept [] (suc n) h = refl
  end_kept (x ∷ xs) zero h = end_first (keep x) x (filter keep xs) (length xs) (h x refl)
  end_kept (x ∷ xs) (suc n) h = end_on (keep x) x (filter keep xs) (kept_before keep xs n) n (length xs)
      (end_kept xs n h)

  -- the place behind an element that stands there
  pub next_kept : (xs : List A) (n : ℕ) (x : A) → slice_get xs n ≡ Some x
      → kept_before keep xs (suc n) ≡ cond (keep x) (suc (kept_before keep xs n)) (kept_before keep xs n)
  next_kept [] n x e = absurd (cc)
  next_kept (y ∷ xs) zero x e =
      let s : y ≡ x = cc in
      first_zero y x xs s
    where
      first_zero : (y x : A) (xs : List A) → y ≡ x
          → cond (keep y) (suc (kept_before keep xs 0)) (kept_before keep xs 0) ≡ cond (keep x) 1 0
      first_zero y x xs s = ap (λ (z : A). cond (keep z) 1 0) s
  next_kept (y ∷ xs) (suc n) x e = on (keep y) (keep x) _ _ (next_kept xs n x e)
    where
      on : (b c : Bool) (k l : ℕ) → l ≡ cond c (suc k) k → cond b (suc l) l ≡ cond c (suc (cond b (suc k) k)) (cond b (suc k) k)
      on true true k l h = ap suc h
      on true false k l h = ap suc h
      on false true k l h = h
      on false false k l h = h

  pub zero_kept : (xs : List A) → kept_before keep xs zero ≡ 0
  zero_kept [] = refl
  zero_kept (x ∷ xs) = refl

  past_kept : (xs : List A) (n : ℕ) → slice_get xs n ≡ None
      → kept_before keep xs (suc n) ≡ suc (kept_before keep xs n)
  past_kept [] zero e = refl
  past_kept [] (suc n) e = refl
  past_kept (y ∷ xs) zero e = absurd (cc)
  past_kept (y ∷ xs) (suc n) e = on (keep y) _ _ (past_kept xs n e)
    where
      on : (b : Bool) (k l : ℕ) → l ≡ suc k → cond b (suc l) l ≡ suc (cond b (suc k) k)
      on true k l h = ap suc h
      on false k l h = h

  -- behind what is kept the place is one more
  pub step_kept : (xs : List A) (n : ℕ) → IsKept xs n → kept_before keep xs (suc n) ≡ suc (kept_before keep xs n)
  step_kept xs n h = on (slice_get xs n) refl
    where
      on : (o : Option A) → slice_get xs n ≡ o → kept_before keep xs (suc n) ≡ suc (kept_before keep xs n)
      on None e = past_kept xs n e
      on (Some x) e = next_kept xs n x e ∙ ap (λ (b : Bool). cond b (suc (kept_before keep xs n))
          (kept_before keep xs n)) (h x e)

  -- behind what is taken out the place is the same
  pub step_dropped : (xs : List A) (n : ℕ) (x : A) → slice_get xs n ≡ Some x → keep x ≡ false
      → kept_before keep xs (suc n) ≡ kept_before keep xs n
  step_dropped xs n x e h = next_kept xs n x e ∙ ap (λ (b : Bool). cond b (suc (kept_before keep xs n))
      (kept_before keep xs n)) h

  -- the first that passes a test, which only those pass that are kept
  suc_of : (b : Bool) (xs : List A) → b ≡ true → (o : Option ℕ)
      → option_map suc (option_map (kept_before keep xs) o) ≡ option_map
      (λ n. cond b (suc (kept_before keep xs n)) (kept_before keep xs n)) o
  suc_of b xs e None = refl
  suc_of b xs e (Some n) = ap (λ (c : Bool). Some (cond c (suc (kept_before keep xs n)) (kept_before keep xs n)))
      (sym e)

  same_of : (b : Bool) (xs : List A) → b ≡ false → (o : Option ℕ)
      → option_map (kept_before keep xs) o ≡ option_map (λ n. cond b (suc (kept_before keep xs n))
      (kept_before keep xs n)) o
  same_of b xs e None = refl
  same_of b xs e (Some n) = ap (λ (c : Bool). Some (cond c (suc (kept_before keep xs n)) (kept_before keep xs n)))
      (sym e)

  behind_of : (x : A) (xs : List A) (o : Option ℕ)
      → option_map (kept_before keep (x ∷ xs)) (option_map suc o) ≡ option_map
      (λ n. cond (keep x) (suc (kept_before keep xs n)) (kept_before keep xs n)) o
  behind_of x xs None = refl
  behind_of x xs (Some n) = refl

  pub first_kept : (test : A → Bool) (xs : List A) → ((x : A) → test x ≡ true → keep x ≡ true)
      → first_where test (filter keep xs) ≡ option_map (kept_before keep xs) (first_where test xs)
  first_kept test [] h = refl
  first_kept test (x ∷ xs) h = on (keep x) (test x) refl refl (first_kept test xs h)
    where
      on : (b c : Bool) → keep x ≡ b → test x ≡ c
          → first_where test (filter keep xs) ≡ option_map (kept_before keep xs) (first_where test xs)
          → first_where test (cond b (x ∷ filter keep xs) (filter keep xs)) ≡ option_map (kept_before keep (x ∷ xs))
          (if c then Some 0 else option_map suc (first_where test xs))
      on true true e f again = ap (λ (t : Bool). if t then Some 0 else option_map suc (first_where test (filter keep xs))) f
      on true false e f again =
          ap (λ (t : Bool). if t then Some 0 else option_map suc (first_where test (filter keep xs))) f
          ∙ ap (option_map suc) again
          ∙ suc_of (keep x) xs e (first_where test xs)
          ∙ sym (behind_of x xs (first_where test xs))
      on false true e f again = let k = h x f in absurd (cc)
      on false false e f again =
          again
          ∙ same_of (keep x) xs e (first_where test xs)
          ∙ sym (behind_of x xs (first_where test xs))

  -- some element passes a test, which no element passes that is taken out
  pub any_kept : (test : A → Bool) (xs : List A) → ((x : A) → keep x ≡ false → test x ≡ false) → list_any test (filter keep xs) ≡ list_any test xs
  any_kept test [] h = refl
  any_kept test (x ∷ xs) h = on (keep x) refl (any_kept test xs h)
    where
      on : (b : Bool) → keep x ≡ b → list_any test (filter keep xs) ≡ list_any test xs → list_any test (cond b (x ∷ filter keep xs) (filter keep xs)) ≡ (test x || list_any test xs)
      on true e again = ap (λ (t : Bool). test x || t) again
      on false e again = again ∙ ap (λ (t : Bool). t || list_any test xs) (sym (h x e))

-- ---- lists whose elements are changed

pub first_mapped : {A : Type 0} (g : A → A) (test : A → Bool) → ((x : A) → test (g x) ≡ test x) → (xs : List A) → first_where test (map g xs) ≡ first_where test xs
first_mapped g test h [] = refl
first_mapped g test h (x ∷ xs) =
    ap (λ (b : Bool). if b then Some 0 else option_map suc (first_where test (map g xs))) (h x)
    ∙ ap (λ (o : Option ℕ). if test x then Some 0 else option_map suc o) (first_mapped g test h xs)

pub any_mapped : {A : Type 0} (g : A → A) (p q : A → Bool) → ((x : A) → p (g x) ≡ q x) → (xs : List A) → list_any p (map g xs) ≡ list_any q xs
any_mapped g p q h [] = refl
any_mapped g p q h (x ∷ xs) =
    ap (λ (b : Bool). b || list_any p (map g xs)) (h x) ∙ ap (λ (b : Bool). q x || b) (any_mapped g p q h xs)
