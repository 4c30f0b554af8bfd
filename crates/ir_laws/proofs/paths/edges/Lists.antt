-- Lists: where an element stands, what is listed in what is made of a list, and numbers of which none stands twice.
use Rattle.std.proofs.Common.{Bool, List, [], ap, arith, false, inl, inr, refl, subst, suc, sym, true, zero, ℕ, ⊎_elim, ◌++◌, ◌∙◌, ◌∷◌, ◌≡◌, ◌≤◌, ◌⊎◌}
use Rattle.std.specs.List.{cons_option, list_all}
use Rattle.std.specs.Prelude.{None, Option, Some, filter, filter_map, if◌then◌else◌, map, option_map, slice_get, ◌==◌}
use Rattle.ir_laws.proofs.facts.Truth.{itself, is_number}
use Rattle.ir_laws.proofs.facts.local_rules.Woven.{other_number}
use Rattle.ir_laws.proofs.paths.source_rules.Locals.{Apart, listed_either, listed_left, listed_right}
use Rattle.ir_laws.proofs.facts.Lists.{row_of}
use Rattle.run_laws.specs.flow_solver.Paths.{IsListed}
use Rattle.run_laws.specs.ir_model.Names.{first_where}
use Rattle.ir_laws.proofs.paths.replaced.Known.{listed_mapped}
use Rattle.ir_laws.proofs.facts.Members.{all_pass}
use Rattle.ir_laws.specs.paths.woven_rules.Pairs.{AreDifferent}
use Rattle.ir_laws.specs.facts.woven_rules.Pairs.{one_if, times}
use Rattle.ir_laws.proofs.paths.uses.Paths.{place_of}
use Rattle.ir_laws.proofs.paths.woven_rules.Unbroken.{each_listed as listed_each}

-- ---- places

pub listed_at : {A : Type 0} (xs : List A) (k : ℕ) (x : A) → slice_get xs k ≡ Some x → IsListed x xs
listed_at [] k x e = absurd (cc)
listed_at (y ∷ xs) zero x e = let same : x ≡ y = cc in inl same
listed_at (y ∷ xs) (suc k) x e = inr (listed_at xs k x e)

-- ---- lists made of a list

pub from_mapped : {A B : Type 0} (g : A → B) (xs : List A) (y : B) → IsListed y (map g xs) → (x : A) × (IsListed x xs × (y ≡ g x))
from_mapped g [] y l = absurd l
from_mapped g (x ∷ xs) y (inl e) = (x, (inl refl, e))
from_mapped g (x ∷ xs) y (inr l) = let z = from_mapped g xs y l in (z.0, (inr z.1.0, z.1.1))

pub from_filtered : {A : Type 0} (t : A → Bool) (xs : List A) (x : A) → IsListed x (filter t xs) → IsListed x xs × (t x ≡ true)
from_filtered t [] x l = absurd l
from_filtered {A = A} t (y ∷ xs) x l = on (t y) refl l (λ k. from_filtered t xs x k)
  where
    on : (b : Bool) → t y ≡ b → IsListed x (if b then y ∷ filter t xs else filter t xs) → (IsListed x (filter t xs) → IsListed x xs × (t x ≡ true)) → IsListed x (y ∷ xs) × (t x ≡ true)
    on true e (inl d) more = (inl d, ap t d ∙ e)
    on true e (inr k) more = let h = more k in (inr h.0, h.1)
    on false e k more = let h = more k in (inr h.0, h.1)

pub to_filtered : {A : Type 0} (t : A → Bool) (xs : List A) (x : A) → IsListed x xs → t x ≡ true → IsListed x (filter t xs)
to_filtered t [] x l e = absurd l
to_filtered {A = A} t (y ∷ xs) x l e = on (t y) refl l (λ k. to_filtered t xs x k e)
  where
    on : (b : Bool) → t y ≡ b → IsListed x (y ∷ xs) → (IsListed x xs → IsListed x (filter t xs)) → IsListed x (if b then y ∷ filter t xs else filter t xs)
    on true d (inl same) more = inl same
    on true d (inr k) more = inr (more k)
    on false d (inl same) more = let both : true ≡ false = sym e ∙ ap t same ∙ d in absurd (cc)
    on false d (inr k) more = more k

pub from_chosen : {A B : Type 0} (g : A → Option B) (xs : List A) (y : B) → IsListed y (filter_map g xs) → (x : A) × (IsListed x xs × (g x ≡ Some y))
from_chosen g [] y l = absurd l
from_chosen {A = A} {B = B} g (x ∷ xs) y l = on (g x) refl l (λ k. from_chosen g xs y k)
  where
    on : (o : Option B) → g x ≡ o → IsListed y (cons_option o (filter_map g xs)) → (IsListed y (filter_map g xs) → (z : A) × (IsListed z xs × (g z ≡ Some y))) → (z : A) × (IsListed z (x ∷ xs) × (g z ≡ Some y))
    on None e k more = let h = more k in (h.0, (inr h.1.0, h.1.1))
    on (Some w) e (inl d) more = (x, (inl refl, e ∙ ap (λ (z : B). Some z) (sym d)))
    on (Some w) e (inr k) more = let h = more k in (h.0, (inr h.1.0, h.1.1))

pub to_chosen : {A B : Type 0} (g : A → Option B) (xs : List A) (x : A) (y : B) → IsListed x xs → g x ≡ Some y → IsListed y (filter_map g xs)
to_chosen g [] x y l e = absurd l
to_chosen {A = A} {B = B} g (z ∷ xs) x y l e = on (g z) refl l (λ k. to_chosen g xs x y k e)
  where
    on : (o : Option B) → g z ≡ o → IsListed x (z ∷ xs) → (IsListed x xs → IsListed y (filter_map g xs)) → IsListed y (cons_option o (filter_map g xs))
    on None d (inl same) more = let both : Some y ≡ None = sym e ∙ ap g same ∙ d in absurd (cc)
    on None d (inr k) more = more k
    on (Some w) d (inl same) more = let both : Some y ≡ Some w = sym e ∙ ap g same ∙ d in let is : y ≡ w = cc in inl is
    on (Some w) d (inr k) more = inr (more k)

-- a test that each element passes
pub all_of : {A : Type 0} (t : A → Bool) (xs : List A) → ((x : A) → IsListed x xs → t x ≡ true) → list_all t xs ≡ true
all_of {A = A} t xs h = all_pass t xs (listed_each (λ (x : A). t x ≡ true) xs h)

-- ---- how often a number stands

pub listed_times : (n : ℕ) (xs : List ℕ) → 1 ≤ times n xs → IsListed n xs
listed_times n [] h = absurd (omega (arith, h))
listed_times n (x ∷ xs) h = on (is_number x n) (λ k. listed_times n xs k)
  where
    on : (x ≡ n) ⊎ (x ≡ n → ⊥) → (1 ≤ times n xs → IsListed n xs) → IsListed n (x ∷ xs)
    on (inl e) rest = inl (sym e)
    on (inr d) rest = let none : one_if (x == n) ≡ 0 = ap one_if (other_number x n d) in inr (rest (omega (arith, h, none)))

-- ---- numbers of which none stands twice

pub as_apart : (xs : List ℕ) → AreDifferent xs → Apart xs
as_apart [] h = tt
as_apart (x ∷ xs) h = (h.0, as_apart xs h.1)

pub as_different : (xs : List ℕ) → Apart xs → AreDifferent xs
as_different [] h = tt
as_different (x ∷ xs) h = (h.0, as_different xs h.1)

pub joined_different : (xs ys : List ℕ) → AreDifferent xs → AreDifferent ys → ((n : ℕ) → IsListed n xs → IsListed n ys → ⊥) → AreDifferent (xs ++ ys)
joined_different [] ys h k apart = k
joined_different (x ∷ xs) ys h k apart = (
  λ l. ⊎_elim (λ (a : IsListed x xs). h.0 a) (λ (b : IsListed x ys). apart x (inl refl) b) (listed_either x xs ys l),
  joined_different xs ys h.1 k (λ n a b. apart n (inr a) b),
)

pub different_left : (xs ys : List ℕ) → AreDifferent (xs ++ ys) → AreDifferent xs
different_left [] ys h = tt
different_left (x ∷ xs) ys h = (λ l. h.0 (listed_left x xs ys l), different_left xs ys h.1)

pub different_right : (xs ys : List ℕ) → AreDifferent (xs ++ ys) → AreDifferent ys
different_right [] ys h = h
different_right (x ∷ xs) ys h = different_right xs ys h.1

pub different_both : (xs ys : List ℕ) (n : ℕ) → AreDifferent (xs ++ ys) → IsListed n xs → IsListed n ys → ⊥
different_both [] ys n h a b = absurd a
different_both (x ∷ xs) ys n h (inl e) b = h.0 (listed_right x xs ys (subst (λ (k : ℕ). IsListed k ys) e b))
different_both (x ∷ xs) ys n h (inr a) b = different_both xs ys n h.1 a b

-- ---- rows

module _ {A : Type 0} (g : A → List ℕ) where
  pub to_row : (xs : List A) (x : A) (n : ℕ) → IsListed x xs → IsListed n (g x) → IsListed n (row_of g xs)
  to_row [] x n l h = absurd l
  to_row (y ∷ xs) x n (inl e) h = listed_left n (g y) (row_of g xs) (subst (λ (z : A). IsListed n (g z)) e h)
  to_row (y ∷ xs) x n (inr l) h = listed_right n (g y) (row_of g xs) (to_row xs x n l h)

  -- an element that has a number of the row, with its place
  pub record HasOne (xs : List A) (n : ℕ) : Type 0 where
    pub place : ℕ
    pub element : A
    pub stands : slice_get xs place ≡ Some element
    pub has : IsListed n (g element)

  pub from_row : (xs : List A) (n : ℕ) → IsListed n (row_of g xs) → HasOne xs n
  from_row [] n l = absurd l
  from_row (x ∷ xs) n l = ⊎_elim
      (λ (a : IsListed n (g x)). record { place = 0; element = x; stands = refl; has = a })
      (λ (b : IsListed n (row_of g xs)). let y = from_row xs n b in record { place = suc y.place; element = y.element; stands = y.stands; has = y.has })
      (listed_either n (g x) (row_of g xs) l)

  -- no number of the row stands twice where elements at different places have none in common
  pub different_rows : (xs : List A) → ((k : ℕ) (x : A) → slice_get xs k ≡ Some x → AreDifferent (g x)) → ((k m : ℕ) (x y : A) (n : ℕ) → slice_get xs k ≡ Some x → slice_get xs m ≡ Some y → IsListed n (g x) → IsListed n (g y) → k ≡ m) → AreDifferent (row_of g xs)
  different_rows [] own apart = tt
  different_rows (x ∷ xs) own apart =
      joined_different (g x) (row_of g xs) (own 0 x refl)
      (different_rows xs (λ k y e. own (suc k) y e) (λ k m y z n d e a b. let same : suc k ≡ suc m = apart (suc k) (suc m) y z n d e a b in omega (arith, same)))
      (λ n a b. let y = from_row xs n b in let same : 0 ≡ suc y.place = apart 0 (suc y.place) x y.element n refl y.stands a y.has in absurd (omega (arith, same)))

  -- an element is known by a number of its own
  pub same_element : (xs : List A) → AreDifferent (row_of g xs) → (n : ℕ) (a b : A) → IsListed a xs → IsListed b xs → IsListed n (g a) → IsListed n (g b) → a ≡ b
  same_element [] h n a b k l x y = absurd k
  same_element (z ∷ xs) h n a b (inl d) (inl e) x y = d ∙ sym e
  same_element (z ∷ xs) h n a b (inl d) (inr l) x y = absurd (different_both (g z) (row_of g xs) n h (subst (λ (w : A). IsListed n (g w)) d x) (to_row xs b n l y))
  same_element (z ∷ xs) h n a b (inr k) (inl e) x y = absurd (different_both (g z) (row_of g xs) n h (subst (λ (w : A). IsListed n (g w)) e y) (to_row xs a n k x))
  same_element (z ∷ xs) h n a b (inr k) (inr l) x y = same_element xs (different_right (g z) (row_of g xs) h) n a b k l x y

  -- and so is its place
  pub same_place : (xs : List A) → AreDifferent (row_of g xs) → (n j k : ℕ) (a b : A) → slice_get xs j ≡ Some a → slice_get xs k ≡ Some b → IsListed n (g a) → IsListed n (g b) → j ≡ k
  same_place [] h n j k a b d e x y = absurd (cc)
  same_place (z ∷ xs) h n zero zero a b d e x y = refl
  same_place (z ∷ xs) h n zero (suc k) a b d e x y = let is_one : a ≡ z = cc in absurd (different_both (g z) (row_of g xs) n h (subst (λ (w : A). IsListed n (g w)) is_one x) (to_row xs b n (listed_at xs k b e) y))
  same_place (z ∷ xs) h n (suc j) zero a b d e x y = let is_one : b ≡ z = cc in absurd (different_both (g z) (row_of g xs) n h (subst (λ (w : A). IsListed n (g w)) is_one y) (to_row xs a n (listed_at xs j a d) x))
  same_place (z ∷ xs) h n (suc j) (suc k) a b d e x y = ap suc (same_place xs (different_right (g z) (row_of g xs) h) n j k a b d e x y)

  pub different_there : (xs : List A) → AreDifferent (row_of g xs) → (k : ℕ) (a : A) → slice_get xs k ≡ Some a → AreDifferent (g a)
  different_there [] h k a e = absurd (cc)
  different_there (z ∷ xs) h zero a e = let is_one : z ≡ a = cc in subst (λ (w : A). AreDifferent (g w)) is_one (different_left (g z) (row_of g xs) h)
  different_there (z ∷ xs) h (suc k) a e = different_there xs (different_right (g z) (row_of g xs) h) k a e

-- ---- the element with a number

pub one_numbered : {A : Type 0} (number : A → ℕ) (xs : List A) → AreDifferent (map number xs) → (a b : A) → IsListed a xs → IsListed b xs → number a ≡ number b → a ≡ b
one_numbered number [] h a b k l e = absurd k
one_numbered number (x ∷ xs) h a b (inl d) (inl c) e = d ∙ sym c
one_numbered number (x ∷ xs) h a b (inl d) (inr l) e = absurd (h.0 (subst (λ (n : ℕ). IsListed n (map number xs)) (sym e ∙ ap number d) (listed_mapped number xs b l)))
one_numbered number (x ∷ xs) h a b (inr k) (inl c) e = absurd (h.0 (subst (λ (n : ℕ). IsListed n (map number xs)) (e ∙ ap number c) (listed_mapped number xs a k)))
one_numbered number (x ∷ xs) h a b (inr k) (inr l) e = one_numbered number xs h.1 a b k l e

-- an element whose number no other has is the first with it
pub first_is : {A : Type 0} (number : A → ℕ) (xs : List A) → AreDifferent (map number xs) → (at : ℕ) (x : A) → slice_get xs at ≡ Some x → first_where (λ (y : A). number y == number x) xs ≡ Some at
first_is number [] h at x e = absurd (cc)
first_is {A = A} number (y ∷ xs) h zero x e =
    let same : y ≡ x = cc in
    ap (λ (b : Bool). if b then Some 0 else option_map suc (first_where (λ (z : A). number z == number x) xs)) (ap (λ (z : A). number z == number x) same ∙ itself (number x))
first_is {A = A} number (y ∷ xs) h (suc at) x e =
    let other : (number y == number x) ≡ false = other_number (number y) (number x) (λ d. h.0 (subst (λ (n : ℕ). IsListed n (map number xs)) (sym d) (listed_mapped number xs x (listed_at xs at x e)))) in
    ap (λ (b : Bool). if b then Some 0 else option_map suc (first_where (λ (z : A). number z == number x) xs)) other ∙ ap (option_map suc) (first_is number xs h.1 at x e)

-- numbers that say where their elements stand are different
pub numbers_different : {A : Type 0} (number : A → ℕ) (xs : List A) → ((k m : ℕ) (x y : A) → slice_get xs k ≡ Some x → slice_get xs m ≡ Some y → number x ≡ number y → k ≡ m) → AreDifferent (map number xs)
numbers_different number [] h = tt
numbers_different number (x ∷ xs) h = (
  λ l.
      let y = from_mapped number xs (number x) l in
      let p = place_of xs y.0 y.1.0 in
      let same : 0 ≡ suc p.0 = h 0 (suc p.0) x y.0 refl p.1 y.1.1 in
      absurd (omega (arith, same)),
  numbers_different number xs (λ k m y z d e a. let same : suc k ≡ suc m = h (suc k) (suc m) y z d e a in omega (arith, same)),
)
