-- Going along a list.
use Rattle.std.proofs.Common.{◌≡◌, ℕ, suc, ◌+◌, ◌<◌, Bool, true, false, ◌||◌, List, [], ◌∷◌, length, drop, get_or, refl, ap, sym, ◌∙◌, arith}
use Rattle.std.specs.Prelude.{if◌then◌else◌}
use Rattle.std.proofs.lemmas.Bool.{false≢true}
use Rattle.std.specs.List.{list_any}
use Rattle.std.proofs.Math.Seq.{drop-cons}

pub drop-next : {A : Type 0} (xs : List A) (i : ℕ) (x : A) → i < length xs → x ≡ get_or xs i x → drop i xs ≡ x ∷ drop (i + 1) xs
drop-next xs i x lt e =
    let one : suc i ≡ i + 1 = omega arith in
    drop-cons xs i x lt ∙ ap (λ y. y ∷ drop (suc i) xs) (sym e) ∙ ap (λ k. x ∷ drop k xs) one

all-by : {A : Type 0} (xs : List A) → drop (length xs) xs ≡ []
all-by [] = refl
all-by (x ∷ xs) = all-by xs

pub drop-end : {A : Type 0} (xs : List A) (i : ℕ) → i ≡ length xs → drop i xs ≡ []
drop-end xs i e = ap (λ k. drop k xs) e ∙ all-by xs

or-false : (a b : Bool) → a ≡ false → (a || b) ≡ b
or-false false b e = refl
or-false true b e = cc

or-true : (a b : Bool) → a ≡ true → (a || b) ≡ true
or-true true b e = refl
or-true false b e = cc

pub any-next : {A : Type 0} (test : A → Bool) (xs : List A) (i : ℕ) (x : A) → i < length xs → x ≡ get_or xs i x → list_any test xs ≡ list_any test (drop i xs) → test x ≡ false → list_any test xs ≡ list_any test (drop (i + 1) xs)
any-next test xs i x lt e h f = h ∙ ap (list_any test) (drop-next xs i x lt e) ∙ or-false (test x) (list_any test (drop (i + 1) xs)) f

pub any-found : {A : Type 0} (test : A → Bool) (xs : List A) (i : ℕ) (x : A) → i < length xs → x ≡ get_or xs i x → list_any test xs ≡ list_any test (drop i xs) → test x ≡ true → true ≡ list_any test xs
any-found test xs i x lt e h f = sym (h ∙ ap (list_any test) (drop-next xs i x lt e) ∙ or-true (test x) (list_any test (drop (i + 1) xs)) f)

pub any-end : {A : Type 0} (test : A → Bool) (xs : List A) (i : ℕ) → i ≡ length xs → list_any test xs ≡ list_any test (drop i xs) → false ≡ list_any test xs
any-end test xs i e h = sym (h ∙ ap (list_any test) (drop-end xs i e))

pub if-true : {B : Type 0} (b : Bool) (x y : B) → b ≡ true → (if b then x else y) ≡ x
if-true true x y e = refl
if-true false x y e = absurd (false≢true e)

pub if-false : {B : Type 0} (b : Bool) (x y : B) → b ≡ false → (if b then x else y) ≡ y
if-false false x y e = refl
if-false true x y e = absurd (false≢true (sym e))

-- a search along a list
pub search-next : {A B : Type 0} (F : List A → B) (test : A → Bool) (v : A → B) → ((x : A) (xs : List A) → F (x ∷ xs) ≡ (if test x then v x else F xs)) → (xs : List A) (i : ℕ) (x : A) → i < length xs → x ≡ get_or xs i x → F xs ≡ F (drop i xs) → test x ≡ false → F xs ≡ F (drop (i + 1) xs)
search-next F test v step xs i x lt e h f = h ∙ ap F (drop-next xs i x lt e) ∙ step x (drop (i + 1) xs) ∙ if-false (test x) (v x) (F (drop (i + 1) xs)) f

pub search-found : {A B : Type 0} (F : List A → B) (test : A → Bool) (v : A → B) → ((x : A) (xs : List A) → F (x ∷ xs) ≡ (if test x then v x else F xs)) → (xs : List A) (i : ℕ) (x : A) → i < length xs → x ≡ get_or xs i x → F xs ≡ F (drop i xs) → test x ≡ true → F xs ≡ v x
search-found F test v step xs i x lt e h f = h ∙ ap F (drop-next xs i x lt e) ∙ step x (drop (i + 1) xs) ∙ if-true (test x) (v x) (F (drop (i + 1) xs)) f

pub search-end : {A B : Type 0} (F : List A → B) (xs : List A) (i : ℕ) → i ≡ length xs → F xs ≡ F (drop i xs) → F xs ≡ F []
search-end F xs i e h = h ∙ ap F (drop-end xs i e)
