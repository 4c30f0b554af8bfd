-- What is noted beside locals in a walk over a list.
use Rattle.std.proofs.Common.{◌≡◌, ◌<◌, ◌≤◌, ◌+◌, drop, get_or, drop-cons, add-one, ℕ, zero, suc, List, [], ◌∷◌, length, refl, sym, ap, ◌∙◌, arith, Option, Some, None}
use Rattle.std.specs.Prelude.{option_map}
use Rattle.ir_locals.specs.Tables.{first_in, or_first}

or-none : {T : Type 0} (o : Option T) → or_first o None ≡ o
or-none None = refl
or-none (Some a) = refl

-- ---- notes of the elements of a list

or-assoc : {T : Type 0} (a b c : Option T) → or_first (or_first a b) c ≡ or_first a (or_first b c)
or-assoc None b c = refl
or-assoc (Some x) b c = refl

past : {A : Type 0} (xs : List A) (i : ℕ) → length xs ≤ i → drop i xs ≡ []
past [] zero le = refl
past [] (suc i) le = refl
past (x ∷ xs) zero le = absurd (omega arith)
past (x ∷ xs) (suc i) le = past xs i (omega arith)

-- one element further
pub one_more : {A T : Type 0} (one : A → ℕ → Option T) (xs : List A) (i : ℕ) (x : A) (old new all : ℕ → Option T) → i < length xs → x ≡ get_or xs i x → ((n : ℕ) → new n ≡ or_first (old n) (one x n)) → ((n : ℕ) → or_first (old n) (first_in one (drop i xs) n) ≡ all n) → (n : ℕ) → or_first (new n) (first_in one (drop (i + 1) xs) n) ≡ all n
one_more one xs i x old new all lt is step inv n =
    let here : or_first (one x n) (first_in one (drop (i + 1) xs) n) ≡ first_in one (drop i xs) n =
    ap (λ (k : ℕ). or_first (one x n) (first_in one (drop k xs) n)) (add-one i)
    ∙ ap (λ y. or_first (one y n) (first_in one (drop (suc i) xs) n)) is
    ∙ sym (ap (λ (l : List _). first_in one l n) (drop-cons xs i x lt)) in
    ap (λ (o : Option _). or_first o (first_in one (drop (i + 1) xs) n)) (step n)
    ∙ or-assoc (old n) (one x n) (first_in one (drop (i + 1) xs) n)
    ∙ ap (or_first (old n)) here ∙ inv n

-- all elements
pub all_noted : {A T : Type 0} (one : A → ℕ → Option T) (xs : List A) (i : ℕ) (old all : ℕ → Option T) → length xs ≤ i → ((n : ℕ) → or_first (old n) (first_in one (drop i xs) n) ≡ all n) → (n : ℕ) → old n ≡ all n
all_noted one xs i old all le inv n =
    sym (or-none (old n)) ∙ sym (ap (λ (l : List _). or_first (old n) (first_in one l n)) (past xs i le)) ∙ inv n

-- nothing more
pub nothing_noted : {T : Type 0} (o p : Option T) → p ≡ None → o ≡ or_first o p
nothing_noted o p e = sym (or-none o) ∙ ap (or_first o) (sym e)

-- what was noted first and then
pub then_noted : {T : Type 0} (old mid new a b : ℕ → Option T) → ((n : ℕ) → mid n ≡ or_first (old n) (a n)) → ((n : ℕ) → new n ≡ or_first (mid n) (b n)) → (n : ℕ) → new n ≡ or_first (old n) (or_first (a n) (b n))
then_noted old mid new a b h g n = g n ∙ ap (λ (o : Option _). or_first o (b n)) (h n) ∙ or-assoc (old n) (a n) (b n)

-- from an empty table
pub from_empty : {T : Type 0} (old new a : ℕ → Option T) → ((n : ℕ) → old n ≡ None) → ((n : ℕ) → new n ≡ or_first (old n) (a n)) → (n : ℕ) → new n ≡ a n
from_empty old new a h g n = g n ∙ ap (λ (o : Option _). or_first o (a n)) (h n)

-- notes that are changed
map-or : {S T : Type 0} (f : S → T) (a b : Option S) → or_first (option_map f a) (option_map f b) ≡ option_map f (or_first a b)
map-or f None b = refl
map-or f (Some x) b = refl

pub first_in-map : {A S T : Type 0} (f : S → T) (one : A → ℕ → Option S) (other : A → ℕ → Option T) → ((x : A) (n : ℕ) → other x n ≡ option_map f (one x n)) → (xs : List A) (n : ℕ) → first_in other xs n ≡ option_map f (first_in one xs n)
first_in-map f one other h [] n = refl
first_in-map f one other h (x ∷ xs) n =
    ap (λ (o : Option _). or_first o (first_in other xs n)) (h x n) ∙ ap (or_first (option_map f (one x n))) (first_in-map f one other h xs n) ∙ map-or f (one x n) (first_in one xs n)
