-- Lemmas on value kinds, that speak of no pass.
use Rattle.std.proofs.Common.{◌≡◌, inl, inr, ℕ, zero, suc, ◌+◌, List, [], ◌∷◌, ◌++◌, refl, sym, ap, ◌∙◌, subst}
use Rattle.std.specs.Prelude.{None, Option, Some, map, slice_get}
use Rattle.rule_laws.proofs.rules.local_rules.Names.{numbers}
use Rattle.ir_laws.proofs.paths.source_rules.Locals.{Apart, in_row, listed_left, listed_right}
use Rattle.ir_laws.proofs.facts.Lists.{row_of}
use Rattle.ir_laws.specs.flow_solver.Paths.{IsListed}
use Rattle.ir_laws.specs.ir_locals.Tables.{first_in, or_first}
use Rattle.ir_laws.proofs.facts.Options.{or_none}

-- ---- numbers that are apart

apart_left : (xs ys : List ℕ) → Apart (xs ++ ys) → Apart xs
apart_left [] ys h = tt
apart_left (x ∷ xs) ys h = (λ k. h.0 (listed_left x xs ys k), apart_left xs ys h.1)

pub apart_right : (xs ys : List ℕ) → Apart (xs ++ ys) → Apart ys
apart_right [] ys h = h
apart_right (x ∷ xs) ys h = apart_right xs ys h.1

pub apart_both : (xs ys : List ℕ) (n : ℕ) → Apart (xs ++ ys) → IsListed n xs → IsListed n ys → ⊥
apart_both [] ys n h a b = absurd a
apart_both (x ∷ xs) ys n h (inl e) b = h.0 (listed_right x xs ys (subst (λ (k : ℕ). IsListed k ys) e b))
apart_both (x ∷ xs) ys n h (inr a) b = apart_both xs ys n h.1 a b

pub apart_at : {A : Type 0} (g : A → List ℕ) (xs : List A) (k : ℕ) (a : A) → slice_get xs k ≡ Some a → Apart (row_of g xs) → Apart (g a)
apart_at g [] k a e h = absurd (cc)
apart_at g (x ∷ xs) zero a e h = let is_one : x ≡ a = cc in subst (λ y. Apart (g y)) is_one (apart_left (g x) (row_of g xs) h)
apart_at g (x ∷ xs) (suc k) a e h = apart_at g xs k a e (apart_right (g x) (row_of g xs) h)

pub none_in_map : {A T : Type 0} (one : A → ℕ → Option T) (name : A → ℕ) (n : ℕ) → ((x : A) → (n ≡ name x → ⊥) → one x n ≡ None) → (xs : List A) → (IsListed n (map name xs) → ⊥) → first_in one xs n ≡ None
none_in_map one name n none [] h = refl
none_in_map one name n none (x ∷ xs) h = ap (λ o. or_first o (first_in one xs n)) (none x (λ e. h (inl e))) ∙ none_in_map one name n none xs (λ l. h (inr l))

module _ {A T : Type 0} (one : A → ℕ → Option T) (names : A → List ℕ) (n : ℕ) (none : (x : A) → (IsListed n (names x) → ⊥) → one x n ≡ None) where
  pub none_in_row : (xs : List A) → (IsListed n (row_of names xs) → ⊥) → first_in one xs n ≡ None
  none_in_row [] h = refl
  none_in_row (x ∷ xs) h =
      ap (λ o. or_first o (first_in one xs n)) (none x (λ l. h (listed_left n (names x) (row_of names xs) l)))
      ∙ none_in_row xs (λ l. h (listed_right n (names x) (row_of names xs) l))

  pub one_in_row : (xs : List A) → Apart (row_of names xs) → (k : ℕ) (a : A) → slice_get xs k ≡ Some a → IsListed n (names a) → first_in one xs n ≡ one a n
  one_in_row [] h k a e l = absurd (cc)
  one_in_row (x ∷ xs) h zero a e l =
      let is_one : x ≡ a = cc in
      let here : IsListed n (names x) = subst (λ y. IsListed n (names y)) (sym is_one) l in
      ap (or_first (one x n)) (none_in_row xs (λ more. apart_both (names x) (row_of names xs) n h here more))
      ∙ or_none (one x n) ∙ ap (λ y. one y n) is_one
  one_in_row (x ∷ xs) h (suc k) a e l =
      ap (λ o. or_first o (first_in one xs n)) (none x (λ here. apart_both (names x) (row_of names xs) n h here (in_row names xs k n a e l)))
      ∙ one_in_row xs (apart_right (names x) (row_of names xs) h) k a e l
