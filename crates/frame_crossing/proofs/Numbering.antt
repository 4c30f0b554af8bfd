-- Values get numbers in the order in which they first come.
use Rattle.std.proofs.Common.{◌≡◌, ℕ, zero, suc, ◌+◌, ◌<◌, ◌⊎◌, Bool, true, false, List, [], ◌∷◌, ◌++◌, length, drop, get_or, replicate, Some, None, Option, refl, sym, ap, ◌∙◌, subst, ⊎_elim, inl, inr, arith, eq-eqb}
use Rattle.std.specs.Prelude.{slice_get, slice_set, if◌then◌else◌, ◌==◌, ◌||◌}
use Rattle.std.proofs.lemmas.Bool.{eqb-true}
use Rattle.std.proofs.lemmas.List.{length-replicate, length-set}
use Rattle.std.proofs.lemmas.Option.{slice_get_within}
use Rattle.rule_uses.specs.Questions.{GetsNumber, HasNumber}
use Rattle.flow_solver.proofs.Lists.{set_cases, set_here, set_other}
use Rattle.ir_paths.specs.Slots.{has_name}
use Rattle.run_step.proofs.LabelPositions.{slice_get-replicate}
use Rattle.frame_crossing.specs.Values.{distinct, with_new}
use Rattle.frame_crossing.specs.Words.{AreNumbered}

-- ---- names among names

or_true : (a b : Bool) → b ≡ true → (a || b) ≡ true
or_true true b e = refl
or_true false b e = e

true_or : (a b : Bool) → a ≡ true → (a || b) ≡ true
true_or true b e = refl
true_or false b e = absurd (cc)

pub name_at : (vs : List ℕ) (k v : ℕ) → slice_get vs k ≡ Some v → has_name vs v ≡ true
name_at [] k v e = absurd (cc)
name_at (u ∷ vs) zero v e = let same : u ≡ v = some_same u v e in true_or (u == v) (has_name vs v) (eq-eqb u v same)
  where
    some_same : (a b : ℕ) → Some a ≡ Some b → a ≡ b
    some_same a b e = cc
name_at (u ∷ vs) (suc k) v e = or_true (u == v) (has_name vs v) (name_at vs k v e)

pub place_of_name : (vs : List ℕ) (v : ℕ) → has_name vs v ≡ true → (k : ℕ) × (slice_get vs k ≡ Some v)
place_of_name [] v e = absurd (cc)
place_of_name (u ∷ vs) v e = on (u == v) refl e (place_of_name vs v)
  where
    on : (b : Bool) → (u == v) ≡ b → (b || has_name vs v) ≡ true → (has_name vs v ≡ true → (k : ℕ) × (slice_get vs k ≡ Some v)) → (k : ℕ) × (slice_get (u ∷ vs) k ≡ Some v)
    on true is h later = (0, ap (λ (x : ℕ). Some x) (eqb-true u v is))
    on false is h later = let found = later h in (suc found.0, found.1)

-- ---- one value more

get_front : {X : Type 0} (xs : List X) (y x : X) (k : ℕ) → slice_get xs k ≡ Some x → slice_get (xs ++ y ∷ []) k ≡ Some x
get_front [] y x k e = absurd (cc)
get_front (z ∷ xs) y x zero e = e
get_front (z ∷ xs) y x (suc k) e = get_front xs y x k e

get_last : {X : Type 0} (xs : List X) (y : X) → slice_get (xs ++ y ∷ []) (length xs) ≡ Some y
get_last [] y = refl
get_last (x ∷ xs) y = get_last xs y

get_cases : {X : Type 0} (xs : List X) (y x : X) (k : ℕ) → slice_get (xs ++ y ∷ []) k ≡ Some x → (slice_get xs k ≡ Some x) ⊎ ((k ≡ length xs) × (x ≡ y))
get_cases [] y x zero e = inr (refl, same x y e)
  where
    same : {X : Type 0} (a b : X) → Some b ≡ Some a → a ≡ b
    same a b e = cc
get_cases [] y x (suc k) e = absurd (cc)
get_cases (z ∷ xs) y x zero e = inl e
get_cases (z ∷ xs) y x (suc k) e = ⊎_elim (λ h. inl h) (λ h. inr (ap suc h.0, h.1)) (get_cases xs y x k e)

some_number : (a b : ℕ) → Some a ≡ Some b → a ≡ b
some_number a b e = cc

some_no_number : (k : ℕ) → Some (Some k) ≡ Some None → ⊥
some_no_number k e = let is : Some k ≡ None = inner (Some k) None e in cc
  where
    inner : (a b : Option ℕ) → Some a ≡ Some b → a ≡ b
    inner a b e = cc

pub none_numbered : (names : ℕ) → AreNumbered names (replicate names None) []
none_numbered names = record {
  numbering = record {
    numbers_length = length-replicate names None;
    asked = λ v k e. let is : Some k ≡ None = slice_get-replicate names v None (Some k) e in absurd (no_number k is);
  };
  numbered = λ v k e. absurd (cc);
}
  where
    no_number : (k : ℕ) → Some k ≡ None → ⊥
    no_number k e = cc

module _ (names v : ℕ) (numbers numbers2 : List (Option ℕ)) (values values2 : List ℕ) (a : AreNumbered names numbers values) where
  was_known : HasNumber numbers numbers2 values values2 v → (values2 ≡ with_new values v) × AreNumbered names numbers2 values2
  was_known h =
      let known : has_name values v ≡ true = name_at values h.number v (a.numbering.asked v h.number h.has) in (
        h.values_kept ∙ sym (ap (λ (b : Bool). if b then values else values ++ v ∷ []) known),
        subst (λ n. AreNumbered names n values2) (sym h.numbers_kept) (subst (AreNumbered names numbers) (sym h.values_kept) a),
      )

  unknown : slice_get numbers v ≡ Some None → (b : Bool) → has_name values v ≡ b → b ≡ false
  unknown none true e =
      let found = place_of_name values v e in
      absurd (some_no_number found.0 (sym (a.numbered v found.0 found.1) ∙ none))
  unknown none false e = refl

  is_new : GetsNumber numbers numbers2 values values2 v → (values2 ≡ with_new values v) × AreNumbered names numbers2 values2
  is_new g = (
    g.values_added ∙ sym (ap (λ (b : Bool). if b then values else values ++ v ∷ []) (unknown g.had_none (has_name values v) refl)),
    subst (λ n. AreNumbered names n values2) (sym g.numbers_set)
        (subst (AreNumbered names (slice_set numbers v (Some (length values)))) (sym g.values_added) (record {
          numbering = record { numbers_length = length-set numbers v (Some (length values)) ∙ a.numbering.numbers_length; asked = asked };
          numbered = numbered;
        })),
  )
    where
      within : v < length numbers
      within = slice_get_within numbers v None g.had_none

      asked : (w k : ℕ) → slice_get (slice_set numbers v (Some (length values))) w ≡ Some (Some k) → slice_get (values ++ v ∷ []) k ≡ Some w
      asked w k e = ⊎_elim
          (λ here. ap (slice_get (values ++ v ∷ [])) (some_number k (length values) here.1) ∙ get_last values v ∙ ap (λ (x : ℕ). Some x) (sym here.0))
          (λ there. get_front values v w k (a.numbering.asked w k there.0))
          (set_cases numbers v w (Some (length values)) (Some k) e)

      numbered : (w k : ℕ) → slice_get (values ++ v ∷ []) k ≡ Some w → slice_get (slice_set numbers v (Some (length values))) w ≡ Some (Some k)
      numbered w k e = ⊎_elim
          (λ old. let is = a.numbered w k old in set_other numbers v w (Some (length values)) (λ same. some_no_number k (sym is ∙ ap (slice_get numbers) same ∙ g.had_none)) ∙ is)
          (λ new. ap (slice_get (slice_set numbers v (Some (length values)))) new.1 ∙ set_here numbers v (Some (length values)) within ∙ ap (λ (x : ℕ). Some (Some x)) (sym new.0))
          (get_cases values v w k e)

pub record AreUnderway (names : ℕ) (defined rest : List ℕ) (numbers : List (Option ℕ)) (values : List ℕ) : Type 0 where
  pub numbered : AreNumbered names numbers values
  pub found : distinct values rest ≡ distinct [] defined

pub more_numbered : (names i : ℕ) (defined : List ℕ) (numbers numbers2 : List (Option ℕ)) (values values2 : List ℕ) → i < length defined →
    HasNumber numbers numbers2 values values2 (get_or defined i 0) ⊎ GetsNumber numbers numbers2 values values2 (get_or defined i 0) →
    AreUnderway names defined (drop i defined) numbers values → AreUnderway names defined (drop (i + 1) defined) numbers2 values2
more_numbered names i defined numbers numbers2 values values2 lt step u =
    let v : ℕ = get_or defined i 0 in
    let two : (values2 ≡ with_new values v) × AreNumbered names numbers2 values2 =
    ⊎_elim (was_known names v numbers numbers2 values values2 u.numbered) (is_new names v numbers numbers2 values values2 u.numbered) step in
    record {
      numbered = two.1;
      found = ap (λ (l : List ℕ). distinct l (drop (i + 1) defined)) two.0 ∙ sym (ap (distinct values) (next_is i defined lt)) ∙ u.found;
    }
  where
    next_is : (i : ℕ) (xs : List ℕ) → i < length xs → drop i xs ≡ get_or xs i 0 ∷ drop (i + 1) xs
    next_is i [] lt = absurd (omega arith)
    next_is zero (x ∷ xs) lt = refl
    next_is (suc i) (x ∷ xs) lt = let further : suc i + 1 ≡ suc (i + 1) = omega arith in next_is i xs (omega arith) ∙ ap (λ (k : ℕ). get_or xs i 0 ∷ drop k (x ∷ xs)) (sym further)
