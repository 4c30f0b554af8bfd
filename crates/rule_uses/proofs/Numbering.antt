-- Values get numbers one after another.
use Rattle.std.proofs.Common.{◌≡◌, ℕ, zero, suc, ◌+◌, ◌<◌, ◌≤◌, ◌⊎◌, List, [], ◌∷◌, ◌++◌, length, take, get_or, replicate, Some, None, Option, refl, sym, ap, ◌∙◌, subst, ⊎_elim, inl, inr, arith}
use Rattle.std.specs.Prelude.{slice_get, slice_set}
use Rattle.std.proofs.lemmas.Bool.{cases_eq}
use Rattle.std.proofs.lemmas.List.{length-append, length-replicate, length-set, take_more}
use Rattle.std.proofs.lemmas.Option.{slice_get_within}
use Rattle.rule_uses.specs.Questions.{AreNumbered, GetsNumber, HasNumber, IsNumbering}
use Rattle.rule_uses.specs.declared.open_use.OpenUse.{OpenUse}
use Rattle.flow_solver.proofs.Lists.{listed_cases, same_place, set_cases, set_here, set_other}
use Rattle.flow_solver.specs.Paths.{IsListed}
use Rattle.flow_blocks.proofs.run_step.LabelPositions.{slice_get-replicate}

pub none_numbered : (names : ℕ) → AreNumbered names [] (replicate names None) []
none_numbered names = record {
  numbering = record {
    numbers_length = length-replicate names None;
    asked = λ v k e. let is : Some k ≡ None = slice_get-replicate names v None (Some k) e in absurd (no_number k is);
  };
  numbered = λ u h. absurd h;
}
  where
    no_number : (k : ℕ) → Some k ≡ None → ⊥
    no_number k e = cc

get_front : {X : Type 0} (xs : List X) (y x : X) (k : ℕ) → slice_get xs k ≡ Some x → slice_get (xs ++ y ∷ []) k ≡ Some x
get_front [] y x k e = absurd (cc)
get_front (z ∷ xs) y x zero e = e
get_front (z ∷ xs) y x (suc k) e = get_front xs y x k e

get_last : {X : Type 0} (xs : List X) (y : X) → slice_get (xs ++ y ∷ []) (length xs) ≡ Some y
get_last [] y = refl
get_last (x ∷ xs) y = get_last xs y

some_option : (a b : Option ℕ) → Some a ≡ Some b → a ≡ b
some_option a b e = cc

some_number : (a b : ℕ) → Some a ≡ Some b → a ≡ b
some_number a b e = cc

module _ (names : ℕ) (opens : List OpenUse) (u : OpenUse) (numbers numbers2 : List (Option ℕ)) (values values2 : List ℕ) (a : AreNumbered names opens numbers values) where
  old_number : HasNumber numbers numbers2 values values2 u.value → AreNumbered names (opens ++ u ∷ []) numbers2 values2
  old_number h =
      subst (λ n. AreNumbered names (opens ++ u ∷ []) n values2) (sym h.numbers_kept)
      (subst (λ v. AreNumbered names (opens ++ u ∷ []) numbers v) (sym h.values_kept) (record {
        numbering = a.numbering;
        numbered = λ w l. ⊎_elim (λ old. a.numbered w old) (λ same. of_it w same) (listed_cases w u opens l);
      }))
    where
      of_it : (w : OpenUse) → w ≡ u → (k : ℕ) × ((slice_get numbers w.value ≡ Some (Some k)) × (k < length values))
      of_it w same =
          let at : slice_get numbers w.value ≡ Some (Some h.number) = ap (λ (x : OpenUse). slice_get numbers x.value) same ∙ h.has in
          let within = slice_get_within values h.number w.value (a.numbering.asked w.value h.number at) in
          (h.number, (at, within))

  new_number : GetsNumber numbers numbers2 values values2 u.value → AreNumbered names (opens ++ u ∷ []) numbers2 values2
  new_number g =
      subst (λ n. AreNumbered names (opens ++ u ∷ []) n values2) (sym g.numbers_set)
      (subst (λ v. AreNumbered names (opens ++ u ∷ []) (slice_set numbers u.value (Some (length values))) v) (sym g.values_added) (record {
        numbering = record { numbers_length = length-set numbers u.value (Some (length values)) ∙ a.numbering.numbers_length; asked = asked };
        numbered = λ w l. ⊎_elim (λ old. still w (a.numbered w old)) (λ same. of_it w same) (listed_cases w u opens l);
      }))
    where
      within : u.value < length numbers
      within = slice_get_within numbers u.value None g.had_none

      longer : length (values ++ u.value ∷ []) ≡ length values + 1
      longer = length-append values (u.value ∷ [])

      asked : (v k : ℕ) → slice_get (slice_set numbers u.value (Some (length values))) v ≡ Some (Some k) → slice_get (values ++ u.value ∷ []) k ≡ Some v
      asked v k e = ⊎_elim
          (λ here. ap (slice_get (values ++ u.value ∷ [])) (some_number k (length values) here.1) ∙ get_last values u.value ∙ ap (λ (x : ℕ). Some x) (sym here.0))
          (λ there. get_front values u.value v k (a.numbering.asked v k there.0))
          (set_cases numbers u.value v (Some (length values)) (Some k) e)

      still : (w : OpenUse) → (k : ℕ) × ((slice_get numbers w.value ≡ Some (Some k)) × (k < length values)) → (k : ℕ) × ((slice_get (slice_set numbers u.value (Some (length values))) w.value ≡ Some (Some k)) × (k < length (values ++ u.value ∷ [])))
      still w found =
          let lt = found.1.1 in
          (found.0, (set_other numbers u.value w.value (Some (length values)) (differs w found.0 found.1.0) ∙ found.1.0, omega (arith, lt, longer)))
        where
          differs : (w : OpenUse) (k : ℕ) → slice_get numbers w.value ≡ Some (Some k) → w.value ≡ u.value → ⊥
          differs w k at same = let is : Some k ≡ None = same_place (slice_get numbers w.value) (Some k) None at (ap (slice_get numbers) same ∙ g.had_none) in cc

      of_it : (w : OpenUse) → w ≡ u → (k : ℕ) × ((slice_get (slice_set numbers u.value (Some (length values))) w.value ≡ Some (Some k)) × (k < length (values ++ u.value ∷ [])))
      of_it w same = (length values, (ap (λ (x : OpenUse). slice_get (slice_set numbers u.value (Some (length values))) x.value) same ∙ set_here numbers u.value (Some (length values)) within, omega (arith, longer)))

pub more_numbered : (names i : ℕ) (opens : List OpenUse) (d : OpenUse) (numbers numbers2 : List (Option ℕ)) (values values2 : List ℕ) → i < length opens →
    HasNumber numbers numbers2 values values2 (get_or opens i d).value ⊎ GetsNumber numbers numbers2 values values2 (get_or opens i d).value →
    AreNumbered names (take i opens) numbers values → AreNumbered names (take (i + 1) opens) numbers2 values2
more_numbered names i opens d numbers numbers2 values values2 lt step a =
    subst (λ l. AreNumbered names l numbers2 values2) (sym (take_more opens i d lt))
    (⊎_elim (old_number names (take i opens) (get_or opens i d) numbers numbers2 values values2 a) (new_number names (take i opens) (get_or opens i d) numbers numbers2 values values2 a) step)
