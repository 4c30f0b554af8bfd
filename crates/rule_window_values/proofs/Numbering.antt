-- Values get numbers one after another.
use Rattle.std.proofs.Common.{◌≡◌, ℕ, zero, suc, ◌+◌, ◌<◌, ◌⊎◌, List, [], ◌∷◌, ◌++◌, length, take, get_or, replicate, Some, None, Option, refl, sym, ap, ◌∙◌, subst, ⊎_elim, arith}
use Rattle.std.specs.Prelude.{slice_get, slice_set}
use Rattle.std.proofs.lemmas.List.{length-append, length-set, take_more}
use Rattle.std.proofs.lemmas.Option.{slice_get_within}
use Rattle.rule_uses.proofs.flow_blocks.Elements.{listed_append}
use Rattle.rule_uses.proofs.Numbering.{none_numbered as none_asked}
use Rattle.rule_uses.specs.Questions.{GetsNumber, HasNumber, IsNumbering}
use Rattle.flow_solver.proofs.Lists.{listed_cases, same_place, set_cases, set_here, set_other}
use Rattle.flow_solver.specs.Paths.{IsListed}
use Rattle.rule_window_values.specs.Spans.{AddsNumbers, AreNumbered, IsNumbered}
use Rattle.rule_window_values.specs.declared.spans.Span.{Span}

get_front : {X : Type 0} (xs : List X) (y x : X) (k : ℕ) → slice_get xs k ≡ Some x → slice_get (xs ++ y ∷ []) k ≡ Some x
get_front [] y x k e = absurd (cc)
get_front (z ∷ xs) y x zero e = e
get_front (z ∷ xs) y x (suc k) e = get_front xs y x k e

get_last : {X : Type 0} (xs : List X) (y : X) → slice_get (xs ++ y ∷ []) (length xs) ≡ Some y
get_last [] y = refl
get_last (x ∷ xs) y = get_last xs y

some_number : (a b : ℕ) → Some a ≡ Some b → a ≡ b
some_number a b e = cc

-- ---- one value

module _ (names : ℕ) (u : ℕ) (numbers numbers2 : List (Option ℕ)) (values values2 : List ℕ) (a : IsNumbering names numbers values) where
  old_number : HasNumber numbers numbers2 values values2 u → AddsNumbers names numbers numbers2 values values2 (u ∷ [])
  old_number h =
      subst (λ (n : List (Option ℕ)). AddsNumbers names numbers n values values2 (u ∷ [])) (sym h.numbers_kept)
      (subst (λ (w : List ℕ). AddsNumbers names numbers numbers values w (u ∷ [])) (sym h.values_kept) (record {
        numbering = a;
        kept = λ v n. n;
        numbered = λ v l. ⊎_elim (λ same. of_it v same) (λ none. absurd none) l;
      }))
    where
      of_it : (v : ℕ) → v ≡ u → IsNumbered numbers values v
      of_it v same = subst (IsNumbered numbers values) (sym same) (record { number = h.number; has = h.has; below = slice_get_within values h.number u (a.asked u h.number h.has) })

  new_number : GetsNumber numbers numbers2 values values2 u → AddsNumbers names numbers numbers2 values values2 (u ∷ [])
  new_number g =
      subst (λ (n : List (Option ℕ)). AddsNumbers names numbers n values values2 (u ∷ [])) (sym g.numbers_set)
      (subst (λ (w : List ℕ). AddsNumbers names numbers (slice_set numbers u (Some (length values))) values w (u ∷ [])) (sym g.values_added) (record {
        numbering = record { numbers_length = length-set numbers u (Some (length values)) ∙ a.numbers_length; asked = asked };
        kept = still;
        numbered = λ v l. ⊎_elim (λ same. of_it v same) (λ none. absurd none) l;
      }))
    where
      within : u < length numbers
      within = slice_get_within numbers u None g.had_none

      longer : length (values ++ u ∷ []) ≡ length values + 1
      longer = length-append values (u ∷ [])

      asked : (v k : ℕ) → slice_get (slice_set numbers u (Some (length values))) v ≡ Some (Some k) → slice_get (values ++ u ∷ []) k ≡ Some v
      asked v k e = ⊎_elim
          (λ here. ap (slice_get (values ++ u ∷ [])) (some_number k (length values) here.1) ∙ get_last values u ∙ ap (λ (x : ℕ). Some x) (sym here.0))
          (λ there. get_front values u v k (a.asked v k there.0))
          (set_cases numbers u v (Some (length values)) (Some k) e)

      differs : (v k : ℕ) → slice_get numbers v ≡ Some (Some k) → v ≡ u → ⊥
      differs v k at same = let is : Some k ≡ None = same_place (slice_get numbers v) (Some k) None at (ap (slice_get numbers) same ∙ g.had_none) in cc

      still : (v : ℕ) → IsNumbered numbers values v → IsNumbered (slice_set numbers u (Some (length values))) (values ++ u ∷ []) v
      still v n =
          let lt = n.below in
          record { number = n.number; has = set_other numbers u v (Some (length values)) (differs v n.number n.has) ∙ n.has; below = omega (arith, lt, longer) }

      at_it : IsNumbered (slice_set numbers u (Some (length values))) (values ++ u ∷ []) u
      at_it = record { number = length values; has = set_here numbers u (Some (length values)) within; below = omega (arith, longer) }

      of_it : (v : ℕ) → v ≡ u → IsNumbered (slice_set numbers u (Some (length values))) (values ++ u ∷ []) v
      of_it v same = subst (IsNumbered (slice_set numbers u (Some (length values))) (values ++ u ∷ [])) (sym same) at_it

  one_added : HasNumber numbers numbers2 values values2 u ⊎ GetsNumber numbers numbers2 values values2 u → AddsNumbers names numbers numbers2 values values2 (u ∷ [])
  one_added step = ⊎_elim old_number new_number step

-- ---- values in a row

pub none_added : (names : ℕ) (numbers : List (Option ℕ)) (values : List ℕ) → IsNumbering names numbers values → AddsNumbers names numbers numbers values values []
none_added names numbers values a = record { numbering = a; kept = λ v n. n; numbered = λ v l. absurd l }

both_added : (names : ℕ) (n0 n1 n2 : List (Option ℕ)) (w0 w1 w2 one two : List ℕ) → AddsNumbers names n0 n1 w0 w1 one → AddsNumbers names n1 n2 w1 w2 two → AddsNumbers names n0 n2 w0 w2 (one ++ two)
both_added names n0 n1 n2 w0 w1 w2 one two a b = record {
  numbering = b.numbering;
  kept = λ v n. b.kept v (a.kept v n);
  numbered = λ v l. ⊎_elim (λ first. b.kept v (a.numbered v first)) (λ second. b.numbered v second) (listed_append v one two l);
}

pub more_added : (names i : ℕ) (vs : List ℕ) (n0 n1 n2 : List (Option ℕ)) (w0 w1 w2 : List ℕ) → i < length vs →
    HasNumber n1 n2 w1 w2 (get_or vs i 0) ⊎ GetsNumber n1 n2 w1 w2 (get_or vs i 0) → AddsNumbers names n0 n1 w0 w1 (take i vs) → AddsNumbers names n0 n2 w0 w2 (take (i + 1) vs)
more_added names i vs n0 n1 n2 w0 w1 w2 lt step a =
    subst (AddsNumbers names n0 n2 w0 w2) (sym (take_more vs i 0 lt))
    (both_added names n0 n1 n2 w0 w1 w2 (take i vs) (get_or vs i 0 ∷ []) a (one_added names (get_or vs i 0) n1 n2 w1 w2 a.numbering step))

-- ---- spans in a row

pub none_numbered : (names : ℕ) → AreNumbered names [] (replicate names None) []
none_numbered names = record { numbering = (none_asked names).numbering; numbered = λ span v l m. absurd l }

pub more_numbered : (names i : ℕ) (ss : List Span) (span : Span) (vs : List ℕ) (n1 n2 : List (Option ℕ)) (w1 w2 : List ℕ) → i < length ss → span ≡ get_or ss i span → vs ≡ span.values →
    AddsNumbers names n1 n2 w1 w2 vs → AreNumbered names (take i ss) n1 w1 → AreNumbered names (take (i + 1) ss) n2 w2
more_numbered names i ss span vs n1 n2 w1 w2 lt is same a h =
    subst (λ (l : List Span). AreNumbered names l n2 w2) (sym (take_more ss i span lt ∙ ap (λ (x : Span). take i ss ++ x ∷ []) (sym is))) (record {
      numbering = a.numbering;
      numbered = λ s v l m. ⊎_elim (λ old. a.kept v (h.numbered s v old m)) (λ new. a.numbered v (of_it s v new m)) (listed_cases s span (take i ss) l);
    })
  where
    of_it : (s : Span) (v : ℕ) → s ≡ span → IsListed v s.values → IsListed v vs
    of_it s v new m = subst (IsListed v) (sym same) (subst (λ (x : Span). IsListed v x.values) new m)
