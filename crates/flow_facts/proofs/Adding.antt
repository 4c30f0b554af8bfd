-- Names added one after another.
use Rattle.std.proofs.Common.{◌≡◌, ℕ, ◌+◌, ◌<◌, Bool, true, false, ◌||◌, List, length, take, get_or, refl, ap, sym, ◌∙◌}
use Rattle.std.specs.List.{list_any}
use Rattle.std.proofs.lemmas.List.Folds.{list_any_more}
use Rattle.flow_points.specs.ir_paths.Slots.{has_name}
use Rattle.flow_facts.specs.Slots.{HasMore}

or-assoc : (a b c : Bool) → ((a || b) || c) ≡ (a || (b || c))
or-assoc true b c = refl
or-assoc false b c = refl

-- one element more
pub more-step : {A : Type 0} (t : ℕ → A → Bool) (xs : List A) (i : ℕ) (x : A) (old mid new : List ℕ) → i < length xs → x ≡ get_or xs i x → HasMore (λ v. list_any (t v) (take i xs)) old mid → HasMore (λ v. t v x) mid new → HasMore (λ v. list_any (t v) (take (i + 1) xs)) old new
more-step t xs i x old mid new lt is a b = record {
  each = λ v. b.each v ∙ ap (λ c. c || t v x) (a.each v) ∙ or-assoc (has_name old v) (list_any (t v) (take i xs)) (t v x)
      ∙ ap (λ c. has_name old v || (list_any (t v) (take i xs) || t v c)) is
      ∙ ap (λ c. has_name old v || c) (sym (list_any_more (t v) xs i x lt));
}
