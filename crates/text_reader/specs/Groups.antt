-- Sets of attribute groups, by the digits of their numbers.
use Rattle.std.specs.Prelude.{ℕ, Bool, true, false, List, [], ◌∷◌}
use Rattle.std.specs.List.{list_any}
use Rattle.indexmap.specs.IndexSet.{insert_key}
use Rattle.ir_model.specs.Names.{same_text}

abbrev pub with_group : List (List ℕ) → List ℕ → List (List ℕ)
with_group gs g = insert_key same_text gs g

abbrev pub has_group : List (List ℕ) → List ℕ → Bool
has_group gs g = list_any (same_text g) gs

abbrev pub has_none : List (List ℕ) → Bool
has_none [] = true
has_none (g ∷ gs) = false
