-- Which fields of a frame conflict, so that they share no byte.
use Rattle.std.specs.Prelude.{ℕ, Bool, true, false, List, [], map, nat_lt, slice_index_or, ◌+◌, ◌&&◌, ◌||◌, ◌==◌, ◌∷◌, ◌++◌, if◌then◌else◌}
use Rattle.std.specs.List.{list_any}
use Rattle.frame_layout.specs.declared.layout.Field.{Field}
use Rattle.frame_layout.specs.declared.layout.FieldKind.{FieldKind}

-- the promise, the index and the frames of callees share bytes with no field
abbrev pub is_apart : FieldKind → Bool
is_apart FieldKind.Promise = true
is_apart FieldKind.Value = false
is_apart FieldKind.Slot = false
is_apart FieldKind.Index = true
is_apart FieldKind.Frame = true

-- the field at a position is one of these
abbrev pub is_apart_at : List Field → ℕ → Bool
is_apart_at fields k = slice_index_or (map (λ f. is_apart f.kind) fields) k false

-- one of the pairs is that of k and x
abbrev pub has_pair : List (ℕ × ℕ) → ℕ → ℕ → Bool
has_pair pairs k x = list_any (λ p. (p.1 == x) && (p.0 == k)) pairs

-- at one suspend the first list has j and the second has k
abbrev pub share : List (ℕ × ℕ) → List (ℕ × ℕ) → ℕ → ℕ → Bool
share one other j k = list_any (λ p. (p.0 == j) && has_pair other k p.1) one

-- two fields conflict where one of them is the promise, the index or a callee's frame, where both are values that cross one suspend,
-- where one is a value and the other a slot that may be alive at a suspend that the value crosses, or where both are slots that the
-- last list names
unfoldable pub conflict : List Field → List (ℕ × ℕ) → List (ℕ × ℕ) → List (ℕ × ℕ) → ℕ → ℕ → Bool
conflict fields crossing alive slots j k =
    is_apart_at fields j
    || is_apart_at fields k
    || share crossing crossing j k
    || share crossing alive j k
    || share alive crossing j k
    || has_pair slots j k
    || has_pair slots k j

-- ---- all pairs of positions of fields, the lower one first, that conflict

-- those of j with the positions from k on
abbrev pub pairs_of : (ℕ → Bool) → ℕ → ℕ → List Field → List (ℕ × ℕ)
pairs_of test j k [] = []
pairs_of test j k (f ∷ fs) = (if nat_lt j k && test k then (j, k) ∷ [] else []) ++ pairs_of test j (k + 1) fs

-- those of the positions from j on
abbrev pub pairs_from : (ℕ → ℕ → Bool) → List Field → ℕ → List Field → List (ℕ × ℕ)
pairs_from test fields j [] = []
pairs_from test fields j (f ∷ fs) = pairs_of (test j) j 0 fields ++ pairs_from test fields (j + 1) fs

-- in order
abbrev pub field_conflicts : List Field → List (ℕ × ℕ) → List (ℕ × ℕ) → List (ℕ × ℕ) → List (ℕ × ℕ)
field_conflicts fields crossing alive slots = pairs_from (conflict fields crossing alive slots) fields 0 fields
