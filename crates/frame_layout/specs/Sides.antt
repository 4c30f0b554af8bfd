-- The sides of groups on which fields are.
use Rattle.std.specs.Prelude.{◌≢◌, ◌⊎◌, ◌↔◌, ℕ, List, [], map, ◌+◌, ◌∷◌, ◌++◌, if◌then◌else◌}
use Rattle.std.specs.List.{Contains}
use Rattle.frame_placing.specs.Placed.{IsPair}
use Rattle.frame_layout.specs.Conflicts.{is_apart}
use Rattle.frame_layout.specs.declared.layout.Field.{Field}

-- ---- slots that conflict, without their pairs

-- two slots are one of the narrow pairs, or one of them is wide, so that it conflicts with all slots
abbrev pub AreSlotsApart : List ℕ → List ℕ → List (ℕ × ℕ) → ℕ → ℕ → Type 0
AreSlotsApart slots wide narrow j k = IsPair narrow j k ⊎ ((Contains wide j × Contains slots k) ⊎ (Contains wide k × Contains slots j))

-- the pairs name just these
pub record AreNamed (slots wide : List ℕ) (narrow named : List (ℕ × ℕ)) : Type 0 where
  pub each : (j k : ℕ) → j ≢ k → IsPair named j k ↔ AreSlotsApart slots wide narrow j k

-- ---- fields with groups: 0 keeps some apart from all fields, 1 slots from all slots, s + 2 is that of the suspend s

abbrev pub apart_pairs : ℕ → List Field → List (ℕ × ℕ)
apart_pairs k [] = []
apart_pairs k (f ∷ fs) = (if is_apart f.kind then (k, 0) ∷ [] else []) ++ apart_pairs (k + 1) fs

abbrev pub all_pairs : ℕ → List Field → List (ℕ × ℕ)
all_pairs k [] = []
all_pairs k (f ∷ fs) = ((k, 0) ∷ []) ++ all_pairs (k + 1) fs

abbrev pub slot_pairs : List ℕ → List (ℕ × ℕ)
slot_pairs slots = map (λ k. (k, 1)) slots

abbrev pub suspend_pairs : List (ℕ × ℕ) → List (ℕ × ℕ)
suspend_pairs pairs = map (λ p. (p.0, p.1 + 2)) pairs

-- those on the one side, and those on the other
abbrev pub one_pairs : List Field → List (ℕ × ℕ) → List ℕ → List (ℕ × ℕ)
one_pairs fields crossing wide = (apart_pairs 0 fields ++ slot_pairs wide) ++ suspend_pairs crossing

abbrev pub other_pairs : List Field → List (ℕ × ℕ) → List (ℕ × ℕ) → List ℕ → List (ℕ × ℕ)
other_pairs fields crossing alive slots = ((all_pairs 0 fields ++ slot_pairs slots) ++ suspend_pairs crossing) ++ suspend_pairs alive
