-- Pairs by one of their halves, and marks of positions.
use Rattle.std.specs.Prelude.{◌≡◌, ℕ, Bool, true, List, [], get_or, map, nat_lt, slice_set, ◌+◌, ◌&&◌, ◌||◌, ◌==◌, ◌∷◌, ◌++◌, if◌then◌else◌}
use Rattle.frame_layout.specs.Conflicts.{is_apart, is_apart_at}
use Rattle.frame_layout.specs.declared.conflicts.Tables.{Tables}
use Rattle.frame_layout.specs.declared.layout.Field.{Field}

-- what the pairs of a position have behind it
abbrev pub seconds_of : List (ℕ × ℕ) → ℕ → List ℕ
seconds_of [] j = []
seconds_of (p ∷ ps) j = (if p.0 == j then p.1 ∷ [] else []) ++ seconds_of ps j

-- what the pairs of a number have before it
abbrev pub firsts_of : List (ℕ × ℕ) → ℕ → List ℕ
firsts_of [] s = []
firsts_of (p ∷ ps) s = (if p.1 == s then p.0 ∷ [] else []) ++ firsts_of ps s

-- these marked too
abbrev pub with_marks : List Bool → List ℕ → List Bool
with_marks marks [] = marks
with_marks marks (k ∷ ks) = with_marks (slice_set marks k true) ks

-- what the rows of these have marked too
abbrev pub with_rows : List Bool → List (List ℕ) → List ℕ → List Bool
with_rows marks rows [] = marks
with_rows marks rows (s ∷ ss) = with_rows (with_marks marks (get_or rows s [])) rows ss

-- the pairs of j with the marked positions behind it, of those from k on
abbrev pub marked_pairs : ℕ → ℕ → List Bool → List (ℕ × ℕ)
marked_pairs j k [] = []
marked_pairs j k (m ∷ ms) = (if nat_lt j k && m then (j, k) ∷ [] else []) ++ marked_pairs j (k + 1) ms

-- the tables hold the pairs by both halves
pub record AreTables (crossing alive slots : List (ℕ × ℕ)) (t : Tables) : Type 0 where
  pub crossed_by : (j : ℕ) → get_or t.crossed_by.items j [] ≡ seconds_of crossing j
  pub crossing_at : (s : ℕ) → get_or t.crossing_at.items s [] ≡ firsts_of crossing s
  pub alive_of : (j : ℕ) → get_or t.alive_of.items j [] ≡ seconds_of alive j
  pub alive_at : (s : ℕ) → get_or t.alive_at.items s [] ≡ firsts_of alive s
  pub later : (j : ℕ) → get_or t.later.items j [] ≡ seconds_of slots j
  pub earlier : (j : ℕ) → get_or t.earlier.items j [] ≡ firsts_of slots j

-- the marks by the tables
abbrev pub marks_by : List Field → Tables → ℕ → List Bool
marks_by fields t j =
    with_marks
    (with_marks
    (with_rows
    (with_rows
    (with_rows (map (λ f. is_apart_at fields j || is_apart f.kind) fields) t.crossing_at.items (get_or t.crossed_by.items j []))
    t.alive_at.items
    (get_or t.crossed_by.items j []))
    t.crossing_at.items
    (get_or t.alive_of.items j []))
    (get_or t.later.items j []))
    (get_or t.earlier.items j [])
