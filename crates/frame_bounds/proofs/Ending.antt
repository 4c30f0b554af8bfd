-- The plain layout ends no later than all sizes and alignments take behind the header.
use Rattle.std.proofs.Common.{◌≡◌, ℕ, zero, suc, ◌+◌, ◌-◌, ◌%◌, ◌<◌, ◌≤◌, ◌⊎◌, Bool, true, false, List, [], ◌∷◌, length, max, Option, refl, sym, ⊎_elim, inl, inr, arith}
use Rattle.std.specs.Prelude.{IsTrue, IsFalse, slice_index}
use Rattle.std.proofs.lemmas.Bool.{both_ways, cases_Bool, cases_lt}
use Rattle.std.proofs.lemmas.Nat.{mod_below}
use Rattle.frame_placing.proofs.Aligned.{IsRest, rest_aligned}
use Rattle.frame_placing.proofs.Firsts.{is_order}
use Rattle.frame_placing.proofs.Greatest.{end_within}
use Rattle.frame_placing.proofs.Ranks.{rank, rank_rises, rank_within}
use Rattle.frame_placing.specs.Ends.{end_of}
use Rattle.frame_placing.specs.Placed.{Always, CanStand, IsByteOf, IsItsPlace, IsPlaced, IsTaken}
use Rattle.frame_placing.specs.Rooms.{alignment_at, comes_first, is_promise, size_at}
use Rattle.frame_placing.specs.declared.room.Room.{Room}
use Rattle.frame_bounds.proofs.Sums.{any, weigh, weigh_same, weigh_shift, weigh_none, weigh_with}

-- how far the next multiple is
rest_of : (from align : ℕ) → 0 < align → (more : ℕ) × (IsRest from align more × (more < align))
rest_of from align pos =
    let below = mod_below from align pos in
    ⊎_elim
    (λ (some : 0 < from % align). let more : ℕ = align - from % align in (more, (inr (some, omega (arith, below)), omega (arith, some, below))))
    (λ (none : from % align ≤ 0). (0, (inl (omega (arith, none), refl), pos)))
    (cases_lt 0 (from % align))

-- what a field takes at most
abbrev pub weight : List Room → ℕ → ℕ
weight rooms k = size_at rooms k + alignment_at rooms k

abbrev before : List Room → Option ℕ → ℕ → ℕ
before rooms promise k = weigh (λ j. comes_first rooms promise j k) (weight rooms) (length rooms)

abbrev pub all_weights : List Room → ℕ
all_weights rooms = weigh any (weight rooms) (length rooms)

not_itself : (rooms : List Room) (promise : Option ℕ) (k : ℕ) → comes_first rooms promise k k ≡ false
not_itself rooms promise k = ⊎_elim (λ e. (is_order rooms promise).one_way k k e) (λ e. e) (cases_Bool (comes_first rooms promise k k))

follows : (rooms : List Room) (promise : Option ℕ) (i j k : ℕ) → comes_first rooms promise i j ≡ true → comes_first rooms promise j k ≡ true → comes_first rooms promise i k ≡ true
follows rooms promise i j k e f = ⊎_elim
    (λ yes. yes)
    (λ no. absurd (both_ways (comes_first rooms promise i j) ((is_order rooms promise).chain i k j no ((is_order rooms promise).one_way j k f)) e))
    (cases_Bool (comes_first rooms promise i k))

-- what comes before a field weighs less
before_rises : (rooms : List Room) (promise : Option ℕ) (j k : ℕ) → j < length rooms → comes_first rooms promise j k ≡ true → before rooms promise j + weight rooms j ≤ before rooms promise k
before_rises rooms promise j k lt first =
    weigh_with (λ i. comes_first rooms promise i j) (λ i. comes_first rooms promise i k) (weight rooms) (length rooms) j (λ i e. follows rooms promise i j k e first) lt (not_itself rooms promise j) first

within_all : (rooms : List Room) (promise : Option ℕ) (k : ℕ) → k < length rooms → before rooms promise k + weight rooms k ≤ all_weights rooms
within_all rooms promise k lt =
    weigh_with (λ i. comes_first rooms promise i k) any (weight rooms) (length rooms) k (λ i e. refl) lt (not_itself rooms promise k) refl

-- the field ends no later, where those before it do
field_ends : (rooms : List Room) (promise : Option ℕ) (offsets : List ℕ) (k : ℕ) → IsItsPlace rooms promise Always offsets k (slice_index offsets k) →
    ((j : ℕ) → j < length rooms → comes_first rooms promise j k ≡ true → slice_index offsets j + size_at rooms j ≤ 16 + before rooms promise j + weight rooms j) →
    slice_index offsets k + size_at rooms k ≤ 16 + before rooms promise k + weight rooms k
field_ends rooms promise offsets k place others = ⊎_elim by_promise by_others (cases_Bool (is_promise promise k))
  where
    by_promise : is_promise promise k ≡ true → slice_index offsets k + size_at rooms k ≤ 16 + before rooms promise k + weight rooms k
    by_promise is = let at = place.promise_behind_header is in omega (arith, at)

    by_others : is_promise promise k ≡ false → slice_index offsets k + size_at rooms k ≤ 16 + before rooms promise k + weight rooms k
    by_others is =
        let pos : 0 < alignment_at rooms k = omega arith in
        let rest = rest_of (16 + before rooms promise k) (alignment_at rooms k) pos in
        let y : ℕ = 16 + before rooms promise k + rest.0 in
        let stands : CanStand rooms promise Always offsets k y = record {
          from_header = omega arith;
          aligned = rest_aligned (16 + before rooms promise k) (alignment_at rooms k) rest.0 pos rest.1.0;
          apart = λ byte own taken.
              let ends = others taken.by taken.is_field taken.is_before in
              let rises = before_rises rooms promise taken.by k taken.is_field taken.is_before in
              let own_from = own.0 in
              let taken_below = taken.is_its.1 in
              absurd (omega (arith, ends, rises, own_from, taken_below));
        } in
        let least = place.least is y stands in
        let less = rest.1.1 in
        omega (arith, least, less)

fields_end : (rooms : List Room) (promise : Option ℕ) (offsets : List ℕ) → IsPlaced rooms promise Always offsets → (n k : ℕ) → rank rooms promise k < n → k < length rooms →
    slice_index offsets k + size_at rooms k ≤ 16 + before rooms promise k + weight rooms k
fields_end rooms promise offsets placed zero k below lt = absurd (omega (arith, below))
fields_end rooms promise offsets placed (suc n) k below lt =
    field_ends rooms promise offsets k (placed.each k lt) (λ j inside first. fields_end rooms promise offsets placed n j (let rises = rank_rises rooms promise j k inside first in omega (arith, rises, below)) inside)

-- the plain layout ends at the header and all weights at the latest
pub plain_ends : (rooms : List Room) (promise : Option ℕ) (offsets : List ℕ) → IsPlaced rooms promise Always offsets → end_of rooms offsets ≤ 16 + all_weights rooms
plain_ends rooms promise offsets placed = end_within rooms offsets (16 + all_weights rooms) (length rooms) (omega arith) (λ k lt.
    let ends = fields_end rooms promise offsets placed (suc (length rooms)) k (let within = rank_within rooms promise k in omega (arith, within)) lt in
    let all = within_all rooms promise k lt in
    omega (arith, ends, all))

-- ---- the weights as a sum over the list

abbrev pub total : List Room → ℕ
total [] = 0
total (r ∷ rs) = r.size + max r.align 1 + total rs

pub weights_total : (rooms : List Room) → all_weights rooms ≡ total rooms
weights_total [] = weigh_none any (weight [])
weights_total (r ∷ rs) =
    let shift = weigh_shift (weight (r ∷ rs)) (length rs) in
    let same = weigh_same (λ k. weight (r ∷ rs) (suc k)) (weight rs) (length rs) (λ k. refl) in
    let rest = weights_total rs in
    omega (arith, shift, same, rest)
