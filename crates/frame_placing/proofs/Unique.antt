-- Fields are placed at one list of offsets.
use Rattle.std.proofs.Common.{◌≡◌, ℕ, zero, suc, ◌<◌, List, length, Option, sym, ◌∙◌, arith}
use Rattle.std.specs.Prelude.{slice_index}
use Rattle.std.proofs.lemmas.Grind.{same_number_lists}
use Rattle.frame_placing.specs.Placed.{IsPlaced}
use Rattle.frame_placing.specs.declared.room.Room.{Room}
use Rattle.frame_placing.proofs.Ranks.{rank, rank_rises, rank_within}
use Rattle.frame_placing.proofs.Stepping.{one_place, place_moved}

same_below : (rooms : List Room) (promise : Option ℕ) (Conflict : ℕ → ℕ → Type 0) (a b : List ℕ) → IsPlaced rooms promise Conflict a → IsPlaced rooms promise Conflict b →
    (m k : ℕ) → k < length rooms → rank rooms promise k < m → slice_index a k ≡ slice_index b k
same_below rooms promise Conflict a b p q zero k lt low = absurd (omega arith)
same_below rooms promise Conflict a b p q (suc m) k lt low =
    one_place rooms promise Conflict a k (slice_index a k) (slice_index b k) (p.each k lt)
    (place_moved rooms promise Conflict b a k (slice_index b k)
    (λ j less first. let r = rank_rises rooms promise j k less first in sym (same_below rooms promise Conflict a b p q m j less (omega (arith, r, low))))
    (q.each k lt))

pub placed_once : (rooms : List Room) (promise : Option ℕ) (Conflict : ℕ → ℕ → Type 0) (a b : List ℕ) → IsPlaced rooms promise Conflict a → IsPlaced rooms promise Conflict b → a ≡ b
placed_once rooms promise Conflict a b p q =
    let n = p.one_each in
    same_number_lists a b (p.one_each ∙ sym q.one_each)
    (λ k lt. let r = rank_within rooms promise k in same_below rooms promise Conflict a b p q (suc (length rooms)) k (omega (arith, lt, n)) (omega (arith, r)))
