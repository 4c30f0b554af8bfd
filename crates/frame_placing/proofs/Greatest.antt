-- The greatest end of the first fields.
use Rattle.std.proofs.Common.{◌≡◌, ℕ, zero, suc, ◌+◌, ◌<◌, ◌≤◌, List, max, refl, sym, ap, ◌∙◌, subst, ⊎_elim, arith}
use Rattle.std.specs.Prelude.{slice_index}
use Rattle.std.specs.Ordering.{nat_cmp, ord_max}
use Rattle.std.proofs.lemmas.Bool.{cases_lt}
use Rattle.std.proofs.lemmas.Bool.Decides.{nat_tests}
use Rattle.frame_placing.specs.Ends.{end_of_first}
use Rattle.frame_placing.specs.Rooms.{size_at}
use Rattle.frame_placing.specs.declared.room.Room.{Room}

pub end_of_none : (rooms : List Room) (offsets : List ℕ) → 16 ≡ end_of_first rooms offsets 0
unfolding end_of_first
end_of_none rooms offsets = refl

pub end_of_more : (rooms : List Room) (offsets : List ℕ) (k : ℕ) → end_of_first rooms offsets (suc k) ≡ max (end_of_first rooms offsets k) (slice_index offsets k + size_at rooms k)
unfolding end_of_first
end_of_more rooms offsets k = refl

pub end_next : (rooms : List Room) (offsets : List ℕ) (k end new : ℕ) → end ≡ end_of_first rooms offsets k → new ≡ max end (slice_index offsets k + size_at rooms k) → new ≡ end_of_first rooms offsets (k + 1)
end_next rooms offsets k end new is e =
    let one : suc k ≡ k + 1 = omega arith in
    e ∙ ap (λ (n : ℕ). max n (slice_index offsets k + size_at rooms k)) is ∙ sym (end_of_more rooms offsets k) ∙ ap (end_of_first rooms offsets) one

-- none of the fields ends behind it
pub ends_before : (rooms : List Room) (offsets : List ℕ) (n k : ℕ) → k < n → slice_index offsets k + size_at rooms k ≤ end_of_first rooms offsets n
ends_before rooms offsets zero k lt = absurd (omega arith)
ends_before rooms offsets (suc n) k lt =
    let step = end_of_more rooms offsets n in
    ⊎_elim
    (λ (less : k < n). let h = ends_before rooms offsets n k less in omega (arith, h, step))
    (λ (ge : n ≤ k). let same : k ≡ n = omega (arith, lt, ge) in
    subst (λ (z : ℕ). slice_index offsets z + size_at rooms z ≤ end_of_first rooms offsets (suc n)) (sym same) (omega (arith, step)))
    (cases_lt k n)

-- and where none ends behind a limit, it doesn't
pub end_within : (rooms : List Room) (offsets : List ℕ) (limit n : ℕ) → 16 ≤ limit → ((k : ℕ) → k < n → slice_index offsets k + size_at rooms k ≤ limit) → end_of_first rooms offsets n ≤ limit
end_within rooms offsets limit zero low h = let e = end_of_none rooms offsets in omega (arith, e, low)
end_within rooms offsets limit (suc n) low h =
    let before = end_within rooms offsets limit n low (λ k lt. h k (omega (arith, lt))) in
    let last = h n (omega arith) in
    let step = end_of_more rooms offsets n in
    omega (arith, before, last, step)

-- it lies behind the header
pub end_from : (rooms : List Room) (offsets : List ℕ) (n : ℕ) → 16 ≤ end_of_first rooms offsets n
end_from rooms offsets zero = let e = end_of_none rooms offsets in omega (arith, e)
end_from rooms offsets (suc n) = let h = end_from rooms offsets n in let step = end_of_more rooms offsets n in omega (arith, h, step)

pub greater_of : (a b : ℕ) → ord_max nat_cmp a b ≡ max a b
greater_of a b = grind (arith, nat_tests)
