-- Going up past bars to the least offset that meets none.
use Rattle.std.proofs.Common.{◌⊎◌, ◌≡◌, ℕ, ◌+◌, ◌%◌, ◌-◌, ◌<◌, ◌≤◌, List, length, max, Some, ap, sym, ◌∙◌, subst, ⊎_elim, arith}
use Rattle.std.specs.Prelude.{slice_get}
use Rattle.std.proofs.lemmas.Bool.{cases_lt}
use Rattle.std.proofs.lemmas.Option.{slice_get_within, same_Some}
use Rattle.frame_placing.specs.Bars.{AreBars, IsCovered, IsFloor, IsFree, IsLeastFree, IsMore, IsNextAligned, IsNoneAligned}
use Rattle.frame_placing.specs.Placed.{IsByteOf}
use Rattle.frame_placing.specs.declared.bars.Bar.{Bar}

-- the first bars end at or before the offset, and no lower one meets none
pub record IsPassing (bars : List Bar) (size align last done at : ℕ) : Type 0 where
  pub from_header : 16 ≤ at
  pub not_past : at ≤ last
  pub aligned : at % align ≡ 0
  pub behind : (a : ℕ) (x : Bar) → a < done → slice_get bars a ≡ Some x → x.end ≤ at
  pub least : (y : ℕ) → IsFree bars size align y → at ≤ y

pub passing_begins : (bars : List Bar) (size align from last at : ℕ) → IsFloor bars size align from → IsNextAligned from align last at → IsPassing bars size align last 0 at
passing_begins bars size align from last at f h = record {
  from_header = let a = f.from_header in let b = h.from_on in omega (arith, a, b);
  not_past = h.not_past;
  aligned = h.aligned;
  behind = λ a x lt is. absurd (omega (arith, lt));
  least = λ y free. h.least y (f.below y free) free.aligned;
}

-- a bar that the offset meets is behind each that meets none
pub bar_behind : (bars : List Bar) (size align last done at : ℕ) (bar : Bar) (y : ℕ) → AreBars bars → 0 < size → IsPassing bars size align last done at → slice_get bars done ≡ Some bar →
    bar.start < at + size → IsFree bars size align y → bar.end ≤ y
bar_behind bars size align last done at bar y are pos h is meets free =
    ⊎_elim
    (λ (lt : y < bar.end).
    let low = h.least y free in
    let full = are.are_filled done bar is in
    let inside : IsByteOf (max y bar.start) y size = (omega arith, omega arith) in
    let there : IsCovered bars (max y bar.start) = record { at = done; bar = bar; is_there = is; inside = (omega arith, omega (arith, lt, full)) } in
    absurd (free.apart (max y bar.start) inside there))
    (λ (ge : bar.end ≤ y). ge)
    (cases_lt y bar.end)

-- the bars up to one more are behind
more_behind : (bars : List Bar) (done at : ℕ) (bar : Bar) → ((a : ℕ) (x : Bar) → a < done → slice_get bars a ≡ Some x → x.end ≤ at) → slice_get bars done ≡ Some bar → bar.end ≤ at →
    (a : ℕ) (x : Bar) → a < done + 1 → slice_get bars a ≡ Some x → x.end ≤ at
more_behind bars done at bar before is le a x lt there =
    ⊎_elim
    (λ (less : a < done). before a x less there)
    (λ (ge : done ≤ a).
    let same : a ≡ done = omega (arith, lt, ge) in
    let one : x ≡ bar = same_Some x bar (sym there ∙ ap (slice_get bars) same ∙ is) in
    subst (λ (b : Bar). b.end ≤ at) (sym one) le)
    (cases_lt a done)

pub passing_kept : (bars : List Bar) (size align last done at : ℕ) (bar : Bar) → IsPassing bars size align last done at → slice_get bars done ≡ Some bar → bar.end ≤ at → IsPassing bars size align last (done + 1) at
passing_kept bars size align last done at bar h is le = record {
  from_header = h.from_header;
  not_past = h.not_past;
  aligned = h.aligned;
  behind = more_behind bars done at bar h.behind is le;
  least = h.least;
}

pub passing_raised : (bars : List Bar) (size align last done at new : ℕ) (bar : Bar) → AreBars bars → 0 < size → IsPassing bars size align last done at → slice_get bars done ≡ Some bar →
    bar.start < at + size → at < bar.end → IsNextAligned bar.end align last new → IsPassing bars size align last (done + 1) new
passing_raised bars size align last done at new bar are pos h is meets below next = record {
  from_header = let a = h.from_header in let b = next.from_on in omega (arith, a, b, below);
  not_past = next.not_past;
  aligned = next.aligned;
  behind = more_behind bars done new bar (λ a x lt there. let e = h.behind a x lt there in let b = next.from_on in omega (arith, e, b, below)) is next.from_on;
  least = λ y free. next.least y (bar_behind bars size align last done at bar y are pos h is meets free) free.aligned;
}

-- where the bar that is met leaves no room, there is none
pub none_passes : (bars : List Bar) (size align limit last done at : ℕ) (bar : Bar) → AreBars bars → 0 < size → size ≤ limit → last ≡ limit - size → IsPassing bars size align last done at → slice_get bars done ≡ Some bar →
    bar.start < at + size → IsNoneAligned bar.end align last → (x : ℕ) → IsFree bars size align x → limit < x + size
none_passes bars size align limit last done at bar are pos le is_last h is meets none x free =
    let past = none x (bar_behind bars size align last done at bar x are pos h is meets free) free.aligned in
    omega (arith, past, is_last, le)

-- before a bar that begins behind the field, or behind all bars, it meets none
stands_free : (bars : List Bar) (size align last done at : ℕ) → IsPassing bars size align last done at → ((a : ℕ) (x : Bar) → done ≤ a → slice_get bars a ≡ Some x → at + size ≤ x.start) → IsLeastFree bars size align at
stands_free bars size align last done at h later = record {
  is_free = record {
    from_header = h.from_header;
    aligned = h.aligned;
    apart = λ byte inside there.
        ⊎_elim
        (λ (lt : there.at < done). let e = h.behind there.at there.bar lt there.is_there in let t = there.inside.1 in let i = inside.0 in omega (arith, e, t, i))
        (λ (ge : done ≤ there.at). let e = later there.at there.bar ge there.is_there in let t = there.inside.0 in let i = inside.1 in omega (arith, e, t, i))
        (cases_lt there.at done);
  };
  least = h.least;
}

pub passing_stops : (bars : List Bar) (size align last done at : ℕ) (bar : Bar) → AreBars bars → IsPassing bars size align last done at → slice_get bars done ≡ Some bar → at + size ≤ bar.start → IsLeastFree bars size align at
passing_stops bars size align last done at bar are h is before =
    stands_free bars size align last done at h (λ a x ge there. let up = are.rise done a bar x is there ge in omega (arith, up, before))

pub passing_ends : (bars : List Bar) (size align last done at : ℕ) → length bars ≤ done → IsPassing bars size align last done at → IsLeastFree bars size align at
passing_ends bars size align last done at all h =
    stands_free bars size align last done at h (λ a x ge there. let lt = slice_get_within bars a x there in absurd (omega (arith, lt, all, ge)))

-- where no multiple is left, there is no room
pub none_left : (bars : List Bar) (size align from limit last : ℕ) → size ≤ limit → last ≡ limit - size → IsFloor bars size align from → IsNoneAligned from align last → (x : ℕ) → IsFree bars size align x → limit < x + size
none_left bars size align from limit last le is f none x free = let past = none x (f.below x free) free.aligned in omega (arith, past, is, le)

-- a field of no bytes meets none
pub nothing_met : (bars : List Bar) (size align from last at : ℕ) → size ≡ 0 → IsFloor bars size align from → IsNextAligned from align last at → IsLeastFree bars size align at
nothing_met bars size align from last at none f next = record {
  is_free = record {
    from_header = let a = f.from_header in let b = next.from_on in omega (arith, a, b);
    aligned = next.aligned;
    apart = λ byte inside there. let a = inside.0 in let b = inside.1 in omega (arith, a, b, none);
  };
  least = λ y free. next.least y (f.below y free) free.aligned;
}

-- ---- offsets below which none is free

pub header_floor : (bars : List Bar) (size align : ℕ) → IsFloor bars size align 16
header_floor bars size align = record { from_header = omega arith; below = λ x free. free.from_header }

pub same_floor : (bars : List Bar) (size align offset size2 align2 from : ℕ) → IsFloor bars size align offset → ((size ≡ size2) × ((align ≡ align2) × (from ≡ offset))) ⊎ (from ≡ 16) → IsFloor bars size2 align2 from
same_floor bars size align offset size2 align2 from f h = ⊎_elim
    (λ p. subst (IsFloor bars size2 align2) (sym p.1.1) (subst (λ (a : ℕ). IsFloor bars size2 a offset) p.1.0 (subst (λ (s : ℕ). IsFloor bars s align offset) p.0 f)))
    (λ e. subst (IsFloor bars size2 align2) (sym e) (header_floor bars size2 align2))
    h

-- where a field was placed is a floor for the next one that needs the same
pub next_floor : (bars all : List Bar) (more : Bar) (size align x : ℕ) → IsMore bars more all → IsLeastFree bars size align x → IsFloor all size align x
next_floor bars all more size align x m h = record {
  from_header = h.is_free.from_header;
  below = λ y free. h.least y (record { from_header = free.from_header; aligned = free.aligned; apart = λ byte i c. free.apart byte i (m.has_others byte c) });
}
