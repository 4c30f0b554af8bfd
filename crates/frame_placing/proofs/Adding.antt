-- Covering the bytes of one more bar.
use Rattle.std.proofs.Common.{◌≡◌, ℕ, suc, ◌+◌, ◌<◌, ◌≤◌, refl, List, ◌∷◌, length, max, Some, ap, sym, ◌∙◌, subst, ⊎_elim, inl, inr, arith, get_or, true, false}
use Rattle.std.specs.Prelude.{slice_get, slice_set, nat_lt}
use Rattle.std.specs.List.{insert}
use Rattle.std.specs.List.Sorted.{IsPartitionPoint, IsPermutation}
use Rattle.std.proofs.lemmas.Bool.{cases_eq, cases_lt, ltb-true, ltb-false}
use Rattle.std.proofs.lemmas.List.Elements.{All-cons}
use Rattle.std.proofs.lemmas.List.Sorted.{All-permutation, IsNonDecreasingBy-insert, IsPermutation-insert, IsPermutation-sym}
use Rattle.std.proofs.lemmas.Option.{same_Some, slice_get-get_or, slice_get_within}
use Rattle.frame_placing.specs.Bars.{AreBars, IsInBar, IsMore}
use Rattle.frame_placing.specs.declared.bars.Bar.{Bar}
use Rattle.frame_placing.proofs.Covers.{all_filled, bars_from, covered_at, covered_first, covered_permuted, starts_rise}
use Rattle.frame_placing.proofs.Places.{set_cases, set_here, set_other}

pub put_between : (bars all : List Bar) (more : Bar) (at : ℕ) → AreBars bars → more.start < more.end → at ≤ length bars →
    IsPartitionPoint (λ (y : Bar). nat_lt y.start more.start ≡ true) (λ (y : Bar). nat_lt y.start more.start ≡ false) bars at → all ≡ insert bars at more → IsMore bars more all
put_between bars all more at h full le split is = subst (IsMore bars more) (sym is) (record {
  are_bars = bars_from (insert bars at more)
      (IsNonDecreasingBy-insert (λ (x : Bar). x.start) bars at more (starts_rise bars h) le
      (λ k d lt. let less = ltb-true (get_or bars k d).start more.start (split.0 k d (omega arith) lt) in omega (arith, less))
      (λ k d ge lt. ltb-false (get_or bars k d).start more.start (split.1 k d ge lt)))
      (All-permutation (λ (x : Bar). x.start < x.end) (more ∷ bars) (insert bars at more) moved (All-cons (λ (x : Bar). x.start < x.end) more bars full (all_filled bars h)));
  told = λ byte c. covered_first bars more byte (covered_permuted (insert bars at more) (more ∷ bars) byte (IsPermutation-sym (more ∷ bars) (insert bars at more) moved) c);
  has_others = λ byte c. covered_permuted (more ∷ bars) (insert bars at more) byte moved (record { at = c.at + 1; bar = c.bar; is_there = later c.at c.bar c.is_there; inside = c.inside });
  has_more = λ byte i. covered_permuted (more ∷ bars) (insert bars at more) byte moved (record { at = 0; bar = more; is_there = refl; inside = i });
})
  where
    moved : IsPermutation (more ∷ bars) (insert bars at more)
    moved = IsPermutation-insert bars at more

    later : (a : ℕ) (x : Bar) → slice_get bars a ≡ Some x → slice_get (more ∷ bars) (a + 1) ≡ Some x
    later a x e = let one : a + 1 ≡ suc a = omega arith in ap (slice_get (more ∷ bars)) one ∙ e

-- ---- the one before made wider

widened : (bars : List Bar) (i : ℕ) (before more wide : Bar) → AreBars bars → slice_get bars i ≡ Some before → before.start ≤ more.start → more.start ≤ before.end → more.start < more.end → wide.start ≡ before.start →
    wide.end ≡ max before.end more.end → IsMore bars more (slice_set bars i wide)
widened bars i before more wide h here low meets full start end = record {
  are_bars = record {
    rise = λ a b x y e f le. let p = old_start a x e in let q = old_start b y f in let up = h.rise a b p.0 q.0 p.1 q.1 le in let r = p.2 in let s = q.2 in omega (arith, up, r, s);
    are_filled = λ a x e. ⊎_elim
        (λ p. let one = h.are_filled i before here in subst (λ (w : Bar). w.start < w.end) (sym p.1) (omega (arith, one, start, end)))
        (λ p. h.are_filled a x p.0)
        (set_cases bars i a wide x e);
  };
  told = λ byte c. ⊎_elim
      (λ p. let k = subst (IsInBar byte) p.1 c.inside in let k0 = k.0 in let k1 = k.1 in ⊎_elim
      (λ (lt : byte < before.end). inl (covered_at bars i before byte here (omega (arith, k0, start), lt)))
      (λ (ge : before.end ≤ byte). inr (omega (arith, ge, meets), omega (arith, ge, k1, end)))
      (cases_lt byte before.end))
      (λ p. inl (covered_at bars c.at c.bar byte p.0 c.inside))
      (set_cases bars i c.at wide c.bar c.is_there);
  has_others = λ byte c. ⊎_elim
      (λ same. let one : c.bar ≡ before = same_Some c.bar before (sym c.is_there ∙ (ap (slice_get bars) same ∙ here)) in
      let k = subst (IsInBar byte) one c.inside in let k0 = k.0 in let k1 = k.1 in covered_at (slice_set bars i wide) i wide byte now (omega (arith, k0, start), omega (arith, k1, end)))
      (λ other. covered_at (slice_set bars i wide) c.at c.bar byte (set_other bars i c.at wide other ∙ c.is_there) c.inside)
      (cases_eq c.at i);
  has_more = λ byte k. let k0 = k.0 in let k1 = k.1 in covered_at (slice_set bars i wide) i wide byte now (omega (arith, k0, low, start), omega (arith, k1, end));
}
  where
    now : slice_get (slice_set bars i wide) i ≡ Some wide
    now = set_here bars i wide (slice_get_within bars i before here)

    old_start : (a : ℕ) (x : Bar) → slice_get (slice_set bars i wide) a ≡ Some x → (w : Bar) × (slice_get bars a ≡ Some w) × (w.start ≡ x.start)
    old_start a x e = ⊎_elim
        (λ p. (before, ap (slice_get bars) p.0 ∙ here, sym start ∙ ap (λ (w : Bar). w.start) (sym p.1)))
        (λ p. (x, p.0, refl))
        (set_cases bars i a wide x e)

pub made_wider : (bars all : List Bar) (more before : Bar) (at i end : ℕ) → AreBars bars → more.start < more.end → IsPartitionPoint (λ (y : Bar). nat_lt y.start more.start ≡ true) (λ (y : Bar). nat_lt y.start more.start ≡ false) bars at →
    at ≤ length bars → i < at → before ≡ get_or bars i before → more.start ≤ before.end → end ≡ max before.end more.end → all ≡ slice_set bars i (record { start = before.start; end = end }) → IsMore bars more all
made_wider bars all more before at i end h full split le lt is meets is_end is_all =
    let here : slice_get bars i ≡ Some before = slice_get-get_or bars i before (omega (arith, lt, le)) ∙ ap (λ (w : Bar). Some w) (sym is) in
    let less = ltb-true (get_or bars i before).start more.start (split.0 i before (omega arith) lt) in
    let same = ap (λ (w : Bar). w.start) is in
    subst (IsMore bars more) (sym is_all) (widened bars i before more (record { start = before.start; end = end }) h here (omega (arith, less, same)) meets full refl is_end)
