-- Bars and what they cover.
use Rattle.std.proofs.Common.{◌≡◌, ℕ, zero, suc, ◌<◌, ◌⊎◌, List, [], ◌∷◌, ◌++◌, length, Some, refl, ap, sym, ◌∙◌, subst, ⊎_elim, inl, inr, arith, get_or}
use Rattle.std.specs.Prelude.{slice_get}
use Rattle.std.specs.List.{All, Contains}
use Rattle.std.specs.List.Sorted.{IsPermutation, IsNonDecreasingBy}
use Rattle.std.proofs.lemmas.List.Sorted.{Contains-permutation}
use Rattle.std.proofs.lemmas.Option.{get_or_from_slice_get, slice_get_within, slice_get-get_or, same_Some}
use Rattle.frame_placing.specs.Bars.{AreBars, IsCovered, IsInBar}
use Rattle.frame_placing.specs.declared.bars.Bar.{Bar}

-- ---- one more at the end

pub last_here : {X : Type 0} (xs : List X) (x : X) → slice_get (xs ++ x ∷ []) (length xs) ≡ Some x
last_here [] x = refl
last_here (y ∷ ys) x = last_here ys x

pub front_here : {X : Type 0} (xs zs : List X) (a : ℕ) (y : X) → slice_get xs a ≡ Some y → slice_get (xs ++ zs) a ≡ Some y
front_here [] zs a y e = absurd (cc)
front_here (x ∷ xs) zs zero y e = e
front_here (x ∷ xs) zs (suc a) y e = front_here xs zs a y e

pub push_cases : {X : Type 0} (xs : List X) (x : X) (a : ℕ) (y : X) → slice_get (xs ++ x ∷ []) a ≡ Some y → (slice_get xs a ≡ Some y) ⊎ ((a ≡ length xs) × (y ≡ x))
push_cases [] x zero y e = inr (refl, same_Some y x (sym e))
push_cases [] x (suc a) y e = absurd (cc)
push_cases (z ∷ xs) x zero y e = inl e
push_cases (z ∷ xs) x (suc a) y e = ⊎_elim (λ h. inl h) (λ p. inr (ap suc p.0, p.1)) (push_cases xs x a y e)

-- ---- bars and what they cover

pub covered_at : (bars : List Bar) (a : ℕ) (x : Bar) (byte : ℕ) → slice_get bars a ≡ Some x → IsInBar byte x → IsCovered bars byte
covered_at bars a x byte is h = record { at = a; bar = x; is_there = is; inside = h }

pub none_covered : (byte : ℕ) → IsCovered [] byte → ⊥
none_covered byte c = let e = c.is_there in absurd (cc)

pub covered_front : (bars : List Bar) (x : Bar) (byte : ℕ) → IsCovered bars byte → IsCovered (bars ++ x ∷ []) byte
covered_front bars x byte c = covered_at (bars ++ x ∷ []) c.at c.bar byte (front_here bars (x ∷ []) c.at c.bar c.is_there) c.inside

pub covered_last : (bars : List Bar) (x : Bar) (byte : ℕ) → IsInBar byte x → IsCovered (bars ++ x ∷ []) byte
covered_last bars x byte h = covered_at (bars ++ x ∷ []) (length bars) x byte (last_here bars x) h

pub covered_cases : (bars : List Bar) (x : Bar) (byte : ℕ) → IsCovered (bars ++ x ∷ []) byte → IsCovered bars byte ⊎ IsInBar byte x
covered_cases bars x byte c =
    ⊎_elim (λ h. inl (covered_at bars c.at c.bar byte h c.inside)) (λ p. inr (subst (IsInBar byte) p.1 c.inside)) (push_cases bars x c.at c.bar c.is_there)

pub no_bars : AreBars []
no_bars = record { rise = λ a b x y e f le. absurd (cc); are_filled = λ a x e. absurd (cc) }

-- ---- sorted lists of bars

pub bars_from : (bars : List Bar) → IsNonDecreasingBy (λ (x : Bar). x.start) bars → All (λ (x : Bar). x.start < x.end) bars → AreBars bars
bars_from bars up full = record {
  rise = λ a b x y e f le.
      let lt = slice_get_within bars b y f in
      let h = up a b x le lt in
      let one = ap (λ (w : Bar). w.start) (get_or_from_slice_get bars a x x e) in
      let two = ap (λ (w : Bar). w.start) (get_or_from_slice_get bars b y x f) in
      omega (arith, h, one, two);
  are_filled = λ a x e. let lt = slice_get_within bars a x e in subst (λ (w : Bar). w.start < w.end) (get_or_from_slice_get bars a x x e) (full a x lt);
}

pub starts_rise : (bars : List Bar) → AreBars bars → IsNonDecreasingBy (λ (x : Bar). x.start) bars
starts_rise bars h i j d le lt = h.rise i j (get_or bars i d) (get_or bars j d) (slice_get-get_or bars i d (omega (arith, le, lt))) (slice_get-get_or bars j d lt) le

pub all_filled : (bars : List Bar) → AreBars bars → All (λ (x : Bar). x.start < x.end) bars
all_filled bars h k d lt = h.are_filled k (get_or bars k d) (slice_get-get_or bars k d lt)

contained : (bars : List Bar) (a : ℕ) (x : Bar) → slice_get bars a ≡ Some x → Contains bars x
contained bars a x e = (a, slice_get_within bars a x e, get_or_from_slice_get bars a x x e)

pub covered_from : (bars : List Bar) (x : Bar) (byte : ℕ) → Contains bars x → IsInBar byte x → IsCovered bars byte
covered_from bars x byte c i = covered_at bars c.0 x byte (slice_get-get_or bars c.0 x c.1 ∙ ap (λ (w : Bar). Some w) c.2) i

pub covered_permuted : (xs ys : List Bar) (byte : ℕ) → IsPermutation xs ys → IsCovered xs byte → IsCovered ys byte
covered_permuted xs ys byte p c = covered_from ys c.bar byte (Contains-permutation xs ys c.bar p (contained xs c.at c.bar c.is_there)) c.inside

pub covered_first : (bars : List Bar) (x : Bar) (byte : ℕ) → IsCovered (x ∷ bars) byte → IsCovered bars byte ⊎ IsInBar byte x
covered_first bars x byte c = go c.at c.is_there
  where
    go : (a : ℕ) → slice_get (x ∷ bars) a ≡ Some c.bar → IsCovered bars byte ⊎ IsInBar byte x
    go zero e = inr (subst (IsInBar byte) (same_Some c.bar x (sym e)) c.inside)
    go (suc a) e = inl (covered_at bars a c.bar byte e c.inside)
