-- Pairs of values and numbers of suspends are of those that cross, by their numbers.
use Rattle.std.proofs.Common.{◌≡◌, inl, inr, ⊎_elim, ℕ, zero, suc, ◌+◌, List, ◌∷◌, Some, refl, sym, ap, ◌∙◌, subst, arith}
use Rattle.std.specs.Prelude.{slice_get}
use Rattle.compiler.specs.flow_solver.Paths.{IsListed}
use Rattle.compiler.specs.frame_crossing.Crossing.{AreCrossed, CrossedBy, Crosses, LeftOut, More, NoMore, Nothing, Taken, suspends_of}
use Rattle.compiler.proofs.ir_laws.paths.source_rules.Locals.{listed_either, listed_left, listed_right}
use Rattle.compiler.specs.ir_model.declared.module.Function.{Function}
use Rattle.compiler.specs.ir_paths.declared.point.Point.{Point}

module _ (f : Function) where
  -- ---- a value that crosses is paired

  crossed_paired : (v k : ℕ) (ss : List Point) (all : List (ℕ × ℕ)) → AreCrossed f v k ss all → (j : ℕ) (s : Point)
      → slice_get ss j ≡ Some s → Crosses f v s → IsListed {X = ℕ × ℕ} (v, k + j) all
  crossed_paired v k _ _ (NoMore _) j s e c = absurd (cc)
  crossed_paired v k _ _ (Taken _ x ss all crosses rest) zero s e c =
      let here : k + 0 ≡ k = omega arith in
      inl (ap (λ (n : ℕ). (v, n)) here)
  crossed_paired v k _ _ (Taken _ x ss all crosses rest) (suc j) s e c =
      let next : k + 1 + j ≡ k + suc j = omega arith in
      inr (subst (λ (n : ℕ). IsListed {X = ℕ × ℕ} (v, n) all) next (crossed_paired v (k + 1) ss all rest j s e c))
  crossed_paired v k _ _ (LeftOut _ x ss all never rest) zero s e c =
      let same : x ≡ s = cc in absurd (never (subst (Crosses f v) (sym same) c))
  crossed_paired v k _ _ (LeftOut _ x ss all never rest) (suc j) s e c =
      let next : k + 1 + j ≡ k + suc j = omega arith in
      subst (λ (n : ℕ). IsListed {X = ℕ × ℕ} (v, n) all) next (crossed_paired v (k + 1) ss all rest j s e c)

  pub value_paired : (vs : List ℕ) (all : List (ℕ × ℕ)) → CrossedBy f vs all → (v : ℕ) → IsListed v vs → (j : ℕ)
      (s : Point) → slice_get (suspends_of f) j ≡ Some s → Crosses f v s → IsListed {X = ℕ × ℕ} (v, j) all
  value_paired _ _ Nothing v l j s e c = absurd l
  value_paired _ _ (More u vs here rest first more) v (inl same) j s e c =
      let one = crossed_paired u 0 (suspends_of f) here first j s e (subst (λ (n : ℕ). Crosses f n s) same c) in
      let start : 0 + j ≡ j = omega arith in
      listed_left {A = ℕ × ℕ} (v, j) here rest
      (subst (λ (n : ℕ). IsListed {X = ℕ × ℕ} (n, j) here) (sym same)
      (subst (λ (n : ℕ). IsListed {X = ℕ × ℕ} (u, n) here) start one))
  value_paired _ _ (More u vs here rest first more) v (inr l) j s e c =
      listed_right {A = ℕ × ℕ} (v, j) here rest (value_paired vs rest more v l j s e c)

  -- ---- a value that is paired crosses

  record IsCrossed (v k : ℕ) (ss : List Point) (u n : ℕ) : Type 0 where
    value : u ≡ v
    at : ℕ
    number : n ≡ k + at
    suspend : Point
    there : slice_get ss at ≡ Some suspend
    crosses : Crosses f v suspend

  further : (v k : ℕ) (s : Point) (ss : List Point) (u n : ℕ) → IsCrossed v (k + 1) ss u n → IsCrossed v k (s ∷ ss) u n
  further v k s ss u n x =
      let number = x.number in
      record {
        value = x.value;
        at = suc x.at;
        number = omega (arith, number);
        suspend = x.suspend;
        there = x.there;
        crosses = x.crosses;
      }

  crossed_was : (v k : ℕ) (ss : List Point) (all : List (ℕ × ℕ)) → AreCrossed f v k ss all → (u n : ℕ)
      → IsListed {X = ℕ × ℕ} (u, n) all → IsCrossed v k ss u n
  crossed_was v k _ _ (NoMore _) u n l = absurd l
  crossed_was v k _ _ (Taken _ x ss all crosses rest) u n (inl e) =
      let number : n ≡ k = ap (λ (p : ℕ × ℕ). p.1) e in
      record {
        value = ap (λ (p : ℕ × ℕ). p.0) e;
        at = 0;
        number = omega (arith, number);
        suspend = x;
        there = refl;
        crosses = crosses;
      }
  crossed_was v k _ _ (Taken _ x ss all crosses rest) u n (inr l) =
      further v k x ss u n (crossed_was v (k + 1) ss all rest u n l)
  crossed_was v k _ _ (LeftOut _ x ss all never rest) u n l =
      further v k x ss u n (crossed_was v (k + 1) ss all rest u n l)

  pub pair_crosses : (vs : List ℕ) (all : List (ℕ × ℕ)) → CrossedBy f vs all → (v j : ℕ) (s : Point)
      → slice_get (suspends_of f) j ≡ Some s → IsListed {X = ℕ × ℕ} (v, j) all → Crosses f v s
  pair_crosses _ _ Nothing v j s e l = absurd l
  pair_crosses _ _ (More u vs here rest first more) v j s e l = ⊎_elim
      (λ one.
      let x = crossed_was u 0 (suspends_of f) here first v j one in
      let number = x.number in
      let at : x.at ≡ j = omega (arith, number) in
      let both : Some x.suspend ≡ Some s = sym x.there ∙ ap (slice_get (suspends_of f)) at ∙ e in
      let same : x.suspend ≡ s = cc in
      subst (λ (n : ℕ). Crosses f n s) (sym x.value) (subst (Crosses f u) same x.crosses))
      (λ (later : IsListed {X = ℕ × ℕ} (v, j) rest). pair_crosses vs rest more v j s e later)
      (listed_either {A = ℕ × ℕ} (v, j) here rest l)
