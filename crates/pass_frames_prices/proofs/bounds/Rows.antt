-- A suspend has no more values that cross it than are kept.
use Rattle.std.proofs.Common.{◌≡◌, ◌⊎◌, inl, inr, ⊎_elim, ℕ, zero, suc, ◌+◌, ◌≤◌, Bool, true, false, List, [], ◌∷◌, ◌++◌, length, refl, sym, ap, ◌∙◌, subst, arith, append_assoc}
use Rattle.std.proofs.lemmas.List.{length-append}
use Rattle.std.specs.Prelude.{None, Option, Some, if◌then◌else◌, replicate, slice_get, slice_set, ◌==◌, ◌||◌}
use Rattle.pass_frames_proof.specs.flow_solver.Paths.{IsListed}
use Rattle.pass_frames_proof.specs.frame_crossing.Crossing.{AreCrossed, CrossedBy, LeftOut, More, NoMore, Nothing, Taken}
use Rattle.pass_frames_proof.specs.frame_crossing.Values.{all_defined, distinct, values_of, with_new}
use Rattle.pass_frames_proof.proofs.ir_laws.facts.Lists.{set_other}
use Rattle.pass_frames_proof.proofs.ir_laws.facts.Truth.{equal_numbers, not_equal}
use Rattle.pass_frames_proof.proofs.ir_laws.paths.edges.Lists.{joined_different}
use Rattle.pass_frames_proof.proofs.ir_laws.paths.source_rules.Locals.{listed_either}
use Rattle.pass_frames_proof.specs.ir_laws.paths.woven_rules.Pairs.{AreDifferent}
use Rattle.pass_frames_proof.specs.ir_model.declared.module.Function.{Function}
use Rattle.pass_frames_proof.specs.ir_paths.Slots.{has_name}
use Rattle.pass_frames_proof.specs.ir_paths.declared.point.Point.{Point}
use Rattle.pass_frames_proof.specs.pass_cells.Kept.{entry, row_or, rows_from, rows_of, with_pair, with_row_of}
use Rattle.pass_frames_proof.specs.pass_cells.Written.{row_at}
use Rattle.pass_frames_prices.proofs.bounds.Once.{few_of}
use Rattle.pass_frames_proof.proofs.code.Names.{Kept, count_is, keeping}
use Rattle.pass_frames_proof.specs.Framings.{IsFraming}
use Rattle.pass_frames_proof.specs.Places.{Framing, edged, plan}
use Rattle.pass_frames_proof.specs.pass_intrinsics.Shapes.{suspends_of}

-- ---- the values with a place that are paired with a suspend

abbrev pub placed_first : (o : Option ℕ) → ℕ → List ℕ
placed_first None v = []
placed_first (Some k) v = v ∷ []

abbrev pub first_of : List (Option ℕ) → ℕ → ℕ × ℕ → List ℕ
first_of places j p = if p.1 == j then placed_first (entry places p.0) p.0 else []

abbrev pub firsts : List (Option ℕ) → ℕ → List (ℕ × ℕ) → List ℕ
firsts places j [] = []
firsts places j (p ∷ ps) = first_of places j p ++ firsts places j ps

module _ (places : List (Option ℕ)) (j : ℕ) where
  abbrev many : List (List ℕ) → ℕ
  many rows = length (row_or (slice_get rows j))

  set_few : (rows : List (List ℕ)) (i : ℕ) (new : List ℕ)
      → length (row_or (slice_get (slice_set rows i new) i)) ≤ length new
  set_few [] i new = omega arith
  set_few (r ∷ rows) zero new = omega arith
  set_few (r ∷ rows) (suc i) new = set_few rows i new

  one_few : (rows : List (List ℕ)) (p : ℕ × ℕ) (o : Option ℕ) (b : Bool) → (p.1 == j) ≡ b
      → many (with_row_of rows p.1 o) ≤ many rows + length (if b then placed_first o p.0 else [])
  one_few rows p None true e = omega arith
  one_few rows p None false e = omega arith
  one_few rows p (Some k) true e =
      let same : p.1 ≡ j = equal_numbers p.1 j e in
      let new : List ℕ = row_or (slice_get rows p.1) ++ k ∷ [] in
      let a = set_few rows p.1 new in
      let b : many (slice_set rows p.1 new) ≡ length (row_or (slice_get (slice_set rows p.1 new) p.1)) =
      ap (λ (i : ℕ). length (row_or (slice_get (slice_set rows p.1 new) i))) (sym same) in
      let c : length (row_or (slice_get rows p.1)) ≡ many rows =
      ap (λ (i : ℕ). length (row_or (slice_get rows i))) same in
      let d = length-append (row_or (slice_get rows p.1)) (k ∷ []) in
      omega (arith, a, b, c, d)
  one_few rows p (Some k) false e =
      let new : List ℕ = row_or (slice_get rows p.1) ++ k ∷ [] in
      let a : many (slice_set rows p.1 new) ≡ many rows =
      ap (λ (o : Option (List ℕ)). length (row_or o)) (set_other rows p.1 j new (not_equal p.1 j e)) in
      omega (arith, a)

  all_few : (rows : List (List ℕ)) (ps : List (ℕ × ℕ))
      → many (rows_from places rows ps) ≤ many rows + length (firsts places j ps)
  all_few rows [] = omega arith
  all_few rows (p ∷ ps) =
      let a = one_few rows p (entry places p.0) (p.1 == j) refl in
      let b = all_few (with_pair places rows p.0 p.1) ps in
      let c = length-append (first_of places j p) (firsts places j ps) in
      omega (arith, a, b, c)

  none_many : (n i : ℕ) → length (row_or (slice_get (replicate {A = List ℕ} n []) i)) ≡ 0
  none_many zero i = refl
  none_many (suc n) zero = refl
  none_many (suc n) (suc i) = none_many n i

  pub rows_few : (n : ℕ) (ps : List (ℕ × ℕ)) → many (rows_of places n ps) ≤ length (firsts places j ps)
  rows_few n ps =
      let a = all_few (replicate n []) ps in
      let b = none_many n j in
      omega (arith, a, b)

  -- ---- each of these values has a place

  placed_is : (o : Option ℕ) (v w : ℕ) → IsListed w (placed_first o v) → (k : ℕ) × (w ≡ v) × (o ≡ Some k)
  placed_is None v w l = absurd l
  placed_is (Some k) v w (inl e) = (k, e, refl)
  placed_is (Some k) v w (inr l) = absurd l

  in_first : (p : ℕ × ℕ) (w : ℕ) (b : Bool) → IsListed w (if b then placed_first (entry places p.0) p.0 else [])
      → (w ≡ p.0) × ((k : ℕ) × (entry places w ≡ Some k))
  in_first p w true l =
      let q = placed_is (entry places p.0) p.0 w l in (q.1, (q.0, ap (entry places) q.1 ∙ q.2))
  in_first p w false l = absurd l

  pub placed_there : (ps : List (ℕ × ℕ)) (w : ℕ) → IsListed w (firsts places j ps)
      → (k : ℕ) × (entry places w ≡ Some k)
  placed_there [] w l = absurd l
  placed_there (p ∷ ps) w l =
      ⊎_elim (λ m. (in_first p w (p.1 == j) m).1) (λ m. placed_there ps w m)
      (listed_either w (first_of places j p) (firsts places j ps) l)

  firsts_append : (ps qs : List (ℕ × ℕ)) → firsts places j (ps ++ qs) ≡ firsts places j ps ++ firsts places j qs
  firsts_append [] qs = refl
  firsts_append (p ∷ ps) qs =
      ap (λ (xs : List ℕ). first_of places j p ++ xs) (firsts_append ps qs)
      ∙ sym (append_assoc (first_of places j p) (firsts places j ps) (firsts places j qs))

  -- ---- they stand once

  module _ (f : Function) where
    -- of one value: none from a later suspend on
    later : (v k : ℕ) (ss : List Point) (here : List (ℕ × ℕ)) → AreCrossed f v k ss here → suc j ≤ k
        → firsts places j here ≡ []
    later v k _ _ (NoMore _) lt = refl
    later v k _ _ (Taken _ s ss all crosses rest) lt =
        on (k == j) refl (later v (k + 1) ss all rest (omega (arith, lt)))
      where
        on : (b : Bool) → (k == j) ≡ b → firsts places j all ≡ []
            → (if b then placed_first (entry places v) v else []) ++ firsts places j all ≡ []
        on true e h = let same : k ≡ j = equal_numbers k j e in absurd (omega (arith, lt, same))
        on false e h = h
    later v k _ _ (LeftOut _ s ss all crosses rest) lt = later v (k + 1) ss all rest (omega (arith, lt))

    abbrev IsOnce : ℕ → List ℕ → Type 0
    IsOnce v vs = AreDifferent vs × ((w : ℕ) → IsListed w vs → w ≡ v)

    placed_once : (o : Option ℕ) (v : ℕ) → IsOnce v (placed_first o v ++ [])
    placed_once None v = (tt, λ w l. absurd l)
    placed_once (Some k) v = ((λ l. absurd l, tt), λ w l. ⊎_elim (λ e. e) (λ m. absurd m) l)

    value_once : (v k : ℕ) (ss : List Point) (here : List (ℕ × ℕ)) → AreCrossed f v k ss here
        → IsOnce v (firsts places j here)
    value_once v k _ _ (NoMore _) = (tt, λ w l. absurd l)
    value_once v k _ _ (Taken _ s ss all crosses rest) =
        on (k == j) refl (value_once v (k + 1) ss all rest) (later v (k + 1) ss all rest)
      where
        on : (b : Bool) → (k == j) ≡ b → IsOnce v (firsts places j all) → (suc j ≤ k + 1 → firsts places j all ≡ [])
            → IsOnce v ((if b then placed_first (entry places v) v else []) ++ firsts places j all)
        on true e h none =
            let same : k ≡ j = equal_numbers k j e in
            subst (λ (xs : List ℕ). IsOnce v (placed_first (entry places v) v ++ xs))
            (sym (none (omega (arith, same)))) (placed_once (entry places v) v)
        on false e h none = h
    value_once v k _ _ (LeftOut _ s ss all crosses rest) = value_once v (k + 1) ss all rest

    pub all_once : (vs : List ℕ) (all : List (ℕ × ℕ)) → CrossedBy f vs all → AreDifferent vs
        → AreDifferent (firsts places j all) × ((w : ℕ) → IsListed w (firsts places j all) → IsListed w vs)
    all_once _ _ Nothing d = (tt, λ w l. absurd l)
    all_once _ _ (More v vs here rest crossed more) d =
        let a = value_once v 0 _ here crossed in
        let b = all_once vs rest more d.1 in
        let e = firsts_append here rest in (
          subst AreDifferent (sym e)
              (joined_different (firsts places j here) (firsts places j rest) a.0 b.0
              (λ w l m. d.0 (subst (λ (u : ℕ). IsListed u vs) (a.1 w l) (b.1 w m)))),
          λ w l.
              ⊎_elim (λ m. inl (a.1 w m)) (λ m. inr (b.1 w m))
              (listed_either w (firsts places j here) (firsts places j rest)
              (subst (λ (xs : List ℕ). IsListed w xs) e l)),
        )

-- ---- the values of a function stand once

named_listed : (vs : List ℕ) (v : ℕ) → IsListed v vs → has_name vs v ≡ true
named_listed [] v l = absurd l
named_listed (u ∷ us) v l = on (u == v) refl l (λ m. named_listed us v m)
  where
    on : (b : Bool) → (u == v) ≡ b → (v ≡ u) ⊎ IsListed v us → (IsListed v us → has_name us v ≡ true)
        → (b || has_name us v) ≡ true
    on true e m rest = refl
    on false e (inl same) rest = absurd (not_equal u v e (sym same))
    on false e (inr m) rest = rest m

new_once : (found : List ℕ) (v : ℕ) → AreDifferent found → AreDifferent (with_new found v)
new_once found v d = on (has_name found v) refl
  where
    on : (b : Bool) → has_name found v ≡ b → AreDifferent (if b then found else found ++ v ∷ [])
    on true e = d
    on false e =
        joined_different found (v ∷ []) d (λ l. absurd l, tt)
        (λ w l m. ⊎_elim
        (λ same. let t : true ≡ false =
        sym (named_listed found v (subst (λ (u : ℕ). IsListed u found) same l)) ∙ e in absurd (cc))
        (λ n. absurd n) m)

distinct_once : (found vs : List ℕ) → AreDifferent found → AreDifferent (distinct found vs)
distinct_once found [] d = d
distinct_once found (v ∷ vs) d = distinct_once (with_new found v) vs (new_once found v d)

pub values_once : (f : Function) → AreDifferent (values_of f)
values_once f = distinct_once [] (all_defined f) tt

-- ---- in a coroutine

pub listed_at : (vs : List ℕ) (at v : ℕ) → slice_get vs at ≡ Some v → IsListed v vs
listed_at [] at v e = absurd (cc)
listed_at (u ∷ us) zero v e = let same : u ≡ v = cc in inl (sym same)
listed_at (u ∷ us) (suc at) v e = inr (listed_at us at v e)

module _ (x : Framing) (is : IsFraming x) where
  pub suspend_few : (j : ℕ) → length (row_or (slice_get (plan x).rows j)) ≤ length (plan x).kept
  suspend_few j =
      let places : List (Option ℕ) = (Kept x is).places in
      let all : List (ℕ × ℕ) = x.contents.crossing in
      let once = all_once places j x.function (values_of x.function) all is.frameable.contents.crossing_are
      (values_once x.function) in
      let a = rows_few places j (length (suspends_of (edged x))) all in
      let b = few_of (firsts places j all) (Kept x is).values once.0
      (λ v l. let h = placed_there places j all v l in
      listed_at (Kept x is).values h.0 v ((keeping x is).there v h.0 h.1)) in
      let c = count_is x is in
      omega (arith, a, b, c)

  pub row_few : (o : Option ℕ) → length (row_at (plan x).rows o) ≤ length (plan x).kept
  row_few None = omega arith
  row_few (Some j) = suspend_few j
