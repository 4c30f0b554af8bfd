-- What a search finds is what paths lead to.
use Rattle.std.proofs.Common.{◌≡◌, ◌⊎◌, inl, inr, Bool, true, false, ◌||◌, List, [], ◌∷◌, refl, subst}
use Rattle.std.specs.List.{list_any}
use Rattle.std.proofs.lemmas.Bool.{false≢true, or_cases}
use Rattle.ir_paths.specs.ir_model.declared.module.Function.{Function}
use Rattle.ir_paths.specs.Paths.{IsPath, has_point, nexts, same_point}
use Rattle.ir_paths.specs.declared.point.Point.{Point}
use Rattle.ir_paths.proofs.Search.{leads-more, same_point-itself, same_point-same}
use Rattle.flow_points.specs.Reached.{AllLeadTo, AreReached, IsReached, LeadsToAny}
use Rattle.flow_points.specs.Search.{AreFound, IsFound, adjoins, adjoins_any}
use Rattle.flow_points.specs.Search.IsFound.{First, More}
use Rattle.flow_points.specs.declared.direction.Direction.{Direction}

or-left : (a b : Bool) → a ≡ true → (a || b) ≡ true
or-left true b e = refl
or-left false b e = absurd (false≢true e)

or-right : (a b : Bool) → b ≡ true → (a || b) ≡ true
or-right true b e = refl
or-right false b e = e

-- one of the points that passes a test
some-of : (test : Point → Bool) (xs : List Point) → list_any test xs ≡ true → (x : Point) × (has_point xs x ≡ true) × (test x ≡ true)
some-of test [] h = absurd (false≢true h)
some-of test (x ∷ xs) h = on (or_cases (test x) (list_any test xs) h) (some-of test xs)
  where
    on : (test x ≡ true) ⊎ (list_any test xs ≡ true) → (list_any test xs ≡ true → (y : Point) × (has_point xs y ≡ true) × (test y ≡ true)) → (y : Point) × (has_point (x ∷ xs) y ≡ true) × (test y ≡ true)
    on (inl e) ih = (x, or-left (same_point x x) (has_point xs x) (same_point-itself x), e)
    on (inr e) ih = let found = ih e in (found.0, or-right (same_point found.0 x) (has_point xs found.0) found.1, found.2)

of-some : (test : Point → Bool) (xs : List Point) (x : Point) → has_point xs x ≡ true → test x ≡ true → list_any test xs ≡ true
of-some test [] x h e = absurd (false≢true h)
of-some test (y ∷ xs) x h e = on (or_cases (same_point x y) (has_point xs x) h) (of-some test xs x)
  where
    on : (same_point x y ≡ true) ⊎ (has_point xs x ≡ true) → (has_point xs x ≡ true → test x ≡ true → list_any test xs ≡ true) → list_any test (y ∷ xs) ≡ true
    on (inl s) ih = or-left (test y) (list_any test xs) (subst (λ (z : Point). test z ≡ true) (same_point-same x y s) e)
    on (inr m) ih = or-right (test y) (list_any test xs) (ih m e)

-- ---- along the edges

module _ (f : Function) (starts avoided : List Point) where
  forward-sound : (q : Point) → IsFound f Direction.Forward (has_point avoided) (adjoins_any f Direction.Forward starts) q → IsReached f starts avoided q
  forward-sound _ (First q h) =
      let s = some-of (λ (s : Point). adjoins f Direction.Forward s q) starts h in
      record { start = s.0; is_start = s.1; path = record { between = []; is_path = s.2 } }
  forward-sound _ (More p q before o a) =
      let r = forward-sound p before in
      record { start = r.start; is_start = r.is_start; path = leads-more f avoided r.start p q r.path o a }

  along : (v : Point) → ((w : Point) → has_point (nexts f v) w ≡ true → IsFound f Direction.Forward (has_point avoided) (adjoins_any f Direction.Forward starts) w) → (between : List Point) (q : Point) → IsPath f avoided v between q → IsFound f Direction.Forward (has_point avoided) (adjoins_any f Direction.Forward starts) q
  along v first [] q h = first q h
  along v first (u ∷ between) q h = along u (λ w k. More u w (first u h.0) h.1 k) between q h.2

  forward-complete : (q : Point) → IsReached f starts avoided q → IsFound f Direction.Forward (has_point avoided) (adjoins_any f Direction.Forward starts) q
  forward-complete q r = along r.start (λ w k. First w (of-some (λ (s : Point). adjoins f Direction.Forward s w) starts r.start r.is_start k)) r.path.between q r.path.is_path

  pub reached-are : (found : List Point) → AreFound f Direction.Forward starts avoided found → AreReached f starts avoided found
  reached-are found a = record { each = λ p. (λ h. forward-sound p ((a.each p).0 h), λ r. (a.each p).1 (forward-complete p r)) }

-- ---- against the edges

module _ (f : Function) (goals avoided : List Point) where
  backward-sound : (q : Point) → IsFound f Direction.Backward (has_point avoided) (adjoins_any f Direction.Backward goals) q → LeadsToAny f goals avoided q
  backward-sound _ (First q h) =
      let s = some-of (λ (s : Point). adjoins f Direction.Backward s q) goals h in
      record { goal = s.0; is_goal = s.1; path = record { between = []; is_path = s.2 } }
  backward-sound _ (More p q before o a) =
      let r = backward-sound p before in
      record { goal = r.goal; is_goal = r.is_goal; path = record { between = p ∷ r.path.between; is_path = (a, o, r.path.is_path) } }

  against : (goal : Point) → has_point goals goal ≡ true → (between : List Point) (q : Point) → IsPath f avoided q between goal → IsFound f Direction.Backward (has_point avoided) (adjoins_any f Direction.Backward goals) q
  against goal h [] q k = First q (of-some (λ (s : Point). adjoins f Direction.Backward s q) goals goal h k)
  against goal h (u ∷ between) q k = More u q (against goal h between u k.2) k.1 k.0

  backward-complete : (q : Point) → LeadsToAny f goals avoided q → IsFound f Direction.Backward (has_point avoided) (adjoins_any f Direction.Backward goals) q
  backward-complete q r = against r.goal r.is_goal r.path.between q r.path.is_path

  pub leading-are : (found : List Point) → AreFound f Direction.Backward goals avoided found → AllLeadTo f goals avoided found
  leading-are found a = record { each = λ p. (λ h. backward-sound p ((a.each p).0 h), λ r. (a.each p).1 (backward-complete p r)) }
