-- The facts that the searches find are those that the paths say.
use Rattle.std.proofs.Common.{◌≡◌, ℕ, ◌+◌, ◌⊎◌, inl, inr, Bool, true, false, List, [], ◌∷◌, length, refl, sym, ap, subst}
use Rattle.std.specs.Prelude.{◌&&◌, ◌||◌, ◌==◌, if◌then◌else◌, not, map, filter}
use Rattle.std.specs.List.{AllByRecursion}
use Rattle.std.proofs.lemmas.List.Elements.{All-from_recursion}
use Rattle.ir_model.specs.declared.module.Function.{Function}
use Rattle.ir_paths.specs.declared.point.Point.{Point}
use Rattle.ir_paths.specs.Paths.{nexts, same_point, has_point, Leads, found_from, led_to, edge_count}
use Rattle.ir_paths.specs.Windows.{IsInWindow, window_points, window_of, windows_of, saves_of}
use Rattle.ir_paths.specs.Slots.{IsBehindSuspend, points_behind, behind_suspends, end_points, IsRampSlot, is_ramp_slot, is_promise, is_escaped, touching_points, have_common, has_name, allocas_of}
use Rattle.ir_paths.specs.Facts.{IsWindow, AreFactsOf, facts_of}
use Rattle.ir_paths.proofs.Search.{Has, both, either, or_left, or_right, eq_from, same_point-same, same_point-itself, found-kept, found_from-all, path-found, leads-more, led_to-sound, led_to-complete}

-- ---- tests

not-false : (b : Bool) → not b ≡ true → b ≡ false
not-false true e = absurd (cc)
not-false false e = refl

false-not : (b : Bool) → b ≡ false → not b ≡ true
false-not true e = absurd (cc)
false-not false e = refl

and-true : (a b : Bool) → a ≡ true → b ≡ true → (a && b) ≡ true
and-true true true e k = refl
and-true true false e k = absurd (cc)
and-true false b e k = absurd (cc)

no-truth : {A : Type 0} (b : Bool) → b ≡ true → b ≡ false → A
no-truth true e k = absurd (cc)
no-truth false e k = absurd (cc)

or-false : (a b : Bool) → (a || b) ≡ false → (a ≡ false) × (b ≡ false)
or-false true b e = absurd (cc)
or-false false b e = (refl, e)

false-or : (a b : Bool) → a ≡ false → b ≡ false → (a || b) ≡ false
false-or true b e k = absurd (cc)
false-or false b e k = k

-- ---- what a filter keeps

has_filter : (t : Point → Bool) (xs : List Point) (p : Point) → Has (filter t xs) p → Has xs p × (t p ≡ true)
has_filter t [] p h = absurd (cc)
has_filter t (x ∷ xs) p h = on (t x) refl h (has_filter t xs p)
  where
    on : (b : Bool) → t x ≡ b → Has (if b then x ∷ filter t xs else filter t xs) p → (Has (filter t xs) p → Has xs p × (t p ≡ true)) → Has (x ∷ xs) p × (t p ≡ true)
    on true e k ih = cases (either (same_point p x) (has_point (filter t xs) p) k)
      where
        cases : (same_point p x ≡ true) ⊎ Has (filter t xs) p → Has (x ∷ xs) p × (t p ≡ true)
        cases (inl s) = (or_left (same_point p x) (has_point xs p) s, subst (λ (y : Point). t y ≡ true) (sym (same_point-same p x s)) e)
        cases (inr m) = (or_right (same_point p x) (has_point xs p) (ih m).0, (ih m).1)
    on false e k ih = (or_right (same_point p x) (has_point xs p) (ih k).0, (ih k).1)

filter_has : (t : Point → Bool) (xs : List Point) (p : Point) → Has xs p → t p ≡ true → Has (filter t xs) p
filter_has t [] p h k = absurd (cc)
filter_has t (x ∷ xs) p h k = on (t x) refl (either (same_point p x) (has_point xs p) h) (filter_has t xs p)
  where
    on : (b : Bool) → t x ≡ b → (same_point p x ≡ true) ⊎ Has xs p → (Has xs p → t p ≡ true → Has (filter t xs) p) → Has (if b then x ∷ filter t xs else filter t xs) p
    on true e (inl s) ih = or_left (same_point p x) (has_point (filter t xs) p) s
    on true e (inr m) ih = or_right (same_point p x) (has_point (filter t xs) p) (ih m k)
    on false e (inl s) ih = no-truth (t x) (subst (λ (y : Point). t y ≡ true) (same_point-same p x s) k) e
    on false e (inr m) ih = ih m k

-- ---- windows

window_points-sound : (f : Function) (s u p : Point) → Has (window_points f s u) p → IsInWindow f s u p
window_points-sound f s u p h =
    let a : List Point = s ∷ u ∷ [] in
    let kept = has_filter (λ q. not (same_point q s) && not (same_point q u) && has_point (led_to f a q) u) (led_to f a s) p h in
    let t = both (not (same_point p s) && not (same_point p u)) (has_point (led_to f a p) u) kept.1 in
    let r = both (not (same_point p s)) (not (same_point p u)) t.0 in
    record {
      is_not_save = not-false (same_point p s) r.0;
      is_not_suspend = not-false (same_point p u) r.1;
      from_save = led_to-sound f a s p kept.0;
      to_suspend = led_to-sound f a p u t.1;
    }

window_points-complete : (f : Function) (s u p : Point) → IsInWindow f s u p → Has (window_points f s u) p
window_points-complete f s u p w =
    let a : List Point = s ∷ u ∷ [] in
    filter_has (λ q. not (same_point q s) && not (same_point q u) && has_point (led_to f a q) u) (led_to f a s) p
    (led_to-complete f a s p w.from_save)
    (and-true (not (same_point p s) && not (same_point p u)) (has_point (led_to f a p) u)
    (and-true (not (same_point p s)) (not (same_point p u)) (false-not (same_point p s) w.is_not_save) (false-not (same_point p u) w.is_not_suspend))
    (led_to-complete f a p u w.to_suspend))

window_of-right : (f : Function) (s u : Point) → IsWindow f (window_of f s u)
window_of-right f s u = record { inside = λ p. (window_points-sound f s u p, window_points-complete f s u p) }

windows-right : (f : Function) (xs : List (Point × Point)) → AllByRecursion (IsWindow f) (map (λ x. window_of f x.0 x.1) xs)
windows-right f [] = tt
windows-right f (x ∷ xs) = (window_of-right f x.0 x.1, windows-right f xs)

saves-right : (f : Function) (xs : List (Point × Point)) → map (λ w. (w.save, w.suspend)) (map (λ x. window_of f x.0 x.1) xs) ≡ xs
saves-right f [] = refl
saves-right f (x ∷ xs) = ap (λ (ys : List (Point × Point)). x ∷ ys) (saves-right f xs)

-- ---- behind a suspend

-- q is one of the first points, or a path leads there from one that isn't avoided
FoundFrom : Function → List Point → List Point → Point → Type 0
FoundFrom f a todo q = (first : Point) × Has todo first × ((first ≡ q) ⊎ ((has_point a first ≡ false) × Leads f a first q))

found-more : (f : Function) (a todo : List Point) (v w : Point) → FoundFrom f a todo v → has_point a v ≡ false → Has (nexts f v) w → FoundFrom f a todo w
unfolding FoundFrom
found-more f a todo v w x o k = (x.0, x.1, on x.2)
  where
    on : (x.0 ≡ v) ⊎ ((has_point a x.0 ≡ false) × Leads f a x.0 v) → (x.0 ≡ w) ⊎ ((has_point a x.0 ≡ false) × Leads f a x.0 w)
    on (inl e) =
        inr (subst (λ (y : Point). has_point a y ≡ false) (sym e) o, record { between = []; is_path = subst (λ (y : Point). Has (nexts f y) w) (sym e) k })
    on (inr l) = inr (l.0, leads-more f a x.0 v w l.1 o k)

found_from-sound : (f : Function) (a todo : List Point) (q : Point) → Has (found_from f a todo) q → FoundFrom f a todo q
unfolding FoundFrom
found_from-sound f a todo q h =
    found-kept f a (FoundFrom f a todo) (found-more f a todo) (length todo + edge_count f) todo []
    (λ v k. (v, k, inl refl)) (λ v k. absurd (let e : false ≡ true = k in cc)) q h

found_from-complete : (f : Function) (a todo : List Point) (q : Point) → FoundFrom f a todo q → Has (found_from f a todo) q
unfolding FoundFrom
found_from-complete f a todo q x = on x.2
  where
    on : (x.0 ≡ q) ⊎ ((has_point a x.0 ≡ false) × Leads f a x.0 q) → Has (found_from f a todo) q
    on (inl e) = subst (λ (y : Point). Has (found_from f a todo) y) e ((found_from-all f a todo).of_todo x.0 x.1)
    on (inr l) =
        let found = found_from-all f a todo in
        path-found f a (found_from f a todo) found.is_closed x.0 (found.is_closed x.0 (found.of_todo x.0 x.1) l.0) l.1.between q l.1.is_path

behind-sound : (f : Function) (p : Point) → Has (points_behind f) p → IsBehindSuspend f p
unfolding FoundFrom
behind-sound f p h =
    let kept = has_filter (λ q. not (has_point (end_points f) q)) (found_from f (end_points f) (behind_suspends f)) p h in
    let x = found_from-sound f (end_points f) (behind_suspends f) p kept.0 in
    record { first = x.0; is_first = x.1; path = x.2; is_not_in_end = not-false (has_point (end_points f) p) kept.1 }

behind-complete : (f : Function) (p : Point) → IsBehindSuspend f p → Has (points_behind f) p
unfolding FoundFrom
behind-complete f p x =
    filter_has (λ q. not (has_point (end_points f) q)) (found_from f (end_points f) (behind_suspends f)) p
    (found_from-complete f (end_points f) (behind_suspends f) p (x.first, x.is_first, x.path))
    (false-not (has_point (end_points f) p) x.is_not_in_end)

-- ---- ramp slots

common-none : (ps qs : List Point) → have_common ps qs ≡ false → (q : Point) → Has qs q → has_point ps q ≡ false
common-none ps [] e q h = absurd (cc)
common-none ps (x ∷ qs) e q h = on (either (same_point q x) (has_point qs q) h) (or-false (has_point ps x) (have_common ps qs) e) (common-none ps qs)
  where
    on : (same_point q x ≡ true) ⊎ Has qs q → (has_point ps x ≡ false) × (have_common ps qs ≡ false) → (have_common ps qs ≡ false → (q : Point) → Has qs q → has_point ps q ≡ false) → has_point ps q ≡ false
    on (inl s) n ih = subst (λ (y : Point). has_point ps y ≡ false) (sym (same_point-same q x s)) n.0
    on (inr m) n ih = ih n.1 q m

none-common : (ps qs : List Point) → ((q : Point) → Has qs q → has_point ps q ≡ false) → have_common ps qs ≡ false
none-common ps [] h = refl
none-common ps (x ∷ qs) h =
    false-or (has_point ps x) (have_common ps qs) (h x (or_left (same_point x x) (has_point qs x) (same_point-itself x)))
    (none-common ps qs (λ q k. h q (or_right (same_point q x) (has_point qs q) k)))

bool-false : (b : Bool) → ¬ (b ≡ true) → b ≡ false
bool-false true h = absurd (h refl)
bool-false false h = refl

ramp_slot-sound : (f : Function) (v : ℕ) → is_ramp_slot f v ≡ true → IsRampSlot f v
ramp_slot-sound f v h =
    let t = both (not (is_promise f v) && not (is_escaped f v)) (not (have_common (points_behind f) (touching_points f v))) h in
    let r = both (not (is_promise f v)) (not (is_escaped f v)) t.0 in
    record {
      is_not_promise = not-false (is_promise f v) r.0;
      is_not_escaped = not-false (is_escaped f v) r.1;
      in_ramp = λ p k x. no-truth (has_point (points_behind f) p) (behind-complete f p x)
          (common-none (points_behind f) (touching_points f v) (not-false (have_common (points_behind f) (touching_points f v)) t.1) p k);
    }

ramp_slot-complete : (f : Function) (v : ℕ) → IsRampSlot f v → is_ramp_slot f v ≡ true
ramp_slot-complete f v s =
    and-true (not (is_promise f v) && not (is_escaped f v)) (not (have_common (points_behind f) (touching_points f v)))
    (and-true (not (is_promise f v)) (not (is_escaped f v)) (false-not (is_promise f v) s.is_not_promise) (false-not (is_escaped f v) s.is_not_escaped))
    (false-not (have_common (points_behind f) (touching_points f v))
    (none-common (points_behind f) (touching_points f v) (λ q k. bool-false (has_point (points_behind f) q) (λ b. s.in_ramp q k (behind-sound f q b)))))

-- names kept by a filter
name_filter : (t : ℕ → Bool) (xs : List ℕ) (v : ℕ) → has_name (filter t xs) v ≡ true → (has_name xs v ≡ true) × (t v ≡ true)
name_filter t [] v h = absurd (cc)
name_filter t (x ∷ xs) v h = on (t x) refl h (name_filter t xs v)
  where
    on : (b : Bool) → t x ≡ b → has_name (if b then x ∷ filter t xs else filter t xs) v ≡ true → (has_name (filter t xs) v ≡ true → (has_name xs v ≡ true) × (t v ≡ true)) → (has_name (x ∷ xs) v ≡ true) × (t v ≡ true)
    on true e k ih = cases (either (x == v) (has_name (filter t xs) v) k)
      where
        cases : ((x == v) ≡ true) ⊎ (has_name (filter t xs) v ≡ true) → (has_name (x ∷ xs) v ≡ true) × (t v ≡ true)
        cases (inl s) = (or_left (x == v) (has_name xs v) s, subst (λ (y : ℕ). t y ≡ true) (eq_from x v s) e)
        cases (inr m) = (or_right (x == v) (has_name xs v) (ih m).0, (ih m).1)
    on false e k ih = (or_right (x == v) (has_name xs v) (ih k).0, (ih k).1)

filter_name : (t : ℕ → Bool) (xs : List ℕ) (v : ℕ) → has_name xs v ≡ true → t v ≡ true → has_name (filter t xs) v ≡ true
filter_name t [] v h k = absurd (cc)
filter_name t (x ∷ xs) v h k = on (t x) refl (either (x == v) (has_name xs v) h) (filter_name t xs v)
  where
    on : (b : Bool) → t x ≡ b → ((x == v) ≡ true) ⊎ (has_name xs v ≡ true) → (has_name xs v ≡ true → t v ≡ true → has_name (filter t xs) v ≡ true) → has_name (if b then x ∷ filter t xs else filter t xs) v ≡ true
    on true e (inl s) ih = or_left (x == v) (has_name (filter t xs) v) s
    on true e (inr m) ih = or_right (x == v) (has_name (filter t xs) v) (ih m k)
    on false e (inl s) ih = no-truth (t x) (subst (λ (y : ℕ). t y ≡ true) (sym (eq_from x v s)) k) e
    on false e (inr m) ih = ih m k

-- the facts that the machines look up are right
pub facts_of_right : (f : Function) → AreFactsOf f (facts_of f)
facts_of_right f =
    record {
      saves = saves-right f (saves_of f);
      windows = All-from_recursion (IsWindow f) (windows_of f) (windows-right f (saves_of f));
      ramp_slots = λ v. (
        (λ h. let k = name_filter (is_ramp_slot f) (allocas_of f) v h in (k.0, ramp_slot-sound f v k.1)),
        (λ h. filter_name (is_ramp_slot f) (allocas_of f) v h.0 (ramp_slot-complete f v h.1)),
      );
    }
