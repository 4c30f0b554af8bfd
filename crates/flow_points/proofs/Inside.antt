-- The points in a window, found by a search from its suspend and one from its save.
use Rattle.std.proofs.Common.{◌≡◌, ℕ, ◌+◌, ◌<◌, Bool, true, false, ◌&&◌, ◌||◌, List, [], ◌∷◌, ◌++◌, length, take, get_or, refl, ap, sym, subst, ◌∙◌, ⊎_elim}
use Rattle.std.specs.Prelude.{filter, map, not, if◌then◌else◌}
use Rattle.std.proofs.lemmas.Bool.{and_from, and_parts, false≢true, not-true}
use Rattle.std.proofs.lemmas.List.{take_more}
use Rattle.ir_paths.specs.ir_model.declared.module.Function.{Function}
use Rattle.ir_paths.specs.Paths.{IsPath, Leads, has_point, nexts, same_point}
use Rattle.ir_paths.specs.Windows.{IsInWindow}
use Rattle.ir_paths.specs.declared.point.Point.{Point}
use Rattle.ir_paths.proofs.Search.{leads-more, same_point-itself, same_point-same}
use Rattle.flow_points.specs.Reached.{AllLeadTo, AreInWindow}
use Rattle.flow_points.specs.Rows.{AreBlank, AreCleared, AreJoined, is_inside, is_marked, sizes_of}
use Rattle.flow_points.specs.Search.{IsFound, IsGrown, IsSettled, adjoins_any, is_closed}
use Rattle.flow_points.specs.Search.IsFound.{First, More}
use Rattle.flow_points.specs.declared.direction.Direction.{Direction}
use Rattle.flow_points.proofs.Marking.{joined-marked}
use Rattle.flow_points.proofs.Neighbours.{source-inside}
use Rattle.flow_points.proofs.Tests.{no_test, or-false, same_test, take-all}

-- ---- points that pass a test

filter-append : (t : Point → Bool) (xs ys : List Point) → filter t (xs ++ ys) ≡ filter t xs ++ filter t ys
filter-append t [] ys = refl
filter-append t (x ∷ xs) ys = on (t x) (filter-append t xs ys)
  where
    on : (b : Bool) → filter t (xs ++ ys) ≡ filter t xs ++ filter t ys → (if b then x ∷ filter t (xs ++ ys) else filter t (xs ++ ys)) ≡ (if b then x ∷ filter t xs else filter t xs) ++ filter t ys
    on true e = ap (λ (l : List Point). x ∷ l) e
    on false e = e

if-one : (b : Bool) (x : Point) → b ≡ true → (if b then x ∷ [] else []) ≡ x ∷ []
if-one true x e = refl
if-one false x e = absurd (false≢true e)

if-none : (b : Bool) (x : Point) → b ≡ false → (if b then x ∷ [] else []) ≡ []
if-none false x e = refl
if-none true x e = absurd (false≢true (sym e))

append-none : (xs : List Point) → xs ++ [] ≡ xs
append-none [] = refl
append-none (x ∷ xs) = ap (λ (l : List Point). x ∷ l) (append-none xs)

pub filter-more : (t : Point → Bool) (xs : List Point) (i : ℕ) (x : Point) (all : List Point) → i < length xs → x ≡ get_or xs i x → t x ≡ true → all ≡ filter t (take i xs) → all ++ x ∷ [] ≡ filter t (take (i + 1) xs)
filter-more t xs i x all lt e h is =
    ap (λ (l : List Point). l ++ x ∷ []) is ∙ ap (λ (l : List Point). filter t (take i xs) ++ l) (sym (if-one (t x) x h))
    ∙ sym (filter-append t (take i xs) (x ∷ []))
    ∙ ap (λ (y : Point). filter t (take i xs ++ y ∷ [])) e
    ∙ ap (filter t) (sym (take_more xs i x lt))

pub filter-less : (t : Point → Bool) (xs : List Point) (i : ℕ) (x : Point) (all : List Point) → i < length xs → x ≡ get_or xs i x → t x ≡ false → all ≡ filter t (take i xs) → all ≡ filter t (take (i + 1) xs)
filter-less t xs i x all lt e h is =
    is ∙ sym (append-none (filter t (take i xs))) ∙ ap (λ (l : List Point). filter t (take i xs) ++ l) (sym (if-none (t x) x h))
    ∙ sym (filter-append t (take i xs) (x ∷ []))
    ∙ ap (λ (y : Point). filter t (take i xs ++ y ∷ [])) e
    ∙ ap (filter t) (sym (take_more xs i x lt))

has-filter : (t : Point → Bool) (xs : List Point) (p : Point) → has_point (filter t xs) p ≡ (has_point xs p && t p)
has-filter t [] p = refl
has-filter t (x ∷ xs) p = on (t x) refl (same_point p x) refl (has-filter t xs p)
  where
    same-too : (b c : Bool) → c ≡ true → (b && c) ≡ (true && c) → true ≡ c
    same-too b c e h = sym e

    on : (b : Bool) → t x ≡ b → (s : Bool) → same_point p x ≡ s → has_point (filter t xs) p ≡ (has_point xs p && t p) → has_point (if b then x ∷ filter t xs else filter t xs) p ≡ ((s || has_point xs p) && t p)
    on true e true es ih = ap (λ u. u || has_point (filter t xs) p) es ∙ sym (ap t (same_point-same p x es) ∙ e)
    on true e false es ih = ap (λ u. u || has_point (filter t xs) p) es ∙ ih
    on false e true es ih =
        let f : t p ≡ false = ap t (same_point-same p x es) ∙ e in
        ih ∙ ap (λ u. has_point xs p && u) f ∙ and-false (has_point xs p) ∙ sym f
      where
        and-false : (a : Bool) → (a && false) ≡ false
        and-false true = refl
        and-false false = refl
    on false e false es ih = ih

-- ---- paths

path-join : (f : Function) (a : List Point) (u p q : Point) (b c : List Point) → IsPath f a u b p → has_point a p ≡ false → IsPath f a p c q → IsPath f a u (b ++ p ∷ c) q
path-join f a u p q [] c h o k = (h, o, k)
path-join f a u p q (v ∷ b) c h o k = (h.0, h.1, path-join f a v p q b c h.2 o k)

path-inside : (f : Function) (a : List Point) (rows : List (List Bool)) (p q : Point) (between : List Point) → map length rows ≡ sizes_of f → IsPath f a p between q → is_inside rows p ≡ true
path-inside f a rows p q [] sizes h = source-inside f rows p q sizes h
path-inside f a rows p q (v ∷ between) sizes h = source-inside f rows p v sizes h.0

or-none : (a b : Bool) → (a || b) ≡ false → (a ≡ false) × (b ≡ false)
or-none true b e = absurd (false≢true (sym e))
or-none false b e = (refl, e)

none-or : (a b : Bool) → a ≡ false → b ≡ false → (a || (b || false)) ≡ false
none-or true b e k = absurd (false≢true (sym e))
none-or false true e k = absurd (false≢true (sym k))
none-or false false e k = refl

not-false : (b : Bool) → b ≡ false → not b ≡ true
not-false true e = absurd (false≢true (sym e))
not-false false e = refl

not-closed : (b : Bool) → not b ≡ false → b ≡ true
not-closed true e = refl
not-closed false e = absurd (false≢true (sym e))

closed-not : (b : Bool) → b ≡ true → not b ≡ false
closed-not true e = refl
closed-not false e = absurd (false≢true e)

-- what is marked still after some were cleared is among those that were marked
pub limits-marked : (points : List Point) (blank joined inner : List (List Bool)) (ends : List Point) → AreBlank blank → AreJoined points blank joined → AreCleared ends joined inner → (p : Point) → is_marked inner p ≡ true → has_point points p ≡ true
limits-marked points blank joined inner ends b j cl p h =
    joined-marked points blank joined b j p (and_parts (is_marked joined p) (not (has_point ends p)) (sym (cl.each p) ∙ h)).0

module _ (f : Function) (save suspend : Point) (back : List Point) (blank joined inner marks0 marks1 marks2 : List (List Bool)) (found1 found2 : List Point)
    (is_blank : AreBlank blank) (is_joined : AreJoined back blank joined) (is_cleared : AreCleared (save ∷ suspend ∷ []) joined inner) (room : map length blank ≡ sizes_of f)
    (is_back : AllLeadTo f (suspend ∷ []) (save ∷ suspend ∷ []) back)
    (begun : IsGrown (adjoins_any f Direction.Forward (save ∷ [])) marks0 [] marks1 found1) (settled : IsSettled f Direction.Forward (is_closed inner true) marks1 found1 marks2 found2) where
  -- what is marked among the limits leads to the suspend, and is neither it nor the save
  pub inner-parts : (p : Point) → is_marked inner p ≡ true → (has_point back p ≡ true) × (has_point (save ∷ suspend ∷ []) p ≡ false)
  inner-parts p h =
      let parts = and_parts (is_marked joined p) (not (has_point (save ∷ suspend ∷ []) p)) (sym (is_cleared.each p) ∙ h) in
      (joined-marked back blank joined is_blank is_joined p parts.0, not-true (has_point (save ∷ suspend ∷ []) p) parts.1)

  inner-from : (p : Point) → is_inside blank p ≡ true → has_point back p ≡ true → has_point (save ∷ suspend ∷ []) p ≡ false → is_marked inner p ≡ true
  inner-from p place h o =
      is_cleared.each p
      ∙ and_from (is_marked joined p) (not (has_point (save ∷ suspend ∷ []) p)) (is_joined.each p place ∙ ap (λ b. b || has_point back p) (is_blank.none p) ∙ h) (not-false (has_point (save ∷ suspend ∷ []) p) o)

  back-leads : (p : Point) → has_point back p ≡ true → Leads f (save ∷ suspend ∷ []) p suspend
  back-leads p h =
      let l = (is_back.each p).0 h in
      subst (λ (y : Point). Leads f (save ∷ suspend ∷ []) p y) (same_point-same l.goal suspend (sym (or-false (same_point l.goal suspend)) ∙ l.is_goal)) l.path

  leads-back : (p : Point) → Leads f (save ∷ suspend ∷ []) p suspend → has_point back p ≡ true
  leads-back p l = (is_back.each p).1 (record { goal = suspend; is_goal = or-false (same_point suspend suspend) ∙ same_point-itself suspend; path = l })

  sound : (q : Point) → IsFound f Direction.Forward (is_closed inner true) (has_point found1) q → Leads f (save ∷ suspend ∷ []) save q
  sound _ (First q h) = record { between = []; is_path = sym (or-false (has_point (nexts f save) q)) ∙ sym (begun.has q) ∙ h }
  sound _ (More v q before o a) = leads-more f (save ∷ suspend ∷ []) save v q (sound v before) (inner-parts v (not-closed (is_marked inner v) o)).1 a

  along : (q : Point) → has_point (save ∷ suspend ∷ []) q ≡ false → Leads f (save ∷ suspend ∷ []) q suspend → (v : Point) → ((w : Point) → has_point (nexts f v) w ≡ true → has_point found2 w ≡ true) → (between : List Point) → IsPath f (save ∷ suspend ∷ []) v between q → has_point found2 q ≡ true
  along q o l v first [] h = first q h
  along q o l v first (u ∷ between) h =
      let leads : Leads f (save ∷ suspend ∷ []) u suspend = record { between = between ++ q ∷ l.between; is_path = path-join f (save ∷ suspend ∷ []) u q suspend between l.between h.2 o l.is_path } in
      let marked : is_marked inner u ≡ true = inner-from u (path-inside f (save ∷ suspend ∷ []) blank u q between room h.2) (leads-back u leads) h.1 in
      along q o l u (λ w k. settled.closes u w (first u h.0) (closed-not (is_marked inner u) marked) k) between h.2

  complete : (q : Point) → Leads f (save ∷ suspend ∷ []) save q → has_point (save ∷ suspend ∷ []) q ≡ false → Leads f (save ∷ suspend ∷ []) q suspend → has_point found2 q ≡ true
  complete q from o to = along q o to save (λ w k. settled.kept w (begun.has w ∙ or-false (has_point (nexts f save) w) ∙ k)) from.between from.is_path

  pub window-is : AreInWindow f save suspend (filter (is_marked inner) found2)
  window-is = record { each = λ p. (there p, back-again p) }
    where
      there : (p : Point) → has_point (filter (is_marked inner) found2) p ≡ true → IsInWindow f save suspend p
      there p h =
          let parts = and_parts (has_point found2 p) (is_marked inner p) (sym (has-filter (is_marked inner) found2 p) ∙ h) in
          let limits = inner-parts p parts.1 in
          let ends = or-none (same_point p save) (same_point p suspend || false) limits.1 in
          record {
            is_not_save = ends.0;
            is_not_suspend = sym (or-false (same_point p suspend)) ∙ ends.1;
            from_save = sound p (settled.sound p parts.0);
            to_suspend = back-leads p limits.0;
          }

      back-again : (p : Point) → IsInWindow f save suspend p → has_point (filter (is_marked inner) found2) p ≡ true
      back-again p w =
          let outside : has_point (save ∷ suspend ∷ []) p ≡ false = none-or (same_point p save) (same_point p suspend) w.is_not_save w.is_not_suspend in
          let place = path-inside f (save ∷ suspend ∷ []) blank p suspend w.to_suspend.between room w.to_suspend.is_path in
          has-filter (is_marked inner) found2 p
          ∙ and_from (has_point found2 p) (is_marked inner p) (complete p w.from_save outside w.to_suspend) (inner-from p place (leads-back p w.to_suspend) outside)
