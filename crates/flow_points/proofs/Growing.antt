-- Points found one after another.
use Rattle.std.proofs.Common.{◌≡◌, ℕ, ◌+◌, ◌<◌, ◌≤◌, Bool, true, false, ◌||◌, List, [], ◌∷◌, ◌++◌, length, take, get_or, refl, ap, sym, subst, ◌∙◌, arith, append_assoc, length-append}
use Rattle.std.specs.Prelude.{map}
use Rattle.std.proofs.lemmas.List.Folds.{list_any_more}
use Rattle.std.proofs.lemmas.List.{append-nil}
use Rattle.ir_paths.specs.Paths.{has_point, same_point}
use Rattle.ir_paths.specs.declared.point.Point.{Point}
use Rattle.ir_paths.proofs.Search.{same_point-same}
use Rattle.ir_paths.specs.ir_model.declared.module.Function.{Function}
use Rattle.flow_points.specs.Rows.{AreInside, AreMarked, is_inside, is_marked, with_mark}
use Rattle.flow_points.specs.Search.{IsGrown, adjoins, adjoins_any}
use Rattle.flow_points.specs.declared.direction.Direction.{Direction}
use Rattle.flow_points.proofs.Tests.{has_point-at, has_point-more, has_point-push, or-false, or-since, or_assoc, take-all}
use Rattle.flow_points.proofs.Marking.{clear-falls, inside-same, is_marked-set, sizes-set}

-- nothing more
pub grown-none : (marks : List (List Bool)) (found : List Point) → AreMarked marks found → IsGrown (λ q. false) marks found marks found
grown-none marks found m = record { marked = m; sizes = refl; has = λ q. sym (or-false (has_point found q)); added = []; longer = sym (append-nil found); left = refl }

-- the same points by another test
pub grown-by : (a b : Point → Bool) (marks : List (List Bool)) (found : List Point) (marks2 : List (List Bool)) (found2 : List Point) → ((q : Point) → a q ≡ b q) → IsGrown a marks found marks2 found2 → IsGrown b marks found marks2 found2
grown-by a b marks found marks2 found2 same g =
    record { marked = g.marked; sizes = g.sizes; has = λ q. g.has q ∙ ap (λ t. has_point found q || t) (same q); added = g.added; longer = g.longer; left = g.left }

-- first some, then more
pub grown-then : (a b : Point → Bool) (m0 : List (List Bool)) (f0 : List Point) (m1 : List (List Bool)) (f1 : List Point) (m2 : List (List Bool)) (f2 : List Point) → IsGrown a m0 f0 m1 f1 → IsGrown b m1 f1 m2 f2 → IsGrown (λ q. a q || b q) m0 f0 m2 f2
grown-then a b m0 f0 m1 f1 m2 f2 g h =
    record {
      marked = h.marked;
      sizes = h.sizes ∙ g.sizes;
      has = λ q. h.has q ∙ ap (λ t. t || b q) (g.has q) ∙ or_assoc (has_point f0 q) (a q) (b q);
      added = g.added ++ h.added;
      longer = h.longer ∙ ap (λ (l : List Point). l ++ h.added) g.longer ∙ append_assoc f0 g.added h.added;
      left = h.left ∙ g.left;
    }

-- a point that was found before
pub grown-old : (p : Point) (marks : List (List Bool)) (found : List Point) → AreMarked marks found → is_marked marks p ≡ true → IsGrown (λ q. same_point q p) marks found marks found
grown-old p marks found m e =
    record {
      marked = m;
      sizes = refl;
      has = λ q. or-since (has_point found q) (same_point q p) (λ s. subst (λ (y : Point). has_point found y ≡ true) (sym (same_point-same q p s)) (sym (m.each p) ∙ e));
      added = [];
      longer = sym (append-nil found);
      left = refl;
    }

-- a point that is new
pub grown-new : (p : Point) (marks : List (List Bool)) (found : List Point) (marks2 : List (List Bool)) (found2 : List Point) → is_inside marks p ≡ true → AreMarked marks found → is_marked marks p ≡ false → marks2 ≡ with_mark marks p true → found2 ≡ found ++ p ∷ [] → IsGrown (λ q. same_point q p) marks found marks2 found2
grown-new p marks found marks2 found2 place m e is_marks is_found =
    subst (λ (l : List Point). IsGrown (λ q. same_point q p) marks found marks2 l) (sym is_found)
    (subst (λ (l : List (List Bool)). IsGrown (λ q. same_point q p) marks found l (found ++ p ∷ [])) (sym is_marks)
    (record {
      marked = record { each = λ q. is_marked-set marks p q place ∙ ap (λ b. b || same_point q p) (m.each q) ∙ sym (has_point-push found p q) };
      sizes = sizes-set marks p.block p.at true;
      has = has_point-push found p;
      added = p ∷ [];
      longer = refl;
      left = let falls = clear-falls marks p place e in let more = length-append found (p ∷ []) in omega (arith, falls, more);
    }))

-- ---- one more of a list

pub noted-none : (marks : List (List Bool)) (found : List Point) → AreMarked marks found → IsGrown (has_point []) marks found marks found
noted-none marks found m = grown-none marks found m

pub noted-more : (points : List Point) (i : ℕ) (p : Point) (m0 : List (List Bool)) (f0 : List Point) (m1 : List (List Bool)) (f1 : List Point) (m2 : List (List Bool)) (f2 : List Point) → i < length points → p ≡ get_or points i p → IsGrown (has_point (take i points)) m0 f0 m1 f1 → IsGrown (λ q. same_point q p) m1 f1 m2 f2 → IsGrown (has_point (take (i + 1) points)) m0 f0 m2 f2
noted-more points i p m0 f0 m1 f1 m2 f2 lt e g h =
    grown-by (λ q. has_point (take i points) q || same_point q p) (has_point (take (i + 1) points)) m0 f0 m2 f2
    (λ q. sym (has_point-more points i p q lt e))
    (grown-then (has_point (take i points)) (λ q. same_point q p) m0 f0 m1 f1 m2 f2 g h)

pub noted-all : (points : List Point) (i : ℕ) (m0 : List (List Bool)) (f0 : List Point) (m : List (List Bool)) (f : List Point) → length points ≤ i → IsGrown (has_point (take i points)) m0 f0 m f → IsGrown (has_point points) m0 f0 m f
noted-all points i m0 f0 m f le g = subst (λ (l : List Point). IsGrown (has_point l) m0 f0 m f) (take-all points i le) g

-- there is a place for the next one
pub next-inside : (points : List Point) (i : ℕ) (p : Point) (first marks : List (List Bool)) → i < length points → p ≡ get_or points i p → map length marks ≡ map length first → AreInside first points → is_inside marks p ≡ true
next-inside points i p first marks lt e sizes a = inside-same marks first p sizes ∙ a.each p (has_point-at points i p lt e)

-- ---- one more start

pub begun-more : (f : Function) (d : Direction) (starts : List Point) (i : ℕ) (s : Point) (m0 : List (List Bool)) (f0 : List Point) (m1 : List (List Bool)) (f1 : List Point) (m2 : List (List Bool)) (f2 : List Point) → i < length starts → s ≡ get_or starts i s → IsGrown (adjoins_any f d (take i starts)) m0 f0 m1 f1 → IsGrown (λ q. adjoins f d s q) m1 f1 m2 f2 → IsGrown (adjoins_any f d (take (i + 1) starts)) m0 f0 m2 f2
begun-more f d starts i s m0 f0 m1 f1 m2 f2 lt e g h =
    grown-by (λ q. adjoins_any f d (take i starts) q || adjoins f d s q) (adjoins_any f d (take (i + 1) starts)) m0 f0 m2 f2
    (λ q. sym (list_any_more (λ (y : Point). adjoins f d y q) starts i s lt ∙ ap (λ (y : Point). adjoins_any f d (take i starts) q || adjoins f d y q) (sym e)))
    (grown-then (adjoins_any f d (take i starts)) (λ q. adjoins f d s q) m0 f0 m1 f1 m2 f2 g h)

pub begun-all : (f : Function) (d : Direction) (starts : List Point) (i : ℕ) (m0 : List (List Bool)) (f0 : List Point) (m : List (List Bool)) (found : List Point) → length starts ≤ i → IsGrown (adjoins_any f d (take i starts)) m0 f0 m found → IsGrown (adjoins_any f d starts) m0 f0 m found
begun-all f d starts i m0 f0 m found le g = subst (λ (l : List Point). IsGrown (adjoins_any f d l) m0 f0 m found) (take-all starts i le) g
