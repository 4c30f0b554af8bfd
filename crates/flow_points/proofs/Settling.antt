-- A search that goes on until nothing is left to be looked at.
use Rattle.std.proofs.Common.{◌≡◌, ℕ, ◌+◌, ◌-◌, ◌<◌, ◌≤◌, Bool, true, false, ◌||◌, List, [], length, take, get_or, refl, ap, sym, subst, ◌∙◌, arith, ⊎_elim, length-append}
use mathlib.Core.Bool.{beq}
use Rattle.std.specs.Prelude.{map, not}
use Rattle.std.proofs.lemmas.Bool.{false≢true, or_cases}
use Rattle.std.proofs.lemmas.List.{take-append-le}
use Rattle.ir_paths.specs.ir_model.declared.module.Function.{Function}
use Rattle.ir_paths.specs.Paths.{has_point, same_point}
use Rattle.ir_paths.specs.declared.point.Point.{Point}
use Rattle.ir_paths.proofs.Search.{same_point-same}
use Rattle.flow_points.specs.Rows.{AreBlank, AreJoined, AreMarked, is_inside, is_marked, sizes_of}
use Rattle.flow_points.specs.Search.{AreFound, IsFound, IsGrown, IsSettled, adjoins, adjoins_any, clear_count, is_closed}
use Rattle.flow_points.specs.Search.IsFound.{First, More}
use Rattle.flow_points.specs.declared.direction.Direction.{Direction}
use Rattle.flow_points.proofs.Marking.{inside-same, marked-inside}
use Rattle.flow_points.proofs.Tests.{has_point-at, has_point-more, no_test, take-all}

-- how far the search has come: the points before a place are looked at
pub record IsUnderway (f : Function) (d : Direction) (closed : Point → Bool) (marks : List (List Bool)) (found : List Point) (marks2 : List (List Bool)) (found2 : List Point) (at : ℕ) : Type 0 where
  pub within : at ≤ length found2
  pub marked : AreMarked marks2 found2
  pub sizes : map length marks2 ≡ map length marks
  pub kept : (q : Point) → has_point found q ≡ true → has_point found2 q ≡ true
  pub sound : (q : Point) → has_point found2 q ≡ true → IsFound f d closed (has_point found) q
  pub closes : (p q : Point) → has_point (take at found2) p ≡ true → closed p ≡ false → adjoins f d p q ≡ true → has_point found2 q ≡ true

pub underway-start : (f : Function) (d : Direction) (closed : Point → Bool) (marks : List (List Bool)) (found : List Point) → AreMarked marks found → IsUnderway f d closed marks found marks found 0
underway-start f d closed marks found m =
    record { within = omega arith; marked = m; sizes = refl; kept = λ q h. h; sound = λ q h. First q h; closes = λ p q h. absurd (false≢true h) }

module _ (f : Function) (d : Direction) (closed : Point → Bool) (marks : List (List Bool)) (found : List Point) where
  -- a point from which the search doesn't go on
  pub underway-closed : (marks2 : List (List Bool)) (found2 : List Point) (at : ℕ) (p : Point) → at < length found2 → p ≡ get_or found2 at p → closed p ≡ true → IsUnderway f d closed marks found marks2 found2 at → IsUnderway f d closed marks found marks2 found2 (at + 1)
  underway-closed marks2 found2 at p lt e c u =
      record { within = omega arith; marked = u.marked; sizes = u.sizes; kept = u.kept; sound = u.sound; closes = closes }
    where
      closes : (r q : Point) → has_point (take (at + 1) found2) r ≡ true → closed r ≡ false → adjoins f d r q ≡ true → has_point found2 q ≡ true
      closes r q h o a =
          ⊎_elim (λ old. u.closes r q old o a)
          (λ now. no_test (closed p) c (subst (λ (y : Point). closed y ≡ false) (same_point-same r p now) o))
          (or_cases (has_point (take at found2) r) (same_point r p) (sym (has_point-more found2 at p r lt e) ∙ h))

  -- a point from which it goes on
  pub underway-open : (marks2 : List (List Bool)) (found2 : List Point) (marks3 : List (List Bool)) (found3 : List Point) (at : ℕ) (p : Point) → at < length found2 → p ≡ get_or found2 at p → closed p ≡ false → IsGrown (λ q. adjoins f d p q) marks2 found2 marks3 found3 → IsUnderway f d closed marks found marks2 found2 at → IsUnderway f d closed marks found marks3 found3 (at + 1)
  underway-open marks2 found2 marks3 found3 at p lt e o g u =
      record { within = within; marked = g.marked; sizes = g.sizes ∙ u.sizes; kept = λ q h. stays q (u.kept q h); sound = sound; closes = closes }
    where
      within : at + 1 ≤ length found3
      within = let len = ap (length {A = Point}) g.longer ∙ length-append found2 g.added in omega (arith, len, lt)

      either-way : (a b : Bool) → a ≡ true → (a || b) ≡ true
      either-way true b h = refl
      either-way false b h = absurd (false≢true h)

      other-way : (a b : Bool) → b ≡ true → (a || b) ≡ true
      other-way true b h = refl
      other-way false b h = h

      stays : (q : Point) → has_point found2 q ≡ true → has_point found3 q ≡ true
      stays q h = g.has q ∙ either-way (has_point found2 q) (adjoins f d p q) h

      comes : (q : Point) → adjoins f d p q ≡ true → has_point found3 q ≡ true
      comes q h = g.has q ∙ other-way (has_point found2 q) (adjoins f d p q) h

      here : IsFound f d closed (has_point found) p
      here = u.sound p (has_point-at found2 at p lt e)

      sound : (q : Point) → has_point found3 q ≡ true → IsFound f d closed (has_point found) q
      sound q h = ⊎_elim (u.sound q) (λ a. More p q here o a) (or_cases (has_point found2 q) (adjoins f d p q) (sym (g.has q) ∙ h))

      front : take (at + 1) found3 ≡ take (at + 1) found2
      front = ap (take (at + 1)) g.longer ∙ take-append-le (at + 1) found2 g.added (omega arith)

      closes : (r q : Point) → has_point (take (at + 1) found3) r ≡ true → closed r ≡ false → adjoins f d r q ≡ true → has_point found3 q ≡ true
      closes r q h c a =
          ⊎_elim (λ old. stays q (u.closes r q old c a))
          (λ now. comes q (subst (λ (y : Point). adjoins f d y q ≡ true) (same_point-same r p now) a))
          (or_cases (has_point (take at found2) r) (same_point r p)
          (sym (has_point-more found2 at p r lt e) ∙ ap (λ (l : List Point). has_point l r) (sym front) ∙ h))

  pub settled-all : (marks2 : List (List Bool)) (found2 : List Point) (at : ℕ) → length found2 ≤ at → IsUnderway f d closed marks found marks2 found2 at → IsSettled f d closed marks found marks2 found2
  settled-all marks2 found2 at le u =
      record {
        marked = u.marked;
        sizes = u.sizes;
        kept = u.kept;
        sound = u.sound;
        closes = λ p q h c a. u.closes p q (ap (λ (l : List Point). has_point l p) (take-all found2 at le) ∙ h) c a;
      }

-- what is left to be looked at
abbrev pub left_of : List (List Bool) → List Point → ℕ → ℕ
left_of marks found at = clear_count marks + (length found - at)

pub left-closed : (marks : List (List Bool)) (found : List Point) (at : ℕ) → at < length found → left_of marks found (at + 1) < left_of marks found at
left-closed marks found at lt = omega arith

pub left-open : (more : Point → Bool) (marks : List (List Bool)) (found : List Point) (marks2 : List (List Bool)) (found2 : List Point) (at : ℕ) → at < length found → IsGrown more marks found marks2 found2 → left_of marks2 found2 (at + 1) < left_of marks found at
left-open more marks found marks2 found2 at lt g =
    let len = ap (length {A = Point}) g.longer ∙ length-append found g.added in
    let left = g.left in
    omega (arith, len, left, lt)

-- ---- what the whole search has found

module _ (f : Function) (d : Direction) (starts avoided : List Point) (blank joined marks0 marks1 marks2 : List (List Bool)) (found1 found2 : List Point)
    (is_blank : AreBlank blank) (is_joined : AreJoined avoided blank joined) (room : map length blank ≡ sizes_of f) (room2 : map length marks0 ≡ sizes_of f)
    (begun : IsGrown (adjoins_any f d starts) marks0 [] marks1 found1) (settled : IsSettled f d (is_closed joined false) marks1 found1 marks2 found2) where
  -- of what is found the marks say what is avoided
  closes-same : (p : Point) → has_point found2 p ≡ true → is_marked joined p ≡ has_point avoided p
  closes-same p h =
      let marked : is_marked marks2 p ≡ true = settled.marked.each p ∙ h in
      let place : is_inside blank p ≡ true = inside-same blank marks2 p (room ∙ sym (settled.sizes ∙ begun.sizes ∙ room2)) ∙ marked-inside marks2 p marked in
      is_joined.each p place ∙ ap (λ b. b || has_point avoided p) (is_blank.none p)

  found-complete : (q : Point) → IsFound f d (has_point avoided) (adjoins_any f d starts) q → has_point found2 q ≡ true
  found-complete _ (First q h) = settled.kept q (begun.has q ∙ h)
  found-complete _ (More p q before o a) = let h = found-complete p before in settled.closes p q h (closes-same p h ∙ o) a

  found-sound : (q : Point) → IsFound f d (is_closed joined false) (has_point found1) q → IsFound f d (has_point avoided) (adjoins_any f d starts) q × (has_point found2 q ≡ true)
  found-sound _ (First q h) = (First q (sym (begun.has q) ∙ h), settled.kept q h)
  found-sound _ (More p q before o a) =
      let ih = found-sound p before in
      (More p q ih.0 (sym (closes-same p ih.1) ∙ o) a, settled.closes p q ih.1 o a)

  pub found-is : AreFound f d starts avoided found2
  found-is = record { each = λ q. (λ h. (found-sound q (settled.sound q h)).0, found-complete q) }

-- ---- the same state under other names

pub underway-as : (f : Function) (d : Direction) (closed : Point → Bool) (marks : List (List Bool)) (found : List Point) (marks2 marks3 : List (List Bool)) (found2 found3 : List Point) (at : ℕ) → marks3 ≡ marks2 → found3 ≡ found2 → IsUnderway f d closed marks found marks2 found2 at → IsUnderway f d closed marks found marks3 found3 at
underway-as f d closed marks found marks2 marks3 found2 found3 at m e u =
    subst (λ (l : List (List Bool)). IsUnderway f d closed marks found l found3 at) (sym m) (subst (λ (l : List Point). IsUnderway f d closed marks found marks2 l at) (sym e) u)

pub left-as : (marks2 marks3 : List (List Bool)) (found2 found3 : List Point) (at n : ℕ) → marks3 ≡ marks2 → found3 ≡ found2 → left_of marks2 found2 at < n → left_of marks3 found3 at < n
left-as marks2 marks3 found2 found3 at n m e h =
    let a : left_of marks3 found3 at ≡ left_of marks2 found2 at = ap (λ (l : List (List Bool)). left_of l found3 at) m ∙ ap (λ (l : List Point). left_of marks2 l at) e in
    let P : ℕ → Type 0 = λ k. k < n in
    subst P (sym a) h

-- ---- whether the search goes on

pub goes-on : (limits : List (List Bool)) (on : Bool) (p : Point) (has : Bool) → has ≡ is_marked limits p → beq has on ≡ true → is_closed limits on p ≡ false
goes-on limits true p true e is = ap not (sym e)
goes-on limits true p false e is = absurd (false≢true is)
goes-on limits false p true e is = absurd (false≢true is)
goes-on limits false p false e is = sym e

pub goes-not-on : (limits : List (List Bool)) (on : Bool) (p : Point) (has : Bool) → has ≡ is_marked limits p → beq has on ≡ false → is_closed limits on p ≡ true
goes-not-on limits true p true e is = absurd (false≢true (sym is))
goes-not-on limits true p false e is = ap not (sym e)
goes-not-on limits false p true e is = sym e
goes-not-on limits false p false e is = absurd (false≢true (sym is))
