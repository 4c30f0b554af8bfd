-- Marks in tables.
use Rattle.std.proofs.Common.{◌≡◌, ℕ, zero, suc, Bool, true, false, ◌&&◌, ◌||◌, List, [], ◌∷◌, refl, ap, sym, ◌∙◌, Option, Some, None}
use Rattle.std.specs.Prelude.{filter, not, slice_get, if◌then◌else◌, ◌==◌}
use Rattle.std.specs.List.{list_any}
use Rattle.std.proofs.lemmas.Bool.{eq-eqb, eqb-true, false≢true}
use Rattle.ir_paths.specs.Paths.{has_point, same_point}
use Rattle.ir_paths.specs.Windows.{leaves}
use Rattle.ir_paths.specs.declared.point.Point.{Point}
use Rattle.ir_paths.specs.declared.point.Window.{Window}

eqb-flip-by : (a b : ℕ) (v w : Bool) → (a == b) ≡ v → (b == a) ≡ w → v ≡ w
eqb-flip-by a b true true e f = refl
eqb-flip-by a b true false e f = sym (sym f ∙ eq-eqb b a (sym (eqb-true a b e)))
eqb-flip-by a b false true e f = sym e ∙ eq-eqb a b (sym (eqb-true b a f))
eqb-flip-by a b false false e f = refl

eqb-flip : (a b : ℕ) → (a == b) ≡ (b == a)
eqb-flip a b = eqb-flip-by a b (a == b) (b == a) refl refl

pub any-flip : (n : ℕ) (xs : List ℕ) → list_any (λ a. n == a) xs ≡ list_any (λ a. a == n) xs
any-flip n [] = refl
any-flip n (x ∷ xs) = ap (λ v. v || list_any (λ a. n == a) xs) (eqb-flip n x) ∙ ap (λ v. (x == n) || v) (any-flip n xs)

or-left : (a b : Bool) → (a || b) ≡ false → a ≡ false
or-left true b e = e
or-left false b e = refl

or-right : (a b : Bool) → (a || b) ≡ false → b ≡ false
or-right true b e = absurd (false≢true (sym e))
or-right false b e = e

and-none : (a b : Bool) → a ≡ false → (a && b) ≡ false
and-none true b e = absurd (false≢true (sym e))
and-none false b e = refl

or-none : (a b : Bool) → a ≡ false → b ≡ false → (a || b) ≡ false
or-none true b e f = absurd (false≢true (sym e))
or-none false b e f = f

none-inside : (p : Point) (inside : List Point) → list_any (λ q. p.block == q.block) inside ≡ false → has_point inside p ≡ false
none-inside p [] e = refl
none-inside p (q ∷ inside) e =
    or-none (same_point p q) (has_point inside p) (and-none (p.block == q.block) (p.at == q.at) (or-left (p.block == q.block) (list_any (λ r. p.block == r.block) inside) e))
    (none-inside p inside (or-right (p.block == q.block) (list_any (λ r. p.block == r.block) inside) e))

if-none : (b : Bool) (w : Window) (ws : List Window) → b ≡ false → ws ≡ [] → (if b then w ∷ ws else ws) ≡ []
if-none true w ws e f = absurd (false≢true (sym e))
if-none false w ws e f = f

-- an edge from a block in which no point of a window stands leaves none
pub none-left : (p q : Point) (ws : List Window) → list_any (λ w. list_any (λ r. p.block == r.block) w.inside) ws ≡ false → filter (λ w. leaves p q w) ws ≡ []
none-left p q [] e = refl
none-left p q (w ∷ ws) e =
    if-none (leaves p q w) w (filter (λ w. leaves p q w) ws)
    (and-none (has_point w.inside p && not (has_point w.inside q)) (not (same_point q w.suspend)) (and-none (has_point w.inside p) (not (has_point w.inside q)) (none-inside p w.inside (or-left (list_any (λ r. p.block == r.block) w.inside) (list_any (λ w. list_any (λ r. p.block == r.block) w.inside) ws) e))))
    (none-left p q ws (or-right (list_any (λ r. p.block == r.block) w.inside) (list_any (λ w. list_any (λ r. p.block == r.block) w.inside) ws) e))
