-- Whether a point found ends the use of a handle.
use Rattle.std.proofs.Common.{◌≡◌, Bool, true, false, not, List, [], ◌∷◌, refl, sym, ◌∙◌, subst, inl, inr, ⊎_elim}
use Rattle.std.proofs.lemmas.Bool.{false≢true}
use Rattle.std.specs.Prelude.{IsTrue, IsFalse, ◌⊎◌, ◌↔◌, ◌||◌}
use Rattle.std.specs.List.{list_any}
use Rattle.elide_shape.specs.Calls.{value_at}
use Rattle.elide_sites.specs.Sites.{IsDestroyed, destroys_of, ends_use}
use Rattle.ir_model.specs.declared.module.Function.{Function}
use Rattle.ir_paths.proofs.Search.{same_point-itself, same_point-same}
use Rattle.ir_paths.specs.Paths.{has_point, same_point}
use Rattle.ir_paths.specs.declared.point.Point.{Point}
use Rattle.flow_points.specs.Reached.{AreReached}

or_cases : (a b : Bool) → (a || b) ≡ true → (a ≡ true) ⊎ (b ≡ true)
or_cases true b e = inl refl
or_cases false b e = inr e

or_none : (a b : Bool) → (a || b) ≡ false → (a ≡ false) × (b ≡ false)
or_none true b e = absurd (false≢true (sym e))
or_none false b e = (refl, e)

or_first : (a b : Bool) → a ≡ true → (a || b) ≡ true
or_first true b e = refl
or_first false b e = absurd (false≢true e)

or_second : (a b : Bool) → b ≡ true → (a || b) ≡ true
or_second true b e = refl
or_second false b e = e

-- a test fails at each point of a list where none passes
none_passes : (test : Point → Bool) (xs : List Point) → list_any test xs ≡ false → (q : Point) → has_point xs q ≡ true → test q ≡ false
none_passes test [] e q h = absurd (false≢true h)
none_passes test (x ∷ xs) e q h =
    let parts = or_none (test x) (list_any test xs) e in
    ⊎_elim
    (λ here. subst (λ (p : Point). test p ≡ false) (sym (same_point-same q x here)) parts.0)
    (λ later. none_passes test xs parts.1 q later)
    (or_cases (same_point q x) (has_point xs q) h)

none_where : (test : Point → Bool) (xs : List Point) → ((q : Point) → has_point xs q ≡ true → test q ≡ false) → list_any test xs ≡ false
none_where test [] h = refl
none_where test (x ∷ xs) h =
    both (test x) (list_any test xs)
    (h x (or_first (same_point x x) (has_point xs x) (same_point-itself x)))
    (none_where test xs (λ q in_rest. h q (or_second (same_point q x) (has_point xs q) in_rest)))
  where
    both : (a b : Bool) → a ≡ false → b ≡ false → (a || b) ≡ false
    both true b e k = e
    both false b e k = k

not_true : (b : Bool) → not b ≡ true → b ≡ false
not_true true e = absurd (false≢true e)
not_true false e = refl

not_false : (b : Bool) → b ≡ false → not b ≡ true
not_false true e = absurd (false≢true (sym e))
not_false false e = refl

pub destroyed_is : (f : Function) (call : Point) (destroys found : List Point) (b : Bool) → destroys ≡ destroys_of f (value_at f call) → AreReached f (call ∷ []) destroys found → b ≡ list_any (ends_use f call) found → IsTrue (not b) ↔ IsDestroyed f call
destroyed_is f call destroys found b are reached is = (to, from)
  where
    reached2 : AreReached f (call ∷ []) (destroys_of f (value_at f call)) found
    reached2 = subst (λ (l : List Point). AreReached f (call ∷ []) l found) are reached

    to : IsTrue (not b) → IsDestroyed f call
    to e = record { before = λ p path. none_passes (ends_use f call) found (sym is ∙ not_true b e) p ((reached2.each p).1 path) }

    from : IsDestroyed f call → IsTrue (not b)
    from d = not_false b (is ∙ none_where (ends_use f call) found (λ q h. d.before q ((reached2.each q).0 h)))
