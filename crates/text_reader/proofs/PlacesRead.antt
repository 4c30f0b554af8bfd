-- The positions of names.
use Rattle.std.proofs.Common.{◌≡◌, ℕ, zero, suc, ◌+◌, Bool, true, false, not, cond, ◌&&◌, ◌||◌, ◌==◌, List, [], ◌∷◌, ◌++◌, length, Option, refl, sym, ap, subst, ◌∙◌, ◌⊎◌, inl, inr, arith, None}
use Rattle.std.specs.Prelude.{Some, IfSome}
use Rattle.std.specs.List.{list_any}
use Rattle.std.proofs.lemmas.Bool.{eqb-true, eq-eqb, false≢true}
use Rattle.ir_base.specs.declared.name.Name.{Name}
use Rattle.ir_base.specs.declared.name.Name.TheVariants.{Number, Text}
use Rattle.ir_model.specs.Names.{same_name, same_text}
use Rattle.text_grammar.specs.Values.{StandsAt, IsNew, IsPlace}
use Rattle.text_reader.specs.Locals.{place_of, with_name}
use Rattle.text_reader.specs.Values.{named_at}

-- ---- names that are the same

and-left : (a b : Bool) → a && b ≡ true → a ≡ true
and-left true b e = refl
and-left false b e = e

and-right : (a b : Bool) → a && b ≡ true → b ≡ true
and-right true b e = e
and-right false b e = absurd (false≢true e)

both-hold : (a b : Bool) → a ≡ true → b ≡ true → (a && b) ≡ true
both-hold true b e f = f
both-hold false b e f = e

cons-same : (x y : ℕ) (xs ys : List ℕ) → x ≡ y → xs ≡ ys → x ∷ xs ≡ y ∷ ys
cons-same x y xs ys e f = cc

pub same_text-same : (s t : List ℕ) → same_text s t ≡ true → s ≡ t
same_text-same [] [] e = refl
same_text-same [] (y ∷ ys) e = cc
same_text-same (x ∷ xs) [] e = cc
same_text-same (x ∷ xs) (y ∷ ys) e =
    cons-same x y xs ys (eqb-true x y (and-left (x == y) (same_text xs ys) e)) (same_text-same xs ys (and-right (x == y) (same_text xs ys) e))

pub same_text-refl : (t : List ℕ) → same_text t t ≡ true
same_text-refl [] = refl
same_text-refl (x ∷ xs) = both-hold (x == x) (same_text xs xs) (eq-eqb x x refl) (same_text-refl xs)

same_name-same : (a b : Name) → same_name a b ≡ true → a ≡ b
same_name-same (Number m) (Number n) e = ap Number (eqb-true m n e)
same_name-same (Number m) (Text t) e = cc
same_name-same (Text s) (Number n) e = cc
same_name-same (Text s) (Text t) e = ap Text (same_text-same s t e)

same_name-refl : (a : Name) → same_name a a ≡ true
same_name-refl (Number m) = eq-eqb m m refl
same_name-refl (Text s) = same_text-refl s

same_name-of : (n m : Name) → m ≡ n → same_name n m ≡ true
same_name-of n m e = subst (λ (x : Name). same_name n x ≡ true) (sym e) (same_name-refl n)

same_name-off : (n m : Name) → (m ≡ n → ⊥) → same_name n m ≡ false
same_name-off n m ne = split (same_name n m) refl
  where
    split : (b : Bool) → same_name n m ≡ b → b ≡ false
    split true e = absurd (ne (sym (same_name-same n m e)))
    split false e = refl

-- ---- found

abbrev Found : List Name → Name → ℕ → Bool → Type 0
Found ns n i known = ((known ≡ true) × StandsAt ns n i) ⊎ ((known ≡ false) × IsNew ns n × (i ≡ length ns))

differ : (n m : Name) → same_name n m ≡ false → m ≡ n → ⊥
differ n m e same = false≢true (sym e ∙ same_name-of n m same)

found_cons : (n m : Name) (ns : List Name) (i : ℕ) (known b : Bool) → same_name n m ≡ b → Found ns n i known → Found (m ∷ ns) n (cond (not b) (1 + i) 0) (b || known)
found_cons n m ns i known true e h = inl (refl, sym (same_name-same n m e))
found_cons n m ns i known false e (inl h) = let s : 1 + i ≡ suc i = omega arith in rw s (inl (h.0, (differ n m e, h.1)))
found_cons n m ns i known false e (inr h) = inr (h.0, (differ n m e, h.1), omega (arith, h.2))

found_place : (ns : List Name) (n : Name) → Found ns n (place_of ns n) (list_any (same_name n) ns)
found_place [] n = inr (refl, tt, refl)
found_place (m ∷ ns) n = found_cons n m ns (place_of ns n) (list_any (same_name n) ns) (same_name n m) refl (found_place ns n)

from_found : (ns : List Name) (n : Name) (i : ℕ) (known : Bool) → Found ns n i known → IsPlace ns n i (cond known ns (ns ++ n ∷ []))
from_found ns n i known (inl h) = rw h.0 (inl (h.1, refl))
from_found ns n i known (inr h) = rw h.0 (inr (h.1, h.2, refl))

pub place_found : (ns : List Name) (n : Name) → IsPlace ns n (place_of ns n) (with_name ns n)
place_found ns n = from_found ns n (place_of ns n) (list_any (same_name n) ns) (found_place ns n)

pub named_found : (ns : List Name) (o : Option Name) → IfSome (named_at ns o) (λ r. (n : Name) × (o ≡ Some n) × IsPlace ns n r.0 r.1)
named_found ns None = tt
named_found ns (Some n) = (n, refl, place_found ns n)

-- ---- again

known_again : (ns : List Name) (n : Name) (i : ℕ) → StandsAt ns n i → (place_of ns n ≡ i) × (list_any (same_name n) ns ≡ true)
known_again [] n i h = absurd h
known_again (m ∷ ns) n zero h = let e = same_name-of n m h in (rw e refl, rw e refl)
known_again (m ∷ ns) n (suc i) h =
    let e = same_name-off n m h.0 in
    let rest = known_again ns n i h.1 in
    (rw e (omega (arith, rest.0)), rw e rest.1)

new_again : (ns : List Name) (n : Name) → IsNew ns n → (place_of ns n ≡ length ns) × (list_any (same_name n) ns ≡ false)
new_again [] n h = (refl, refl)
new_again (m ∷ ns) n h =
    let e = same_name-off n m h.0 in
    let rest = new_again ns n h.1 in
    (rw e (omega (arith, rest.0)), rw e rest.1)

with_known : (ns : List Name) (n : Name) (b : Bool) → list_any (same_name n) ns ≡ b → with_name ns n ≡ cond b ns (ns ++ n ∷ [])
with_known ns n b e = ap (λ (c : Bool). cond c ns (ns ++ n ∷ [])) e

pub place_again : (ns : List Name) (n : Name) (i : ℕ) (with_it : List Name) → IsPlace ns n i with_it → (place_of ns n ≡ i) × (with_name ns n ≡ with_it)
place_again ns n i with_it (inl h) = let k = known_again ns n i h.0 in (k.0, with_known ns n true k.1 ∙ sym h.1)
place_again ns n i with_it (inr h) = let k = new_again ns n h.0 in (k.0 ∙ sym h.1, with_known ns n false k.1 ∙ sym h.2)

pub named_again : (ns : List Name) (n : Name) (i : ℕ) (with_it : List Name) → IsPlace ns n i with_it → named_at ns (Some n) ≡ Some (i, with_it)
named_again ns n i with_it h =
    let k = place_again ns n i with_it h in
    ap (λ (x : ℕ). Some (x, with_name ns n)) k.0 ∙ ap (λ (l : List Name). Some (i, l)) k.1
