-- A coroutine's layout is found by its number where layouts stand in order, and another function has none.
use Rattle.std.proofs.Common.{◌≡◌, ◌<◌, inl, inr, ℕ, zero, suc, ◌+◌, Bool, true, false, cond, List, [], ◌∷◌, refl, sym, ap, ◌∙◌, subst, arith}
use Rattle.std.proofs.lemmas.Bool.{false≢true}
use Rattle.std.specs.Prelude.{None, Option, Some, find, slice_get, unwrap_or, ◌==◌, if◌then◌else◌}
use Rattle.pass_proofs.specs.frame_layout.declared.layout.Layout.{Layout}
use Rattle.pass_proofs.proofs.ir_laws.facts.Truth.{equal_numbers, itself, other_number}
use Rattle.pass_proofs.specs.ir_model.declared.module.Function.{Function}
use Rattle.pass_proofs.specs.pass_split.Parts.{first_layout, other_layouts}
use Rattle.pass_split_proof.specs.code.Positions.{layout_at, layouts_from}
use Rattle.pass_split_proof.specs.ready.Layouts.{AreLayoutsOf}
use Rattle.pass_proofs.specs.run_framed.Framed.{layout_of, no_layout}

abbrev is_of : ℕ → Layout → Bool
is_of n l = l.coroutine == n

-- all of them have numbers from there on
none_below : (k : ℕ) (fs : List Function) (ls : List Layout) → AreLayoutsOf k fs ls → (n : ℕ) → n < k
    → find (is_of n) ls ≡ None
none_below k [] [] h n lt = refl
none_below k [] (l ∷ ls) h n lt = absurd h
none_below k (f ∷ fs) [] h n lt = refl
none_below k (f ∷ fs) (l ∷ ls) (inl h) n lt = none_below (k + 1) fs (l ∷ ls) h.1 n (omega (arith, lt))
none_below k (f ∷ fs) (l ∷ ls) (inr h) n lt =
    ap (λ (b : Bool). cond b (Some l) (find (is_of n) ls)) (ap (λ (c : ℕ). c == n) h.1 ∙ greater k n lt)
    ∙ none_below (k + 1) fs ls h.2 n (omega (arith, lt))
  where
    greater : (k n : ℕ) → n < k → (k == n) ≡ false
    greater k n lt = on (k == n) refl
      where
        on : (b : Bool) → (k == n) ≡ b → b ≡ false
        on false e = refl
        on true e = let same = equal_numbers k n e in absurd (omega (arith, same, lt))

skipped : (l : Layout) (ls : List Layout) (n : ℕ) → l.coroutine < n → find (is_of n) (l ∷ ls) ≡ find (is_of n) ls
skipped l ls n lt = ap (λ (b : Bool). cond b (Some l) (find (is_of n) ls)) (other_number l.coroutine n lt)

next : (k j : ℕ) → k + 1 + j ≡ k + suc j
next k j = omega arith

-- what is found for a coroutine at a position is what is left for it
found : (k : ℕ) (fs : List Function) (ls : List Layout) → AreLayoutsOf k fs ls → (j : ℕ) (f : Function)
    → slice_get fs j ≡ Some f → f.coroutine ≡ true → find (is_of (k + j)) ls ≡ Some (layout_at ls fs j)
found k [] ls h j f e c = absurd (cc)
found k (g ∷ fs) [] h zero f e c =
    let same : g ≡ f = cc in absurd (false≢true (sym h.0 ∙ ap (λ (x : Function). x.coroutine) same ∙ c))
found k (g ∷ fs) [] h (suc j) f e c =
    subst (λ (n : ℕ). find (is_of n) [] ≡ Some (layout_at [] (g ∷ fs) (suc j))) (next k j)
    (subst (λ (rest : List Layout). find (is_of (k + 1 + j)) [] ≡ Some (first_layout (layouts_from rest fs j)))
    (sym (ap (λ (b : Bool). if b then other_layouts [] else []) h.0)) (found (k + 1) fs [] h.1 j f e c))
found k (g ∷ fs) (l ∷ ls) (inl h) zero f e c =
    let same : g ≡ f = cc in absurd (false≢true (sym h.0 ∙ ap (λ (x : Function). x.coroutine) same ∙ c))
found k (g ∷ fs) (l ∷ ls) (inl h) (suc j) f e c =
    subst (λ (n : ℕ). find (is_of n) (l ∷ ls) ≡ Some (layout_at (l ∷ ls) (g ∷ fs) (suc j))) (next k j)
    (subst (λ (rest : List Layout). find (is_of (k + 1 + j)) (l ∷ ls) ≡ Some (first_layout (layouts_from rest fs j)))
    (sym (ap (λ (b : Bool). if b then other_layouts (l ∷ ls) else l ∷ ls) h.0))
    (found (k + 1) fs (l ∷ ls) h.1 j f e c))
found k (g ∷ fs) (l ∷ ls) (inr h) zero f e c =
    ap (λ (b : Bool). cond b (Some l) (find (is_of (k + 0)) ls))
    (ap (λ (n : ℕ). n == k + 0) h.1 ∙ ap (λ (n : ℕ). k == n)
    (none k) ∙ itself k)
  where
    none : (k : ℕ) → k + 0 ≡ k
    none k = omega arith
found k (g ∷ fs) (l ∷ ls) (inr h) (suc j) f e c =
    subst (λ (n : ℕ). find (is_of n) (l ∷ ls) ≡ Some (layout_at (l ∷ ls) (g ∷ fs) (suc j))) (next k j)
    (subst (λ (rest : List Layout). find (is_of (k + 1 + j)) (l ∷ ls) ≡ Some (first_layout (layouts_from rest fs j)))
    (sym (ap (λ (b : Bool). if b then other_layouts (l ∷ ls) else l ∷ ls) h.0))
    (skipped l ls (k + 1 + j) (low l.coroutine k j h.1) ∙ found (k + 1) fs ls h.2 j f e c))
  where
    low : (n k j : ℕ) → n ≡ k → n < k + 1 + j
    low n k j e = omega (arith, e)

-- for another function nothing is found
not_found : (k : ℕ) (fs : List Function) (ls : List Layout) → AreLayoutsOf k fs ls → (j : ℕ) (f : Function)
    → slice_get fs j ≡ Some f → f.coroutine ≡ false → find (is_of (k + j)) ls ≡ None
not_found k [] ls h j f e c = absurd (cc)
not_found k (g ∷ fs) [] h j f e c = refl
not_found k (g ∷ fs) (l ∷ ls) (inl h) zero f e c = none_below (k + 1) fs (l ∷ ls) h.1 (k + 0) (less k)
  where
    less : (k : ℕ) → k + 0 < k + 1
    less k = omega arith
not_found k (g ∷ fs) (l ∷ ls) (inl h) (suc j) f e c =
    subst (λ (n : ℕ). find (is_of n) (l ∷ ls) ≡ None) (next k j) (not_found (k + 1) fs (l ∷ ls) h.1 j f e c)
not_found k (g ∷ fs) (l ∷ ls) (inr h) zero f e c =
    let same : g ≡ f = cc in absurd (false≢true (sym c ∙ ap (λ (x : Function). x.coroutine) (sym same) ∙ h.0))
not_found k (g ∷ fs) (l ∷ ls) (inr h) (suc j) f e c =
    subst (λ (n : ℕ). find (is_of n) (l ∷ ls) ≡ None) (next k j)
    (skipped l ls (k + 1 + j) (low l.coroutine k j h.1) ∙ not_found (k + 1) fs ls h.2 j f e c)
  where
    low : (n k j : ℕ) → n ≡ k → n < k + 1 + j
    low n k j e = omega (arith, e)

first : (k : ℕ) → 0 + k ≡ k
first k = omega arith

pub layouts_found : (ls : List Layout) (fs : List Function) → AreLayoutsOf 0 fs ls → (k : ℕ) (f : Function)
    → slice_get fs k ≡ Some f → f.coroutine ≡ true → layout_of ls k ≡ layout_at ls fs k
layouts_found ls fs h k f e c = ap (λ (o : Option Layout). unwrap_or o (no_layout k))
    (ap (λ (n : ℕ). find (is_of n) ls) (sym (first k)) ∙ found 0 fs ls h k f e c)

pub no_layouts : (ls : List Layout) (fs : List Function) → AreLayoutsOf 0 fs ls → (k : ℕ) (f : Function)
    → slice_get fs k ≡ Some f → f.coroutine ≡ false → layout_of ls k ≡ no_layout k
no_layouts ls fs h k f e c = ap (λ (o : Option Layout). unwrap_or o (no_layout k))
    (ap (λ (n : ℕ). find (is_of n) ls) (sym (first k)) ∙ not_found 0 fs ls h k f e c)
