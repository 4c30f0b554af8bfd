-- The addresses by chains of getelementptrs: chains longer than there are getelementptrs give no more.
use Rattle.std.proofs.Common.{◌≡◌, ℕ, zero, suc, ◌+◌, ◌-◌, ◌<◌, ◌≤◌, ◌⊎◌, inl, inr, Bool, true, false, ◌||◌, List, [], ◌∷◌, ◌++◌, length, refl, ap, sym, subst, ◌∙◌, arith}
use Rattle.std.specs.Prelude.{if◌then◌else◌, ◌==◌}
use Rattle.std.proofs.lemmas.Bool.{false≢true, or_cases}
use Rattle.std.proofs.lemmas.List.Folds.{list_any-append}
use Rattle.flow_points.specs.ir_paths.Slots.{has_name}

-- ---- chains of pairs

-- the first ones of the pairs whose second one passes a test
abbrev pub reached_by : (ℕ → Bool) → List (ℕ × ℕ) → List ℕ
reached_by t [] = []
reached_by t (g ∷ gs) = (if t g.1 then g.0 ∷ [] else []) ++ reached_by t gs

abbrev pub chained : ℕ → List (ℕ × ℕ) → ℕ → List ℕ
chained zero gs a = a ∷ []
chained (suc n) gs a = a ∷ reached_by (has_name (chained n gs a)) gs

-- how many pairs have a second one that passes a test
abbrev pub count_of : (ℕ → Bool) → List (ℕ × ℕ) → ℕ
count_of t [] = 0
count_of t (g ∷ gs) = (if t g.1 then 1 else 0) + count_of t gs

abbrev pub Implies : (ℕ → Bool) → (ℕ → Bool) → Type 0
Implies t u = (v : ℕ) → t v ≡ true → u v ≡ true

or-left : (a b : Bool) → a ≡ true → (a || b) ≡ true
or-left true b e = refl
or-left false b e = absurd (false≢true e)

or-right : (a b : Bool) → b ≡ true → (a || b) ≡ true
or-right true b e = refl
or-right false b e = e

one-more : (b c : Bool) (g v : ℕ) → (b ≡ true → c ≡ true) → has_name (if b then g ∷ [] else []) v ≡ true → has_name (if c then g ∷ [] else []) v ≡ true
one-more true true g v f h = h
one-more true false g v f h = absurd (false≢true (f refl))
one-more false c g v f h = absurd (false≢true h)

has-append : (xs ys : List ℕ) (v : ℕ) → has_name (xs ++ ys) v ≡ (has_name xs v || has_name ys v)
has-append xs ys v = list_any-append (λ u. u == v) xs ys

pub reached-more : (t u : ℕ → Bool) (gs : List (ℕ × ℕ)) → Implies t u → Implies (has_name (reached_by t gs)) (has_name (reached_by u gs))
reached-more t u [] f v h = h
reached-more t u (g ∷ gs) f v h = on (or_cases (has_name (if t g.1 then g.0 ∷ [] else []) v) (has_name (reached_by t gs) v) (sym (has-append (if t g.1 then g.0 ∷ [] else []) (reached_by t gs) v) ∙ h)) (reached-more t u gs f v)
  where
    on : (has_name (if t g.1 then g.0 ∷ [] else []) v ≡ true) ⊎ (has_name (reached_by t gs) v ≡ true) → (has_name (reached_by t gs) v ≡ true → has_name (reached_by u gs) v ≡ true) → has_name (reached_by u (g ∷ gs)) v ≡ true
    on (inl e) ih = has-append (if u g.1 then g.0 ∷ [] else []) (reached_by u gs) v ∙ or-left (has_name (if u g.1 then g.0 ∷ [] else []) v) (has_name (reached_by u gs) v) (one-more (t g.1) (u g.1) g.0 v (f g.1) e)
    on (inr e) ih = has-append (if u g.1 then g.0 ∷ [] else []) (reached_by u gs) v ∙ or-right (has_name (if u g.1 then g.0 ∷ [] else []) v) (has_name (reached_by u gs) v) (ih e)

-- longer chains give no less
pub chained-more : (n : ℕ) (gs : List (ℕ × ℕ)) (a : ℕ) → Implies (has_name (chained n gs a)) (has_name (chained (suc n) gs a))
chained-more zero gs a v h = on (or_cases (a == v) false h)
  where
    on : ((a == v) ≡ true) ⊎ (false ≡ true) → has_name (chained 1 gs a) v ≡ true
    on (inl e) = or-left (a == v) (has_name (reached_by (has_name (a ∷ [])) gs) v) e
    on (inr e) = absurd (false≢true e)
chained-more (suc n) gs a v h = on (or_cases (a == v) (has_name (reached_by (has_name (chained n gs a)) gs) v) h) (chained-more n gs a)
  where
    on : ((a == v) ≡ true) ⊎ (has_name (reached_by (has_name (chained n gs a)) gs) v ≡ true) → Implies (has_name (chained n gs a)) (has_name (chained (suc n) gs a)) → has_name (chained (suc (suc n)) gs a) v ≡ true
    on (inl e) ih = or-left (a == v) (has_name (reached_by (has_name (chained (suc n) gs a)) gs) v) e
    on (inr e) ih = or-right (a == v) (has_name (reached_by (has_name (chained (suc n) gs a)) gs) v) (reached-more (has_name (chained n gs a)) (has_name (chained (suc n) gs a)) gs ih v e)

count-bound : (t : ℕ → Bool) (gs : List (ℕ × ℕ)) → count_of t gs ≤ length gs
count-bound t [] = omega arith
count-bound t (g ∷ gs) = on (t g.1) (count-bound t gs)
  where
    on : (b : Bool) → count_of t gs ≤ length gs → (if b then 1 else 0) + count_of t gs ≤ suc (length gs)
    on true h = omega arith
    on false h = omega arith

-- the count grows, or the same pairs pass
count-same : (t u : ℕ → Bool) (gs : List (ℕ × ℕ)) → Implies t u → (count_of t gs < count_of u gs) ⊎ ((count_of t gs ≡ count_of u gs) × (reached_by t gs ≡ reached_by u gs))
count-same t u [] f = inr (refl, refl)
count-same t u (g ∷ gs) f = on (t g.1) refl (u g.1) refl (count-same t u gs f)
  where
    on : (b : Bool) → t g.1 ≡ b → (c : Bool) → u g.1 ≡ c → (count_of t gs < count_of u gs) ⊎ ((count_of t gs ≡ count_of u gs) × (reached_by t gs ≡ reached_by u gs)) →
        ((if b then 1 else 0) + count_of t gs < (if c then 1 else 0) + count_of u gs) ⊎ (((if b then 1 else 0) + count_of t gs ≡ (if c then 1 else 0) + count_of u gs) × ((if b then g.0 ∷ [] else []) ++ reached_by t gs ≡ (if c then g.0 ∷ [] else []) ++ reached_by u gs))
    on true e true k (inl h) = inl (omega arith)
    on true e true k (inr h) = inr (ap (λ n. 1 + n) h.0, ap (λ (l : List ℕ). g.0 ∷ l) h.1)
    on true e false k h = absurd (false≢true (sym k ∙ f g.1 e))
    on false e true k (inl h) = inl (omega arith)
    on false e true k (inr h) = inl (let same = h.0 in omega (arith, same))
    on false e false k (inl h) = inl (omega arith)
    on false e false k (inr h) = inr (ap (λ n. 0 + n) h.0, h.1)

none-reached : (t : ℕ → Bool) (gs : List (ℕ × ℕ)) → count_of t gs ≡ 0 → reached_by t gs ≡ []
none-reached t [] e = refl
none-reached t (g ∷ gs) e = on (t g.1) (none-reached t gs) e
  where
    on : (b : Bool) → (count_of t gs ≡ 0 → reached_by t gs ≡ []) → (if b then 1 else 0) + count_of t gs ≡ 0 → (if b then g.0 ∷ [] else []) ++ reached_by t gs ≡ []
    on true ih e = absurd (omega arith)
    on false ih e = ih (omega arith)

-- a chain of so many pairs at most gives as much as one with one pair more, or the pairs that pass are more than it is long
stops : (n : ℕ) (gs : List (ℕ × ℕ)) (a : ℕ) → ((k : ℕ) × (k ≤ n) × (chained k gs a ≡ chained (suc k) gs a)) ⊎ (n < count_of (has_name (chained n gs a)) gs)
stops zero gs a = on (count_of (has_name (a ∷ [])) gs) refl
  where
    on : (c : ℕ) → count_of (has_name (a ∷ [])) gs ≡ c → ((k : ℕ) × (k ≤ 0) × (chained k gs a ≡ chained (suc k) gs a)) ⊎ (0 < count_of (has_name (a ∷ [])) gs)
    on zero e = inl (0, omega arith, ap (λ (l : List ℕ). a ∷ l) (sym (none-reached (has_name (a ∷ [])) gs e)))
    on (suc c) e = inr (omega (arith, e))
stops (suc n) gs a = on (stops n gs a) (count-same (has_name (chained n gs a)) (has_name (chained (suc n) gs a)) gs (chained-more n gs a))
  where
    on : ((k : ℕ) × (k ≤ n) × (chained k gs a ≡ chained (suc k) gs a)) ⊎ (n < count_of (has_name (chained n gs a)) gs) →
        (count_of (has_name (chained n gs a)) gs < count_of (has_name (chained (suc n) gs a)) gs) ⊎ ((count_of (has_name (chained n gs a)) gs ≡ count_of (has_name (chained (suc n) gs a)) gs) × (reached_by (has_name (chained n gs a)) gs ≡ reached_by (has_name (chained (suc n) gs a)) gs)) →
        ((k : ℕ) × (k ≤ suc n) × (chained k gs a ≡ chained (suc k) gs a)) ⊎ (suc n < count_of (has_name (chained (suc n) gs a)) gs)
    on (inl h) c = let le = h.1 in inl (h.0, omega (arith, le), h.2)
    on (inr lt) (inl more) = inr (omega arith)
    on (inr lt) (inr same) = inl (suc n, omega arith, ap (λ (l : List ℕ). a ∷ l) same.1)

pub stays : (k m : ℕ) (gs : List (ℕ × ℕ)) (a : ℕ) → chained k gs a ≡ chained (suc k) gs a → chained (k + m) gs a ≡ chained (suc (k + m)) gs a
stays k zero gs a e = let z : k + 0 ≡ k = omega arith in subst (λ (n : ℕ). chained n gs a ≡ chained (suc n) gs a) (sym z) e
stays k (suc m) gs a e =
    let s : k + suc m ≡ suc (k + m) = omega arith in
    subst (λ (n : ℕ). chained n gs a ≡ chained (suc n) gs a) (sym s) (ap (λ (l : List ℕ). a ∷ reached_by (has_name l) gs) (stays k m gs a e))

-- chains as long as there are pairs give all
pub chained-all : (gs : List (ℕ × ℕ)) (a : ℕ) → chained (length gs) gs a ≡ chained (suc (length gs)) gs a
chained-all gs a = on (stops (length gs) gs a)
  where
    on : ((k : ℕ) × (k ≤ length gs) × (chained k gs a ≡ chained (suc k) gs a)) ⊎ (length gs < count_of (has_name (chained (length gs) gs a)) gs) → chained (length gs) gs a ≡ chained (suc (length gs)) gs a
    on (inl h) =
        let le = h.1 in
        let s : h.0 + (length gs - h.0) ≡ length gs = omega (arith, le) in
        subst (λ (n : ℕ). chained n gs a ≡ chained (suc n) gs a) s (stays h.0 (length gs - h.0) gs a h.2)
    on (inr lt) = absurd (let b = count-bound (has_name (chained (length gs) gs a)) gs in omega (arith, b, lt))
