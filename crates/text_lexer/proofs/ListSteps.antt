-- Turns of a loop that reads one value after another.
use Rattle.std.proofs.Common.{◌≡◌, ℕ, zero, suc, ◌<◌, ◌≤◌, Bool, true, false, cond, List, [], ◌∷◌, ◌++◌, length, Option, refl, sym, ap, ◌∙◌, append_assoc, arith, None}
use Rattle.std.specs.Prelude.{Some}
use Rattle.std.proofs.lemmas.Bool.{ltb-true, lt-ltb}
use Rattle.text_lexer.specs.Lists.{when, front, is_shorter, up_to, all_at}

-- what is done with what was read, where it took something
abbrev on : {A T : Type 0} → (List T → Option (A × List T)) → ℕ → List T → A × List T → Bool → List A × List T
on p n ts x b = cond b (front x.0 (up_to p n x.1)) ([], ts)

-- how far a reader may go beyond what is left doesn't matter
on_same : {A T : Type 0} (p : List T → Option (A × List T)) (n m : ℕ) (ts : List T) (x : A × List T) (b : Bool) → (b ≡ true → up_to p n x.1 ≡ up_to p m x.1) → on p n ts x b ≡ on p m ts x b
on_same p n m ts x true h = ap (front x.0) (h refl)
on_same p n m ts x false h = refl

when_same : {A T : Type 0} (p : List T → Option (A × List T)) (n m : ℕ) (ts : List T) (o : Option (A × List T)) → ((x : A × List T) → length x.1 < length ts → up_to p n x.1 ≡ up_to p m x.1) → when o ([], ts) (λ x. on p n ts x (is_shorter x.1 ts)) ≡ when o ([], ts) (λ x. on p m ts x (is_shorter x.1 ts))
when_same p n m ts None h = refl
when_same p n m ts (Some x) h = on_same p n m ts x (is_shorter x.1 ts) (λ e. h x (ltb-true (length x.1) (length ts) e))

empty_end : {A T : Type 0} (p : List T → Option (A × List T)) (n : ℕ) (o : Option (A × List T)) → ◌≡◌ {A = List A × List T} ([], []) (when o ([], []) (λ x. on p n [] x (is_shorter x.1 [])))
empty_end p n None = refl
empty_end {A} {T} p n (Some x) = split (is_shorter x.1 []) refl
  where
    split : (b : Bool) → is_shorter x.1 [] ≡ b → ◌≡◌ {A = List A × List T} ([], []) (on p n [] x b)
    split true e = let bad : length x.1 < 0 = ltb-true (length x.1) 0 e in absurd (omega arith)
    split false e = refl

pub up_to-enough : {A T : Type 0} (p : List T → Option (A × List T)) (n m : ℕ) (ts : List T) → length ts ≤ n → length ts ≤ m → up_to p n ts ≡ up_to p m ts
up_to-enough p zero zero ts h k = refl
up_to-enough p zero (suc m) [] h k = empty_end p m (p [])
up_to-enough p zero (suc m) (t ∷ ts) h k = absurd (omega arith)
up_to-enough p (suc n) zero [] h k = sym (empty_end p n (p []))
up_to-enough p (suc n) zero (t ∷ ts) h k = absurd (omega arith)
up_to-enough p (suc n) (suc m) ts h k =
    when_same p n m ts (p ts) (λ x less. up_to-enough p n m x.1 (omega arith) (omega arith))

-- ---- the next value, and the end

pub all_at-some : {A T : Type 0} (p : List T → Option (A × List T)) (ts : List T) (x : A) (rest : List T) → p ts ≡ Some (x, rest) → length rest < length ts → all_at p ts ≡ front x (all_at p rest)
all_at-some p [] x rest e less = absurd (omega arith)
all_at-some p (t ∷ ts) x rest e less =
    ap (λ o. when o ([], t ∷ ts) (λ y. on p (length ts) (t ∷ ts) y (is_shorter y.1 (t ∷ ts)))) e
    ∙ ap (on p (length ts) (t ∷ ts) (x, rest)) (lt-ltb (length rest) (length (t ∷ ts)) less)
    ∙ ap (front x) (up_to-enough p (length ts) (length rest) rest (omega arith) (omega arith))

pub all_at-none : {A T : Type 0} (p : List T → Option (A × List T)) (ts : List T) → p ts ≡ None → all_at p ts ≡ ([], ts)
all_at-none p [] e = refl
all_at-none p (t ∷ ts) e = ap (λ o. when o ([], t ∷ ts) (λ y. on p (length ts) (t ∷ ts) y (is_shorter y.1 (t ∷ ts)))) e

pub all_at-stuck : {A T : Type 0} (p : List T → Option (A × List T)) (ts : List T) (x : A) (rest : List T) → p ts ≡ Some (x, rest) → length ts ≤ length rest → all_at p ts ≡ ([], ts)
all_at-stuck p [] x rest e more = refl
all_at-stuck p (t ∷ ts) x rest e more =
    ap (λ o. when o ([], t ∷ ts) (λ y. on p (length ts) (t ∷ ts) y (is_shorter y.1 (t ∷ ts)))) e
    ∙ stuck (is_shorter rest (t ∷ ts)) refl
  where
    stuck : (b : Bool) → is_shorter rest (t ∷ ts) ≡ b → on p (length ts) (t ∷ ts) (x, rest) b ≡ ([], t ∷ ts)
    stuck true e = let bad : length rest < length (t ∷ ts) = ltb-true (length rest) (length (t ∷ ts)) e in absurd (omega arith)
    stuck false e = refl

-- ---- the same for a loop, with the values so far

abbrev pub behind : {A T : Type 0} → List A → List A × List T → List A × List T
behind xs r = (xs ++ r.0, r.1)

behind-front : {A T : Type 0} (xs : List A) (x : A) (r : List A × List T) → behind xs (front x r) ≡ behind (xs ++ x ∷ []) r
behind-front xs x r = ap (λ (l : List _). (l, r.1)) (sym (append_assoc xs (x ∷ []) r.0))

pub all_turn : {A T : Type 0} (p : List T → Option (A × List T)) (whole : List A × List T) (xs ys : List A) (ts : List T) (x : A) (rest : List T) → whole ≡ behind xs (all_at p ts) → p ts ≡ Some (x, rest) → length rest < length ts → ys ≡ xs ++ x ∷ [] → whole ≡ behind ys (all_at p rest)
all_turn p whole xs ys ts x rest inv e less items =
    inv ∙ ap (behind xs) (all_at-some p ts x rest e less) ∙ behind-front xs x (all_at p rest) ∙ ap (λ (l : List _). behind l (all_at p rest)) (sym items)

append_none : {A : Type 0} (xs : List A) → xs ++ [] ≡ xs
append_none [] = refl
append_none (x ∷ xs) = ap (λ (l : List _). x ∷ l) (append_none xs)

pub all_end : {A T : Type 0} (p : List T → Option (A × List T)) (whole : List A × List T) (xs : List A) (ts : List T) → whole ≡ behind xs (all_at p ts) → p ts ≡ None → whole ≡ (xs, ts)
all_end p whole xs ts inv e = inv ∙ ap (behind xs) (all_at-none p ts e) ∙ ap (λ (l : List _). (l, ts)) (append_none xs)

pub all_stuck : {A T : Type 0} (p : List T → Option (A × List T)) (whole : List A × List T) (xs : List A) (ts : List T) (x : A) (rest : List T) → whole ≡ behind xs (all_at p ts) → p ts ≡ Some (x, rest) → length ts ≤ length rest → whole ≡ (xs, ts)
all_stuck p whole xs ts x rest inv e more = inv ∙ ap (behind xs) (all_at-stuck p ts x rest e more) ∙ ap (λ (l : List _). (l, ts)) (append_none xs)
