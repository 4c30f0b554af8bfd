-- Sums of what numbers weigh that pass a test.
use Rattle.std.proofs.Common.{◌≡◌, ℕ, zero, suc, ◌+◌, ◌<◌, ◌≤◌, Bool, true, false, cond, sym, ap, ◌∙◌, ⊎_elim, arith, refl}
use Rattle.std.proofs.lemmas.Bool.{cases_Bool, cases_lt}

pub weigh : (ℕ → Bool) → (ℕ → ℕ) → ℕ → ℕ
weigh p w zero = 0
weigh p w (suc n) = cond (p n) (w n) 0 + weigh p w n

pub weigh_step : (p : ℕ → Bool) (w : ℕ → ℕ) (n : ℕ) (b : Bool) → p n ≡ b → weigh p w (suc n) ≡ cond b (w n) 0 + weigh p w n
unfolding weigh
weigh_step p w n b e = ap (λ (c : Bool). cond c (w n) 0 + weigh p w n) e

pub weigh_none : (p : ℕ → Bool) (w : ℕ → ℕ) → weigh p w 0 ≡ 0
unfolding weigh
weigh_none p w = refl

pub weigh_le : (p q : ℕ → Bool) (w : ℕ → ℕ) (n : ℕ) → ((x : ℕ) → p x ≡ true → q x ≡ true) → weigh p w n ≤ weigh q w n
weigh_le p q w zero h = let e = weigh_none p w in omega (arith, e)
weigh_le p q w (suc n) h =
    let below = weigh_le p q w n h in
    ⊎_elim
    (λ e. let s = weigh_step p w n true e in let t = weigh_step q w n true (h n e) in omega (arith, s, t, below))
    (λ e. let s = weigh_step p w n false e in ⊎_elim (λ f. let t = weigh_step q w n true f in omega (arith, s, t, below)) (λ f. let t = weigh_step q w n false f in omega (arith, s, t, below)) (cases_Bool (q n)))
    (cases_Bool (p n))

-- what passes the second test alone is weighed besides
pub weigh_with : (p q : ℕ → Bool) (w : ℕ → ℕ) (n i : ℕ) → ((x : ℕ) → p x ≡ true → q x ≡ true) → i < n → p i ≡ false → q i ≡ true → weigh p w n + w i ≤ weigh q w n
weigh_with p q w zero i h lt e f = absurd (omega arith)
weigh_with p q w (suc n) i h lt e f = ⊎_elim
    (λ (less : i < n).
    let below = weigh_with p q w n i h less e f in
    ⊎_elim
    (λ a. let s = weigh_step p w n true a in let t = weigh_step q w n true (h n a) in omega (arith, s, t, below))
    (λ a. let s = weigh_step p w n false a in ⊎_elim (λ b. let t = weigh_step q w n true b in omega (arith, s, t, below)) (λ b. let t = weigh_step q w n false b in omega (arith, s, t, below)) (cases_Bool (q n)))
    (cases_Bool (p n)))
    (λ (ge : n ≤ i).
    let same : i ≡ n = omega (arith, lt, ge) in
    let weight : w i ≡ w n = ap w same in
    let s = weigh_step p w n false (ap p (sym same) ∙ e) in
    let t = weigh_step q w n true (ap q (sym same) ∙ f) in
    let below = weigh_le p q w n h in
    omega (arith, s, t, below, weight))
    (cases_lt i n)

-- ---- all numbers

abbrev pub any : ℕ → Bool
any k = true

pub weigh_shift : (w : ℕ → ℕ) (n : ℕ) → weigh any w (suc n) ≡ w 0 + weigh any (λ k. w (suc k)) n
weigh_shift w zero = let e = weigh_step any w 0 true refl in let a = weigh_none any w in let b = weigh_none any (λ k. w (suc k)) in omega (arith, e, a, b)
weigh_shift w (suc n) =
    let e = weigh_step any w (suc n) true refl in
    let f = weigh_step any (λ k. w (suc k)) n true refl in
    let below = weigh_shift w n in
    omega (arith, e, f, below)

pub weigh_same : (w v : ℕ → ℕ) (n : ℕ) → ((k : ℕ) → w k ≡ v k) → weigh any w n ≡ weigh any v n
weigh_same w v zero h = let a = weigh_none any w in let b = weigh_none any v in omega (arith, a, b)
weigh_same w v (suc n) h =
    let e = weigh_step any w n true refl in
    let f = weigh_step any v n true refl in
    let here = h n in
    let below = weigh_same w v n h in
    omega (arith, e, f, here, below)
