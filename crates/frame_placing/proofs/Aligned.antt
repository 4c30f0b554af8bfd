-- The next multiple of an alignment.
use Rattle.std.proofs.Common.{◌≡◌, ℕ, ◌+◌, ◌*◌, ◌/◌, ◌%◌, ◌<◌, ◌≤◌, ◌⊎◌, ap, ◌∙◌, ⊎_elim, arith}
use Rattle.std.proofs.lemmas.Bool.{cases_lt}
use Rattle.std.proofs.Math.Nat.{mul-mod_right, mul-le-mul_left}

-- how far an offset is from the next multiple
abbrev pub IsRest : ℕ → ℕ → ℕ → Type 0
IsRest from align more = ((from % align ≡ 0) × (more ≡ 0)) ⊎ ((0 < from % align) × (more + from % align ≡ align))

parts : (n a : ℕ) → 0 < a → a * (n / a) + n % a ≡ n
parts n a pos = omega arith

pub rest_aligned : (from align more : ℕ) → 0 < align → IsRest from align more → (from + more) % align ≡ 0
rest_aligned from align more pos h = ⊎_elim none some h
  where
    none : (from % align ≡ 0) × (more ≡ 0) → (from + more) % align ≡ 0
    none p = let same : from + more ≡ from = omega (arith, p.1) in ap (λ (n : ℕ). n % align) same ∙ p.0

    some : (0 < from % align) × (more + from % align ≡ align) → (from + more) % align ≡ 0
    some p =
        let whole = parts from align pos in
        let same : from + more ≡ align * (from / align + 1) = omega (arith, whole, p.1) in
        ap (λ (n : ℕ). n % align) same ∙ mul-mod_right align (from / align + 1)

pub rest_least : (from align more y : ℕ) → 0 < align → IsRest from align more → from ≤ y → y % align ≡ 0 → from + more ≤ y
rest_least from align more y pos h le at = ⊎_elim none some h
  where
    none : (from % align ≡ 0) × (more ≡ 0) → from + more ≤ y
    none p = omega (arith, p.1, le)

    some : (0 < from % align) × (more + from % align ≡ align) → from + more ≤ y
    some p =
        let whole = parts from align pos in
        let other = parts y align pos in
        ⊎_elim
        (λ (lt : from / align < y / align). let up = (let more : from / align + 1 ≤ y / align = omega (arith, lt) in mul-le-mul_left align more) in omega (arith, whole, other, up, at, p.1))
        (λ (ge : y / align ≤ from / align). let down = mul-le-mul_left align ge in absurd (omega (arith, whole, other, down, at, p.0, le)))
        (cases_lt (from / align) (y / align))
