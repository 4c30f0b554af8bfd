-- Bits of words.
use Rattle.std.proofs.Common.{◌≡◌, ℕ, ◌+◌, ◌%◌, ◌<◌, ◌⊎◌, ap, ◌∙◌, ⊎_elim, inl, inr, arith}
use Rattle.std.specs.Prelude.{bit_and, bit_or, bit_xor}
use Rattle.std.specs.Int.{bit_at}
use Rattle.std.proofs.lemmas.Bool.{cases_eq, cases_lt}
use Rattle.std.proofs.lemmas.Nat.Bits.{bit_at_and, bit_at_or, bit_at_ones, bit_at_xor, bit_at-lt, bit_at-zero}
use Rattle.flow_bits.specs.Bits.{HasBit}
use Rattle.flow_reach.specs.Rows.{all_bits, without}

pub no_bit : (c : ℕ) → HasBit 0 c → ⊥
no_bit c has = let none = bit_at-zero c in absurd (omega arith)

pub left_bit : (a b c : ℕ) → HasBit a c → HasBit (bit_or a b) c
left_bit a b c h = let at = bit_at_or a b c in let lb = bit_at-lt b c in omega (arith, at, h, lb)

pub right_bit : (a b c : ℕ) → HasBit b c → HasBit (bit_or a b) c
right_bit a b c h = let at = bit_at_or a b c in let la = bit_at-lt a c in omega (arith, at, h, la)

pub one_bit : (a b c : ℕ) → HasBit (bit_or a b) c → HasBit a c ⊎ HasBit b c
one_bit a b c h =
    let at = bit_at_or a b c in
    let la = bit_at-lt a c in
    let lb = bit_at-lt b c in
    ⊎_elim (λ less. inr (omega (arith, at, la, lb, h, less))) (λ more. inl (omega (arith, at, la, lb, h, more))) (cases_lt (bit_at a c) (bit_at b c))

pub both_bits : (a b c : ℕ) → HasBit (bit_and a b) c → HasBit a c × HasBit b c
both_bits a b c h =
    let at = bit_at_and a b c in
    let la = bit_at-lt a c in
    let lb = bit_at-lt b c in
    (omega (arith, at, la, lb, h), omega (arith, at, la, lb, h))

pub common_bit : (a b c : ℕ) → HasBit a c → HasBit b c → HasBit (bit_and a b) c
common_bit a b c ha hb = let at = bit_at_and a b c in omega (arith, at, ha, hb)

flipped : (w c : ℕ) → c < 64 → bit_at (bit_xor w all_bits) c ≡ (bit_at w c + 1) % 2
flipped w c lt = bit_at_xor w all_bits c ∙ ap (λ (x : ℕ). (bit_at w c + x) % 2) (bit_at_ones 64 c lt)

pub flipped_on : (w c : ℕ) → c < 64 → (HasBit w c → ⊥) → HasBit (bit_xor w all_bits) c
flipped_on w c lt never =
    let at = flipped w c lt in
    let small = bit_at-lt w c in
    ⊎_elim (λ one. absurd (never one)) (λ other. let is_zero : bit_at w c ≡ 0 = omega (arith, small, other) in at ∙ ap (λ (x : ℕ). (x + 1) % 2) is_zero) (cases_eq (bit_at w c) 1)

pub flipped_off : (w c : ℕ) → c < 64 → HasBit (bit_xor w all_bits) c → HasBit w c → ⊥
flipped_off w c lt h has =
    let at : bit_at (bit_xor w all_bits) c ≡ 0 = flipped w c lt ∙ ap (λ (x : ℕ). (x + 1) % 2) has in
    absurd (omega (arith, at, h))

pub in_without : (a b c : ℕ) → c < 64 → HasBit (without a b) c → HasBit a c × (HasBit b c → ⊥)
in_without a b c lt h = let two = both_bits a (bit_xor b all_bits) c h in (two.0, flipped_off b c lt two.1)

pub still_without : (a b c : ℕ) → c < 64 → HasBit a c → (HasBit b c → ⊥) → HasBit (without a b) c
still_without a b c lt ha nb = common_bit a (bit_xor b all_bits) c ha (flipped_on b c lt nb)

pub bit_or_not : (w c : ℕ) → HasBit w c ⊎ (HasBit w c → ⊥)
bit_or_not w c = cases_eq (bit_at w c) 1

pub all_bit : (c : ℕ) → c < 64 → HasBit all_bits c
all_bit c lt = bit_at_ones 64 c lt
